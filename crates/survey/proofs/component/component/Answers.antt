-- `component`: the fields are tested first; the places of 33 resolutions stay small. Assumes nothing.
use Rattle.std.specs.Prelude.{◌≡◌, ◌*◌, ◌≤◌, true}
use Rattle.std.proofs.Common.{sym, ◌∙◌, arith}
use native.Mathlib.Nat.{mul-le-mul}
use Rattle.types.specs.Ranges.{component_range}
use Rattle.survey.specs.Ranges.{in_range_lem}
use Rattle.survey.specs.Passing.{component_sums}
use Rattle.survey.proofs.component.component.Goals as goal
use Rattle.survey.proofs.component.component.Goals.{Else-not-in_range}

ranged : (c : Else-not-in_range) → component_range c.args.comp.dx c.args.comp.dy c.args.comp.resolutions ≡ true
ranged c = sym c.in_range.ensures ∙ c.if-not-in_range.false

pub resolutions-requires : goal.resolutions-requires
resolutions-requires c =
    let a = c.args in
    let g = in_range_lem a.comp.dx a.comp.dy a.comp.resolutions (ranged (goal.at.resolutions-requires c).Else-not-in_range) in
    let small : a.places.apart * a.comp.resolutions ≤ 32 * 33 = mul-le-mul c.requires.1 g.n_high in
    (omega arith, g.n_high, rw c.of-axes.ensures g.dx_low, rw c.of-axes.ensures g.dy_low, c.requires.2)

pub returns-then-not-in_range-clause-sums : goal.returns-then-not-in_range-clause-sums
unfolding component_sums
returns-then-not-in_range-clause-sums c = rw (sym c.in_range.ensures ∙ c.if-not-in_range.true)

pub returns-clause-sums : goal.returns-clause-sums
unfolding component_sums
returns-clause-sums c = rw (ranged (goal.at.returns-clause-sums c).Else-not-in_range, ← c.of-axes.ensures) c.resolutions.ensures.sums

pub returns-clause-keeps : goal.returns-clause-keeps
returns-clause-keeps c = rw (← c.of-axes.ensures) c.resolutions.ensures.keeps
