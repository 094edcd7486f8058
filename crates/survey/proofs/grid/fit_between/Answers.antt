-- `fit_between`: the components passed have steps that fit; one that has not ends the loop. Assumes nothing.
use Rattle.std.specs.Prelude.{◌≡◌, ◌+◌, ◌-◌, get_or}
use Rattle.std.proofs.Common.{sym, arith}
use Rattle.laws.specs.Below.{all_fails}
use Rattle.laws.specs.Pointwise.{all_true}
use Rattle.survey.specs.Passing.{no_sums, fit_between}
use Rattle.survey.proofs.grid.fit_between.Goals as goal

pub returns-then-not-parts-c : goal.returns-then-not-parts-c
unfolding fit_between
returns-then-not-parts-c c =
    let a = c.args in
    let l = c.loop-c in
    let e : a.c0 + (l.c - a.c0) ≡ l.c = omega arith in
    sym (all_fails (λ i. (get_or a.parts.now (a.c0 + i) no_sums).fit) (a.c1 - a.c0) (l.c - a.c0) (omega arith) (rw e c.if-not-parts-c.true))

pub returns : goal.returns
unfolding fit_between
returns c =
    let a = c.args in
    sym (all_true _ (a.c1 - a.c0) (λ i h. c.loop-c.invariant (a.c0 + i) (omega arith) (omega arith)))
