-- `entries`: after each turn the sum is that of the components passed. Assumes nothing.
use Rattle.std.proofs.Common.{ℕ, ◌≡◌, ◌+◌, ◌<◌, min, take, get_or, sym, ap, arith, length-take-le, get_or-take}
use Rattle.laws.specs.Below.{sum_none, sum_more}
use Rattle.types.specs.State.{no_component}
use Rattle.types.proofs.table.entries.Goals as goal

pub loop-comp-init : goal.loop-comp-init
loop-comp-init c = record { few = omega arith; sum = sym (sum_none _) }

pub loop-comp-preserved : goal.loop-comp-preserved
loop-comp-preserved c =
    let all = c.args.comps.now in
    let l = c.loop-comp in
    let long = length-take-le c.min.result all (omega (arith, c.told-comps, c.min.ensures)) in
    let h : l.comp-index < c.min.result = omega (arith, long, c.loop-comp-test.true) in
    let e : get_or (take c.min.result all) l.comp-index no_component ≡ get_or all l.comp-index no_component = get_or-take c.min.result all l.comp-index no_component h in
    record { few = omega (arith, c.wide-sum.ensures.1); sum = rw (c.wide-sum.ensures.0, e, sum_more (λ i. (get_or all i no_component).resolutions) l.comp-index) (ap (λ (k : ℕ). k + (get_or all l.comp-index no_component).resolutions) l.invariant.sum) }

pub returns : goal.returns
returns c =
    let long = length-take-le c.min.result c.args.comps.now (omega (arith, c.told-comps, c.min.ensures)) in
    let e : min c.args.n 16 ≡ c.loop-comp.comp-index = omega (arith, long, c.min.ensures, c.loop-comp.auto.comp-index-end, c.loop-comp-test.false) in
    rw e c.loop-comp.invariant.sum
