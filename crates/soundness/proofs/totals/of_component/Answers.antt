-- `of_component`: each turn adds the packets of one resolution, of which there are few. Assumes nothing.
use Rattle.std.specs.Prelude.{◌≡◌, ◌+◌, ◌*◌, ◌≤◌, get_or}
use Rattle.std.proofs.Common.{sym, ap, arith}
use Rattle.types.specs.declared.table.Entry.{Entry}
use Rattle.soundness.specs.Totals.{layers_over, precincts_at, packets_of}
use Rattle.soundness.proofs.Counting.{packets_none, packets_more, packets-few}
use Rattle.soundness.proofs.totals.of_component.Goals as goal
use Rattle.soundness.proofs.totals.of_component.Goals.{After-at-entry, In-loop-r}

-- the entry counts the precincts, and they are in as many layers as some range has
module _ (c : After-at-entry) where
  precincts-are : c.at-entry.result.width * c.at-entry.result.height ≡ precincts_at c.args.table.now (c.args.e + c.loop-r.r)
  precincts-are = ap (λ (x : Entry). x.width * x.height) c.at-entry.ensures

  packets-are : c.at-entry.result.width * c.at-entry.result.height * get_or c.layers_over-layers.result c.loop-r.r 0
      ≡ precincts_at c.args.table.now (c.args.e + c.loop-r.r) * layers_over c.args.ranges.now c.args.c c.loop-r.r
  packets-are = rw (precincts-are, c.layers_over-layers.ensures c.loop-r.r c.loop-r-test.true)

few : (c : In-loop-r)
    → let a = c.args in
    let r = c.loop-r.r in
    packets_of a.ranges.now a.table.now a.e a.c r + precincts_at a.table.now (a.e + r) * layers_over a.ranges.now a.c r ≤ 65536
few c = let a = c.args in packets-few a.ranges.now a.table.now a.e a.c c.requires c.loop-r.r c.loop-r-test.true

pub layers_over-layers-requires : goal.layers_over-layers-requires
layers_over-layers-requires c = c.requires.resolutions

pub loop-r-init : goal.loop-r-init
loop-r-init c = let a = c.args in sym (packets_none a.ranges.now a.table.now a.e a.c)

pub overflow_mul-sum : goal.overflow_mul-sum
overflow_mul-sum c = omega (arith, precincts-are (goal.at.overflow_mul-sum c).After-at-entry, c.requires.precincts c.loop-r.r c.loop-r-test.true)

pub overflow_mul-sum-in-loop-r : goal.overflow_mul-sum-in-loop-r
overflow_mul-sum-in-loop-r c =
    omega (arith, packets-are (goal.at.overflow_mul-sum-in-loop-r c).After-at-entry, few (goal.at.overflow_mul-sum-in-loop-r c).In-loop-r)

pub overflow_add-sum : goal.overflow_add-sum
overflow_add-sum c =
    omega (arith, packets-are (goal.at.overflow_add-sum c).After-at-entry, few (goal.at.overflow_add-sum c).In-loop-r, c.loop-r.invariant)

pub loop-r-preserved : goal.loop-r-preserved
loop-r-preserved c =
    let a = c.args in
    omega (arith, packets-are (goal.at.loop-r-preserved c).After-at-entry, c.loop-r.invariant, packets_more a.ranges.now a.table.now a.e a.c c.loop-r.r)

pub returns : goal.returns
returns c =
    let end : c.loop-r.r ≡ c.args.m = omega arith in
    rw end at c.loop-r.invariant
