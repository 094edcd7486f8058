-- `of_all`: each turn adds the packets of one component. Assumes nothing.
use Rattle.std.specs.Prelude.{◌≡◌, ◌+◌, ◌≤◌, length, take}
use Rattle.std.proofs.Common.{sym, ◌∙◌, arith}
use Rattle.std.proofs.lemmas.List.{length-take-le}
use Rattle.packets.specs.Tile.{res_of}
use Rattle.packets.specs.Table.{sheet_at}
use Rattle.soundness.specs.Totals.{Few}
use Rattle.soundness.proofs.Counting.{admitted_below, admitted_none, admitted-all, entries_none, entries_more, ranged_first, packets-small, sum_added}
use Rattle.soundness.proofs.totals.of_all.Goals as goal
use Rattle.soundness.proofs.totals.of_all.Goals.{After-of_component-sum, In-loop-c}

-- there are few packets in each component
small : (c : In-loop-c)
    → let a = c.args in Few (take a.st.progressions c.ranges_of-places.result) a.table.now c.loop-c.e c.loop-c.c (res_of a.st c.loop-c.c)
small c =
    let a = c.args in
    let kept = c.ranges_of-places.result in
    let long : length (take a.st.progressions kept) ≡ a.st.progressions
    = length-take-le a.st.progressions kept (omega (arith, c.requires.sound.tile.progressions.1, c.ranges_of-places.type_inv)) in
    packets-small a.st a.table.now c.requires _ long (ranged_first a.st kept a.st.progressions c.ranges_of-places.ensures) c.loop-c.c c.loop-c-test.true
    c.loop-c.invariant.first

-- with the component's packets the sum is that of the components up to it, and small
added : (c : After-of_component-sum)
    → let a = c.args in
    let sum = c.loop-c.sum + c.of_component-sum.result in
    (sum ≡ admitted_below (sheet_at a.st a.table.now) (c.loop-c.c + 1)) × (sum ≤ 65536)
added c =
    let a = c.args in
    let kept = c.ranges_of-places.result in
    let long : length (take a.st.progressions kept) ≡ a.st.progressions
    = length-take-le a.st.progressions kept (omega (arith, c.requires.sound.tile.progressions.1, c.ranges_of-places.type_inv)) in
    sum_added a.st a.table.now c.requires _ long (ranged_first a.st kept a.st.progressions c.ranges_of-places.ensures) c.loop-c.c c.loop-c-test.true
    c.loop-c.invariant.first c.loop-c.invariant.counted c.of_component-sum.ensures

pub ranges_of-places-requires : goal.ranges_of-places-requires
ranges_of-places-requires c = c.requires.sound.tile.progressions.1

pub loop-c-init : goal.loop-c-init
loop-c-init c =
    let a = c.args in
    record { first = sym (entries_none a.st); counted = sym (admitted_none (sheet_at a.st a.table.now)) }

pub of_component-sum-requires : goal.of_component-sum-requires
of_component-sum-requires c = small (goal.at.of_component-sum-requires c).In-loop-c

pub overflow_add-sum : goal.overflow_add-sum
overflow_add-sum c = omega (arith, (added c).1)

pub overflow_add-e : goal.overflow_add-e
overflow_add-e c = let few = small (goal.at.overflow_add-e c).In-loop-c in omega (arith, few.resolutions, few.entry)

pub loop-c-preserved : goal.loop-c-preserved
loop-c-preserved c =
    record { first = omega (arith, c.loop-c.invariant.first, entries_more c.args.st c.loop-c.c); counted = (added (goal.at.loop-c-preserved c).After-of_component-sum).0 }

pub returns : goal.returns
returns c =
    let a = c.args in
    let end : c.loop-c.c ≡ a.st.components = omega arith in
    rw end at c.loop-c.invariant.counted ∙ admitted-all (sheet_at a.st a.table.now)
