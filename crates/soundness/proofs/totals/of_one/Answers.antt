-- `of_one`: each turn adds the precincts of one component in the range; in all layers they are the total. Assumes nothing.
use Rattle.std.specs.Prelude.{◌≡◌, ℕ, ◌+◌, ◌*◌, ◌≤◌}
use Rattle.std.proofs.Common.{sym, ◌∙◌, arith}
use Rattle.packets.specs.Tile.{res_of}
use Rattle.packets.specs.Table.{sheet_at}
use Rattle.packets.specs.Totals.{total}
use Rattle.soundness.specs.Totals.{precincts_from}
use Rattle.soundness.proofs.Counting.{entries_none, entries_more, total-small}
use Rattle.soundness.proofs.OneRange.{within_none, within-passed, within_added, entries-few, from_small, from_most, total-one}
use Rattle.soundness.proofs.totals.of_one.Goals as goal
use Rattle.soundness.proofs.totals.of_one.Goals.{then-g-c, else-g-c}
use Rattle.soundness.proofs.totals.of_one.Goals.{After-layers_of, In-loop-c}

-- there are few entries up to those of each component
module _ (c : In-loop-c) where
  small : c.loop-c.e + res_of c.args.st c.loop-c.c ≤ 528
  small = entries-few c.args.st c.args.table.now c.requires.0 c.loop-c.c c.loop-c-test.true c.loop-c.invariant.first

  -- and few precincts are counted by these
  most : {b n : ℕ} → b ≤ res_of c.args.st c.loop-c.c
      → n ≡ precincts_from c.args.table.now (c.loop-c.e + c.of-g.result.resno0) (c.loop-c.e + b)
      → n ≤ 65536 * res_of c.args.st c.loop-c.c
  most end is =
      from_most c.args.st c.args.table.now c.requires.0 c.loop-c.c c.loop-c-test.true c.loop-c.invariant.first c.of-g.result.resno0 end is

-- in all layers the precincts are the total
counted : (c : After-layers_of)
    → let a = c.args in
    c.loop-c.sum * c.layers_of.result ≡ total (sheet_at a.st a.table.now)
counted c =
    total-one c.args.st c.args.table.now c.requires.1 c.of-g.ensures (omega arith) c.loop-c.invariant.counted c.layers_of.ensures

pub loop-c-init : goal.loop-c-init
loop-c-init c =
    let a = c.args in
    record {
      first = sym (entries_none a.st);
      counted = sym (within_none (sheet_at a.st a.table.now) c.of-g.result);
      few = omega arith;
    }

pub overflow_add-e : goal.overflow_add-e
overflow_add-e c = omega (arith, small (goal.at.overflow_add-e c).In-loop-c)

pub overflow_add-e-then-g-c : goal.overflow_add-e-then-g-c
overflow_add-e-then-g-c c = omega (arith, small (goal.at.overflow_add-e-then-g-c c).In-loop-c)

pub precincts_from-sum-requires : goal.precincts_from-sum-requires
precincts_from-sum-requires c =
    from_small c.args.st c.args.table.now c.requires.0 c.loop-c.c c.loop-c-test.true c.loop-c.invariant.first c.of-g.result.resno0 (omega (arith, c.min.ensures))

pub overflow_add-sum : goal.overflow_add-sum
overflow_add-sum c =
    let l = (goal.at.overflow_add-sum c).In-loop-c in
    omega (arith, c.loop-c.invariant.few, small l, most l (omega (arith, c.min.ensures)) c.precincts_from-sum.ensures)

pub overflow_add-e-in-loop-c : goal.overflow_add-e-in-loop-c
overflow_add-e-in-loop-c c = omega (arith, small (goal.at.overflow_add-e-in-loop-c c).In-loop-c)

pub loop-c-preserved : goal.loop-c-preserved
loop-c-preserved c =
    let a = c.args in
    let g = c.of-g.result in
    let i = c.loop-c.invariant in
    record {
      first = omega (arith, i.first, entries_more a.st c.loop-c.c);
      counted =
          elim c.if-g-c.branch [
            | then-g-c w ↦
                rw w.sum-is
                (within_added a.st a.table.now c.requires.0 c.loop-c.c c.loop-c-test.true i.first g w.if-g-c.true w.min.ensures i.counted w.precincts_from-sum.ensures)
            | else-g-c w ↦ rw w.sum-is (i.counted ∙ within-passed (sheet_at a.st a.table.now) g c.loop-c.c w.if-g-c.false)
          ];
      few =
          elim c.if-g-c.branch [
            | then-g-c w ↦
                rw w.sum-is (omega (arith, i.few, most (goal.at.loop-c-preserved c).In-loop-c (omega (arith, w.min.ensures)) w.precincts_from-sum.ensures))
            | else-g-c w ↦ rw w.sum-is (omega (arith, i.few))
          ];
    }

pub overflow_mul-result : goal.overflow_mul-result
overflow_mul-result c = omega (arith, counted c, total-small c.args.st c.args.table.now c.requires.0)

pub returns : goal.returns
returns c = counted c
