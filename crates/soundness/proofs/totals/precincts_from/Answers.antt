-- `precincts_from`: each turn adds the precincts of one entry, of which there are few. Assumes nothing.
use Rattle.std.specs.Prelude.{◌≡◌, ◌*◌, ◌≤◌}
use Rattle.std.proofs.Common.{sym, ap, ◌∙◌, arith}
use Rattle.types.specs.declared.table.Entry.{Entry}
use Rattle.soundness.specs.Totals.{precincts_at}
use Rattle.soundness.proofs.OneRange.{from_none, from_more, from_few, from_all}
use Rattle.soundness.proofs.totals.precincts_from.Goals as goal
use Rattle.soundness.proofs.totals.precincts_from.Goals.{After-at-entry}

-- the entry counts its precincts, which are few, and so are those before
module _ (c : After-at-entry) where
  precincts-are : c.at-entry.result.width * c.at-entry.result.height ≡ precincts_at c.args.table.now c.loop-i.i
  precincts-are = ap (λ (x : Entry). x.width * x.height) c.at-entry.ensures

  few : precincts_at c.args.table.now c.loop-i.i ≤ 65536
  few = c.requires.precincts c.loop-i.i (omega arith) c.loop-i-test.true

  sum-few : c.loop-i.sum ≤ 65536 * 528
  sum-few = let a = c.args in omega (arith, c.loop-i.invariant.counted, c.requires.entries, from_few a.table.now a.a c.requires c.loop-i.i (omega arith))

pub loop-i-init : goal.loop-i-init
loop-i-init c = record { near = omega arith; counted = sym (from_none c.args.table.now c.args.a) }

pub overflow_mul-sum : goal.overflow_mul-sum
overflow_mul-sum c = let e = (goal.at.overflow_mul-sum c).After-at-entry in omega (arith, precincts-are e, few e)

pub overflow_add-sum : goal.overflow_add-sum
overflow_add-sum c = let e = (goal.at.overflow_add-sum c).After-at-entry in omega (arith, precincts-are e, few e, sum-few e)

pub loop-i-preserved : goal.loop-i-preserved
loop-i-preserved c =
    let a = c.args in
    record {
      near = omega arith;
      counted =
          omega (arith, precincts-are (goal.at.loop-i-preserved c).After-at-entry, c.loop-i.invariant.counted, from_more a.table.now a.a c.loop-i.i (omega arith));
    }

pub returns : goal.returns
returns c = let a = c.args in c.loop-i.invariant.counted ∙ from_all a.table.now a.a c.loop-i.invariant.near (omega arith)
