-- `of_one`: the precincts in the range are summed up, at most 65536 for each entry passed. Assumes nothing.
use Rattle.std.specs.Prelude.{◌≡◌, ◌*◌, ◌≤◌}
use Rattle.packets.specs.Tile.{entries_before}
use Rattle.packets.specs.Table.{sheet_at}
use Rattle.soundness.proofs.OneRange.{within_below}
use Rattle.soundness.proofs.totals.of_one.Given as goal

abbrev pub invariant-loop-c : goal.invariant-loop-c
invariant-loop-c l =
    record {
      first : l.e ≡ entries_before l.st l.c;
      counted : l.sum ≡ within_below (sheet_at l.st l.table) l.g l.c;
      few : l.sum ≤ 65536 * l.e;
    }
