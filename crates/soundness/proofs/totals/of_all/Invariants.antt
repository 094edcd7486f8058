-- `of_all`: the packets of the components passed are summed up. Assumes nothing.
use Rattle.std.specs.Prelude.{◌≡◌}
use Rattle.packets.specs.Tile.{entries_before}
use Rattle.packets.specs.Table.{sheet_at}
use Rattle.soundness.proofs.Counting.{admitted_below}
use Rattle.soundness.proofs.totals.of_all.Given as goal

abbrev pub invariant-loop-c : goal.invariant-loop-c
invariant-loop-c l = record { first : l.e ≡ entries_before l.fn.st l.c; counted : l.sum ≡ admitted_below (sheet_at l.fn.st l.table) l.c }
