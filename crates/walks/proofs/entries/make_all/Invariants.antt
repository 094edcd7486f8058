-- `make_all`: so far what is made of the entries passed is right, and nothing else was written; the entries of the next component stand from number base on.
-- Assumes nothing.
use Rattle.std.proofs.Common.{◌≡◌}
use Rattle.packets.specs.Tile.{level_of, entries_before}
use Rattle.walks.specs.Made.{Before, Seen, MadeOf, entry_in}
use Rattle.walks.proofs.entries.make_all.Given as goal

abbrev pub invariant-loop-r : goal.invariant-loop-r
invariant-loop-r g l =
    let m = g.M.Making in
    MadeOf (Seen l.st l.c l.r) (λ c r. m.made (m.of l.st c) (level_of l.st c r) (entry_in l.st l.table c r)) l.fn.all l.all

abbrev pub invariant-loop-c : goal.invariant-loop-c
invariant-loop-c g l =
    let m = g.M.Making in
    (l.base ≡ entries_before l.st l.c)
    × MadeOf (Before l.st l.c) (λ c r. m.made (m.of l.st c) (level_of l.st c r) (entry_in l.st l.table c r)) l.fn.all l.all
