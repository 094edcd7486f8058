-- `write`: after i turns the words of the first i entries are laid over the table. Assumes nothing.
use lib.ListN.{take}
use Prim.Native.Nat.{◌*◌}
use Rattle.words.specs.Words.{words_bytes, over}
use mathlib.Core.Path.{◌≡◌}
use Rattle.calls.proofs.table.write.Given as goal

abbrev pub invariant-loop-i : goal.invariant-loop-i
invariant-loop-i l = l.table ≡ over (words_bytes (take (4 * l.i) l.words)) l.initial.table
