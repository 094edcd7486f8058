-- `clear_for`: after i turns a viewer's bit is 0 in the first i marks. Assumes nothing.
use Rattle.laws.specs.Marks.{cleared_to}
use mathlib.Core.Path.{◌≡◌}
use Rattle.calls.proofs.marks.clear_for.Given as goal

abbrev pub invariant-loop-i : goal.invariant-loop-i
invariant-loop-i l = l.marks ≡ cleared_to l.viewer l.i l.initial.marks
