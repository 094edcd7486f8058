-- `judge`: what is left to read from the record at hand on decides, by what is due there. Assumes nothing.
use Rattle.std.proofs.Common.{◌≡◌, ◌+◌, ◌-◌, ◌/◌, length}
use Rattle.packets.specs.Sheet.{read_from, read_verdict}
use Rattle.reader.specs.Due.{due_of}
use Rattle.reader.proofs.judge.judge.Given as goal

abbrev pub invariant-loop-bytes : goal.invariant-loop-bytes
invariant-loop-bytes l =
    read_from l.sheet l.progressions (length l.sheet / 32 - (l.bytes-index + 1)) (l.bytes-index + 1) (due_of l.due) ≡ read_verdict l.sheet
