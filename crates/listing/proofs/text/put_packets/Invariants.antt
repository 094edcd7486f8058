-- `put_packets`: the text holds the lines of the records passed, each of at most 44 bytes. Assumes nothing.
use Rattle.std.proofs.Common.{◌≡◌, ◌*◌, ◌≤◌}
use Rattle.arrayvec.specs.ArrayString.{array_string_len}
use Rattle.listing.specs.Lines.{lines_at}
use Rattle.listing.proofs.text.put_packets.Given as goal

abbrev pub invariant-loop-i : goal.invariant-loop-i
invariant-loop-i l = record { near : array_string_len l.text ≤ 44 * l.i; lines : l.text.bytes ≡ lines_at l.output 0 l.i }
