-- `put_packets`: line after line, then the count. Assumes nothing.
use Rattle.std.proofs.Common.{arith, ◌∙◌}
use Rattle.listing.specs.Lines.{lines_none, put-lines}
use Rattle.listing.proofs.text.put_packets.Goals as goal

pub loop-i-init : goal.loop-i-init
loop-i-init c = record { near = rw c.requires.empty (omega arith); lines = c.requires.empty ∙ lines_none _ }

pub loop-i-preserved : goal.loop-i-preserved
loop-i-preserved c = record { near = omega (arith, c.put_packet.ensures.near, c.loop-i.invariant.near); lines = put-lines _ _ c.loop-i.invariant.lines c.put_packet.ensures.puts }
