-- What the calls of a progression answer, and what some calls list and leave.
use Rattle.std.specs.Prelude.{◌≡◌, pos}
use Rattle.laws.specs.AllRuns.{Listing}
use Rattle.packets.specs.Host.{Turn, Hosted, answered}
use Rattle.types.specs.declared.cursor.Position.{Position}
use Rattle.packets.specs.Turns.{ones_then_zero}

-- a turn whose opening answered 0, whose steps answered 1 for each packet, and whose last step answered 0
pub record Answered (t : Turn) : Type 0 where
  pub opening : t.opening ≡ pos 0
  pub steps : t.steps ≡ ones_then_zero t.packets

-- what some calls list and leave
abbrev pub listing_of : Hosted → Listing Position
listing_of h = record { packets = answered h; marks = h.marks }
