-- The lists of packets that a host's calls give, progression after progression.
use mathlib.Core.List.{List, map}
use Rattle.packets.specs.Host.{Turn, Hosted}
use Rattle.types.specs.declared.cursor.Position.{Position}

-- the packets of each progression
abbrev pub lists_of : Hosted → List (List Position)
lists_of h = map (λ (t : Turn). t.packets) h.turns
