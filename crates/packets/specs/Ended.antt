-- A range whose resolutions end at the largest number of resolutions.
use Rattle.std.specs.Prelude.{ℕ, min}
use Rattle.types.specs.declared.order.Range.{Range}

-- the range with its resolutions up to e at most
abbrev pub ended_at : ℕ → Range → Range
ended_at e g = record { layno1 = g.layno1; resno0 = g.resno0; resno1 = min g.resno1 e; compno0 = g.compno0; compno1 = g.compno1 }
