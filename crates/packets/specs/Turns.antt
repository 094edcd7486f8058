-- What the steps of a progression answer: 1 for each packet, and 0 at its end.
use Rattle.std.specs.Prelude.{replicate, ℤ}
use mathlib.Core.List.{List, [], ◌∷◌, ◌++◌}
use Rattle.std.proofs.Math.ListN.{length}
use Rattle.std.proofs.Math.IntN.{pos}
use Rattle.types.specs.declared.cursor.Position.{Position}

-- 1 for each packet found, and then 0
abbrev pub ones_then_zero : List Position → List ℤ
ones_then_zero l = replicate (length l) (pos 1) ++ (pos 0 ∷ [])
