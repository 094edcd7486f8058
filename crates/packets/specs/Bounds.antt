-- Tile bounds as the C host asks for them (01, 'Tile bounds').
use Rattle.std.specs.Prelude.{cond, List, ℕ, length, leb, ℤ, pos, negsuc}
use Rattle.geometry.specs.Said.{Said}
use Rattle.geometry.specs.Tile.{tile_bounds_of}
use Rattle.geometry.specs.declared.tile.Area.{Area}
use Rattle.geometry.specs.declared.tile.Grid.{Grid}
use Rattle.words.specs.Words.{words_bytes, over}
use Rattle.packets.specs.Calls.{refusal}

-- what the call answers and leaves
pub record Bounds : Type 0 where
  pub number : ℤ
  pub output : List ℕ

-- 01: four bytes each, big-endian, and 0; -8 for an output under 16 bytes, after -10; bytes beyond are unchanged, and a refusal changes nothing
abbrev pub written_by : ℤ → List ℕ → List ℕ → Bounds
written_by (pos n) words output =
    cond (leb 16 (length output))
    (record { number = pos 0; output = over (words_bytes words) output })
    (record { number = refusal 8; output = output })
written_by (negsuc n) words output = record { number = negsuc n; output = output }

unfoldable pub bounds_of : Area → Grid → ℕ → List ℕ → Bounds
bounds_of image g n output = let said : Said = tile_bounds_of image g n in written_by said.number said.values output
