-- Tile bounds for C, case by case: the four words laid over the output, and what each refusal leaves. Assumes nothing.
use mathlib.Core.Path.{◌≡◌, refl, sym, ap, ◌∙◌}
use mathlib.Core.List.{List, [], ◌∷◌}
use Prim.Native.Nat.{ℕ, ◌≤◌, ◌<◌}
use lib.ListN.{length}
use lib.IntN.{ℤ, pos, negsuc}
use borrow.Author.Tests.{le-leb, lt-leb}
use Rattle.std.specs.Prelude.{Option, Some, None}
use Rattle.laws.specs.Gather.{gather}
use Rattle.words.specs.Words.{put_four, words_bytes, over}
use Rattle.words.specs.Laws.{over_four}
use Rattle.geometry.specs.Said.{Said, of_tile}
use Rattle.geometry.specs.Tile.{tile_bounds_of}
use Rattle.geometry.specs.declared.tile.Area.{Area}
use Rattle.geometry.specs.declared.tile.Grid.{Grid}
use Rattle.packets.specs.Bounds.{Bounds, written_by, bounds_of}

-- four words written at the start, where there is room
pub four_over : (old : List ℕ) (a b c d : ℕ) → 16 ≤ length old → put_four old 0 a b c d ≡ over (words_bytes (a ∷ b ∷ c ∷ d ∷ [])) old
unfolding words_bytes gather
four_over old a b c d h = over_four [] old a b c d h

module _ (image : Area) (g : Grid) (n : ℕ) (output : List ℕ) where
  abbrev bounds : Bounds
  bounds = bounds_of image g n output

  -- what the call is to answer and to leave
  abbrev pub Left : ℤ → List ℕ → Type 0
  Left z o = (z ≡ bounds.number) × (o ≡ bounds.output)

  left : (b : Bounds) → b ≡ bounds → Left b.number b.output
  left b e = (ap (λ (b : Bounds). b.number) e, ap (λ (b : Bounds). b.output) e)

  module _ (t : Option Area) (told : of_tile t ≡ tile_bounds_of image g n) where
    by_case : (u : Option Area) → t ≡ u → written_by (of_tile u).number (of_tile u).values output ≡ bounds
    unfolding bounds_of
    by_case u e = ap (λ (s : Said). written_by s.number s.values output) (ap of_tile (sym e) ∙ told)

    pub outside : t ≡ None → Left (negsuc 9) output
    outside e = left _ (by_case None e)

    pub short : (a : Area) → t ≡ Some a → length output < 16 → Left (negsuc 7) output
    short a e h = left _ (sym (rw (lt-leb 16 (length output) h) refl) ∙ by_case (Some a) e)

    pub told-all : (a : Area) → t ≡ Some a → 16 ≤ length output → Left (pos 0) (over (words_bytes (a.x0 ∷ a.y0 ∷ a.x1 ∷ a.y1 ∷ [])) output)
    told-all a e h = left _ (sym (rw (le-leb 16 (length output) h) refl) ∙ by_case (Some a) e)
