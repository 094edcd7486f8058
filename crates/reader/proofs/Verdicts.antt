-- A sheet's verdict is at most 3: reading refuses by -1, -2 or -3 alone, whatever the bytes are. Assumes nothing.
use mathlib.Core.Path.{◌≡◌}
use mathlib.Core.Bool.{Bool, true, false, ◌&&◌}
use mathlib.Core.List.{List}
use Prim.Native.Nat.{ℕ, zero, suc, ◌+◌, ◌-◌, ◌/◌, ◌≤◌}
use native.Mathlib.Omega.{arith}
use lib.ListN.{length}
use lib.Dec.{ltb, eqb}
use Rattle.laws.specs.Cases.{split}
use Rattle.types.specs.Ranges.{tile_range, component_range, exponent_range, is_volume, progression_range}
use Rattle.packets.specs.Sheet.{wd, unnamed, judged, tile_verdict, component_verdict, resolution_verdict, volume_verdict, whole_tile_verdict, progression_verdict, Due, due, record_verdict, due_after, complete, read_from, length_good, read_verdict}

-- a progression's verdict is by its kind
module _ (s : List ℕ) (count i : ℕ) where
  pub of-whole_tile : eqb (wd s i 0) 5 ≡ true → progression_verdict s count i ≡ whole_tile_verdict s count i
  of-whole_tile e = rw e

  pub of-volume : eqb (wd s i 0) 5 ≡ false → progression_verdict s count i ≡ volume_verdict s i
  of-volume e = rw e

-- one is at most 3
judged-small : (shape range : Bool) → judged shape range ≤ 3
judged-small true true = omega arith
judged-small true false = omega arith
judged-small false range = omega arith

module _ (s : List ℕ) where
  tile-small : (i : ℕ) → tile_verdict s i ≤ 3
  tile-small i = judged-small (eqb (wd s i 0) 1) (tile_range (wd s i 1) (wd s i 2) (wd s i 3) (wd s i 4) (wd s i 5) (wd s i 6) (wd s i 7))

  component-small : (i : ℕ) → component_verdict s i ≤ 3
  component-small i = judged-small (eqb (wd s i 0) 2 && unnamed s i 4) (component_range (wd s i 1) (wd s i 2) (wd s i 3))

  resolution_small : (i : ℕ) → resolution_verdict s i ≤ 3
  resolution_small i = judged-small (eqb (wd s i 0) 3 && unnamed s i 3) (exponent_range (wd s i 1) (wd s i 2))

  progression_small : (count i : ℕ) → progression_verdict s count i ≤ 3
  progression_small count i =
      split (eqb (wd s i 0) 5)
      (λ t. rw (of-whole_tile s count i t) (judged-small (eqb (wd s i 0) 5 && (unnamed s i 2 && eqb count 1)) true))
      (λ t. rw (of-volume s count i t) (judged-small (is_volume (wd s i 0) && unnamed s i 7) (progression_range (wd s i 2) (wd s i 4) (wd s i 5))))

  record_small : (count i : ℕ) (d : Due) → record_verdict s count i d ≤ 3
  unfolding record_verdict
  record_small count i d =
      split (ltb 0 d.resolutions)
      (λ t. rw t (resolution_small i))
      (λ t.
      split (ltb 0 d.components)
      (λ u. rw (t, u) (component-small i))
      (λ u. split (ltb 0 d.progressions) (λ v. rw (t, u, v) (progression_small count i)) (λ v. rw (t, u, v) (omega arith))))

  from_small : (count n i : ℕ) (d : Due) → read_from s count n i d ≤ 3
  unfolding read_from
  from_small count zero i d = split (complete d) (λ t. rw t (omega arith)) (λ t. rw t (omega arith))
  from_small count (suc n) i d =
      split (eqb (record_verdict s count i d) 0) (λ t. rw t (from_small count n (i + 1) (due_after s i d))) (λ t. rw t (record_small count i d))

  pub verdict-small : read_verdict s ≤ 3
  unfolding read_verdict
  verdict-small =
      split (length_good s)
      (λ t.
      split (eqb (tile_verdict s 0) 0)
      (λ u. rw (t, u) (from_small (wd s 0 7) (length s / 32 - 1) 1 (due 0 (wd s 0 6) (wd s 0 7))))
      (λ u. rw (t, u) (tile-small 0)))
      (λ t. rw t (omega arith))
