-- The fields of a sheet that is read without a refusal: where they come from, and that they are in range. Assumes nothing.
use Rattle.std.specs.Prelude.{◌≡◌, Bool, true, false, cond, ◌&&◌, ◌||◌, ◌⊎◌, List, eqb}
use Rattle.std.proofs.Math.Path.{refl, ap}
use Rattle.std.proofs.lemmas.Bool.{false≢true}
use Rattle.std.proofs.Common.{inl, inr, arith}
use Prim.Native.Nat.{ℕ, ◌+◌, ◌-◌, ◌<◌}
use Rattle.laws.specs.Cases.{and_true, and_both}
use Rattle.laws.specs.Below.{all-at}
use Rattle.laws.specs.Pointwise.{all_true, filled-at, filled_beyond}
use Rattle.types.specs.State.{no_component, no_progression}
use Rattle.types.specs.declared.state.Component.{Component}
use Rattle.types.specs.Ranges.{component_range, exponent_range, is_volume, progression_range}
use Rattle.packets.specs.Sheet.{wd, judged, unnamed, component_record, resolution_record, progression_record, component_at, progression_at, fields_of, volume_verdict, whole_tile_verdict}
use Rattle.packets.specs.Tile.{component_of, dx_of, dy_of, res_of}
use Rattle.packets.specs.Grid.{change_of}
use Rattle.packets.specs.Sound.{tile_good, components_sound, progressions_sound, progression_good}
use Rattle.packets.specs.Reading.{Read}

-- a record with no refusal has the right form and is in range
judged_zero : (shape range : Bool) → judged shape range ≡ 0 → (shape ≡ true) × (range ≡ true)
judged_zero true true e = (refl, refl)
judged_zero true false e = absurd (let z : ◌≡◌ {A = ℕ} 3 0 = e in let n : ⊥ = omega arith in n)
judged_zero false range e = absurd (let z : ◌≡◌ {A = ℕ} 2 0 = e in let n : ⊥ = omega arith in n)

module _ (b : List ℕ) where
  -- component c's fields stand in its record, and beyond the last there is nothing
  module _ (c : ℕ) where
    component_is : c < wd b 0 6 → component_of (fields_of b) c ≡ component_at b (component_record b c)
    unfolding fields_of
    component_is h = filled-at _ 16 (wd b 0 6) no_component c h

    pub dx_is : c < wd b 0 6 → dx_of (fields_of b) c ≡ wd b (component_record b c) 1
    dx_is h = ap (λ (t : Component). t.dx) (component_is h)

    pub dy_is : c < wd b 0 6 → dy_of (fields_of b) c ≡ wd b (component_record b c) 2
    dy_is h = ap (λ (t : Component). t.dy) (component_is h)

    pub res_is : c < wd b 0 6 → res_of (fields_of b) c ≡ wd b (component_record b c) 3
    res_is h = ap (λ (t : Component). t.resolutions) (component_is h)

    blank_component : component_of (fields_of b) (wd b 0 6 + c) ≡ no_component
    unfolding fields_of
    blank_component = filled_beyond _ 16 (wd b 0 6) no_component c

  module _ (k : ℕ) where
    pub change_is : k < wd b 0 7 → change_of (fields_of b) k ≡ progression_at b (progression_record b k)
    unfolding fields_of
    change_is h = filled-at _ 32 (wd b 0 7) no_progression k h

    blank_change : change_of (fields_of b) (wd b 0 7 + k) ≡ no_progression
    unfolding fields_of
    blank_change = filled_beyond _ 32 (wd b 0 7) no_progression k

  module _ (r : Read b) where
    pub tile-good : tile_good (fields_of b) ≡ true
    unfolding fields_of
    tile-good = (judged_zero (eqb (wd b 0 0) 1) (tile_good (fields_of b)) r.tile).1

    pub component-range : (c : ℕ) → c < wd b 0 6 → component_range (dx_of (fields_of b) c) (dy_of (fields_of b) c) (res_of (fields_of b) c) ≡ true
    component-range c h =
        let i : ℕ = component_record b c in
        rw (dx_is c h, dy_is c h, res_is c h)
        (judged_zero (eqb (wd b i 0) 2 && unnamed b i 4) (component_range (wd b i 1) (wd b i 2) (wd b i 3)) (r.component c h)).1

    pub exponent_range_lem : (c e : ℕ) → c < wd b 0 6 → e < res_of (fields_of b) c
        → exponent_range (wd b (resolution_record b c e) 1) (wd b (resolution_record b c e) 2) ≡ true
    exponent_range_lem c e h l =
        let i : ℕ = resolution_record b c e in
        (judged_zero (eqb (wd b i 0) 3 && unnamed b i 3) (exponent_range (wd b i 1) (wd b i 2)) (r.resolution c e h (rw (res_is c h) at l))).1

    pub components-sound : components_sound (fields_of b) ≡ true
    unfolding components_sound fields_of
    components-sound =
        and_both
        (all_true _ (wd b 0 6) component-range)
        (all_true _ (16 - wd b 0 6) (λ c h.
        let n = blank_component c in
        rw (ap (λ (t : Component). t.dx) n, ap (λ (t : Component). t.dy) n, ap (λ (t : Component). t.resolutions) n) refl))

    -- a progression's record is of kind 4 or 6 and in range, or of kind 5, alone, with nothing but its order
    progression_good_lem : (k : ℕ) → k < wd b 0 7 → progression_good (fields_of b) (progression_at b (progression_record b k)) ≡ true
    unfolding fields_of progression_at
    progression_good_lem k h = by (eqb (wd b i 0) 5) refl (r.progression k h)
      where
        i : ℕ
        i = progression_record b k

        alone : Bool
        alone = eqb (wd b i 0) 5 && (eqb (wd b 0 7) 1 && (eqb (wd b i 2) 0 && (eqb (wd b i 3) 0 && (eqb (wd b i 4) 0 && (eqb (wd b i 5) 0 && eqb (wd b i 6) 0)))))

        ranged : Bool
        ranged = is_volume (wd b i 0) && progression_range (wd b i 2) (wd b i 4) (wd b i 5)

        or_true : (x y : Bool) → (x ≡ true) ⊎ (y ≡ true) → (x || y) ≡ true
        or_true true y e = refl
        or_true false y (inl e) = absurd (false≢true e)
        or_true false y (inr e) = e

        by : (t : Bool) → eqb (wd b i 0) 5 ≡ t → cond t (whole_tile_verdict b (wd b 0 7) i) (volume_verdict b i) ≡ 0 → (ranged || alone) ≡ true
        by true t e =
            let shape = (judged_zero (eqb (wd b i 0) 5 && (unnamed b i 2 && eqb (wd b 0 7) 1)) true e).0 in
            let more = and_true (eqb (wd b i 0) 5) (unnamed b i 2 && eqb (wd b 0 7) 1) shape in
            let both = and_true (unnamed b i 2) (eqb (wd b 0 7) 1) more.1 in
            let none = all-at (λ j. eqb (wd b i (2 + j)) 0) 6 both.0 in
            or_true ranged alone
            (inr
            (and_both t
            (and_both both.1
            (and_both (none 0 (omega arith)) (and_both (none 1 (omega arith)) (and_both (none 2 (omega arith)) (and_both (none 3 (omega arith)) (none 4 (omega arith)))))))))
        by false t e =
            let w = judged_zero (is_volume (wd b i 0) && unnamed b i 7) (progression_range (wd b i 2) (wd b i 4) (wd b i 5)) e in
            or_true ranged alone (inl (and_both (and_true (is_volume (wd b i 0)) (unnamed b i 7) w.0).0 w.1))

    pub progressions-sound : progressions_sound (fields_of b) ≡ true
    unfolding progressions_sound fields_of
    progressions-sound =
        and_both
        (all_true _ (wd b 0 7) (λ k h. rw (change_is k h) (progression_good_lem k h)))
        (all_true _ (32 - wd b 0 7) (λ k h. rw (blank_change k) refl))
