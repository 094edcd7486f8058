-- The fields of a state place by place: one test for each place of an array is the definition's two tests, of the places taken and of those beyond. Assumes nothing.
use Rattle.std.specs.Prelude.{zero, suc, ℤ, pos, negsuc}
use Rattle.std.specs.Ordering.{int_eq}
use Rattle.std.proofs.lemmas.Bool.Decides.{Decides-int_eq}
use mathlib.Core.Path.{◌≡◌, refl, sym}
use mathlib.Core.Bool.{Bool, true, false, ◌&&◌, ◌||◌}
use Prim.Native.Nat.{ℕ, ◌≤◌}
use lib.Dec.{ltb, leb, eqb}
use borrow.Author.Tests.{lt-ltb, le-ltb, leb-true}
use Rattle.laws.specs.Cases.{and_true, split}
use Rattle.laws.specs.Below.{all_below}
use Rattle.laws.specs.Parts.{all-parts}
use Rattle.types.specs.Ranges.{within, is_volume, not-whole, progression_range}
use Rattle.packets.specs.Tile.{component_of, dx_of, dy_of, res_of}
use Rattle.packets.specs.Grid.{change_of}
use Rattle.types.specs.Signed.{is_zero}
use Rattle.packets.specs.Sound.{tile_good, components_sound, no_range, progressions_sound}
use Rattle.types.specs.declared.state.Progression.{Progression}
use Rattle.types.specs.declared.state.State.{State}
use Rattle.soundness.specs.Fields.{component_fits, progression_fits}

zero_is : (z : ℤ) → int_eq z (pos 0) ≡ is_zero z
zero_is (pos zero) = refl
zero_is (pos (suc n)) =
    split (int_eq (pos (suc n)) (pos 0)) (λ e. let z : pos (suc n) ≡ pos 0 = (Decides-int_eq (pos (suc n)) (pos 0)).0 e in cc) (λ e. e)
zero_is (negsuc n) = refl

or_false : (t : Bool) → (t || false) ≡ t
or_false true = refl
or_false false = refl

-- the cases of a progression's test
module _ (there alone : Bool) (q : Progression) where
  pub fits-volume : there ≡ true → is_volume q.kind ≡ true → progression_range q.resno0 q.layno1 q.resno1 ≡ progression_fits there alone q
  unfolding progression_fits
  fits-volume t k = rw (t, k, not-whole q.kind k) (sym (or_false _))

  pub fits-whole : there ≡ true → is_volume q.kind ≡ false → (eqb q.kind 5 && (alone && no_range q)) ≡ progression_fits there alone q
  unfolding progression_fits
  fits-whole t k = rw (t, k)

  pub fits_none : there ≡ false → (eqb q.kind 0 && (int_eq q.prg (pos 0) && no_range q)) ≡ progression_fits there alone q
  unfolding progression_fits
  fits_none t = rw (t, zero_is q.prg)

module _ (st : State) where
  -- the test of place c, and of place k
  abbrev pub component_at : ℕ → Bool
  component_at c = component_fits (ltb c st.components) (component_of st c)

  abbrev pub progression_at : ℕ → Bool
  progression_at k = progression_fits (ltb k st.progressions) (eqb st.progressions 1) (change_of st k)

  pub components-parts : st.components ≤ 16 → all_below component_at 16 ≡ components_sound st
  unfolding components_sound component_fits
  components-parts h =
      all-parts component_at _ (λ c. eqb (dx_of st c) 0 && (eqb (dy_of st c) 0 && eqb (res_of st c) 0)) st.components 16 h
      (λ c l. rw (lt-ltb c st.components l))
      (λ c l. rw (le-ltb c st.components l))

  pub progressions-parts : st.progressions ≤ 32 → all_below progression_at 32 ≡ progressions_sound st
  unfolding progressions_sound progression_fits
  progressions-parts h =
      all-parts progression_at _ (λ k. let q : Progression = change_of st k in eqb q.kind 0 && (is_zero q.prg && no_range q)) st.progressions 32 h
      (λ k l. rw (lt-ltb k st.progressions l))
      (λ k l. rw (le-ltb k st.progressions l))

-- the counts of a good tile record: there are layers and components, and the arrays have room
module _ (st : State) (e : tile_good st ≡ true) where
  counted : (within 1 65535 st.layers ≡ true) × ((within 1 16 st.components && within 1 32 st.progressions) ≡ true)
  counted =
      let a = (and_true (leb st.tx0 st.tx1) _ e).1 in
      and_true (within 1 65535 st.layers) _ (and_true (leb st.ty0 st.ty1) _ a).1

  pub tile-counts : (st.components ≤ 16) × (st.progressions ≤ 32)
  tile-counts =
      let f = and_true (within 1 16 st.components) (within 1 32 st.progressions) counted.1 in
      (leb-true _ 16 (and_true (leb 1 st.components) _ f.0).1, leb-true _ 32 (and_true (leb 1 st.progressions) _ f.1).1)

  pub tile_some : (1 ≤ st.layers) × (1 ≤ st.components)
  tile_some =
      let f = and_true (within 1 16 st.components) (within 1 32 st.progressions) counted.1 in
      (leb-true 1 _ (and_true (leb 1 st.layers) _ counted.0).0, leb-true 1 _ (and_true (leb 1 st.components) _ f.0).0)
