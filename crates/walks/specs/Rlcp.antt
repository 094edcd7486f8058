-- RLCP: what is left of it from a place on is one layer of one resolution, and then the later ones. Assumes nothing.
use Rattle.std.specs.Prelude.{◌≡◌, ℕ, ◌+◌, ◌≤◌, ◌<◌}
use Rattle.std.proofs.Math.Path.{refl, ap}
use Rattle.std.proofs.Common.{◌∙◌}
use mathlib.Core.List.{List, [], ◌∷◌, ◌++◌, append_assoc}
use Rattle.laws.specs.Axis.{up_grows}
use Rattle.laws.specs.Nest.{resumed}
use Rattle.laws.specs.NestMoved.{no_turn, one_and_later}
use Rattle.types.specs.State.{origin}
use Rattle.packets.specs.Tile.{Sheet}
use Rattle.types.specs.declared.order.Order.TheVariants.{Rlcp as rlcp}
use Rattle.types.specs.declared.order.Range.{Range}
use Rattle.packets.specs.Positions.{loops_of, layers, resolutions}
use Rattle.types.specs.declared.cursor.Position.{Position}
use Rattle.walks.specs.Prepared.{Counts}
use Rattle.walks.specs.Walk.{Counted}
use Rattle.walks.specs.Going.{Rest}
use Rattle.walks.specs.Counts.{inner, place_of, level}
use Rattle.walks.specs.declared.walk.Walk.{Walk}

-- what is to be searched from a place on
abbrev pub entry : ℕ → ℕ → ℕ → ℕ → Rest
entry r l c k s g = resumed (loops_of s g rlcp) ((λ p. r) ∷ (λ p. l) ∷ (λ p. c) ∷ (λ p. k) ∷ []) origin

abbrev pub entry_at : Position → Rest
entry_at p = entry p.resno p.layno p.compno p.precno

-- the resolutions from r on, and all of them
abbrev pub on_from : Walk → ℕ → Rest
on_from w r = entry r 0 w.compno0 0

abbrev pub wholly : Walk → Rest
wholly w = on_from w w.resno0

-- what is left at the layers of resolution r
unfoldable pub left_l : Walk → ℕ → ℕ → ℕ → ℕ → Rest
left_l w r l c k s g = resumed (layers g ∷ inner s g) ((λ p. l) ∷ (λ p. c) ∷ (λ p. k) ∷ []) (place_of 0 r 0 0) ++ on_from w (r + 1) s g

module _ (s : Sheet) (g : Range) (counts : Counts) (w : Walk) (marks : List ℕ) (h : Counted s g counts w marks) (r l c k : ℕ) where
  pub out_r : w.resno1 ≤ r → entry r l c k s g ≡ []
  out_r e = no_turn (resolutions g) _ (λ p. r) _ origin (rw (← h.ranged.resno1) e)

  pub in_r : r < w.resno1 → entry r l c k s g ≡ left_l w r l c k s g
  unfolding left_l
  in_r e =
      let q = h.ranged in
      one_and_later (resolutions g) (layers g ∷ inner s g) (λ p. r) _ origin up_grows (rw (← q.resno1) e) (λ p. r + 1) _ refl (λ p. refl, (λ p. q.compno0, (λ p. refl, tt)))

  pub out_l : w.layno1 ≤ l → left_l w r l c k s g ≡ on_from w (r + 1) s g
  unfolding left_l
  out_l e =
      ap (λ (t : List Position). t ++ on_from w (r + 1) s g) (no_turn (layers g) (inner s g) (λ p. l) _ (place_of 0 r 0 0) (rw (← h.ranged.layno1) e))

  pub in_l : l < w.layno1 → left_l w r l c k s g ≡ level l r c k s g ++ left_l w r (l + 1) w.compno0 0 s g
  unfolding left_l
  in_l e =
      let q = h.ranged in
      ap (λ (t : List Position). t ++ on_from w (r + 1) s g)
      (one_and_later (layers g) (inner s g) (λ p. l) _ (place_of 0 r 0 0) up_grows (rw (← q.layno1) e) (λ p. l + 1) _ refl (λ p. q.compno0, (λ p. refl, tt)))
      ∙ append_assoc (level l r c k s g) _ _
