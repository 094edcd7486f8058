-- LRCP: what is left of it from a place on is one resolution of one layer, and then the later ones. Assumes nothing.
use Rattle.std.specs.Prelude.{◌≡◌, ℕ, ◌+◌, ◌≤◌, ◌<◌}
use Rattle.std.proofs.Math.Path.{refl, ap}
use Rattle.std.proofs.Common.{◌∙◌}
use mathlib.Core.List.{List, [], ◌∷◌, ◌++◌, append_assoc}
use Rattle.laws.specs.Axis.{up_grows}
use Rattle.laws.specs.Nest.{resumed}
use Rattle.laws.specs.NestMoved.{no_turn, one_and_later}
use Rattle.types.specs.State.{origin}
use Rattle.packets.specs.Tile.{Sheet}
use Rattle.types.specs.declared.order.Order.TheVariants.{Lrcp as lrcp}
use Rattle.types.specs.declared.order.Range.{Range}
use Rattle.packets.specs.Positions.{loops_of, layers, resolutions}
use Rattle.types.specs.declared.cursor.Position.{Position}
use Rattle.walks.specs.Prepared.{Counts}
use Rattle.walks.specs.Walk.{Counted}
use Rattle.walks.specs.Going.{Rest}
use Rattle.walks.specs.Counts.{inner, place_of, level}
use Rattle.walks.specs.declared.walk.Walk.{Walk}

-- what is to be searched from a place on
abbrev pub entry : ℕ → ℕ → ℕ → ℕ → Rest
entry l r c k s g = resumed (loops_of s g lrcp) ((λ p. l) ∷ (λ p. r) ∷ (λ p. c) ∷ (λ p. k) ∷ []) origin

abbrev pub entry_at : Position → Rest
entry_at p = entry p.layno p.resno p.compno p.precno

-- the layers from l on, and all of them
abbrev pub on_from : Walk → ℕ → Rest
on_from w l = entry l w.resno0 w.compno0 0

abbrev pub wholly : Walk → Rest
wholly w = on_from w 0

-- what is left at the resolutions of layer l
unfoldable pub left_r : Walk → ℕ → ℕ → ℕ → ℕ → Rest
left_r w l r c k s g = resumed (resolutions g ∷ inner s g) ((λ p. r) ∷ (λ p. c) ∷ (λ p. k) ∷ []) (place_of l 0 0 0) ++ on_from w (l + 1) s g

module _ (s : Sheet) (g : Range) (counts : Counts) (w : Walk) (marks : List ℕ) (h : Counted s g counts w marks) (l r c k : ℕ) where
  pub out_l : w.layno1 ≤ l → entry l r c k s g ≡ []
  out_l e = no_turn (layers g) _ (λ p. l) _ origin (rw (← h.ranged.layno1) e)

  pub in_l : l < w.layno1 → entry l r c k s g ≡ left_r w l r c k s g
  unfolding left_r
  in_l e =
      let q = h.ranged in
      one_and_later (layers g) (resolutions g ∷ inner s g) (λ p. l) _ origin up_grows (rw (← q.layno1) e) (λ p. l + 1) _ refl (λ p. q.resno0, (λ p. q.compno0, (λ p. refl, tt)))

  pub out_r : w.resno1 ≤ r → left_r w l r c k s g ≡ on_from w (l + 1) s g
  unfolding left_r
  out_r e =
      ap (λ (t : List Position). t ++ on_from w (l + 1) s g) (no_turn (resolutions g) (inner s g) (λ p. r) _ (place_of l 0 0 0) (rw (← h.ranged.resno1) e))

  pub in_r : r < w.resno1 → left_r w l r c k s g ≡ level l r c k s g ++ left_r w l (r + 1) w.compno0 0 s g
  unfolding left_r
  in_r e =
      let q = h.ranged in
      ap (λ (t : List Position). t ++ on_from w (l + 1) s g)
      (one_and_later (resolutions g) (inner s g) (λ p. r) _ (place_of l 0 0 0) up_grows (rw (← q.resno1) e) (λ p. r + 1) _ refl (λ p. q.compno0, (λ p. refl, tt)))
      ∙ append_assoc (level l r c k s g) _ _
