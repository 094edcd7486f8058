-- A point of a tile: the precinct of one component and resolution that is met there, if one is, and its layers. Assumes nothing.
use Rattle.std.specs.Prelude.{◌≡◌, true, false, ℕ, ◌+◌, ◌≤◌, ◌<◌}
use Rattle.std.proofs.Math.Path.{refl, ap}
use Rattle.std.proofs.Common.{sym, ◌∙◌, arith}
use mathlib.Core.List.{List, [], ◌∷◌, ◌++◌, append-nil}
use Rattle.laws.specs.Axis.{up_grows}
use Rattle.laws.specs.Nest.{resumed}
use Rattle.laws.specs.NestMoved.{no_turn, one_and_later}
use Rattle.packets.specs.Tile.{Sheet}
use Rattle.types.specs.declared.order.Range.{Range}
use Rattle.packets.specs.Positions.{met, number_at, layers, the_precinct}
use Rattle.types.specs.declared.cursor.Position.{Position}
use Rattle.walks.specs.Prepared.{point_of}
use Rattle.walks.specs.Going.{Rest}

-- layer l of precinct k
abbrev pub packet_of : ℕ → ℕ → ℕ → ℕ → ℕ → ℕ → Position
packet_of r c x y k l = record { layno = l; resno = r; compno = c; precno = k; x = x; y = y }

-- its layers from l on
unfoldable pub layers_from : ℕ → ℕ → ℕ → ℕ → ℕ → ℕ → Rest
layers_from r c x y k l s g = resumed (layers g ∷ []) ((λ p. l) ∷ []) (packet_of r c x y k 0)

-- those of the precinct that is met at a point
unfoldable pub cell_from : ℕ → ℕ → ℕ → ℕ → ℕ → Rest
cell_from r c x y l s g = resumed (the_precinct s ∷ layers g ∷ []) (number_at s ∷ (λ p. l) ∷ []) (point_of r c x y)

-- .. of a position: its precinct, and its point
abbrev pub layers_at : Position → ℕ → Rest
layers_at p l = layers_from p.resno p.compno p.x p.y p.precno l

abbrev pub cell_at : Position → Rest
cell_at p = cell_from p.resno p.compno p.x p.y 0

module _ (s : Sheet) (g : Range) (r c x y : ℕ) where
  -- no precinct is met
  pub misses : (l : ℕ) → met s (point_of r c x y) ≡ false → cell_from r c x y l s g ≡ []
  unfolding cell_from
  misses l h = no_turn (the_precinct s) (layers g ∷ []) (number_at s) ((λ p. l) ∷ []) (point_of r c x y) (rw h (omega arith))

  module _ (k l : ℕ) where
    -- or precinct k, and no other
    pub meets : met s (point_of r c x y) ≡ true → k ≡ number_at s (point_of r c x y) → cell_from r c x y l s g ≡ layers_from r c x y k l s g
    unfolding cell_from layers_from
    meets h e =
        let p = point_of r c x y in
        one_and_later (the_precinct s) (layers g ∷ []) (number_at s) ((λ q. l) ∷ []) p up_grows (rw h (omega arith)) (λ q. number_at s q + 1) ((λ q. 0) ∷ []) refl (λ q. refl, tt)
        ∙ ap (λ (t : List Position). resumed (layers g ∷ []) ((λ q. l) ∷ []) ((the_precinct s).put (number_at s p) p) ++ t)
        (no_turn (the_precinct s) (layers g ∷ []) (λ q. number_at s q + 1) ((λ q. 0) ∷ []) p (rw h (omega arith)))
        ∙ append-nil (resumed (layers g ∷ []) ((λ q. l) ∷ []) ((the_precinct s).put (number_at s p) p))
        ∙ ap (λ (n : ℕ). resumed (layers g ∷ []) ((λ q. l) ∷ []) (packet_of r c x y n 0)) (sym e)

    pub out_l : g.layno1 ≤ l → layers_from r c x y k l s g ≡ []
    unfolding layers_from
    out_l h = no_turn (layers g) [] (λ p. l) [] (packet_of r c x y k 0) h

    pub in_l : l < g.layno1 → layers_from r c x y k l s g ≡ packet_of r c x y k l ∷ layers_from r c x y k (l + 1) s g
    unfolding layers_from resumed
    in_l h = one_and_later (layers g) [] (λ p. l) [] (packet_of r c x y k 0) up_grows h (λ p. l + 1) [] refl tt
