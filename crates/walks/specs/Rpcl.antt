-- RPCL: what is left of it from a place on is what PCRL has left of one resolution alone, and then the later resolutions. Assumes nothing.
use Rattle.std.specs.Prelude.{◌≡◌, refl, ℕ, ◌+◌, ◌≤◌, ◌<◌}
use Rattle.std.proofs.Math.Path.{ap}
use Rattle.std.proofs.Common.{◌∙◌, arith}
use mathlib.Core.List.{List, [], ◌∷◌, ◌++◌}
use Rattle.laws.specs.Axis.{up_grows}
use Rattle.laws.specs.Nest.{resumed}
use Rattle.laws.specs.NestMoved.{resumed-moved, no_turn, one_and_later}
use Rattle.types.specs.State.{origin}
use Rattle.packets.specs.Tile.{Sheet}
use Rattle.types.specs.declared.order.Order.TheVariants.{Rpcl as rpcl}
use Rattle.types.specs.declared.order.Range.{Range}
use Rattle.packets.specs.Positions.{loops_of, layers, resolutions, components, rows, columns, the_precinct, number_at}
use Rattle.types.specs.declared.cursor.Position.{Position}
use Rattle.walks.specs.Prepared.{Prep}
use Rattle.walks.specs.Going.{Rest}
use Rattle.walks.specs.Walk.{Ready}
use Rattle.walks.specs.AtPoint.{cell_from}
use Rattle.walks.specs.Part.{part_of, part_by, ready_part}
use Rattle.walks.specs.Pcrl as pcrl
use Rattle.walks.specs.declared.walk.Walk.{Walk}

-- what is to be searched from a place on
abbrev pub entry : ℕ → ℕ → ℕ → ℕ → ℕ → Rest
entry r y x c l s g = resumed (loops_of s g rpcl) ((λ p. r) ∷ (λ p. y) ∷ (λ p. x) ∷ (λ p. c) ∷ number_at s ∷ (λ p. l) ∷ []) origin

abbrev pub entry_at : Position → Rest
entry_at p = entry p.resno p.y p.x p.compno p.layno

-- the resolutions from r on, and all of them
abbrev pub on_from : Walk → ℕ → Rest
on_from w r = entry r w.ty0 w.tx0 w.compno0 0

abbrev pub wholly : Walk → Rest
wholly w = on_from w w.resno0

-- resolution r alone: the range, the walk over it, and what is left there
abbrev pub alone : Range → ℕ → Range
alone g r = part_of g r (r + 1) g.compno0 g.compno1

abbrev pub alone_by : Walk → ℕ → Walk
alone_by w r = part_by w r (r + 1) w.compno0 w.compno1

abbrev pub only : ℕ → Rest → Rest
only r rest s g = rest s (alone g r)

module _ (s : Sheet) (g : Range) (prep : Prep) (w : Walk) (marks : List ℕ) (h : Ready s g prep w marks) (r : ℕ) where
  -- no resolution is left
  pub none_left : (y x c l : ℕ) → w.resno1 ≤ r → entry r y x c l s g ≡ []
  none_left y x c l e = no_turn (resolutions g) _ (λ p. r) _ origin (rw (← h.ranged.resno1) e)

  -- or one, and then the later ones
  module _ (a : w.resno0 ≤ r) (b : r < w.resno1) where
    pub ready-alone : Ready s (alone g r) prep (alone_by w r) marks
    ready-alone = ready_part s g prep w marks h r (r + 1) w.compno0 w.compno1 a (omega (arith, b)) (omega arith) (omega arith) _ _ _ _ refl refl h.ranged.compno0 h.ranged.compno1

    pub one-left : (y x c l : ℕ) → entry r y x c l s g ≡ only r (pcrl.entry y x c r l) s g ++ on_from w (r + 1) s g
    one-left y x c l =
        let q = h.ranged in
        one_and_later (resolutions g) _ (λ p. r) _ origin up_grows (rw (← q.resno1) b) (λ p. r + 1) _ refl
        (λ p. q.ty0, (λ p. q.tx0, (λ p. q.compno0, (λ p. refl, (λ p. refl, tt)))))
        ∙ ap (λ (t : List Position). t ++ on_from w (r + 1) s g)
        (resumed-moved (resolutions (alone g r)) r (the_precinct s ∷ layers g ∷ []) (λ p. refl) (λ p. refl) (λ p. up_grows)
        (rows s ∷ columns s ∷ components g ∷ []) ((λ p. y) ∷ (λ p. x) ∷ (λ p. c) ∷ []) (number_at s ∷ (λ p. l) ∷ [])
        (search tt) origin)

    -- at a point each component has one cell
    pub in_c : (y x c l : ℕ) → c < w.compno1 → only r (pcrl.point y x c r l) s g ≡ cell_from r c x y l s g ++ only r (pcrl.point y x (c + 1) r 0) s g
    unfolding cell_from
    in_c y x c l e =
        pcrl.in_c s (alone g r) prep (alone_by w r) marks ready-alone y x c r l e
        ∙ pcrl.in_r s (alone g r) prep (alone_by w r) marks ready-alone y x c r l (omega arith)
        ∙ ap (λ (t : List Position). cell_from r c x y l s (alone g r) ++ t) (pcrl.out_r s (alone g r) prep (alone_by w r) marks ready-alone y x c (r + 1) 0 (omega arith))
