-- CPRL: what is left of it from a place on is what PCRL has left of one component alone, and then the later components. Assumes nothing.
use Rattle.std.specs.Prelude.{◌≡◌, refl, List, [], ◌∷◌, ◌++◌, ℕ, ◌+◌, ◌≤◌, ◌<◌}
use Rattle.std.proofs.Common.{ap, ◌∙◌, arith}
use Rattle.laws.specs.Axis.{up_grows}
use Rattle.laws.specs.Nest.{resumed}
use Rattle.laws.specs.NestMoved.{resumed-moved, no_turn, one_and_later}
use Rattle.types.specs.State.{origin}
use Rattle.packets.specs.Tile.{Sheet}
use Rattle.types.specs.declared.order.Order.TheVariants.{Cprl as cprl}
use Rattle.types.specs.declared.order.Range.{Range}
use Rattle.packets.specs.Positions.{loops_of, layers, resolutions, components, rows, columns, the_precinct, number_at}
use Rattle.types.specs.declared.cursor.Position.{Position}
use Rattle.walks.specs.Prepared.{Prep}
use Rattle.walks.specs.Going.{Rest}
use Rattle.walks.specs.Walk.{Ready}
use Rattle.walks.specs.AtPoint.{cell_from}
use Rattle.walks.specs.Part.{part_of, part_by, ready_part}
use Rattle.walks.specs.Pcrl as pcrl
use Rattle.walks.specs.declared.walk.Walk.{Walk}

-- what is to be searched from a place on
abbrev pub entry : ℕ → ℕ → ℕ → ℕ → ℕ → Rest
entry c y x r l s g = resumed (loops_of s g cprl) ((λ p. c) ∷ (λ p. y) ∷ (λ p. x) ∷ (λ p. r) ∷ number_at s ∷ (λ p. l) ∷ []) origin

abbrev pub entry_at : Position → Rest
entry_at p = entry p.compno p.y p.x p.resno p.layno

-- the components from c on, and all of them
abbrev pub on_from : Walk → ℕ → Rest
on_from w c = entry c w.ty0 w.tx0 w.resno0 0

abbrev pub wholly : Walk → Rest
wholly w = on_from w w.compno0

-- component c alone: the range, the walk over it, and what is left there
abbrev pub alone : Range → ℕ → Range
alone g c = part_of g g.resno0 g.resno1 c (c + 1)

abbrev pub alone_by : Walk → ℕ → Walk
alone_by w c = part_by w w.resno0 w.resno1 c (c + 1)

abbrev pub only : ℕ → Rest → Rest
only c rest s g = rest s (alone g c)

module _ (s : Sheet) (g : Range) (prep : Prep) (w : Walk) (marks : List ℕ) (h : Ready s g prep w marks) (c : ℕ) where
  -- no component is left
  pub none_left : (y x r l : ℕ) → w.compno1 ≤ c → entry c y x r l s g ≡ []
  none_left y x r l e = no_turn (components g) _ (λ p. c) _ origin (rw (← h.ranged.compno1) e)

  -- or one, and then the later ones
  module _ (a : w.compno0 ≤ c) (b : c < w.compno1) where
    pub ready-alone : Ready s (alone g c) prep (alone_by w c) marks
    ready-alone = ready_part s g prep w marks h w.resno0 w.resno1 c (c + 1) (omega arith) (omega arith) a (omega (arith, b)) _ _ _ _ h.ranged.resno0 h.ranged.resno1 refl refl

    pub one-left : (y x r l : ℕ) → entry c y x r l s g ≡ only c (pcrl.entry y x c r l) s g ++ on_from w (c + 1) s g
    one-left y x r l =
        let q = h.ranged in
        one_and_later (components g) _ (λ p. c) _ origin up_grows (rw (← q.compno1) b) (λ p. c + 1) _ refl
        (λ p. q.ty0, (λ p. q.tx0, (λ p. q.resno0, (λ p. refl, (λ p. refl, tt)))))
        ∙ ap (λ (t : List Position). t ++ on_from w (c + 1) s g)
        (resumed-moved (components (alone g c)) c (resolutions g ∷ the_precinct s ∷ layers g ∷ []) (λ p. refl) (λ p. refl) (λ p. up_grows)
        (rows s ∷ columns s ∷ []) ((λ p. y) ∷ (λ p. x) ∷ []) ((λ p. r) ∷ number_at s ∷ (λ p. l) ∷ [])
        (search tt) origin)

    -- at a point there are its resolutions, each with one cell
    pub in_x : (y x r l : ℕ) → w.ty0 ≤ y → y < w.ty1 → w.tx0 ≤ x → x < w.tx1
        → only c (pcrl.left_x (alone_by w c) y x c r l) s g ≡ only c (pcrl.left_r (alone_by w c) y x c r l) s g ++ only c (pcrl.after_x (alone_by w c) y x) s g
    in_x y x r l top bottom left right =
        pcrl.in_x s (alone g c) prep (alone_by w c) marks ready-alone y x c r l top bottom left right
        ∙ ap (λ (t : List Position). t ++ only c (pcrl.after_x (alone_by w c) y x) s g) (pcrl.in_c s (alone g c) prep (alone_by w c) marks ready-alone y x c r l (omega arith))

    pub in_r : (y x r l : ℕ) → r < w.resno1
        → only c (pcrl.left_r (alone_by w c) y x c r l) s g ≡ cell_from r c x y l s g ++ only c (pcrl.left_r (alone_by w c) y x c (r + 1) 0) s g
    unfolding cell_from
    in_r y x r l e = pcrl.in_r s (alone g c) prep (alone_by w c) marks ready-alone y x c r l e

    pub out_r : (y x r l : ℕ) → w.resno1 ≤ r → only c (pcrl.left_r (alone_by w c) y x c r l) s g ≡ []
    out_r y x r l e =
        pcrl.out_r s (alone g c) prep (alone_by w c) marks ready-alone y x c r l e
        ∙ pcrl.out_c s (alone g c) prep (alone_by w c) marks ready-alone y x (c + 1) w.resno0 0 (omega arith)
