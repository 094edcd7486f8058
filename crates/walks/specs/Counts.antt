-- What LRCP and RLCP have in common: inside a layer and a resolution both go over the components and the precincts of each, by their count. Assumes nothing.
use Rattle.std.specs.Prelude.{◌≡◌, Bool, true, false, ℕ, ◌+◌, ◌≤◌, ◌<◌, length, Option}
use Rattle.std.proofs.Math.Path.{refl, ap}
use Rattle.std.proofs.Common.{◌∙◌, arith}
use mathlib.Core.List.{List, [], ◌∷◌, ◌++◌}
use Rattle.laws.specs.Marks.{free_at}
use Rattle.laws.specs.Runs.{Packet, seek}
use Rattle.laws.specs.Axis.{up_grows}
use Rattle.laws.specs.Nest.{Loop, resumed}
use Rattle.laws.specs.NestMoved.{no_turn, one_and_later}
use Rattle.packets.specs.Tile.{Sheet, precincts, index_of}
use Rattle.types.specs.declared.order.Range.{Range}
use Rattle.packets.specs.Positions.{components, every_precinct}
use Rattle.packets.proofs.MetOnce.{precincts_in}
use Rattle.packets.specs.Inside.{Inside}
use Rattle.types.specs.declared.cursor.Position.{Position}
use Rattle.walks.specs.Prepared.{Counts, number_in}
use Rattle.walks.specs.Walk.{Counted}
use Rattle.walks.specs.Going.{Going, Rest, ◌then◌, turns, leaves, passes, finds}
use Rattle.walks.specs.Marks.{mark_by, same-mark, fits-mark, has-mark, reads_mark}
use Rattle.walks.specs.declared.walk.Walk.{Walk}

-- the loops inside the two outer ones
abbrev pub inner : Sheet → Range → List (Loop Position)
inner s g = components g ∷ every_precinct s ∷ []

-- the place of a packet: these orders leave x and y at 0
abbrev pub place_of : ℕ → ℕ → ℕ → ℕ → Position
place_of l r c k = record { layno = l; resno = r; compno = c; precno = k; x = 0; y = 0 }

-- resolution r in layer l, from precinct k of component c on
abbrev pub level : ℕ → ℕ → ℕ → ℕ → Rest
level l r c k s g = resumed (inner s g) ((λ p. c) ∷ (λ p. k) ∷ []) (place_of l r 0 0)

-- .. written as that component, and then the next ones
unfoldable pub left_k : ℕ → ℕ → ℕ → ℕ → Rest
left_k l r c k s g = resumed (every_precinct s ∷ []) ((λ p. k) ∷ []) (place_of l r c 0) ++ level l r (c + 1) 0 s g

module _ (s : Sheet) (g : Range) (l r c k : ℕ) where
  pub in_c : c < g.compno1 → level l r c k s g ≡ left_k l r c k s g
  unfolding left_k
  in_c h = one_and_later (components g) (every_precinct s ∷ []) (λ p. c) _ (place_of l r 0 0) up_grows h (λ p. c + 1) _ refl (λ p. refl, tt)

  pub out_c : g.compno1 ≤ c → level l r c k s g ≡ []
  out_c h = no_turn (components g) (every_precinct s ∷ []) (λ p. c) _ (place_of l r 0 0) h

  pub out_k : precincts s c r ≤ k → left_k l r c k s g ≡ level l r (c + 1) 0 s g
  unfolding left_k
  out_k h = ap (λ (t : List Position). t ++ level l r (c + 1) 0 s g) (no_turn (every_precinct s) [] (λ p. k) [] (place_of l r c 0) h)

  pub in_k : k < precincts s c r → left_k l r c k s g ≡ place_of l r c k ∷ left_k l r c (k + 1) s g
  unfolding left_k resumed
  in_k h =
      ap (λ (t : List Position). t ++ level l r (c + 1) 0 s g)
      (one_and_later (every_precinct s) [] (λ p. k) [] (place_of l r c 0) up_grows h (λ p. k + 1) [] refl tt)

-- a layer and a resolution of a walk
pub record InLevel (w : Walk) (l r : ℕ) : Type 0 where
  pub layer : l < w.layno1
  pub res_from : w.resno0 ≤ r
  pub res_to : r < w.resno1

-- A WALK THAT IS COUNTED stands at a layer, a resolution and a component inside its ranges
pub record Stands (w : Walk) (l r c : ℕ) : Type 0 where
  pub level : InLevel w l r
  pub comp_from : w.compno0 ≤ c
  pub comp_to : c < w.compno1

module _ (s : Sheet) (g : Range) (counts : Counts) (w : Walk) (marks : List ℕ) (counted : Counted s g counts w marks) (l r c : ℕ) (t : Stands w l r c) where
  -- the counts hold its own
  pub held : (r < 33) × (c < 16)
  held =
      let q = counted.ranged in
      (omega (arith, counted.resolutions, q.resno1, t.level.res_to), omega (arith, counted.components, q.compno1, t.comp_to))

  module _ (n : ℕ) (e : n ≡ number_in counts r c) where
    pub count_is : n ≡ precincts s c r
    count_is =
        let q = counted.ranged in
        e ∙ counted.number r c (rw (← q.resno0) t.level.res_from) (rw (← q.resno1) t.level.res_to) (rw (← q.compno0) t.comp_from) (rw (← q.compno1) t.comp_to)

    -- one of so many precincts: its mark is below the largest number of marks, and below the marks' number
    module _ (k : ℕ) (h : k < n) where
      pub below : k < precincts s c r
      below = rw (← count_is) h

      inside : Inside s (place_of l r c k)
      inside =
          let q = counted.ranged in
          record { component = omega (arith, q.components, q.compno1, t.comp_to); resolution = precincts_in s c r (omega (arith, below)); precinct = below }

      pub mark-fits : mark_by w (place_of l r c k) < 65536
      mark-fits = fits-mark s g w marks counted.ranged counted.good (place_of l r c k) inside t.level.layer

      pub mark-there : mark_by w (place_of l r c k) < length marks
      mark-there = has-mark s g w marks counted.ranged counted.good (place_of l r c k) inside t.level.layer

      pub mark_is : mark_by w (place_of l r c k) ≡ index_of s.st (place_of l r c k)
      mark_is = same-mark s g w marks counted.ranged counted.good (place_of l r c k) inside t.level.layer

      -- it is the next of its component's, and what is read of its mark is what the sheet's index finds
      pub mark-read : (v i : ℕ) (f t : Bool) → i ≡ mark_by w (place_of l r c k) → f ≡ free_at v marks i → f ≡ t
          → (left_k l r c k s g ≡ place_of l r c k ∷ left_k l r c (k + 1) s g) × (free_at v marks (index_of s.st (place_of l r c k)) ≡ t)
      mark-read v i f u a b d =
          (in_k s g l r c k below, reads_mark s g w marks counted.ranged counted.good (place_of l r c k) inside t.level.layer v i f u a b d)

-- WHAT EVERY LOOP KEEPS: nothing is found yet, and the rest answers as the whole at entry
abbrev pub Kept : Counts → Walk → List ℕ → Rest → Option Position → Rest → Type 0
Kept counts w marks whole found rest = Going w.viewer (λ s g. Counted s g counts w marks) marks whole found rest

-- where it stands at a layer and a resolution, and then others are left
module _ (counts : Counts) (w : Walk) (marks : List ℕ) (whole later : Rest) {found : Option Position} (l r c k : ℕ) where
  -- at a component, or at none
  pub into_c : c < w.compno1 → Kept counts w marks whole found (level l r c k then later) → Kept counts w marks whole found (left_k l r c k then later)
  into_c e i = turns _ _ _ _ _ _ i _ (λ s g h. in_c s g l r c k (rw h.ranged.compno1 at e))

  pub past_c : w.compno1 ≤ c → Kept counts w marks whole found (level l r c k then later) → Kept counts w marks whole found later
  past_c e i = leaves _ _ _ _ _ _ i (λ s g h. out_c s g l r c k (rw h.ranged.compno1 at e))

  -- at one of its precincts, or at none
  module _ (t : Stands w l r c) (n : ℕ) (e : n ≡ number_in counts r c) where
    pub past_k : n ≤ k → Kept counts w marks whole found (left_k l r c k then later) → Kept counts w marks whole found (level l r (c + 1) 0 then later)
    past_k a i = turns _ _ _ _ _ _ i _ (λ s g h. out_k s g l r c k (rw (count_is s g counts w marks h l r c t n e) at a))

    -- whose mark is read
    module _ (a : k < n) (i : ℕ) (f : Bool) (at : i ≡ mark_by w (place_of l r c k)) (read : f ≡ free_at w.viewer marks i) (kept : Kept counts w marks whole found (left_k l r c k then later)) where
      pub next_k : f ≡ false → Kept counts w marks whole found (left_k l r c (k + 1) then later)
      next_k z = passes _ _ _ _ _ _ kept _ _ (λ s g h. mark-read s g counts w marks h l r c t n e k a w.viewer i f false at read z)

      pub found_k : f ≡ true → (s : Sheet) (g : Range) → Counted s g counts w marks → Packet (place_of l r c k) ≡ seek w.viewer (index_of s.st) marks (whole s g)
      found_k z = finds _ _ _ _ _ _ kept _ _ (λ s g h. mark-read s g counts w marks h l r c t n e k a w.viewer i f true at read z)
