-- THE THEOREM that ties 01's formula to the standard's words: T.800's loops, which count precincts, and the loops which number a precinct by the point where it
-- is met, column + row·width, list the same packets at the same points in the same order. Assumes nothing.
use Prim.Native.Nat.{ℕ, ◌+◌, ◌*◌, ◌≤◌, ◌<◌}
use Rattle.std.specs.Prelude.{◌≡◌, Bool, cond, ◌&&◌, ◌⊎◌, eqb}
use Rattle.std.proofs.Math.Path.{refl, sym, ap, fun_ext}
use Rattle.std.proofs.Common.{◌∙◌, arith}
use Rattle.std.proofs.Math.Bool.{true, false, and_comm}
use Rattle.std.proofs.lemmas.Bool.{false≢true}
use mathlib.Core.List.{List, [], ◌∷◌, ◌++◌, map}
use Rattle.std.proofs.Math.Logic.{inl, inr, ⊎_elim}
use Rattle.std.proofs.Math.Dec.{ltb}
use borrow.Author.Tests.{eq-eqb, eqb-true, leb-true}
use Rattle.laws.specs.Cases.{and_true, cond_some}
use Rattle.laws.specs.Gather.{gather, gather-map, gather-gather, map-gather, map-map, only, keep}
use Rattle.laws.specs.Axis.{span, up_grows}
use Rattle.laws.specs.Spans.{span_head, span_end}
use Rattle.laws.specs.Counter.{Decides, of, tally_agrees}
use Rattle.laws.specs.Nest.{Loop, nest, nest-append}
use Rattle.laws.specs.NestOnce.{Apart}
use Rattle.laws.specs.NestFixed.{Blind, nest-fixed, fixed_two}
use Rattle.geometry.specs.Hits.{Ordered}
use Rattle.geometry.specs.Raster.{Point, point, raster, MetOnce}
use Rattle.geometry.proofs.Raster.{raster_numbers, raster-each}
use Rattle.types.specs.State.{origin}
use Rattle.packets.specs.Tile.{Sheet, res_of, line_x, line_y, width, height, precincts}
use Rattle.types.specs.Orders.{components_good}
use Rattle.types.specs.declared.order.Order.{Order}
use Rattle.types.specs.declared.order.Order.TheVariants.{Lrcp as lrcp, Rlcp as rlcp, Rpcl as rpcl, Pcrl as pcrl, Cprl as cprl, NoPositions as other}
use Rattle.types.specs.declared.order.Range.{Range}
use Rattle.packets.specs.Positions.{met, number_at, layers, resolutions, components, rows, columns, the_precinct, loops_of, has_positions, positions_in}
use Rattle.packets.specs.Good.{Good}
use Rattle.packets.specs.Standard.{tested, own_counter, same_counter, next_precincts, layers_of, counting, standard_loops, standard_in}
use Rattle.types.specs.declared.cursor.Position.{Position}

decides : Decides same_counter
decides =
    record {
      alike = λ a. rw (eq-eqb a.0 a.0 refl, eq-eqb a.1 a.1 refl);
      equal = λ a b e. let (c, r) = and_true (eqb a.0 b.0) (eqb a.1 b.1) e in λ i. (eqb-true a.0 b.0 c i, eqb-true a.1 b.1 r i);
    }

singles : {A B : Type 0} (f : A → B) (xs : List A) → gather (λ x. f x ∷ []) xs ≡ map f xs
unfolding gather
singles f [] = refl
singles f (x ∷ xs) = rw (singles f xs)

keep-map : {A B : Type 0} (t : B → Bool) (f : A → B) (xs : List A) → keep t (map f xs) ≡ map f (keep (λ x. t (f x)) xs)
keep-map {A} t f xs =
    gather-map (λ b. only (t b) b) f xs
    ∙ ap (λ h. gather h xs) (fun_ext (λ x. by x (t (f x))))
    ∙ sym (map-gather f (λ x. only (t (f x)) x) xs)
  where
    by : (x : A) (b : Bool) → only b (f x) ≡ map f (only b x)
    by x true = refl
    by x false = refl

-- the position of component c and resolution r at a point
abbrev placed : ℕ → ℕ → Point → Position
placed c r q = record { layno = 0; resno = r; compno = c; precno = 0; x = q.x; y = q.y }

module _ (s : Sheet) where
  -- with a formula for k, the loops are 01's
  with_formula : (g : Range) (p : Position) → nest (the_precinct s ∷ layers g ∷ []) p ≡ gather (λ q. layers_of g (q, number_at s q)) (only (met s p) p)
  unfolding nest gather
  with_formula g p = by (met s p) refl
    where
      n : ℕ
      n = number_at s p

      by : (t : Bool) → met s p ≡ t → nest (the_precinct s ∷ layers g ∷ []) p ≡ gather (λ q. layers_of g (q, number_at s q)) (only t p)
      by true e = rw (e, span_head n (n + 1) (omega arith), span_end (n + 1) (n + 1) (omega arith))
      by false e = rw (e, span_end n n (omega arith))

  -- T.800's test, of a resolution that has precincts, is 01's
  tested-met : (p : Position) → (tested s p && ltb 0 (precincts s p.compno p.resno)) ≡ met s p
  unfolding tested met
  tested-met p = by (ltb p.resno (res_of s.st p.compno)) _ _
    where
      by : (t h : Bool) (n : ℕ) → ((t && h) && ltb 0 (cond t n 0)) ≡ (ltb 0 (cond t n 0) && h)
      by true h n = and_comm h (ltb 0 n)
      by false h n = refl

  -- the visits for (i, r) are the points of the tile
  points-of : (c r : ℕ) → nest (rows s ∷ columns s ∷ []) (placed c r (point 0 0)) ≡ map (placed c r) (raster (line_x s c r) (line_y s c r))
  unfolding nest raster
  points-of c r =
      rw (map-gather (placed c r) (λ y. map (point y) (span s.st.tx0 s.st.tx1)) (span s.st.ty0 s.st.ty1))
      (ap (λ f. gather f (span s.st.ty0 s.st.ty1))
      (fun_ext (λ y. singles (λ x. placed c r (point y x)) (span s.st.tx0 s.st.tx1) ∙ sym (map-map (placed c r) (point y) (span s.st.tx0 s.st.tx1)))))

  -- a resolution with precincts is one that the component has
  has_resolution : (c r : ℕ) → 0 < precincts s c r → ltb r (res_of s.st c) ≡ true
  has_resolution c r some = (cond_some (ltb r (res_of s.st c)) (width s c r * height s c r) some).0

  module _ (good : Good s) (c r : ℕ) (h : c < s.st.components) where
    ordered_x : Ordered (line_x s c r)
    ordered_x = record { positive = good.step_x_lem c h; upward = good.upward_x }

    ordered_y : Ordered (line_y s c r)
    ordered_y = record { positive = good.step_y_lem c h; upward = good.upward_y }

    -- the points that pass are given the precincts in order
    numbers : 0 < precincts s c r → map (number_at s) (keep (tested s) (map (placed c r) (raster (line_x s c r) (line_y s c r)))) ≡ span 0 (precincts s c r)
    unfolding tested number_at
    numbers some =
        let t = has_resolution c r some in
        rw (keep-map (tested s) (placed c r) (raster (line_x s c r) (line_y s c r)), map-map, t)
        (raster_numbers (line_x s c r) (line_y s c r) ordered_x ordered_y (rw t at some))

    -- EACH PRECINCT of resolution r of component c is met at exactly one point of the tile
    pub precinct_once : (n : ℕ) → n < precincts s c r → MetOnce (line_x s c r) (line_y s c r) n
    precinct_once n b =
        let some : 0 < precincts s c r = omega arith in
        let t = has_resolution c r some in
        raster-each (line_x s c r) (line_y s c r) ordered_x ordered_y (rw t at some) n (rw t at b)

  module _ (g : Range) where
    -- the visits of component c and resolution r: none, or every point of the tile row by row
    abbrev Visited : List (Loop Position) → ℕ → ℕ → Type 0
    Visited ls c r =
        (of same_counter own_counter (c, r) (nest ls origin) ≡ [])
        ⊎ (((g.compno0 ≤ c) × (c < g.compno1)) × (of same_counter own_counter (c, r) (nest ls origin) ≡ nest (rows s ∷ columns s ∷ []) (placed c r (point 0 0))))

    -- the loops ks, components, ls; and, without components, ms, resolutions, ns; and, without both, rows and columns
    abbrev Split : List (Loop Position) → List (Loop Position) → List (Loop Position) → List (Loop Position) → Type 0
    Split ks ls ms ns =
        Apart (components g ∷ ls) × Blind (components g) ks × Apart (resolutions g ∷ ns) × Blind (resolutions g) ms
        × (ks ++ ls ≡ ms ++ (resolutions g ∷ ns)) × (ms ++ ns ≡ rows s ∷ columns s ∷ [])

    module _ (ks ls ms ns : List (Loop Position)) (h : Split ks ls ms ns) where
      visited : (c r : ℕ) → Visited (ks ++ (components g ∷ ls)) c r
      visited c r =
          fixed_two (λ q. eqb q.compno c) (λ q. eqb q.resno r) (nest (ks ++ (components g ∷ ls)) origin) {B = (g.resno0 ≤ r) × (r < g.resno1)} _ _
          (nest-fixed (components g) ls h.0 c ks h.1 (λ p x. refl) g.compno0 g.compno1 (λ p. refl) (λ p. refl) origin)
          (rw (h.4, sym h.5) (nest-fixed (resolutions g) ns h.2 r ms h.3 (λ p x. refl) g.resno0 g.resno1 (λ p. refl) (λ p. refl) (placed c 0 (point 0 0))))

      -- counted or computed, k is the same
      agrees : Good s → components_good s.st g ≡ true
          → counting s g (ks ++ (components g ∷ ls)) ≡ nest ((ks ++ (components g ∷ ls)) ++ (the_precinct s ∷ layers g ∷ [])) origin
      unfolding next_precincts
      agrees good k =
          let fits : g.compno1 ≤ s.st.components = leb-true _ _ (and_true (ltb g.compno0 s.st.components) _ k).1 in
          let l : List Position = nest (ks ++ (components g ∷ ls)) origin in
          ap (gather (layers_of g))
          (tally_agrees same_counter decides own_counter (tested s) (λ (i : ℕ × ℕ). precincts s i.0 i.1) (number_at s) (λ i. 0) l
          (λ i some. ⊎_elim inl (λ e. inr (rw (e.1, points-of i.0 i.1) (numbers good i.0 i.1 (omega arith) some))) (visited i.0 i.1)))
          ∙ gather-map (layers_of g) (λ p. (p, number_at s p)) (keep (λ p. tested s p && ltb 0 (precincts s p.compno p.resno)) l)
          ∙ ap (λ t. gather (λ p. layers_of g (p, number_at s p)) (keep t l)) (fun_ext tested-met)
          ∙ gather-gather (λ p. layers_of g (p, number_at s p)) (λ p. only (met s p) p) l
          ∙ ap (λ f. gather f l) (fun_ext (λ p. sym (with_formula g p)))
          ∙ sym (nest-append (ks ++ (components g ∷ ls)) (the_precinct s ∷ layers g ∷ []) origin)

    loops_agree : Good s → (o : Order) → has_positions s g o ≡ true → standard_loops s g o ≡ nest (loops_of s g o) origin
    loops_agree good lrcp k = refl
    loops_agree good rlcp k = refl
    loops_agree good rpcl k = agrees (resolutions g ∷ rows s ∷ columns s ∷ []) [] [] (rows s ∷ columns s ∷ []) (search up_grows depth 24) good k
    loops_agree good pcrl k = agrees (rows s ∷ columns s ∷ []) (resolutions g ∷ []) (rows s ∷ columns s ∷ []) [] (search up_grows depth 24) good k
    loops_agree good cprl k = agrees [] (rows s ∷ columns s ∷ resolutions g ∷ []) (rows s ∷ columns s ∷ []) [] (search up_grows depth 24) good k
    loops_agree good other k = absurd (false≢true k)

-- THEOREM 1. The standard's loops with their own counters list what 01's formula gives: the same packets, in the same order, met at the same points.
pub standard_positions : (s : Sheet) → Good s → (g : Range) (o : Order) → standard_in s g o ≡ positions_in s g o
unfolding standard_in positions_in
standard_positions s good g o = by (has_positions s g o) refl
  where
    by : (t : Bool) → has_positions s g o ≡ t → cond t (standard_loops s g o) [] ≡ cond t (nest (loops_of s g o) origin) []
    by true e = loops_agree s g good o e
    by false e = refl
