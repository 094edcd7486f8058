-- What is a position of a progression: the exact law of membership, and what every position has. Assumes nothing.
use Rattle.std.specs.Prelude.{◌≡◌, true, false, cond, ◌↔◌, ℕ, ◌+◌, ◌≤◌, ◌<◌}
use Rattle.std.proofs.Math.Path.{refl}
use Rattle.std.proofs.Common.{sym, ◌∙◌, true≢false, ⊎_elim, zero-le, arith}
use Rattle.std.proofs.lemmas.Bool.{false≢true}
use mathlib.Core.List.Memᴰ.{cases_cons as in_cons}
use mathlib.Core.List.Memᴰ.{head as here}
use mathlib.Core.List.Memᴰ.{not-nil as not_in_nil}
use mathlib.Core.List.Memᴰ.{tail as there}
use mathlib.Core.List.{List, [], ◌∷◌, Memᴰ as In}
use Rattle.laws.specs.Cases.{split}
use Rattle.laws.specs.Nest.{nest, Alike, alike-nest}
use Rattle.laws.specs.NestOnce.{Within, nest-kept, nest-within, within-nest}
use Rattle.types.specs.State.{origin}
use Rattle.packets.specs.Tile.{Sheet, res_of, precincts}
use Rattle.types.specs.Orders.{by_points, components_good}
use Rattle.types.specs.declared.order.Order.{Order}
use Rattle.types.specs.declared.order.Order.TheVariants.{Lrcp as lrcp, Rlcp as rlcp, Rpcl as rpcl, Pcrl as pcrl, Cprl as cprl, NoPositions as other}
use Rattle.types.specs.declared.order.Range.{Range}
use Rattle.packets.specs.Positions.{loops_of, has_positions, positions_in, met, number_at}
use Rattle.packets.specs.Same.{same_position, same_true}
use Rattle.packets.specs.Sound.{is_in}
use Rattle.packets.specs.Met.{MetAt}
use Rattle.packets.specs.Loops.{loops_apart, loops_steady, loops_plain, loops_back}
use Rattle.types.specs.declared.cursor.Position.{Position}

-- 01: x and y are 0 in orders 0 and 1; the other orders have loops for them
abbrev pub IsAtPoint : Order → Position → Type 0
IsAtPoint o p = by_points o ≡ false → (p.x ≡ 0) × (p.y ≡ 0)

-- a position whose x and y are 0
no_point : (p : Position) → (p.x ≡ 0) × (p.y ≡ 0) → (a b c d : ℕ)
    → ◌≡◌ {A = Position} (record { layno = a; resno = b; compno = c; precno = d; x = p.x; y = p.y }) (record { layno = a; resno = b; compno = c; precno = d; x = 0; y = 0 })
no_point p e a b c d = λ i. record { layno = a; resno = b; compno = c; precno = d; x = e.0 i; y = e.1 i }

module _ (s : Sheet) (g : Range) where
  -- to the loops of an order the origin and a position at its point are alike
  alike : (o : Order) → has_positions s g o ≡ true → (p : Position) → IsAtPoint o p → Alike (loops_of s g o) p origin
  unfolding met number_at
  alike lrcp h p e = search (no_point p (e refl)) depth 24
  alike rlcp h p e = search (no_point p (e refl)) depth 24
  alike rpcl h p e = search refl depth 24
  alike pcrl h p e = search refl depth 24
  alike cprl h p e = search refl depth 24
  alike other h p e = cc

  -- what no loop of orders 0 and 1 sets is as at the origin
  stays : (o : Order) {p : Position} → In p (nest (loops_of s g o) origin) → IsAtPoint o p
  stays lrcp h b = (nest-kept (λ p. p.x) (loops_of s g lrcp) (search refl depth 12) origin h, nest-kept (λ p. p.y) (loops_of s g lrcp) (search refl depth 12) origin h)
  stays rlcp h b = (nest-kept (λ p. p.x) (loops_of s g rlcp) (search refl depth 12) origin h, nest-kept (λ p. p.y) (loops_of s g rlcp) (search refl depth 12) origin h)
  stays rpcl h b = absurd (true≢false b)
  stays pcrl h b = absurd (true≢false b)
  stays cprl h b = absurd (true≢false b)
  stays other h b = (nest-kept (λ p. p.x) [] tt origin h, nest-kept (λ p. p.y) [] tt origin h)

  -- where there are positions they are what the loops list
  pub positions_nest : (o : Order) → has_positions s g o ≡ true → positions_in s g o ≡ nest (loops_of s g o) origin
  unfolding positions_in
  positions_nest o h = rw h

  -- and else there are none
  pub positions_none : (o : Order) → has_positions s g o ≡ false → positions_in s g o ≡ []
  unfolding positions_in
  positions_none o h = rw h

  -- a progression with a position has positions
  in_has : (o : Order) {p : Position} → In p (positions_in s g o) → has_positions s g o ≡ true
  in_has o m = split (has_positions s g o) (λ h. h) (λ h. absurd (not_in_nil (rw (positions_none o h) at m)))

  in_within : (o : Order) (p : Position) → In p (positions_in s g o) → (has_positions s g o ≡ true) × Within (loops_of s g o) p × IsAtPoint o p
  in_within o p m =
      let h = in_has o m in
      let n : In p (nest (loops_of s g o) origin) = rw (positions_nest o h) at m in
      (h, nest-within (loops_of s g o) (loops_apart s g o) (loops_steady s g o) origin n, stays o n)

  within_in : (o : Order) (p : Position) → (has_positions s g o ≡ true) × Within (loops_of s g o) p × IsAtPoint o p → In p (positions_in s g o)
  within_in o p w =
      rw (positions_nest o w.0, ← (alike-nest (loops_of s g o) p origin (alike o w.0 p w.2)))
      (within-nest (loops_of s g o) (loops_plain s g o) (loops_back s g o) p w.1)

  -- THE LAW OF MEMBERSHIP: a position of a progression is one whose numbers are within the order's loops, and at its point
  pub in_positions : (o : Order) (p : Position) → In p (positions_in s g o) ↔ ((has_positions s g o ≡ true) × Within (loops_of s g o) p × IsAtPoint o p)
  in_positions o p = (in_within o p, within_in o p)

-- is_in tests whether a position is one of a list
pub is_in_lem : (p : Position) (ps : List Position) → is_in p ps ≡ true → In p ps
unfolding is_in
is_in_lem p [] h = absurd (false≢true h)
is_in_lem p (q ∷ ps) h =
    split (same_position p q) (λ e. here ((same_true p q).0 e)) (λ e. there (is_in_lem p ps (rw (is_in, e) at h)))

-- and the other way
pub in_is : (p : Position) (ps : List Position) → In p ps → is_in p ps ≡ true
unfolding is_in
in_is p [] m = absurd (not_in_nil m)
in_is p (q ∷ ps) m =
    split (same_position p q)
    (λ t. rw (is_in, t))
    (λ t. ⊎_elim (λ e. let y : same_position p q ≡ true = (same_true p q).1 e in cc) (λ n. rw (is_in, t) (in_is p ps n)) (in_cons m))

-- WHAT EVERY POSITION HAS: a component, resolution and precinct that the tile has
pub record Inside (s : Sheet) (p : Position) : Type 0 where
  pub component : p.compno < s.st.components
  pub resolution : p.resno < res_of s.st p.compno
  pub precinct : p.precno < precincts s p.compno p.resno

-- the numbers are in the progression's ranges
pub record InRange (g : Range) (p : Position) : Type 0 where
  pub layer : p.layno < g.layno1
  pub resolution_from : g.resno0 ≤ p.resno
  pub resolution_to : p.resno < g.resno1
  pub component_from : g.compno0 ≤ p.compno
  pub component_to : p.compno < g.compno1

module _ (s : Sheet) (g : Range) where
  pub ranged : (o : Order) → has_positions s g o ≡ true → (p : Position) → Within (loops_of s g o) p → InRange g p
  ranged lrcp h p w = search refl depth 8
  ranged rlcp h p w = search refl depth 8
  ranged rpcl h p w = search refl depth 8
  ranged pcrl h p w = search refl depth 8
  ranged cprl h p w = search refl depth 8
  ranged other h p w = absurd (false≢true h)

  -- the loop over the precinct met at a point has one turn, or none
  only-met : (p : Position) → number_at s p ≤ p.precno → p.precno < cond (met s p) (number_at s p + 1) (number_at s p) → (met s p ≡ true) × (p.precno ≡ number_at s p)
  only-met p a b =
      split (met s p)
      (λ t. let k : p.precno < number_at s p + 1 = rw t at b in (t, omega arith))
      (λ t. let k : p.precno < number_at s p = rw t at b in absurd (let z : ⊥ = omega arith in z))

  -- what is within the loops of orders 2 to 4 is met
  pub pointed : (o : Order) → by_points o ≡ true → (p : Position) → Within (loops_of s g o) p → MetAt s p
  pointed lrcp h p w = absurd (false≢true h)
  pointed rlcp h p w = absurd (false≢true h)
  pointed rpcl h p w = let m = only-met p w.2.2.2.2.0 w.2.2.2.2.1 in search refl depth 8
  pointed pcrl h p w = let m = only-met p w.2.2.2.2.0 w.2.2.2.2.1 in search refl depth 8
  pointed cprl h p w = let m = only-met p w.2.2.2.2.0 w.2.2.2.2.1 in search refl depth 8
  pointed other h p w = absurd (false≢true h)

  -- the numbers of a position are in the progression's ranges
  pub in_range_lem : (o : Order) (p : Position) → In p (positions_in s g o) → InRange g p
  in_range_lem o p m = let w = (in_positions s g o p).0 m in ranged o w.0 p w.1

  -- in orders 2 to 4 its precinct is the one met at its point
  pub in_met : (o : Order) → by_points o ≡ true → (p : Position) → In p (positions_in s g o) → MetAt s p
  in_met o h p m = pointed o h p ((in_positions s g o p).0 m).1

  -- in orders 0 and 1 x and y are 0
  pub in_still : (o : Order) → by_points o ≡ false → (p : Position) → In p (positions_in s g o) → (p.x ≡ 0) × (p.y ≡ 0)
  in_still o b p m = ((in_positions s g o p).0 m).2 b

  -- the loop over the precinct met at a point takes its number
  one-turn : (p : Position) → MetAt s p → (number_at s p ≤ p.precno) × (p.precno < cond (met s p) (number_at s p + 1) (number_at s p))
  one-turn p m = let e = m.number in (omega arith, rw m.meets (omega arith))

  within-point : (o : Order) → by_points o ≡ true → (p : Position) → InRange g p → MetAt s p → Within (loops_of s g o) p
  within-point lrcp b p i m = absurd (false≢true b)
  within-point rlcp b p i m = absurd (false≢true b)
  within-point rpcl b p i m = let t = one-turn p m in search zero-le depth 16
  within-point pcrl b p i m = let t = one-turn p m in search zero-le depth 16
  within-point cprl b p i m = let t = one-turn p m in search zero-le depth 16
  within-point other b p i m = absurd (false≢true b)

  within_still : (o : Order) → has_positions s g o ≡ true → by_points o ≡ false → (p : Position) → InRange g p → p.precno < precincts s p.compno p.resno → Within (loops_of s g o) p
  within_still lrcp h b p i k = search zero-le depth 16
  within_still rlcp h b p i k = search zero-le depth 16
  within_still rpcl h b p i k = absurd (true≢false b)
  within_still pcrl h b p i k = absurd (true≢false b)
  within_still cprl h b p i k = absurd (true≢false b)
  within_still other h b p i k = absurd (false≢true h)

  -- conversely, in orders 2 to 4 what is in the ranges and met at its point is listed
  pub listed-point : (o : Order) → by_points o ≡ true → has_positions s g o ≡ true → (p : Position) → InRange g p → MetAt s p → In p (positions_in s g o)
  listed-point o b h p i m = (in_positions s g o p).1 (h, within-point o b p i m, λ f. absurd (true≢false (sym b ∙ f)))

  -- and in orders 0 and 1 each precinct in the ranges, with x and y 0
  pub listed_still : (o : Order) → by_points o ≡ false → has_positions s g o ≡ true → (p : Position) → InRange g p → p.precno < precincts s p.compno p.resno
      → p.x ≡ 0 → p.y ≡ 0 → In p (positions_in s g o)
  listed_still o b h p i k x y = (in_positions s g o p).1 (h, within_still o h b p i k, λ f. (x, y))

  -- a progression with positions has a good component range
  pub has-good : (o : Order) → has_positions s g o ≡ true → components_good s.st g ≡ true
  has-good lrcp h = h
  has-good rlcp h = h
  has-good rpcl h = h
  has-good pcrl h = h
  has-good cprl h = h
  has-good other h = absurd (false≢true h)

  -- conversely, in each of the five orders
  pub good-has : (o : Order) → (o ≡ other → ⊥) → components_good s.st g ≡ true → has_positions s g o ≡ true
  good-has lrcp n h = h
  good-has rlcp n h = h
  good-has rpcl n h = h
  good-has pcrl n h = h
  good-has cprl n h = h
  good-has other n h = absurd (n refl)
