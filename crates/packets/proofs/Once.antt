-- Theorem 3, Once: a progression lists no position and no packet twice; the mark of a packet is within the marks needed, and is no other packet's. Assumes nothing.
use Rattle.std.specs.Prelude.{◌≡◌, ◌+◌, ◌*◌, ◌≤◌, ◌<◌}
use Rattle.std.proofs.Common.{sym, ◌∙◌}
use mathlib.Core.List.{Memᴰ as In}
use native.Mathlib.Omega.{arith}
use Rattle.std.proofs.Math.Arith.{digits_lt}
use Rattle.laws.specs.Cases.{split}
use Rattle.laws.specs.Lists.{NoRepeats, none}
use Rattle.laws.specs.Digits.{same-high, same-low}
use Rattle.laws.specs.Below.{max_below, max-at}
use Rattle.laws.specs.NestOnce.{nest_once}
use Rattle.types.specs.State.{origin}
use Rattle.packets.specs.Tile.{Sheet, res_of, precincts, max_prec, max_res, stride_c, stride_r, stride_l, needed, index_of}
use Rattle.types.specs.Orders.{by_points}
use Rattle.types.specs.declared.order.Order.{Order}
use Rattle.types.specs.declared.order.Range.{Range}
use Rattle.packets.specs.Positions.{loops_of, has_positions, positions_in}
use Rattle.packets.specs.Good.{Good}
use Rattle.packets.specs.Loops.{loops_apart}
use Rattle.packets.proofs.MetOnce.{met_once}
use Rattle.packets.specs.Same.{same_numbers}
use Rattle.packets.specs.Inside.{Inside, positions_nest, positions_none, in_range_lem, in_met, in_still}
use Rattle.packets.proofs.Inside.{inside}
use Rattle.types.specs.declared.cursor.Position.{Position}

module _ (s : Sheet) (g : Range) where
  -- no position is listed twice
  pub positions_once : (o : Order) → NoRepeats (positions_in s g o)
  positions_once o =
      split (has_positions s g o)
      (λ h. rw (positions_nest s g o h) (nest_once (loops_of s g o) (loops_apart s g o) origin))
      (λ h. rw (positions_none s g o h) none)

  -- nor is a packet: two positions with the same layer, resolution, component and precinct are one
  pub packet_once : Good s → (o : Order) (p q : Position) → In p (positions_in s g o) → In q (positions_in s g o)
      → p.layno ≡ q.layno → p.resno ≡ q.resno → p.compno ≡ q.compno → p.precno ≡ q.precno → p ≡ q
  packet_once good o p q m n l r c k = same_numbers l r c k point.0 point.1
    where
      point : (p.x ≡ q.x) × (p.y ≡ q.y)
      point =
          split (by_points o)
          (λ b. met_once s good p q (inside s g good o p m).component (in_met s g o b p m) (in_met s g o b q n) c r k)
          (λ b. let e = in_still s g o b p m in let f = in_still s g o b q n in (cc, cc))

module _ (s : Sheet) (good : Good s) where
  -- the precinct is below the largest count
  pub below_most : (p : Position) → Inside s p → p.precno < s.st.reports.max_prec
  unfolding max_prec
  below_most p i =
      let a = max-at (precincts s p.compno) (res_of s.st p.compno) p.resno i.resolution in
      let b = max-at (λ c. max_below (precincts s c) (res_of s.st c)) s.st.components p.compno i.component in
      omega (arith, good.most, i.precinct)

  -- and the resolution below the largest number of resolutions
  pub below_deepest : (p : Position) → Inside s p → p.resno < s.st.reports.max_res
  unfolding max_res
  below_deepest p i = omega (arith, good.deepest, i.resolution, max-at (res_of s.st) s.st.components p.compno i.component)

  -- two and three digits of an index
  below-component : (p : Position) → Inside s p → p.compno * stride_c s.st + p.precno < stride_r s.st
  below-component p i = digits_lt i.component (below_most p i)

  below_resolution : (p : Position) → Inside s p → p.resno * stride_r s.st + (p.compno * stride_c s.st + p.precno) < stride_l s.st
  below_resolution p i = digits_lt (below_deepest p i) (below-component p i)

  index_digits : (p : Position) → index_of s.st p ≡ p.layno * stride_l s.st + (p.resno * stride_r s.st + (p.compno * stride_c s.st + p.precno))
  unfolding index_of
  index_digits p = omega arith

  -- the mark of a packet of the tile is within the marks needed
  pub index_below : (p : Position) → Inside s p → p.layno < s.st.layers → index_of s.st p < needed s.st
  unfolding needed
  index_below p i h = rw (index_digits p) (digits_lt h (below_resolution p i))

  -- the same of a position of a progression
  pub index_small : (g : Range) (o : Order) (p : Position) → In p (positions_in s g o) → g.layno1 ≤ s.st.layers → index_of s.st p < needed s.st
  index_small g o p m h = index_below p (inside s g good o p m) (omega (arith, (in_range_lem s g o p m).layer))

  -- two packets with one mark are one
  pub index_apart : (p q : Position) → Inside s p → Inside s q → index_of s.st p ≡ index_of s.st q
      → (p.layno ≡ q.layno) × (p.resno ≡ q.resno) × (p.compno ≡ q.compno) × (p.precno ≡ q.precno)
  index_apart p q i j e =
      let a = sym (index_digits p) ∙ e ∙ index_digits q in
      let b = same-low p.layno q.layno (below_resolution p i) (below_resolution q j) a in
      let c = same-low p.resno q.resno (below-component p i) (below-component q j) b in (
        same-high p.layno q.layno (below_resolution p i) (below_resolution q j) a,
        same-high p.resno q.resno (below-component p i) (below-component q j) b,
        same-high p.compno q.compno (below_most p i) (below_most q j) c,
        same-low p.compno q.compno (below_most p i) (below_most q j) c,
      )
