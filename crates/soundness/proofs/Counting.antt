-- The total: the ranges are kept, the layers over a component are raised range by range, and the sum is the definition's, with every part of it small. Assumes
-- nothing.
use Rattle.std.proofs.Common.{below_more}
use Rattle.std.proofs.lemmas.List.{get_or-take}
use mathlib.Core.Path.{◌≡◌, refl, sym, ap, ◌∙◌}
use mathlib.Core.Bool.{Bool, true, false, cond, ◌&&◌}
use mathlib.Core.List.{List}
use mathlib.Core.Logic.{⊎_elim}
use Prim.Native.Nat.{ℕ, zero, suc, ◌+◌, ◌*◌, ◌≤◌, ◌<◌, min, max}
use native.Mathlib.Omega.{arith}
use lib.ListN.{length, get_or, set, take, replicate, length-set, length-replicate, get_or-replicate}
use lib.Seq.{get_or-set_same, get_or-set_other}
use lib.Dec.{ltb, leb}
use borrow.Author.Tests.{lt-ltb, le-ltb, le-leb, lt-leb}
use Rattle.laws.specs.Cases.{le_or_lt, and_false}
use Rattle.laws.specs.Below.{sum_below, sum_none, sum_more, sum_part, max_below, max_none, max_more}
use Rattle.laws.specs.Pointwise.{max-same}
use Rattle.types.specs.Orders.{order_of, range_of, components_good}
use Rattle.types.specs.declared.order.Order.{Order}
use Rattle.types.specs.declared.order.Order.TheVariants.{Lrcp as lrcp, Rlcp as rlcp, Rpcl as rpcl, Pcrl as pcrl, Cprl as cprl, NoPositions as other}
use Rattle.types.specs.declared.order.Range.{Range}
use Rattle.types.specs.declared.state.Progression.{Progression}
use Rattle.types.specs.declared.state.State.{State}
use Rattle.types.specs.declared.table.Entry.{Entry}
use Rattle.packets.specs.Tile.{Sheet, res_of, precincts, entries_before}
use Rattle.packets.specs.Grid.{change_of}
use Rattle.packets.specs.Positions.{has_positions}
use Rattle.packets.specs.Table.{sheet_at}
use Rattle.packets.specs.Totals.{layers_by, layers_admitted, total}
use Rattle.packets.specs.Meaning.{Sound, Fit, sound-means}
use Rattle.packets.proofs.Entered.{few_before, few-precincts}
use Rattle.packets.proofs.Admitted.{total-few}
use Rattle.soundness.specs.Totals.{is_order, layers_for, with_layers, range_at, Ranged, between, Raised, layers_in, layers_to, layers_over, precincts_at, packets_of, Few}
use Rattle.soundness.specs.Reached.{Reached}
use Rattle.soundness.proofs.Resolution.{entry, count_is}

-- what stands before a place that is written stays
past : (l : List ℕ) (i j a : ℕ) → j < i → get_or (set l i a) j 0 ≡ get_or l j 0
past l i j a h = get_or-set_other l i j a 0 (λ e. omega arith)

-- the ranges of one progression more are kept
pub ranged_more : (st : State) (kept : List Range) (k : ℕ) → k < length kept → Ranged st kept k → {g : Range} {l : ℕ}
    → g ≡ range_of st (change_of st k) → l ≡ layers_for st (change_of st k) g → Ranged st (set kept k (with_layers g l)) (k + 1)
ranged_more st kept k h w {g} {l} e d =
    below_more _ _
    (λ i p. get_or-set_other kept k i (with_layers g l) _ (λ z. omega arith) ∙ w i p)
    (get_or-set_same kept k (with_layers g l) _ h ∙ rw (d, e))

-- and those of the first n alone are the same
pub ranged_first : (st : State) (kept : List Range) (n : ℕ) → Ranged st kept n → Ranged st (take n kept) n
ranged_first st kept n w k h = get_or-take n kept k _ h ∙ w k h

-- LAYERS RAISED from a up to r
none_between : (a b i : ℕ) → b ≤ a → between a b i ≡ false
none_between a b i h = ⊎_elim (λ (p : a ≤ i). rw (le-ltb i b (omega arith)) (and_false (leb a i))) (λ p. rw (lt-leb a i p)) (le_or_lt a i)

module _ (held : List ℕ) (a layers : ℕ) where
  pub raised_none : length held ≡ 33 → Raised held a a layers held
  raised_none long =
      record {
        long = long;
        each = λ i. rw (none_between a a i (omega arith)) (omega arith);
      }

  -- one resolution more
  pub raised_more : {most : List ℕ} {r : ℕ} → a ≤ r → r < 33 → Raised held a r layers most → Raised held a (r + 1) layers (set most r (max (get_or most r 0) layers))
  raised_more {most} {r} h few w = record { long = length-set most r n ∙ w.long; each = at }
    where
      n : ℕ
      n = max (get_or most r 0) layers

      at : (i : ℕ) → get_or (set most r n) i 0 ≡ max (get_or held i 0) (cond (between a (r + 1) i) layers 0)
      at i =
          ⊎_elim
          (λ (p : i ≤ r).
          ⊎_elim
          (λ (q : r ≤ i).
          let e : i ≡ r = omega arith in
          rw (e, get_or-set_same most r n 0 (omega (arith, w.long)), w.each r, le-leb a r h, lt-ltb r (r + 1) (omega arith), le-ltb r r (omega arith)) (omega arith))
          (λ (q : i < r). rw (past most r i n q, w.each i, lt-ltb i r q, lt-ltb i (r + 1) (omega arith)))
          (le_or_lt r i))
          (λ (p : r < i). rw (get_or-set_other most r i n 0 (λ e. omega arith), w.each i, le-ltb i r (omega arith), le-ltb i (r + 1) (omega arith)))
          (le_or_lt i r)

  -- up to b, or where a is beyond that
  pub raised-all : {b : ℕ} {most : List ℕ} {r : ℕ} → r ≤ max a b → b ≤ r → Raised held a r layers most → Raised held a b layers most
  raised-all {b} {most} {r} h l w =
      record {
        long = w.long;
        each = λ i.
            ⊎_elim
            (λ (p : a ≤ b). let e : b ≡ r = omega arith in rw e (w.each i))
            (λ (p : b < a). rw (none_between a b i (omega arith)) (rw (none_between a r i (omega arith)) at (w.each i)))
            (le_or_lt a b);
      }

-- THE LAYERS OVER A COMPONENT, of the first k ranges
pub record Over (kept : List Range) (c m : ℕ) (most : List ℕ) (k : ℕ) : Type 0 where
  pub long : length most ≡ 33
  pub each : (r : ℕ) → r < m → get_or most r 0 ≡ layers_to kept c r k

-- below m it does not matter that the end is at most m
cut_off : (a b m r : ℕ) → r < m → between a (min b m) r ≡ between a b r
cut_off a b m r h =
    ⊎_elim (λ (p : b ≤ r). rw (le-ltb r b p, le-ltb r (min b m) (omega arith))) (λ (p : r < b). rw (lt-ltb r b p, lt-ltb r (min b m) (omega arith))) (le_or_lt b r)

module _ (kept : List Range) (c m : ℕ) where
  pub over_none : m ≤ 33 → Over kept c m (replicate 33 0) 0
  unfolding layers_to
  over_none h = record { long = length-replicate {A = ℕ} 33 0; each = λ r l. get_or-replicate {A = ℕ} 33 r 0 0 (omega arith) ∙ sym (max_none _) }

  module _ {most : List ℕ} {k : ℕ} (w : Over kept c m most k) {g : Range} (is : g ≡ range_at kept k) where
    more : (r : ℕ) → r < m → layers_to kept c r (k + 1) ≡ max (get_or most r 0) (layers_in g c r)
    unfolding layers_to
    more r l = rw (w.each r l, is) (max_more (λ i. layers_in (range_at kept i) c r) k)

    -- a range that does not go over the component
    pub over-passed : between g.compno0 g.compno1 c ≡ false → Over kept c m most (k + 1)
    over-passed e = record { long = w.long; each = λ r l. rw (more r l, e) (omega arith) }

    -- one that does
    pub over-raised : between g.compno0 g.compno1 c ≡ true → {b : ℕ} → b ≡ min g.resno1 m → {next : List ℕ} → Raised most g.resno0 b g.layno1 next
        → Over kept c m next (k + 1)
    over-raised e d u = record { long = u.long; each = λ r l. rw (more r l, e, u.each r, d, cut_off g.resno0 g.resno1 m r l) }

-- THE PACKETS OF A COMPONENT, resolution by resolution
module _ (kept : List Range) (table : List ℕ) (e c : ℕ) where
  pub packets_none : packets_of kept table e c 0 ≡ 0
  unfolding packets_of
  packets_none = sum_none _

  pub packets_more : (r : ℕ) → packets_of kept table e c (r + 1) ≡ packets_of kept table e c r + precincts_at table (e + r) * layers_over kept c r
  unfolding packets_of
  packets_more r = sum_more _ r

  -- so far they are few
  pub packets-few : {m : ℕ} → Few kept table e c m → (r : ℕ) → r < m → packets_of kept table e c r + precincts_at table (e + r) * layers_over kept c r ≤ 65536
  unfolding packets_of
  packets-few {m} f r h = omega (arith, f.packets, sum_part (λ i. precincts_at table (e + i) * layers_over kept c i) m r h)

-- THE LAYERS THAT A PROGRESSION ADMITS are those of the range that is kept of it
either_way : (t : Bool) (n : ℕ) → cond t n n ≡ n
either_way true n = refl
either_way false n = refl

tests_joined : (has r0 r1 c0 c1 : Bool) (l : ℕ) → cond (c0 && c1) (cond (r0 && r1) (cond has l 0) 0) 0 ≡ cond (has && (r0 && (r1 && (c0 && c1)))) l 0
tests_joined true true true c0 c1 l = refl
tests_joined true true false c0 c1 l = either_way (c0 && c1) 0
tests_joined true false r1 c0 c1 l = either_way (c0 && c1) 0
tests_joined false r0 r1 c0 c1 l = rw (either_way (r0 && r1) 0) (either_way (c0 && c1) 0)

has_positions_lem : (s : Sheet) (g : Range) (o : Order) → (is_order o && components_good s.st g) ≡ has_positions s g o
has_positions_lem s g lrcp = refl
has_positions_lem s g rlcp = refl
has_positions_lem s g rpcl = refl
has_positions_lem s g pcrl = refl
has_positions_lem s g cprl = refl
has_positions_lem s g other = refl

pub layers_by_lem : (s : Sheet) (c r : ℕ) (q : Progression) → layers_in (with_layers (range_of s.st q) (layers_for s.st q (range_of s.st q))) c r ≡ layers_by s c r q
unfolding layers_for
layers_by_lem s c r q =
    let g : Range = range_of s.st q in
    rw (has_positions_lem s g (order_of q.prg))
    (tests_joined (has_positions s g (order_of q.prg)) (leb g.resno0 r) (ltb r g.resno1) (leb g.compno0 c) (ltb c g.compno1) g.layno1)

-- a sum depends on the values below n only
pub same-sum : (f g : ℕ → ℕ) (n : ℕ) → ((i : ℕ) → i < n → f i ≡ g i) → sum_below f n ≡ sum_below g n
unfolding sum_below
same-sum f g zero h = refl
same-sum f g (suc n) h = rw (same-sum f g n (λ i l. h i (omega arith)), h n (omega arith))

-- THE PACKETS ADMITTED of component c, and of the components below c
unfoldable pub admitted_of : Sheet → ℕ → ℕ
admitted_of s c = sum_below (λ r. precincts s c r * layers_admitted s c r) (res_of s.st c)

unfoldable pub admitted_below : Sheet → ℕ → ℕ
admitted_below s c = sum_below (admitted_of s) c

module _ (s : Sheet) where
  pub admitted_none : admitted_below s 0 ≡ 0
  unfolding admitted_below
  admitted_none = sum_none _

  admitted_more : (c : ℕ) → admitted_below s (c + 1) ≡ admitted_below s c + admitted_of s c
  unfolding admitted_below
  admitted_more c = sum_more _ c

  admitted_part : (c : ℕ) → c < s.st.components → admitted_below s c + admitted_of s c ≤ total s
  unfolding admitted_below admitted_of total
  admitted_part c h = sum_part _ s.st.components c h

  pub admitted-all : admitted_below s s.st.components ≡ total s
  unfolding admitted_below admitted_of total
  admitted-all = refl

-- the entries of a component stand after those before
module _ (st : State) where
  pub entries_none : entries_before st 0 ≡ 0
  unfolding entries_before
  entries_none = sum_none (res_of st)

  pub entries_more : (c : ℕ) → entries_before st (c + 1) ≡ entries_before st c + res_of st c
  unfolding entries_before
  entries_more c = sum_more (res_of st) c

-- a sound state, with the ranges of its progressions
module _ (st : State) (table : List ℕ) (fit : Fit st table) where
  abbrev s : Sheet
  s = sheet_at st table

  abbrev sound : Sound st table fit.marks
  sound = fit.sound

  -- the packets are few
  pub total-small : total s ≤ 65536
  total-small = omega (arith, total-few st table fit.marks ((sound-means st table fit.marks).1 sound), sound.few)

  -- an entry counts the precincts of its resolution
  module _ (c : ℕ) (h : c < st.components) where
    at : (r : ℕ) → r < res_of st c → Reached st table c r
    at r l = record { fit = fit; component = h; resolution = l }

    pub precincts_are : (r : ℕ) → r < res_of st c → precincts_at table (entries_before st c + r) ≡ precincts s c r
    precincts_are r l = ap (λ (e : Entry). e.width * e.height) (entry st table c r (at r l)) ∙ count_is st table c r (at r l)

  module _ (kept : List Range) (long : length kept ≡ st.progressions) (ranged : Ranged st kept st.progressions) where
    layers_are : (c r : ℕ) → layers_over kept c r ≡ layers_admitted s c r
    unfolding layers_to layers_admitted
    layers_are c r = ap (max_below (λ i. layers_in (range_at kept i) c r)) long ∙ max-same _ _ st.progressions (λ k h. ap (λ (g : Range). layers_in g c r) (ranged k h) ∙ layers_by_lem s c r (change_of st k))

    module _ (c : ℕ) (h : c < st.components) where
      -- the packets counted by its entries are those admitted
      packets_are : packets_of kept table (entries_before st c) c (res_of st c) ≡ admitted_of s c
      unfolding packets_of admitted_of
      packets_are = same-sum _ _ (res_of st c) (λ r l. rw (precincts_are c h r l, layers_are c r))

      -- the component's first entry is number e
      module _ {e : ℕ} (first : e ≡ entries_before st c) where
        pub packets-small : Few kept table e c (res_of st c)
        packets-small =
            rw first
            record {
              resolutions = (sound.component c h).resolutions.1;
              entry = omega (arith, few_before st table fit.marks sound c h, sound.tile.components.1);
              precincts = λ r l. rw (precincts_are c h r l) (few-precincts st table fit.marks sound c r h);
              packets = omega (arith, packets_are, admitted_part s c h, total-small);
            }

        -- one component more
        pub sum_added : {x y : ℕ} → x ≡ admitted_below s c → y ≡ packets_of kept table e c (res_of st c)
            → (x + y ≡ admitted_below s (c + 1)) × (x + y ≤ 65536)
        sum_added p q =
            let d = rw first at q in
            (omega (arith, p, d, packets_are, admitted_more s c), omega (arith, p, d, packets_are, admitted_part s c h, total-small))
