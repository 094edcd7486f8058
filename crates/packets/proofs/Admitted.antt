-- `total` is the number of packets that some progression admits, which is how many a run lists; and no more than the marks needed. Assumes nothing.
use Rattle.std.specs.Prelude.{◌≡◌, true, ◌&&◌, ℕ, ◌≤◌, ◌<◌, length, replicate}
use Rattle.std.proofs.Common.{sym, ◌∙◌, subst}
use Rattle.std.proofs.Math.Path.{ap}
use mathlib.Core.List.Memᴰ.{cast as in_cast}
use mathlib.Core.List.Memᴰ.{map as in_map}
use mathlib.Core.List.Memᴰ.{of_map as in_of_map}
use mathlib.Core.List.{List, map, Memᴰ as In}
use native.Mathlib.Omega.{arith}
use Rattle.std.proofs.lemmas.List.{length-map, length-replicate, get_or-replicate}
use Rattle.laws.specs.Cases.{and_true, cond_some}
use Rattle.laws.specs.Below.{max-at, max_some}
use Rattle.laws.specs.Gather.{gather, gather-map}
use Rattle.laws.specs.Axis.{span}
use Rattle.laws.specs.Lists.{NoRepeats, same_elements, rearranged-length}
use Rattle.laws.specs.Gathered.{gathered, gathered_from, gathered_all, Keyed, keyed_from, gather-no_repeats}
use Rattle.laws.specs.Mapped.{map-no_repeats}
use Rattle.laws.specs.Indexing.{gather-length, sum-same, sum_constant}
use Rattle.laws.specs.Pointwise.{map-length}
use Rattle.laws.specs.Means.{Means, and-means, leb-means, ltb-means}
use Rattle.laws.specs.Marks.{free_at, zero_free}
use Rattle.laws.specs.Runs.{unlisted}
use Rattle.laws.specs.Listing.{indexes, listed-of, listed_once, unlisted-within}
use Rattle.laws.specs.AllRuns.{dedupe, unlisted-dedupe}
use Rattle.laws.specs.Frees.{frees_most, unlisted-few}
use Rattle.packets.specs.Tile.{Sheet, res_of, precincts, needed, index_of}
use Rattle.types.specs.Orders.{order_of, range_of}
use Rattle.types.specs.declared.order.Order.{Order}
use Rattle.types.specs.declared.order.Range.{Range}
use Rattle.packets.specs.Grid.{change_of}
use Rattle.packets.specs.Positions.{has_positions, positions_of}
use Rattle.packets.specs.Table.{sheet_at}
use Rattle.packets.specs.Sound.{state_sound, positions_for}
use Rattle.packets.specs.Totals.{ranges_over, layers_by, layers_admitted, total}
use Rattle.packets.specs.Calls.{listed}
use Rattle.packets.specs.Good.{Good}
use Rattle.packets.specs.Inside.{Inside, InRange, in_positions, in_range_lem}
use Rattle.packets.proofs.Inside.{inside}
use Rattle.packets.proofs.Once.{index_apart}
use Rattle.packets.specs.WholeTile.{Packet, packet_of, position_of, packets_of_resolution}
use Rattle.packets.proofs.WholeTile.{below, to, span_once, of, resolution_once, has-packet}
use Rattle.packets.specs.Meaning.{sound-means, sound-good}
use Rattle.packets.proofs.Turns.{mark-needed}
use Rattle.types.specs.declared.state.Progression.{Progression}
use Rattle.types.specs.declared.state.State.{State}
use Rattle.types.specs.declared.cursor.Position.{Position}

-- the packets of a resolution that some progression admits, and of a component
abbrev admitted_in : Sheet → ℕ → ℕ → List Packet
admitted_in s c r = gather (λ l. packets_of_resolution s l c r) (span 0 (layers_admitted s c r))

abbrev admitted_of : Sheet → ℕ → List Packet
admitted_of s c = gather (admitted_in s c) (span 0 (res_of s.st c))

-- THE PACKETS THAT SOME PROGRESSION ADMITS
abbrev admitted : Sheet → List Packet
admitted s = gather (admitted_of s) (span 0 s.st.components)

-- what such a packet is
record Admits (s : Sheet) (a : Packet) : Type 0 where
  packet : Inside s (position_of a 0 0)
  layer : a.layno < layers_admitted s a.compno a.resno

module _ (s : Sheet) where
  -- the numbers of a packet are those of its layer, resolution and component
  keyed-layer : (c r : ℕ) → Keyed (λ a. a.layno) (λ l. packets_of_resolution s l c r)
  keyed-layer c r l a h = (of s l c r a h).layer

  keyed_resolution : (c : ℕ) → Keyed (λ a. a.resno) (admitted_in s c)
  keyed_resolution c r = gathered_all (λ a. a.resno ≡ r) _ _ (λ l a h. (of s l c r a h).resolution)

  keyed-component : Keyed (λ a. a.compno) (admitted_of s)
  keyed-component c = gathered_all (λ a. a.compno ≡ c) _ _ (λ r. gathered_all (λ a. a.compno ≡ c) _ _ (λ l a h. (of s l c r a h).component))

  -- so each is listed once
  admitted_once : NoRepeats (admitted s)
  admitted_once =
      gather-no_repeats _ (admitted_of s) keyed-component (span_once s.st.components)
      (λ c. gather-no_repeats _ (admitted_in s c) (keyed_resolution c) (span_once (res_of s.st c))
      (λ r. gather-no_repeats _ (λ l. packets_of_resolution s l c r) (keyed-layer c r) (span_once (layers_admitted s c r)) (λ l. resolution_once s l c r)))

  -- they are those whose numbers are so
  in_admitted : (a : Packet) → In a (admitted s) → Admits s a
  in_admitted a h =
      let c = keyed_from _ (admitted_of s) keyed-component _ a h in
      let r = keyed_from _ (admitted_in s a.compno) (keyed_resolution a.compno) _ a c.1 in
      let l = keyed_from _ (λ l. packets_of_resolution s l a.compno a.resno) (keyed-layer a.compno a.resno) _ a r.1 in
      record {
        packet = record { component = below c.0; resolution = below r.0; precinct = (of s a.layno a.compno a.resno a l.1).precinct };
        layer = below l.0;
      }

  -- and the other way
  admitted_in_lem : (a : Packet) → Admits s a → In a (admitted s)
  admitted_in_lem a h =
      gathered (admitted_of s) (to h.packet.component)
      (gathered (admitted_in s a.compno) (to h.packet.resolution)
      (gathered (λ l. packets_of_resolution s l a.compno a.resno) (to h.layer) (in_map _ (to h.packet.precinct))))

  -- their number is the sum
  admitted-length : length (admitted s) ≡ total s
  unfolding total
  admitted-length =
      gather-length (admitted_of s) s.st.components
      ∙ sum-same _ _ s.st.components
      (λ c.
      gather-length (admitted_in s c) (res_of s.st c)
      ∙ sum-same _ _ (res_of s.st c)
      (λ r.
      gather-length (λ l. packets_of_resolution s l c r) (layers_admitted s c r)
      ∙ sum-same _ _ (layers_admitted s c r) (λ l. map-length _ (precincts s c r))
      ∙ sum_constant (precincts s c r) (layers_admitted s c r)))

module _ (s : Sheet) (q : Progression) where
  abbrev g : Range
  g = range_of s.st q

  abbrev o : Order
  o = order_of q.prg

  -- the test of resolution and component
  over-means : (c r : ℕ) → Means (ranges_over g c r) ((g.resno0 ≤ r) × ((r < g.resno1) × ((g.compno0 ≤ c) × (c < g.compno1))))
  over-means c r = and-means (leb-means g.resno0 r) (and-means (ltb-means r g.resno1) (and-means (leb-means g.compno0 c) (ltb-means c g.compno1)))

  -- the layers in which a progression admits packets are those of its range, where it has positions and the range goes over them
  in_layers : (p : Position) → p.layno < layers_by s p.compno p.resno q → (has_positions s g o ≡ true) × InRange g p
  in_layers p l =
      let t = cond_some (has_positions s g o && ranges_over g p.compno p.resno) g.layno1 l in
      let b = and_true (has_positions s g o) _ t.0 in
      let w = (over-means p.compno p.resno).0 b.1 in
      (b.0, search depth 12)

  -- and the other way
  layers_in_lem : (p : Position) → has_positions s g o ≡ true → InRange g p → p.layno < layers_by s p.compno p.resno q
  layers_in_lem p has r = rw (has, (over-means p.compno p.resno).1 (search depth 12)) r.layer

module _ (s : Sheet) (good : Good s) where
  -- a position of a progression is that of a packet admitted
  position_admitted : (k : ℕ) → k < s.st.progressions → (p : Position) → In p (positions_of s (change_of s.st k)) → Admits s (packet_of p)
  unfolding layers_admitted
  position_admitted k l p i =
      let q : Progression = change_of s.st k in
      let n = inside s (g s q) good (o s q) p i in
      record {
        packet = record { component = n.component; resolution = n.resolution; precinct = n.precinct };
        layer = omega (
          arith,
          layers_in_lem s q p ((in_positions s (g s q) (o s q) p).0 i).0 (in_range_lem s (g s q) (o s q) p i),
          max-at (λ k. layers_by s p.compno p.resno (change_of s.st k)) s.st.progressions k l,
        );
      }

  -- and a packet admitted has a position of some progression
  admitted_position : (a : Packet) → Admits s a → (k : ℕ) × (k < s.st.progressions) × In a (map packet_of (positions_of s (change_of s.st k)))
  unfolding layers_admitted
  admitted_position a d =
      let w = max_some (λ k. layers_by s a.compno a.resno (change_of s.st k)) s.st.progressions a.layno d.layer in
      let q : Progression = change_of s.st w.0 in
      let has = (in_layers s q (position_of a 0 0) w.2).0 in
      (w.0, w.1, has-packet s good (g s q) (o s q) has a d.packet.component d.packet.precinct (λ x y. (in_layers s q (position_of a x y) w.2).1))

module _ (st : State) (table marks : List ℕ) (h : state_sound st table marks ≡ true) where
  abbrev s : Sheet
  s = sheet_at st table

  -- the positions of every progression
  abbrev all : List Position
  all = gather (positions_for st table) (span 0 st.progressions)

  abbrev ix : Position → ℕ
  ix = index_of st

  -- marks that are all free
  abbrev zeros : List ℕ
  zeros = replicate (needed st) 0

  zeros_long : length zeros ≡ needed st
  zeros_long = length-replicate (needed st) 0

  clear : (i : ℕ) → i < needed st → free_at 0 zeros i ≡ true
  clear i l = zero_free 0 zeros i (get_or-replicate (needed st) i 0 0 l)

  good : Good s
  good = sound-good st table marks h

  -- the marks of all positions are among them
  all-below : (p : Position) → In p all → ix p < needed st
  all-below = gathered_all (λ p. ix p < needed st) (positions_for st table) (span 0 st.progressions) (mark-needed st table marks ((sound-means st table marks).0 h))

  indexes-below : (i : ℕ) → In i (indexes ix all) → i < needed st
  indexes-below i q = let r = in_of_map ix all q in subst (λ (n : ℕ). n < needed st) r.2 (all-below r.0 r.1)

  -- from these marks what is unlisted is what is listed
  abbrev ps : List Position
  ps = unlisted 0 ix zeros all

  listed_is : ps ≡ listed st table
  unfolding listed
  listed_is =
      unlisted-dedupe 0 ix (needed st) zeros all (omega (arith, zeros_long)) clear indexes-below
      ∙ ap (λ (l : List Position). dedupe ix l) (sym (gather-map (λ ps. ps) (positions_for st table) (span 0 st.progressions)))

  all-apart : NoRepeats (indexes ix ps)
  all-apart = listed_once 0 ix zeros all (λ i q. omega (arith, zeros_long, indexes-below i q))

  -- the mark of a packet, which no other has
  abbrev mark_of : Packet → ℕ
  mark_of a = ix (position_of a 0 0)

  marks_once : NoRepeats (map mark_of (admitted s))
  marks_once =
      map-no_repeats mark_of
      (λ a b i j e.
      let w = index_apart s good (position_of a 0 0) (position_of b 0 0) (in_admitted s a i).packet (in_admitted s b j).packet e in
      λ t. record { layno = w.0 t; resno = w.1 t; compno = w.2 t; precno = w.3 t })
      (admitted_once s)

  -- what is listed has the marks of the packets admitted
  listed-marks : (i : ℕ) → In i (indexes ix ps) → In i (map mark_of (admitted s))
  unfolding index_of
  listed-marks i m =
      let r = in_of_map ix ps m in
      let w = gathered_from (positions_for st table) (span 0 st.progressions) (unlisted-within 0 ix zeros all r.0 r.1) in
      in_cast (sym r.2) (in_map mark_of (admitted_in_lem s (packet_of r.0) (position_admitted s good w.0 (below w.1) r.0 w.2)))

  -- and the other way
  marks-listed : (i : ℕ) → In i (map mark_of (admitted s)) → In i (indexes ix ps)
  unfolding index_of
  marks-listed i m =
      let r = in_of_map mark_of (admitted s) m in
      let w = admitted_position s good r.0 (in_admitted s r.0 r.1) in
      let p = in_of_map packet_of (positions_for st table w.0) w.2 in
      let n : In i (indexes ix all) = in_cast (sym (ap mark_of p.2 ∙ r.2)) (in_map ix (gathered (positions_for st table) (to w.1) p.1)) in
      listed-of 0 ix zeros all i (clear i (indexes-below i n)) n

  -- no two packets of the run's list have one mark, and every progression's packets have theirs among them
  pub marks-apart : NoRepeats (indexes ix (listed st table))
  marks-apart = subst (λ (l : List Position). NoRepeats (indexes ix l)) listed_is all-apart

  pub mark-listed : (k : ℕ) → k < st.progressions → (p : Position) → In p (positions_for st table k) → In (ix p) (indexes ix (listed st table))
  mark-listed k l p i =
      let n : In p all = gathered (positions_for st table) (to l) i in
      subst (λ (l : List Position). In (ix p) (indexes ix l)) listed_is (listed-of 0 ix zeros all (ix p) (clear (ix p) (all-below p n)) (in_map ix n))

  -- and they are marks that are needed
  pub listed-needed : (p : Position) → In p (listed st table) → ix p < needed st
  listed-needed p i = all-below p (unlisted-within 0 ix zeros all p (subst (λ (l : List Position). In p l) (sym listed_is) i))

  -- THE THEOREM: `total` is the length of the run's list
  pub total-listed : total (sheet_at st table) ≡ length (listed st table)
  total-listed =
      sym (admitted-length s)
      ∙ sym (length-map (admitted s) mark_of)
      ∙ rearranged-length
      (same_elements (indexes ix ps) marks_once all-apart marks-listed listed-marks)
      ∙ length-map ps ix
      ∙ ap (λ (l : List Position). length l) listed_is

  -- which is no more than the marks needed
  pub total-few : total (sheet_at st table) ≤ needed st
  total-few =
      let few = unlisted-few 0 ix (needed st) zeros all (λ p i. let b = all-below p i in (b, omega (arith, zeros_long))) in
      rw (total-listed, ← listed_is) (omega (arith, few, frees_most 0 (needed st) zeros))

  -- so no more packets are listed than marks are needed
  pub listed-few : length (listed st table) ≤ needed st
  listed-few = rw (← total-listed) total-few
