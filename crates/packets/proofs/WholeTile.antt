-- Theorem 5: in each of the five orders a whole-tile progression lists every packet of the tile, each once; so the five orders list the same packets. Assumes nothing.
use Rattle.std.specs.Prelude.{◌≡◌, refl, true, ℕ, ◌-◌, ◌≤◌, ◌<◌}
use Rattle.std.proofs.Common.{ap, subst, zero-le, arith, lt-ltb, le-leb}
use mathlib.Core.List.Memᴰ.{map as in_map}
use mathlib.Core.List.Memᴰ.{of_map as in_of_map}
use mathlib.Core.List.{map, Memᴰ as In}
use Rattle.laws.specs.Cases.{split}
use Rattle.laws.specs.Axis.{span, up, up_grows}
use Rattle.laws.specs.Axes.{axis-bounds, axis-no_repeats}
use Rattle.laws.specs.Lists.{NoRepeats, Rearranged, same_elements, rearranged_sym, rearranged_trans}
use Rattle.laws.specs.Gathered.{gathered, gathered_all, Keyed, keyed_from, gather-no_repeats}
use Rattle.laws.specs.Members.{in_span}
use Rattle.laws.specs.Mapped.{map-no_repeats}
use Rattle.packets.specs.Tile.{Sheet, res_of, precincts}
use Rattle.types.specs.Orders.{whole_tile, components_good, by_points}
use Rattle.types.specs.declared.order.Order.{Order}
use Rattle.types.specs.declared.order.Order.TheVariants.{NoPositions as other}
use Rattle.types.specs.declared.order.Range.{Range}
use Rattle.packets.specs.Positions.{has_positions, positions_in}
use Rattle.packets.specs.Good.{Good}
use Rattle.packets.proofs.MetOnce.{met_some}
use Rattle.packets.specs.Inside.{Inside, InRange, in_range_lem, good-has, listed-point, listed_still}
use Rattle.packets.proofs.Inside.{inside}
use Rattle.packets.proofs.Once.{positions_once, packet_once, below_deepest}
use Rattle.types.specs.declared.cursor.Position.{Position}
use Rattle.packets.specs.WholeTile.{Packet, packet_of, position_of, packets_of_resolution, packets_of_component, packets_of_layer, packets_of, Holds}

pub below : {i n : ℕ} → In i (span 0 n) → i < n
below {i} {n} h = (axis-bounds up up_grows (n - 0) 0 n i (omega arith) h).1

pub to : {i n : ℕ} → i < n → In i (span 0 n)
to {i} {n} h = in_span i n 0 zero-le h

pub span_once : (n : ℕ) → NoRepeats (span 0 n)
span_once n = axis-no_repeats up up_grows 0 n

module _ (s : Sheet) where
  -- the numbers of a packet are those of its resolution, component and layer
  pub record Of (l c r : ℕ) (a : Packet) : Type 0 where
    pub layer : a.layno ≡ l
    pub component : a.compno ≡ c
    pub resolution : a.resno ≡ r
    pub precinct : a.precno < precincts s c r

  pub of : (l c r : ℕ) (a : Packet) → In a (packets_of_resolution s l c r) → Of l c r a
  of l c r a h =
      let m = in_of_map (λ k. record { layno = l; resno = r; compno = c; precno = k }) (span 0 (precincts s c r)) h in
      subst (Of l c r) m.2 (record { layer = refl; component = refl; resolution = refl; precinct = below m.1 })

  -- each is listed once
  pub resolution_once : (l c r : ℕ) → NoRepeats (packets_of_resolution s l c r)
  resolution_once l c r =
      map-no_repeats (λ k. record { layno = l; resno = r; compno = c; precno = k }) (λ a b i j e. ap (λ (p : Packet). p.precno) e) (span_once (precincts s c r))

  keyed_resolution : (l c : ℕ) → Keyed (λ a. a.resno) (packets_of_resolution s l c)
  keyed_resolution l c r a h = (of l c r a h).resolution

  keyed-component : (l : ℕ) → Keyed (λ a. a.compno) (packets_of_component s l)
  keyed-component l c = gathered_all (λ a. a.compno ≡ c) (packets_of_resolution s l c) (span 0 (res_of s.st c)) (λ r a h. (of l c r a h).component)

  keyed-layer : Keyed (λ a. a.layno) (packets_of_layer s)
  keyed-layer l =
      gathered_all (λ a. a.layno ≡ l) (packets_of_component s l) (span 0 s.st.components)
      (λ c. gathered_all (λ a. a.layno ≡ l) (packets_of_resolution s l c) (span 0 (res_of s.st c)) (λ r a h. (of l c r a h).layer))

  -- they are those whose numbers the tile has
  pub in_packets : (a : Packet) → In a (packets_of s) → Holds s a
  unfolding packets_of
  in_packets a h =
      let l = keyed_from (λ a. a.layno) (packets_of_layer s) keyed-layer (span 0 s.st.layers) a h in
      let c = keyed_from (λ a. a.compno) (packets_of_component s a.layno) (keyed-component a.layno) (span 0 s.st.components) a l.1 in
      let r = keyed_from (λ a. a.resno) (packets_of_resolution s a.layno a.compno) (keyed_resolution a.layno a.compno) (span 0 (res_of s.st a.compno)) a c.1 in
      record { layer = below l.0; component = below c.0; resolution = below r.0; precinct = (of a.layno a.compno a.resno a r.1).precinct }

  -- and the other way
  pub packets_in : (a : Packet) → Holds s a → In a (packets_of s)
  unfolding packets_of
  packets_in a h =
      gathered (packets_of_layer s) (to h.layer)
      (gathered (packets_of_component s a.layno) (to h.component)
      (gathered (packets_of_resolution s a.layno a.compno) (to h.resolution) (in_map _ (to h.precinct))))

  -- each is listed once
  pub packets_once : NoRepeats (packets_of s)
  unfolding packets_of
  packets_once =
      gather-no_repeats (λ a. a.layno) (packets_of_layer s) keyed-layer (span_once s.st.layers)
      (λ l. gather-no_repeats (λ a. a.compno) (packets_of_component s l) (keyed-component l) (span_once s.st.components)
      (λ c. gather-no_repeats (λ a. a.resno) (packets_of_resolution s l c) (keyed_resolution l c) (span_once (res_of s.st c)) (resolution_once l c)))

  -- a packet of the tile that is in the ranges of a progression with positions is one of its packets
  pub has-packet : Good s → (g : Range) (o : Order) → has_positions s g o ≡ true → (a : Packet) → a.compno < s.st.components → a.precno < precincts s a.compno a.resno
      → ((x y : ℕ) → InRange g (position_of a x y)) → In a (map packet_of (positions_in s g o))
  has-packet good g o has a c k range =
      split (by_points o)
      (λ b.
      let t = met_some s good a.layno a.resno a.compno a.precno c k in
      in_map packet_of (listed-point s g o b has (position_of a t.x t.y) (range t.x t.y) t.meets))
      (λ b. in_map packet_of (listed_still s g o b has (position_of a 0 0) (range 0 0) k refl refl))

  module _ (good : Good s) (some : 1 ≤ s.st.components) where
    whole-good : components_good s.st (whole_tile s.st) ≡ true
    whole-good = rw (lt-ltb 0 s.st.components some, le-leb s.st.components s.st.components (omega arith))

    -- a packet of the tile is in the ranges of the whole tile
    whole-range : (p : Position) → Holds s (packet_of p) → InRange (whole_tile s.st) p
    whole-range p h =
        let i : Inside s p = record { component = h.component; resolution = h.resolution; precinct = h.precinct } in
        record {
          layer = h.layer;
          resolution_from = zero-le;
          resolution_to = below_deepest s good p i;
          component_from = zero-le;
          component_to = h.component;
        }

    module _ (o : Order) (has : has_positions s (whole_tile s.st) o ≡ true) where
      listed-holds : (a : Packet) → In a (map packet_of (positions_in s (whole_tile s.st) o)) → Holds s a
      listed-holds a h =
          let m = in_of_map packet_of (positions_in s (whole_tile s.st) o) h in
          let i = inside s (whole_tile s.st) good o m.0 m.1 in
          subst (Holds s) m.2
          (record { layer = (in_range_lem s (whole_tile s.st) o m.0 m.1).layer; component = i.component; resolution = i.resolution; precinct = i.precinct })

      holds-listed : (a : Packet) → Holds s a → In a (map packet_of (positions_in s (whole_tile s.st) o))
      holds-listed a h = has-packet good (whole_tile s.st) o has a h.component h.precinct (λ x y. whole-range (position_of a x y) h)

      listed_once : NoRepeats (map packet_of (positions_in s (whole_tile s.st) o))
      listed_once =
          map-no_repeats packet_of
          (λ p q i j e.
          packet_once s (whole_tile s.st) good o p q i j (ap (λ (a : Packet). a.layno) e) (ap (λ (a : Packet). a.resno) e) (ap (λ (a : Packet). a.compno) e) (ap (λ (a : Packet). a.precno) e))
          (positions_once s (whole_tile s.st) o)

    -- THE THEOREM: a whole-tile progression lists every packet of the tile, each once
    pub whole-tile : (o : Order) → (o ≡ other → ⊥) → Rearranged (map packet_of (positions_in s (whole_tile s.st) o)) (packets_of s)
    whole-tile o n =
        let h = good-has s (whole_tile s.st) o n whole-good in
        same_elements (packets_of s) (listed_once o h) packets_once
        (λ a i. packets_in a (listed-holds o h a i))
        (λ a i. holds-listed o h a (in_packets a i))

    -- so the packets of two orders are rearrangements of one another
    pub orders_rearranged : (o u : Order) → (o ≡ other → ⊥) → (u ≡ other → ⊥)
        → Rearranged (map packet_of (positions_in s (whole_tile s.st) o)) (map packet_of (positions_in s (whole_tile s.st) u))
    orders_rearranged o u n k = rearranged_trans (whole-tile o n) (rearranged_sym (whole-tile u k))
