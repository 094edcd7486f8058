-- The search of a progression: the walk of its order, from where its cursor stands. Assumes nothing.
use Rattle.std.specs.Prelude.{◌≡◌, refl, Bool, true, false, cond, ℕ, ◌+◌, ◌≤◌, ◌<◌}
use Rattle.std.proofs.Common.{sym, ap, ◌∙◌, true≢false, arith}
use mathlib.Core.List.{List, [], ◌∷◌, Memᴰ as In}
use Rattle.laws.specs.Nest.{resumed}
use Rattle.types.specs.State.{origin}
use Rattle.packets.specs.Tile.{Sheet, index_of}
use Rattle.types.specs.Orders.{by_points}
use Rattle.types.specs.declared.order.Order.{Order}
use Rattle.types.specs.declared.order.Order.TheVariants.{Lrcp as lrcp, Rlcp as rlcp, Rpcl as rpcl, Pcrl as pcrl, Cprl as cprl, NoPositions as other}
use Rattle.types.specs.declared.order.Range.{Range}
use Rattle.packets.specs.Positions.{loops_of, has_positions, positions_in, number_at}
use Rattle.packets.specs.Calls.{after}
use Rattle.packets.specs.Good.{Good}
use Rattle.packets.specs.Inside.{InRange, in_range_lem, in_met}
use Rattle.packets.specs.Met.{MetAt}
use Rattle.packets.proofs.Once.{index_small}
use Rattle.packets.specs.Resume.{resume_fresh, resume_behind}
use Rattle.types.specs.declared.cursor.Position.{Position}
use Rattle.types.specs.declared.cursor.Place.TheVariants as place
use Rattle.walks.specs.Walk.{Ranged}
use Rattle.walks.specs.declared.walk.Walk.{Walk}

-- where the loops of an order start whose first position is p: precincts are counted in orders 0 and 1, and met at a point in the others
abbrev pub starts_from : Sheet → Order → Position → List (Position → ℕ)
starts_from s lrcp q = (λ p. q.layno) ∷ (λ p. q.resno) ∷ (λ p. q.compno) ∷ (λ p. q.precno) ∷ []
starts_from s rlcp q = (λ p. q.resno) ∷ (λ p. q.layno) ∷ (λ p. q.compno) ∷ (λ p. q.precno) ∷ []
starts_from s rpcl q = (λ p. q.resno) ∷ (λ p. q.y) ∷ (λ p. q.x) ∷ (λ p. q.compno) ∷ number_at s ∷ (λ p. q.layno) ∷ []
starts_from s pcrl q = (λ p. q.y) ∷ (λ p. q.x) ∷ (λ p. q.compno) ∷ (λ p. q.resno) ∷ number_at s ∷ (λ p. q.layno) ∷ []
starts_from s cprl q = (λ p. q.compno) ∷ (λ p. q.y) ∷ (λ p. q.x) ∷ (λ p. q.resno) ∷ number_at s ∷ (λ p. q.layno) ∷ []
starts_from s other q = []

-- what the loops of an order have left from p on; nothing where there is no order
abbrev resumed_from : Sheet → Range → Order → Position → List Position
resumed_from s g o p = resumed (loops_of s g o) (starts_from s o p) origin

abbrev pub left_from : Sheet → Range → Order → Position → List Position
left_from s g lrcp p = resumed_from s g lrcp p
left_from s g rlcp p = resumed_from s g rlcp p
left_from s g rpcl p = resumed_from s g rpcl p
left_from s g pcrl p = resumed_from s g pcrl p
left_from s g cprl p = resumed_from s g cprl p
left_from s g other p = []

-- the first position of a walk, and the one to be tried after p
abbrev pub first_of : Walk → Position
first_of w = record { layno = 0; resno = w.resno0; compno = w.compno0; precno = 0; x = w.tx0; y = w.ty0 }

abbrev pub next_precinct : Position → Position
next_precinct p = record { layno = p.layno; resno = p.resno; compno = p.compno; precno = p.precno + 1; x = p.x; y = p.y }

abbrev pub next_layer : Position → Position
next_layer p = record { layno = p.layno + 1; resno = p.resno; compno = p.compno; precno = p.precno; x = p.x; y = p.y }

abbrev pub next_try : Order → Position → Position
next_try o p = cond (by_points o) (next_layer p) (next_precinct p)

-- a start that a walk can take: in its ranges, and in the orders by points in the tile, from its start on
pub record Startable (o : Order) (w : Walk) (p : Position) : Type 0 where
  pub resolution : w.resno0 ≤ p.resno
  pub component : w.compno0 ≤ p.compno
  pub point : by_points o ≡ true → (w.ty0 ≤ p.y) × (w.tx0 ≤ p.x)

pub first-startable : (w : Walk) (o : Order) → Startable o w (first_of w)
first-startable w o = record { resolution = omega arith; component = omega arith; point = λ b. (omega arith, omega arith) }

-- a walk of an order that has positions
pub record Ordered (s : Sheet) (g : Range) (w : Walk) (marks : List ℕ) (o : Order) : Type 0 where
  pub ranged : Ranged s g w marks
  pub good : Good s
  pub has : has_positions s g o ≡ true

-- an order that is known is one
abbrev is_order : Order → Bool
is_order lrcp = true
is_order rlcp = true
is_order rpcl = true
is_order pcrl = true
is_order cprl = true
is_order other = false

pub some : {x o : Order} → x ≡ o → is_order o ≡ true → x ≡ other → ⊥
some e t z = true≢false (sym t ∙ ap is_order (sym e ∙ z))

-- one that is neither by points nor by counts is none; by points there are three
pub other_counts : (o : Order) → by_points o ≡ false → (o ≡ lrcp → ⊥) → (o ≡ rlcp → ⊥) → o ≡ other
other_counts lrcp b f g = absurd (f refl)
other_counts rlcp b f g = absurd (g refl)
other_counts rpcl b f g = absurd (true≢false b)
other_counts pcrl b f g = absurd (true≢false b)
other_counts cprl b f g = absurd (true≢false b)
other_counts other b f g = refl

pub three_points : (o : Order) → by_points o ≡ true → (o ≡ rpcl → ⊥) → (o ≡ pcrl → ⊥) → (o ≡ cprl → ⊥) → ⊥
three_points lrcp b f g h = true≢false (sym b)
three_points rlcp b f g h = true≢false (sym b)
three_points rpcl b f g h = f refl
three_points pcrl b f g h = g refl
three_points cprl b f g h = h refl
three_points other b f g h = true≢false (sym b)

module _ (s : Sheet) (g : Range) (w : Walk) (marks : List ℕ) where
  -- a fresh cursor: everything is left
  pub from_first : (o : Order) → Ordered s g w marks o → left_from s g o (first_of w) ≡ positions_in s g o
  from_first lrcp d = let q = d.ranged in ap (λ l. resumed (loops_of s g lrcp) l origin) (rw (q.resno0, q.compno0)) ∙ sym (resume_fresh s g lrcp d.has)
  from_first rlcp d = let q = d.ranged in ap (λ l. resumed (loops_of s g rlcp) l origin) (rw (q.resno0, q.compno0)) ∙ sym (resume_fresh s g rlcp d.has)
  from_first rpcl d = let q = d.ranged in ap (λ l. resumed (loops_of s g rpcl) l origin) (rw (q.resno0, q.compno0, q.tx0, q.ty0)) ∙ sym (resume_fresh s g rpcl d.has)
  from_first pcrl d = let q = d.ranged in ap (λ l. resumed (loops_of s g pcrl) l origin) (rw (q.resno0, q.compno0, q.tx0, q.ty0)) ∙ sym (resume_fresh s g pcrl d.has)
  from_first cprl d = let q = d.ranged in ap (λ l. resumed (loops_of s g cprl) l origin) (rw (q.resno0, q.compno0, q.tx0, q.ty0)) ∙ sym (resume_fresh s g cprl d.has)
  from_first other d = absurd (true≢false (sym d.has))

  -- a cursor at p: what is after it is left
  pub from_next : (o : Order) → has_positions s g o ≡ true → (p : Position) → In p (positions_in s g o) → left_from s g o (next_try o p) ≡ after (place.At p) (positions_in s g o)
  from_next lrcp h p i = sym (resume_behind s g lrcp p i)
  from_next rlcp h p i = sym (resume_behind s g rlcp p i)
  from_next rpcl h p i = sym (resume_behind s g rpcl p i)
  from_next pcrl h p i = sym (resume_behind s g pcrl p i)
  from_next cprl h p i = sym (resume_behind s g cprl p i)
  from_next other h p i = absurd (true≢false (sym h))

  module _ (o : Order) (d : Ordered s g w marks o) (p : Position) (i : In p (positions_in s g o)) where
    pub next-startable : Startable o w (next_try o p)
    next-startable = of (by_points o) refl
      where
        q : Ranged s g w marks
        q = d.ranged

        r : InRange g p
        r = in_range_lem s g o p i

        of : (t : Bool) → by_points o ≡ t → Startable o w (cond t (next_layer p) (next_precinct p))
        of true e =
            let m : MetAt s p = in_met s g o e p i in
            record {
              resolution = omega (arith, q.resno0, r.resolution_from);
              component = omega (arith, q.compno0, r.component_from);
              point = λ b. (omega (arith, q.ty0, m.top), omega (arith, q.tx0, m.left));
            }
        of false e =
            record {
              resolution = omega (arith, q.resno0, r.resolution_from);
              component = omega (arith, q.compno0, r.component_from);
              point = λ b. absurd (true≢false (sym b ∙ e));
            }

    -- the next precinct and the next layer have a number
    pub next-small : w.layno1 ≤ 4294967295 → (p.precno < 4294967295) × (p.layno < 4294967295)
    unfolding index_of
    next-small k =
        let m = d.ranged in
        let t = index_small s d.good g o p i m.layers in
        (omega (arith, t, m.few), omega (arith, (in_range_lem s g o p i).layer, m.layno1))
