-- The plan of a progression, made once: its order and its walk; what it is planned from, and what it goes over. Assumes nothing.
use Rattle.std.specs.Prelude.{◌≡◌, refl, Bool, true, false, cond, ◌&&◌, ℕ, ◌≤◌, ◌<◌, min, ltb, Option}
use Rattle.std.proofs.Common.{sym, ap, ◌∙◌, true≢false, arith, lt-ltb}
use mathlib.Core.List.Memᴰ.{head as here}
use mathlib.Core.List.Memᴰ.{not-nil as not_in_nil}
use mathlib.Core.List.{List, [], ◌∷◌, Memᴰ as In}
use Rattle.laws.specs.Cases.{split, and_true, and_both}
use Rattle.laws.specs.Means.{leb-means}
use Rattle.laws.specs.Below.{max-at, max-least}
use Rattle.laws.specs.Runs.{seek}
use Rattle.packets.specs.Tile.{Sheet, index_of, res_of, max_res, stride_c, stride_r, stride_l}
use Rattle.types.specs.Orders.{range_of, order_of, by_points, components_good}
use Rattle.types.specs.declared.order.Order.{Order}
use Rattle.types.specs.declared.order.Order.TheVariants.{Lrcp as lrcp, Rlcp as rlcp, Rpcl as rpcl, Pcrl as pcrl, Cprl as cprl, NoPositions as other}
use Rattle.types.specs.declared.order.Range.{Range}
use Rattle.packets.specs.Positions.{has_positions, positions_in}
use Rattle.packets.specs.Table.{sheet_at}
use Rattle.packets.specs.Grid.{change_of}
use Rattle.packets.specs.Sound.{positions_for}
use Rattle.packets.specs.Meaning.{Sound, StepsFit, ComponentsIn, Agreed, components_in-means, sound-good, sound-means}
use Rattle.packets.specs.Good.{Good}
use Rattle.packets.specs.Ended.{ended_at}
use Rattle.packets.proofs.Ended.{positions_ended}
use Rattle.packets.specs.Inside.{has-good, good-has, positions_none, in_positions, in_range_lem}
use Rattle.packets.proofs.Inside.{inside}
use Rattle.packets.proofs.Once.{below_most}
use Rattle.packets.proofs.Turns.{layers-within}
use Rattle.types.specs.declared.state.State.{State}
use Rattle.types.specs.declared.state.Progression.{Progression}
use Rattle.packets.specs.Calls.{after}
use Rattle.types.specs.declared.cursor.Position.{Position}
use Rattle.types.specs.declared.cursor.Place.TheVariants as place
use Rattle.walks.specs.Prepared.{Prep, Counts}
use Rattle.walks.specs.FromSound.{AllFilled, sound_play}
use Rattle.walks.specs.Walk.{answer_of, Ranged, Counted, Ready}
use Rattle.walks.specs.Counting.{AllCounted}
use Rattle.walks.specs.Search.{left_from, first_of, next_try, Startable, some, Ordered, from_first, from_next, next-startable, next-small}
use Rattle.walks.specs.declared.walk.Walk.{Walk}
use Rattle.walks.specs.declared.plan.Plan.{Plan}

-- the walk of viewer v over a range of a state's tile
abbrev pub walk_for : State → Range → ℕ → Walk
walk_for st g v =
    record {
      viewer = v;
      layno1 = g.layno1;
      resno0 = g.resno0;
      resno1 = g.resno1;
      compno0 = g.compno0;
      compno1 = g.compno1;
      tx0 = st.tx0;
      ty0 = st.ty0;
      tx1 = st.tx1;
      ty1 = st.ty1;
      stride_l = stride_l st;
      stride_r = stride_r st;
      stride_c = stride_c st;
    }

-- a progression's range, up to the largest number of resolutions: its positions are the same (packets, Ended)
abbrev pub goes_over : State → Progression → Range
goes_over st q = ended_at st.reports.max_res (range_of st q)

-- whether a range can admit a position: there are precincts, layers, resolutions and components, and its components are good
abbrev pub admits : State → Range → Bool
admits st g =
    ltb 0 st.reports.max_prec
    && (ltb 0 g.layno1 && (ltb g.resno0 (min g.resno1 st.reports.max_res) && (ltb g.compno0 g.compno1 && components_good st g)))

-- the order to walk in: none where no position is admitted
unfoldable pub order_in : State → Progression → Order
order_in st q = cond (admits st (range_of st q)) (order_of q.prg) other

pub order_admitted : (st : State) (q : Progression) → admits st (range_of st q) ≡ true → order_of q.prg ≡ order_in st q
unfolding order_in
order_admitted st q e = rw e

pub order_none : (st : State) (q : Progression) → admits st (range_of st q) ≡ false → other ≡ order_in st q
unfolding order_in
order_none st q e = rw e

-- a progression of a sound state, planned
pub record Planned (st : State) (table : List ℕ) (k : ℕ) (plan : Plan) (marks : List ℕ) : Type 0 where
  pub sound : Sound st table marks
  pub known : k < st.progressions
  pub order : plan.order ≡ order_in st (change_of st k)
  pub walk : plan.walk ≡ walk_for st (goes_over st (change_of st k)) plan.walk.viewer

abbrev pub SomePlanned : State → List ℕ → Plan → List ℕ → Type 0
SomePlanned st table plan marks = (k : ℕ) × Planned st table k plan marks

-- what a search of it finds from p on: the first free of what its order has left there
abbrev pub SearchedFrom : State → List ℕ → Plan → List ℕ → Position → Option Position → Type 0
SearchedFrom st table plan marks p found =
    (k : ℕ) → Planned st table k plan marks
    → answer_of found ≡ seek plan.walk.viewer (index_of st) marks (left_from (sheet_at st table) (goes_over st (change_of st k)) plan.order p)

-- a walk that was made for a viewer is his
pub planned_walk : (st : State) (g : Range) (w : Walk) (v : ℕ) → w ≡ walk_for st g v → w ≡ walk_for st g w.viewer
planned_walk st g w v e = e ∙ ap (walk_for st g) (sym (ap (λ (x : Walk). x.viewer) e))

-- there is an order or none
dec_other : (o : Order) → Dec (o ≡ other)
dec_other lrcp = no (some refl refl)
dec_other rlcp = no (some refl refl)
dec_other rpcl = no (some refl refl)
dec_other pcrl = no (some refl refl)
dec_other cprl = no (some refl refl)
dec_other other = yes refl

none_in : (ps : List Position) → ((p : Position) → In p ps → ⊥) → ps ≡ []
none_in [] f = refl
none_in (p ∷ ps) f = absurd (f p (here refl))

module _ (st : State) (table : List ℕ) (k : ℕ) (plan : Plan) (marks : List ℕ) (d : Planned st table k plan marks) where
  abbrev sheet : Sheet
  sheet = sheet_at st table

  abbrev q : Progression
  q = change_of st k

  abbrev range : Range
  range = goes_over st q

  abbrev o : Order
  o = order_of q.prg

  good : Good sheet
  good = sound-good st table marks ((sound-means st table marks).1 d.sound)

  -- resolutions go up to 33
  range-deep : range.resno1 ≤ 33
  unfolding max_res
  range-deep = omega (arith, d.sound.deepest, max-least (res_of st) st.components 33 (λ c h. (d.sound.component c h).resolutions.1))

  over-range : positions_in sheet range o ≡ positions_for st table k
  unfolding max_res
  over-range = positions_ended sheet (range_of st q) st.reports.max_res good (λ c h. omega (arith, d.sound.deepest, max-at (res_of st) st.components c h)) o

  -- A PLAN WITH AN ORDER goes by the progression's
  module _ (n : plan.order ≡ other → ⊥) where
    admitted : admits st (range_of st q) ≡ true
    admitted = split (admits st (range_of st q)) (λ t. t) (λ t. absurd (n (d.order ∙ sym (order_none st q t))))

    is_order_lem : plan.order ≡ o
    is_order_lem = d.order ∙ sym (order_admitted st q admitted)

    fine : components_good st range ≡ true
    fine =
        let layers = (and_true (ltb 0 st.reports.max_prec) _ admitted).1 in
        let resolutions = (and_true (ltb 0 range.layno1) _ layers).1 in
        (and_true (ltb range.compno0 range.compno1) _ (and_true (ltb range.resno0 range.resno1) _ resolutions).1).1

    ranged : Ranged sheet range plan.walk marks
    ranged =
        rw d.walk
        (record {
          layno1 = refl;
          resno0 = refl;
          resno1 = refl;
          compno0 = refl;
          compno1 = refl;
          tx0 = refl;
          ty0 = refl;
          tx1 = refl;
          ty1 = refl;
          stride_l_lem = refl;
          stride-r = refl;
          stride_c_lem = refl;
          layers = layers-within st q;
          components = (leb-means range.compno1 st.components).0 (and_true (ltb range.compno0 st.components) _ fine).1;
          few = d.sound.few;
          enough = d.sound.marks_long;
        })

    pub planned-ordered : Ordered sheet range plan.walk marks plan.order
    planned-ordered = record { ranged = ranged; good = good; has = good-has sheet range plan.order n fine }

    -- its precincts are counted
    pub planned-counted : {counts : Counts} → AllCounted st table counts → Counted sheet range counts plan.walk marks
    planned-counted a =
        record {
          ranged = ranged;
          good = good;
          resolutions = range-deep;
          components = omega (arith, ranged.components, d.sound.tile.components.1);
          number = λ r c i j m l. a c r (omega (arith, ranged.components));
        }

  -- an order by points is one; the numbers of its components are prepared, and fit
  steps-fit : (kind : ℕ) (g : Range) (o : Order) → by_points o ≡ true → ComponentsIn st g → Agreed sheet kind g o → StepsFit sheet g.compno0 g.compno1
  steps-fit kind g lrcp b w a = absurd (true≢false (sym b))
  steps-fit kind g rlcp b w a = absurd (true≢false (sym b))
  steps-fit kind g rpcl b w a = λ c h i r l. a.0 c (omega arith) (omega (arith, w.1)) r l
  steps-fit kind g pcrl b w a = λ c h i r l. a.0 c (omega arith) (omega (arith, w.1)) r l
  steps-fit kind g cprl b w a = a w
  steps-fit kind g other b w a = absurd (true≢false (sym b))

  pub some_order : by_points plan.order ≡ true → plan.order ≡ other → ⊥
  some_order b e = true≢false (sym b ∙ ap by_points e)

  pub planned-ready : {prep : Prep} → AllFilled st table prep → by_points plan.order ≡ true → Ready sheet range prep plan.walk marks
  planned-ready {prep} p b =
      let n = some_order b in
      record {
        ranged = ranged n;
        play = sound_play st table marks d.sound prep range.resno0 range.resno1 range.compno0 range.compno1
            (steps-fit q.kind (range_of st q) o (ap by_points (sym (is_order_lem n)) ∙ b) ((components_in-means st (range_of st q)).0 (fine n)) (d.sound.grid k d.known))
            p
            range-deep
            (ranged n).components;
      }

  -- A PLAN WITHOUT ONE has no positions
  some_admitted : (p : Position) → In p (positions_for st table k) → admits st (range_of st q) ≡ true
  unfolding max_res
  some_admitted p i =
      let g : Range = range_of st q in
      let r = in_range_lem sheet g o p i in
      let n = inside sheet g good o p i in
      let within : p.resno < res_of st p.compno = n.resolution in
      let deep : res_of st p.compno ≤ st.reports.max_res = omega (arith, d.sound.deepest, max-at (res_of st) st.components p.compno n.component) in
      and_both (lt-ltb 0 st.reports.max_prec (omega (arith, below_most sheet good p n)))
      (and_both (lt-ltb 0 g.layno1 (omega (arith, r.layer)))
      (and_both (lt-ltb g.resno0 _ (omega (arith, r.resolution_from, r.resolution_to, within, deep)))
      (and_both (lt-ltb g.compno0 g.compno1 (omega (arith, r.component_from, r.component_to))) (has-good sheet g o ((in_positions sheet g o p).0 i).0))))

  pub planned_none : plan.order ≡ other → positions_for st table k ≡ []
  planned_none e =
      split (admits st (range_of st q))
      (λ t. positions_none sheet (range_of st q) o (ap (has_positions sheet (range_of st q)) (order_admitted st q t ∙ sym d.order ∙ e)))
      (λ t. none_in _ (λ p i. true≢false (sym (some_admitted p i) ∙ t)))

  -- so the plan's order, over its range, gives the progression's positions
  pub planned-over : positions_in sheet range plan.order ≡ positions_for st table k
  planned-over = of (dec_other plan.order)
    where
      of : Dec (plan.order ≡ other) → positions_in sheet range plan.order ≡ positions_for st table k
      of (yes e) = ap (positions_in sheet range) e ∙ positions_none sheet range other refl ∙ sym (planned_none e)
      of (no n) = ap (positions_in sheet range) (is_order_lem n) ∙ over-range

  -- FROM A PLACE: a fresh cursor leaves all of them
  pub fresh-left : left_from sheet range plan.order (first_of plan.walk) ≡ positions_for st table k
  fresh-left = of (dec_other plan.order)
    where
      of : Dec (plan.order ≡ other) → left_from sheet range plan.order (first_of plan.walk) ≡ positions_for st table k
      of (yes e) = ap (λ (x : Order). left_from sheet range x (first_of plan.walk)) e ∙ sym (planned_none e)
      of (no n) = from_first sheet range plan.walk marks plan.order (planned-ordered n) ∙ planned-over

  -- one at p what is after p
  module _ (p : Position) (i : In p (positions_for st table k)) where
    has_order : plan.order ≡ other → ⊥
    has_order e = not_in_nil (rw (planned_none e) at i)

    there : In p (positions_in sheet range plan.order)
    there = rw planned-over i

    pub at-startable : Startable plan.order plan.walk (next_try plan.order p)
    at-startable = next-startable sheet range plan.walk marks plan.order (planned-ordered has_order) p there

    pub at-small : plan.walk.layno1 ≤ 4294967295 → (p.precno < 4294967295) × (p.layno < 4294967295)
    at-small = next-small sheet range plan.walk marks plan.order (planned-ordered has_order) p there

    pub at-left : left_from sheet range plan.order (next_try plan.order p) ≡ after (place.At p) (positions_for st table k)
    at-left = from_next sheet range plan.walk marks plan.order (planned-ordered has_order).has p there ∙ ap (after (place.At p)) planned-over
