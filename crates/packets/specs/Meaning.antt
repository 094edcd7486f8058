-- What soundness means (01, 'Sound means'): the tests of `Sound` as plain facts, and that the tests are true exactly if the facts hold. Assumes nothing.
use Rattle.std.specs.Prelude.{◌≡◌, refl, Bool, true, ◌&&◌, ◌↔◌, ◌⊎◌, ℕ, zero, suc, ◌%◌, ◌≤◌, ◌<◌, length, replicate, eqb, ℤ, pos, negsuc}
use Rattle.std.proofs.lemmas.Bool.{false≢true}
use mathlib.Core.List.{List, Memᴰ as In}
use Rattle.std.proofs.Common.{arith, le-leb}
use Rattle.std.proofs.lemmas.List.{length-replicate}
use Rattle.laws.specs.Cases.{and_true, and_both}
use Rattle.laws.specs.Below.{all_below}
use Rattle.laws.specs.Means.{Means, ltb-means, leb-means, eqb-means, means_by, and-means, or-means, if_means, all-means, from_means}
use Rattle.types.specs.State.{no_progression}
use Rattle.types.specs.Ranges.{within, component_range}
use Rattle.packets.specs.Tile.{Sheet, dx_of, dy_of, res_of, width, height, max_prec, max_res, dx_min, dy_min, needed, table_bytes}
use Rattle.types.specs.Orders.{order_of, range_of, components_good}
use Rattle.types.specs.declared.order.Order.{Order}
use Rattle.types.specs.declared.order.Order.TheVariants.{Lrcp as lrcp, Rlcp as rlcp, Rpcl as rpcl, Pcrl as pcrl, Cprl as cprl, NoPositions as other}
use Rattle.packets.specs.Grid.{everywhere, between, step_x, step_y, smallest, steps_fit, steps_divide, agreed, change_of, grid_agreed}
use Rattle.packets.specs.Table.{entry_word, sheet_at}
use Rattle.types.specs.Signed.{is_zero}
use Rattle.packets.specs.Sound.{tile_good, components_sound, no_range, progression_good, progressions_sound, entry_sound, table_sound, reports_sound, sheet_sound, state_sound, followed_sound, place_sound, positions_for, cursor_sound, sound}
use Rattle.packets.specs.Good.{Good}
use Rattle.packets.specs.Inside.{is_in_lem, in_is}
use Rattle.types.specs.declared.order.Range.{Range}
use Rattle.types.specs.declared.state.Progression.{Progression}
use Rattle.types.specs.declared.state.State.{State}
use Rattle.types.specs.declared.followed.Followed.{Followed}
use Rattle.types.specs.Totals.{total_for}
use Rattle.types.specs.declared.cursor.Position.{Position}
use Rattle.types.specs.declared.cursor.Place.{Place}
use Rattle.types.specs.declared.cursor.Place.TheVariants.{Fresh, At, Ended}
use Rattle.types.specs.declared.cursor.Cursor.{Cursor}

-- THE FACTS. From lo to hi, both included
abbrev pub Between : ℕ → ℕ → ℕ → Type 0
Between lo hi x = (lo ≤ x) × (x ≤ hi)

-- 01, 'Ranges': the tile record's
pub record TileIn (st : State) : Type 0 where
  pub upward_x : st.tx0 ≤ st.tx1
  pub upward_y : st.ty0 ≤ st.ty1
  pub layers : Between 1 65535 st.layers
  pub components : Between 1 16 st.components
  pub progressions : Between 1 32 st.progressions

-- a component's, and a place of the arrays that holds no component
pub record ComponentIn (st : State) (c : ℕ) : Type 0 where
  pub dx : Between 1 255 (dx_of st c)
  pub dy : Between 1 255 (dy_of st c)
  pub resolutions : Between 1 33 (res_of st c)

pub record NoComponent (st : State) (c : ℕ) : Type 0 where
  pub dx : dx_of st c ≡ 0
  pub dy : dy_of st c ≡ 0
  pub resolutions : res_of st c ≡ 0

-- a progression of kind 4 or 6, whose prg and components may be anything
pub record Volume (q : Progression) : Type 0 where
  pub kind : (q.kind ≡ 4) ⊎ (q.kind ≡ 6)
  pub resno0 : q.resno0 ≤ 32
  pub layno1 : q.layno1 ≤ 65535
  pub resno1 : q.resno1 ≤ 33

-- nothing is said but kind and prg
pub record NoRange (q : Progression) : Type 0 where
  pub resno0 : q.resno0 ≡ 0
  pub compno0 : q.compno0 ≡ 0
  pub layno1 : q.layno1 ≡ 0
  pub resno1 : q.resno1 ≡ 0
  pub compno1 : q.compno1 ≡ 0

-- one of kind 5, which stands alone
pub record WholeTile (st : State) (q : Progression) : Type 0 where
  pub kind : q.kind ≡ 5
  pub alone : st.progressions ≡ 1
  pub blank : NoRange q

-- an entry of the table is what setup writes
pub record EntryIn (st : State) (table : List ℕ) (c r : ℕ) : Type 0 where
  pub pdx : entry_word st table 0 c r ≤ 15
  pub pdy : entry_word st table 1 c r ≤ 15
  pub wide : entry_word st table 2 c r ≡ width (sheet_at st table) c r
  pub high : entry_word st table 3 c r ≡ height (sheet_at st table) c r

-- a fact of every resolution of every component
abbrev pub Everywhere : State → (ℕ → ℕ → Type 0) → Type 0
Everywhere st P = (c : ℕ) → c < st.components → (r : ℕ) → r < res_of st c → P c r

-- and of the components from c0 up to c1
abbrev pub InComponents : State → ℕ → ℕ → (ℕ → ℕ → Type 0) → Type 0
InComponents st c0 c1 P = (c : ℕ) → c0 ≤ c → c < c1 → (r : ℕ) → r < res_of st c → P c r

-- 01, 'Agreed grid': every step of these fits 32 bits
abbrev pub StepsFit : Sheet → ℕ → ℕ → Type 0
StepsFit s c0 c1 = InComponents s.st c0 c1 (λ c r. (step_x s c r ≤ 4294967295) × (step_y s c r ≤ 4294967295))

-- and the smallest divides every step, on each axis
abbrev pub StepsDivide : Sheet → Type 0
StepsDivide s = Everywhere s.st (λ c r. (step_x s c r % smallest (step_x s) s.st ≡ 0) × (step_y s c r % smallest (step_y s) s.st ≡ 0))

-- a progression's component range names components that there are (01; else it has no positions)
abbrev pub ComponentsIn : State → Range → Type 0
ComponentsIn st g = (g.compno0 < st.components) × (g.compno1 ≤ st.components)

-- by the order: 4 asks of its own components, where it has such; others than 2 to 4 are not tested; kind 6 does not ask that the smallest divides
abbrev pub Agreed : Sheet → ℕ → Range → Order → Type 0
Agreed s kind g lrcp = Unit
Agreed s kind g rlcp = Unit
Agreed s kind g rpcl = StepsFit s 0 s.st.components × ((kind ≡ 6) ⊎ StepsDivide s)
Agreed s kind g pcrl = StepsFit s 0 s.st.components × ((kind ≡ 6) ⊎ StepsDivide s)
Agreed s kind g cprl = ComponentsIn s.st g → StepsFit s g.compno0 g.compno1
Agreed s kind g other = Unit

abbrev pub AgreedFor : Sheet → Progression → Type 0
AgreedFor s q = Agreed s q.kind (range_of s.st q) (order_of q.prg)

-- A SOUND STATE, with its table and marks
pub record Sound (st : State) (table marks : List ℕ) : Type 0 where
  pub tile : TileIn st
  pub component : (c : ℕ) → c < st.components → ComponentIn st c
  pub component_beyond : (c : ℕ) → st.components ≤ c → c < 16 → NoComponent st c
  pub progression : (k : ℕ) → k < st.progressions → Volume (change_of st k) ⊎ WholeTile st (change_of st k)
  pub progression_beyond : (k : ℕ) → st.progressions ≤ k → k < 32 → change_of st k ≡ no_progression
  pub table_long : table_bytes st ≤ length table
  pub entry : Everywhere st (EntryIn st table)
  pub most : st.reports.max_prec ≡ max_prec (sheet_at st table)
  pub deepest : st.reports.max_res ≡ max_res st
  pub least_x : st.reports.dx_min ≡ dx_min (sheet_at st table)
  pub least_y : st.reports.dy_min ≡ dy_min (sheet_at st table)
  pub grid : (k : ℕ) → k < st.progressions → AgreedFor (sheet_at st table) (change_of st k)
  pub few : needed st ≤ 65536
  pub marks_long : needed st ≤ length marks

-- a state and a table that are sound, whatever marks are lent with them
pub record Fit (st : State) (table : List ℕ) : Type 0 where
  pub marks : List ℕ
  pub sound : Sound st table marks

-- THE TESTS MEAN THE FACTS
within-means : (lo hi x : ℕ) → Means (within lo hi x) (Between lo hi x)
within-means lo hi x = and-means (leb-means lo x) (leb-means x hi)

everywhere-means : (st : State) (f : ℕ → ℕ → Bool) {P : ℕ → ℕ → Type 0} → ((c r : ℕ) → Means (f c r) (P c r)) → Means (everywhere st f) (Everywhere st P)
everywhere-means st f m = all-means _ st.components (λ c. all-means (f c) (res_of st c) (m c))

between-means : (st : State) (c0 c1 : ℕ) (f : ℕ → ℕ → Bool) {P : ℕ → ℕ → Type 0} → ((c r : ℕ) → Means (f c r) (P c r)) → Means (between st c0 c1 f) (InComponents st c0 c1 P)
between-means st c0 c1 f m = from_means (λ c. all_below (f c) (res_of st c)) c0 c1 (λ c. all-means (f c) (res_of st c) (m c))

is_zero-means : (z : ℤ) → Means (is_zero z) (z ≡ pos 0)
is_zero-means (pos zero) = (λ e. refl, λ e. refl)
is_zero-means (pos (suc n)) = (λ e. absurd (false≢true e), λ e. cc)
is_zero-means (negsuc n) = (λ e. absurd (false≢true e), λ e. cc)

no_range-means : (q : Progression) → Means (no_range q) (NoRange q)
no_range-means q =
    means_by
    (and-means (eqb-means q.resno0 0) (and-means (eqb-means q.compno0 0) (and-means (eqb-means q.layno1 0) (and-means (eqb-means q.resno1 0) (eqb-means q.compno1 0)))))
    (λ w. search depth 12)
    (λ w. search depth 12)

blank_means : (q : Progression) → Means (eqb q.kind 0 && (is_zero q.prg && no_range q)) (q ≡ no_progression)
blank_means q =
    means_by (and-means (eqb-means q.kind 0) (and-means (is_zero-means q.prg) (no_range-means q)))
    (λ w. let n = w.1.1 in λ i. record { kind = w.0 i; prg = w.1.0 i; resno0 = n.resno0 i; compno0 = n.compno0 i; layno1 = n.layno1 i; resno1 = n.resno1 i; compno1 = n.compno1 i })
    (λ e. rw e (refl, (refl, record { resno0 = refl; compno0 = refl; layno1 = refl; resno1 = refl; compno1 = refl })))

-- the tile's ranges
pub tile-means : (st : State) → Means (tile_good st) (TileIn st)
tile-means st =
    means_by
    (and-means (leb-means st.tx0 st.tx1)
    (and-means (leb-means st.ty0 st.ty1) (and-means (within-means 1 65535 st.layers) (and-means (within-means 1 16 st.components) (within-means 1 32 st.progressions)))))
    (λ w. search depth 12)
    (λ w. search depth 12)

-- a component's ranges
pub component-means : (st : State) (c : ℕ) → Means (component_range (dx_of st c) (dy_of st c) (res_of st c)) (ComponentIn st c)
component-means st c =
    means_by (and-means (within-means 1 255 (dx_of st c)) (and-means (within-means 1 255 (dy_of st c)) (within-means 1 33 (res_of st c))))
    (λ w. search depth 12)
    (λ w. search depth 12)

no_component-means : (st : State) (c : ℕ) → Means (eqb (dx_of st c) 0 && (eqb (dy_of st c) 0 && eqb (res_of st c) 0)) (NoComponent st c)
no_component-means st c =
    means_by (and-means (eqb-means (dx_of st c) 0) (and-means (eqb-means (dy_of st c) 0) (eqb-means (res_of st c) 0))) (λ w. search depth 12) (λ w. search depth 12)

components-means : (st : State) → Means (components_sound st) (((c : ℕ) → c < st.components → ComponentIn st c) × ((c : ℕ) → st.components ≤ c → c < 16 → NoComponent st c))
unfolding components_sound
components-means st = and-means (all-means _ st.components (component-means st)) (from_means _ st.components 16 (no_component-means st))

progression_means : (st : State) (q : Progression) → Means (progression_good st q) (Volume q ⊎ WholeTile st q)
progression_means st q =
    or-means
    (means_by (and-means (or-means (eqb-means q.kind 4) (eqb-means q.kind 6)) (and-means (leb-means q.resno0 32) (and-means (leb-means q.layno1 65535) (leb-means q.resno1 33)))) (λ w. search depth 12) (λ w. search depth 12))
    (means_by (and-means (eqb-means q.kind 5) (and-means (eqb-means st.progressions 1) (no_range-means q))) (λ w. search depth 12) (λ w. search depth 12))

progressions-means : (st : State)
    → Means (progressions_sound st)
    (((k : ℕ) → k < st.progressions → Volume (change_of st k) ⊎ WholeTile st (change_of st k)) × ((k : ℕ) → st.progressions ≤ k → k < 32 → change_of st k ≡ no_progression))
unfolding progressions_sound
progressions-means st = and-means (all-means _ st.progressions (λ k. progression_means st (change_of st k))) (from_means _ st.progressions 32 (λ k. blank_means (change_of st k)))

entry-means : (st : State) (table : List ℕ) (c r : ℕ) → Means (entry_sound st table c r) (EntryIn st table c r)
unfolding entry_sound
entry-means st table c r =
    means_by
    (and-means (and-means (leb-means (entry_word st table 0 c r) 15) (leb-means (entry_word st table 1 c r) 15))
    (and-means (eqb-means (entry_word st table 2 c r) (width (sheet_at st table) c r)) (eqb-means (entry_word st table 3 c r) (height (sheet_at st table) c r))))
    (λ w. record { pdx = w.0.0; pdy = w.0.1; wide = w.1.0; high = w.1.1 })
    (λ w. ((w.pdx, w.pdy), (w.wide, w.high)))

table-means : (st : State) (table : List ℕ) → Means (table_sound st table) ((table_bytes st ≤ length table) × Everywhere st (EntryIn st table))
unfolding table_sound
table-means st table = and-means (leb-means (table_bytes st) (length table)) (everywhere-means st (entry_sound st table) (entry-means st table))

-- the steps
pub fit-means : (s : Sheet) (c0 c1 : ℕ) → Means (steps_fit s c0 c1) (StepsFit s c0 c1)
unfolding steps_fit
fit-means s c0 c1 = between-means s.st c0 c1 _ (λ c r. and-means (leb-means (step_x s c r) 4294967295) (leb-means (step_y s c r) 4294967295))

divide_means : (s : Sheet) → Means (steps_divide s) (StepsDivide s)
unfolding steps_divide
divide_means s =
    everywhere-means s.st _ (λ c r. and-means (eqb-means (step_x s c r % smallest (step_x s) s.st) 0) (eqb-means (step_y s c r % smallest (step_y s) s.st) 0))

-- a component range
pub components_in-means : (st : State) (g : Range) → Means (components_good st g) (ComponentsIn st g)
components_in-means st g = and-means (ltb-means g.compno0 st.components) (leb-means g.compno1 st.components)

pub agreed-means : (s : Sheet) (kind : ℕ) (g : Range) (o : Order) → Means (agreed s kind g o) (Agreed s kind g o)
agreed-means s kind g lrcp = (λ e. tt, λ w. refl)
agreed-means s kind g rlcp = (λ e. tt, λ w. refl)
agreed-means s kind g rpcl = and-means (fit-means s 0 s.st.components) (or-means (eqb-means kind 6) (divide_means s))
agreed-means s kind g pcrl = and-means (fit-means s 0 s.st.components) (or-means (eqb-means kind 6) (divide_means s))
agreed-means s kind g cprl = if_means (components_in-means s.st g) (fit-means s g.compno0 g.compno1)
agreed-means s kind g other = (λ e. tt, λ w. refl)

-- the agreed grid
pub grid_means : (s : Sheet)
    → Means (grid_agreed s) ((k : ℕ) → k < s.st.progressions → AgreedFor s (change_of s.st k))
unfolding grid_agreed
grid_means s =
    all-means _ s.st.progressions
    (λ k. let q : Progression = change_of s.st k in agreed-means s q.kind (range_of s.st q) (order_of q.prg))

reports_means : (s : Sheet)
    → Means (reports_sound s) ((s.st.reports.max_prec ≡ max_prec s) × ((s.st.reports.max_res ≡ max_res s.st) × ((s.st.reports.dx_min ≡ dx_min s) × (s.st.reports.dy_min ≡ dy_min s))))
unfolding reports_sound
reports_means s = and-means (eqb-means _ (max_prec s)) (and-means (eqb-means _ (max_res s.st)) (and-means (eqb-means _ (dx_min s)) (eqb-means _ (dy_min s))))

-- a state is sound exactly if these facts hold
pub sound-means : (st : State) (table marks : List ℕ) → (state_sound st table marks ≡ true) ↔ Sound st table marks
unfolding sheet_sound state_sound
sound-means st table marks =
    let s : Sheet = sheet_at st table in
    means_by
    (and-means
    (and-means (tile-means st)
    (and-means (components-means st)
    (and-means (progressions-means st) (and-means (table-means st table) (and-means (reports_means s) (and-means (grid_means s) (leb-means (needed st) 65536)))))))
    (leb-means (needed st) (length marks)))
    (λ w. search depth 24)
    (λ w. search depth 24)

-- a state and a table are sound by themselves exactly if they are with some marks
pub sheet-means : (st : State) (table : List ℕ) → (sheet_sound st table ≡ true) ↔ Fit st table
unfolding state_sound
sheet-means st table = (
  λ e. record { marks = replicate (needed st) 0; sound = (sound-means st table (replicate (needed st) 0)).0 (and_both e (le-leb (needed st) (length (replicate (needed st) 0)) (omega (arith, length-replicate {A = ℕ} (needed st) 0)))) },
  λ f. (and_true (sheet_sound st table) _ ((sound-means st table f.marks).1 f.sound)).0,
)

-- 01: a cursor is fresh, ended, or stands at a position which its progression admits
abbrev pub Admitted : Place → List Position → Type 0
Admitted Fresh ps = Unit
Admitted (At p) ps = In p ps
Admitted Ended ps = Unit

admitted-means : (p : Place) (ps : List Position) → Means (place_sound p ps) (Admitted p ps)
admitted-means Fresh ps = (λ e. tt, λ w. refl)
admitted-means (At p) ps = (is_in_lem p ps, in_is p ps)
admitted-means Ended ps = (λ e. tt, λ w. refl)

-- a cursor is sound exactly if it names a viewer and a progression of the sheet, at a place which that admits
pub record CursorIn (st : State) (table : List ℕ) (c : Cursor) : Type 0 where
  pub viewer : c.viewer < 8
  pub named : c.progression < st.progressions
  pub admitted : Admitted c.place (positions_for st table c.progression)

pub cursor-means : (st : State) (table : List ℕ) (c : Cursor) → (cursor_sound st table c ≡ true) ↔ CursorIn st table c
unfolding cursor_sound
cursor-means st table c =
    means_by
    (and-means (ltb-means c.viewer 8) (and-means (ltb-means c.progression st.progressions) (admitted-means c.place (positions_for st table c.progression))))
    (λ w. record { viewer = w.0; named = w.1.0; admitted = w.1.1 })
    (λ w. (w.viewer, (w.named, w.admitted)))

-- 02, P8: the test before opening and joining: the state, and the viewer's own total
pub followed_means : (f : Followed) (table marks : List ℕ) (v : ℕ) → (followed_sound f table marks v ≡ true) ↔ (Sound f.state table marks × (total_for f v ≤ needed f.state))
unfolding followed_sound
followed_means f table marks v = and-means (sound-means f.state table marks) (leb-means (total_for f v) (needed f.state))

-- the test before a step: these and the cursor
pub all_sound_means : (f : Followed) (table marks : List ℕ) (c : Cursor)
    → (sound f table marks c ≡ true) ↔ ((Sound f.state table marks × (total_for f c.viewer ≤ needed f.state)) × CursorIn f.state table c)
unfolding sound
all_sound_means f table marks c = and-means (followed_means f table marks c.viewer) (cursor-means f.state table c)

-- a sound state has what the theorems ask of a sheet
pub sound-good : (st : State) (table marks : List ℕ) → state_sound st table marks ≡ true → Good (sheet_at st table)
sound-good st table marks e =
    let w = (sound-means st table marks).0 e in
    record {
      upward_x = w.tile.upward_x;
      upward_y = w.tile.upward_y;
      step_x_lem = λ c h. (w.component c h).dx.0;
      step_y_lem = λ c h. (w.component c h).dy.0;
      most = w.most;
      deepest = w.deepest;
    }

pub fit-good : (st : State) (table : List ℕ) → Fit st table → Good (sheet_at st table)
fit-good st table f = sound-good st table f.marks ((sound-means st table f.marks).1 f.sound)
