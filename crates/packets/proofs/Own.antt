-- The positions that setup's state and table give are those of the sheet's own bytes, and so those of the standard's loops over these. Assumes nothing.
use Rattle.std.specs.Prelude.{◌≡◌, refl, List, [], ◌∷◌, ◌++◌, ℕ, ◌-◌, ◌≤◌, ◌<◌, length, ltb}
use Rattle.std.proofs.Math.Path.{sym}
use Rattle.std.proofs.Common.{ap, ◌∙◌, arith}
use borrow.Author.Tests.{leb-true, ltb-true}
use Rattle.laws.specs.Cases.{and_true, split}
use Rattle.laws.specs.Axis.{up_grows}
use Rattle.laws.specs.Spans.{span_end}
use Rattle.laws.specs.Gather.{gather}
use Rattle.laws.specs.Members.{gather-same}
use Rattle.laws.specs.Nest.{Loop, nest, nest-append}
use Rattle.laws.specs.NestOnce.{Apart, Steady, Within, nest-within}
use Rattle.words.specs.Laws.{Bytes}
use Rattle.geometry.specs.Line.{Line, count}
use Rattle.types.specs.State.{origin}
use Rattle.packets.specs.Sheet.{wd, component_record, resolution_record, fields_of}
use Rattle.packets.specs.Tile.{Sheet, res_of, line_x, line_y, precincts, reported, entries_before, table_bytes}
use Rattle.types.specs.Orders.{order_of, range_of}
use Rattle.types.specs.declared.order.Order.{Order}
use Rattle.types.specs.declared.order.Order.TheVariants.{Lrcp as lrcp, Rlcp as rlcp, Rpcl as rpcl, Pcrl as pcrl, Cprl as cprl, NoPositions as other}
use Rattle.types.specs.declared.order.Range.{Range}
use Rattle.packets.specs.Grid.{change_of}
use Rattle.packets.specs.Positions.{met, number_at, layers, resolutions, components, rows, columns, every_precinct, the_precinct, loops_of, has_positions, positions_in}
use Rattle.packets.specs.Table.{entry_word, sheet_at, sheet_in}
use Rattle.packets.specs.Sound.{positions_for}
use Rattle.packets.specs.Calls.{Setup, accepted}
use Rattle.packets.specs.Good.{Good}
use Rattle.packets.specs.Alike.{Alike, max_prec-same}
use Rattle.packets.proofs.Counts.{standard_positions}
use Rattle.packets.specs.Inside.{positions_nest, positions_none, has-good}
use Rattle.packets.specs.Reading.{read-good}
use Rattle.packets.proofs.Fields.{dx_is, dy_is, res_is}
use Rattle.packets.proofs.SetupSound.{setup-alike}
use Rattle.packets.specs.WholeRun.{Passed}
use Rattle.packets.proofs.WholeRun.{accepted-sound, accepted-good}
use Rattle.packets.specs.Meaning.{Sound, sound-means}
use Rattle.packets.specs.Wanted.{sheet_of, standard_of}
use Rattle.types.specs.declared.state.Progression.{Progression}
use Rattle.types.specs.declared.state.State.{State}
use Rattle.types.specs.declared.cursor.Position.{Position}

-- a nest whose inner loops list the same wherever its outer ones may be
inner-same : (ks ls ms : List (Loop Position)) → Apart ks → Steady ks → ((q : Position) → Within ks q → nest ls q ≡ nest ms q) → nest (ks ++ ls) origin ≡ nest (ks ++ ms) origin
inner-same ks ls ms a s h =
    nest-append ks ls origin
    ∙ gather-same (nest ls) (nest ms) (nest ks origin) (λ q i. h q (nest-within ks a s origin i))
    ∙ sym (nest-append ks ms origin)

-- two sheets with one state, whose resolutions see the same axes
module _ (st : State) (px py qx qy : ℕ → ℕ → ℕ) where
  abbrev s : Sheet
  s = record { st = st; pdx = px; pdy = py }

  abbrev t : Sheet
  t = record { st = st; pdx = qx; pdy = qy }

  module _ (a : Alike s t) (c r : ℕ) (h : c < st.components) where
    precincts-same : precincts s c r ≡ precincts t c r
    precincts-same =
        split (ltb r (res_of st c))
        (λ e. let k = ltb-true r (res_of st c) e in rw (a.same_x c r h k, a.same_y c r h k))
        (λ e. rw e)

  module _ (a : Alike s t) (g : Range) (q : Position) (h : q.compno < st.components) where
    every_same : nest (every_precinct s ∷ []) q ≡ nest (every_precinct t ∷ []) q
    unfolding nest
    every_same = rw (precincts-same a q.compno q.resno h)

    -- the precinct met at a point, of a resolution that the component has and of one that it has not
    the_same : nest (the_precinct s ∷ layers g ∷ []) q ≡ nest (the_precinct t ∷ layers g ∷ []) q
    unfolding nest met number_at gather
    the_same =
        split (ltb q.resno (res_of st q.compno))
        (λ e.
        let k = ltb-true q.resno (res_of st q.compno) e in
        rw (a.same_x q.compno q.resno h k, a.same_y q.compno q.resno h k))
        (λ e. rw (e, span_end (number_at s q) (number_at s q) (omega arith), span_end (number_at t q) (number_at t q) (omega arith)))

  module _ (a : Alike s t) (g : Range) where
    has-same : (o : Order) → has_positions s g o ≡ has_positions t g o
    has-same lrcp = refl
    has-same rlcp = refl
    has-same rpcl = refl
    has-same pcrl = refl
    has-same cprl = refl
    has-same other = refl

    nest-same : (o : Order) → g.compno1 ≤ st.components → nest (loops_of s g o) origin ≡ nest (loops_of t g o) origin
    nest-same lrcp h =
        inner-same (layers g ∷ resolutions g ∷ components g ∷ []) (every_precinct s ∷ []) (every_precinct t ∷ []) (search (refl, up_grows) depth 24) (search depth 24)
        (λ q w. every_same a g q (omega arith))
    nest-same rlcp h =
        inner-same (resolutions g ∷ layers g ∷ components g ∷ []) (every_precinct s ∷ []) (every_precinct t ∷ []) (search (refl, up_grows) depth 24) (search depth 24)
        (λ q w. every_same a g q (omega arith))
    nest-same rpcl h =
        inner-same (resolutions g ∷ rows s ∷ columns s ∷ components g ∷ []) (the_precinct s ∷ layers g ∷ []) (the_precinct t ∷ layers g ∷ []) (search (refl, up_grows) depth 24) (search depth 24)
        (λ q w. the_same a g q (omega arith))
    nest-same pcrl h =
        inner-same (rows s ∷ columns s ∷ components g ∷ resolutions g ∷ []) (the_precinct s ∷ layers g ∷ []) (the_precinct t ∷ layers g ∷ []) (search (refl, up_grows) depth 24) (search depth 24)
        (λ q w. the_same a g q (omega arith))
    nest-same cprl h =
        inner-same (components g ∷ rows s ∷ columns s ∷ resolutions g ∷ []) (the_precinct s ∷ layers g ∷ []) (the_precinct t ∷ layers g ∷ []) (search (refl, up_grows) depth 24) (search depth 24)
        (λ q w. the_same a g q (omega arith))
    nest-same other h = refl

    -- their progressions have the same positions
    positions_same : (o : Order) → positions_in s g o ≡ positions_in t g o
    positions_same o =
        split (has_positions s g o)
        (λ e.
        let fits : g.compno1 ≤ st.components = leb-true _ _ (and_true (ltb g.compno0 st.components) _ (has-good s g o e)).1 in
        positions_nest s g o e ∙ nest-same o fits ∙ sym (positions_nest t g o (sym (has-same o) ∙ e)))
        (λ e. positions_none s g o e ∙ sym (positions_none t g o (sym (has-same o) ∙ e)))

-- AN ACCEPTED SHEET
module _ (sheet table marks : List ℕ) (bytes : Bytes sheet) (p : Passed sheet table marks) where
  abbrev u : Setup
  u = accepted sheet table marks

  abbrev state : State
  state = reported (sheet_in sheet)

  room : table_bytes (fields_of sheet) ≤ length table
  room = unfold reported entries_before in p.room

  -- its resolutions see the same axes by the table as by the bytes
  own-alike : Alike (sheet_at state u.table) (sheet_of sheet)
  unfolding reported
  own-alike =
      let a = setup-alike sheet bytes (read-good sheet p.read) table room in
      record { resolutions = refl; components = refl; same_x = a.same_x; same_y = a.same_y }

  own-good : Good (sheet_of sheet)
  own-good =
      let g = accepted-good sheet table marks bytes p in
      record {
        upward_x = g.upward_x;
        upward_y = g.upward_y;
        step_x_lem = g.step_x_lem;
        step_y_lem = g.step_y_lem;
        most = g.most ∙ max_prec-same (sheet_at state u.table) (sheet_of sheet) own-alike;
        deepest = g.deepest;
      }

  abbrev sound : Sound state u.table u.marks
  sound = (sound-means state u.table u.marks).0 (accepted-sound sheet table marks bytes p)

  -- THE POSITIONS OF EVERY PROGRESSION ARE THOSE OF T.800'S LOOPS over the sheet's own bytes
  pub own_positions : (k : ℕ) → positions_for state u.table k ≡ standard_of sheet k
  unfolding standard_of
  own_positions k =
      let q : Progression = change_of state k in
      positions_same state _ _ _ _ own-alike (range_of state q) (order_of q.prg)
      ∙ sym (standard_positions (sheet_of sheet) own-good (range_of state q) (order_of q.prg))

  -- the axes by the words of the sheet's records, and the counts in the table are theirs
  module _ (c r : ℕ) (h : c < wd sheet 0 6) (k : r < wd sheet (component_record sheet c) 3) where
    abbrev own_x : Line
    own_x = record { t0 = wd sheet 0 1; t1 = wd sheet 0 3; d = wd sheet (component_record sheet c) 1; level = wd sheet (component_record sheet c) 3 - 1 - r; pd = wd sheet (resolution_record sheet c r) 1 }

    abbrev own_y : Line
    own_y = record { t0 = wd sheet 0 2; t1 = wd sheet 0 4; d = wd sheet (component_record sheet c) 2; level = wd sheet (component_record sheet c) 3 - 1 - r; pd = wd sheet (resolution_record sheet c r) 2 }

    line_x_lem : line_x (sheet_of sheet) c r ≡ own_x
    unfolding reported fields_of
    line_x_lem =
        let d = dx_is sheet c h in
        let res = res_is sheet c h in
        λ i. record { t0 = wd sheet 0 1; t1 = wd sheet 0 3; d = d i; level = res i - 1 - r; pd = wd sheet (resolution_record sheet c r) 1 }

    line_y_lem : line_y (sheet_of sheet) c r ≡ own_y
    unfolding reported fields_of
    line_y_lem =
        let d = dy_is sheet c h in
        let res = res_is sheet c h in
        λ i. record { t0 = wd sheet 0 2; t1 = wd sheet 0 4; d = d i; level = res i - 1 - r; pd = wd sheet (resolution_record sheet c r) 2 }

    is_component : c < state.components
    is_component = unfold reported fields_of in h

    is_resolution : r < res_of state c
    is_resolution = unfold reported in rw (res_is sheet c h) k

    pub own_wide : entry_word state u.table 2 c r ≡ count own_x
    own_wide = (sound.entry c is_component r is_resolution).wide ∙ ap count (own-alike.same_x c r is_component is_resolution ∙ line_x_lem)

    pub own-high : entry_word state u.table 3 c r ≡ count own_y
    own-high = (sound.entry c is_component r is_resolution).high ∙ ap count (own-alike.same_y c r is_component is_resolution ∙ line_y_lem)
