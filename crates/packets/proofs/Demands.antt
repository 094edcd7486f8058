-- THE DEMANDS on the calls, each as one theorem whose premises all stand in it. That every call ends, on every argument, is the kit's own proof of each function;
-- that each function answers and leaves what these definitions say is its contract (docs/CONTRACTS.md). Assumes nothing.
use Rattle.std.specs.Prelude.{◌≡◌, refl, true, ℕ, ◌+◌, ◌-◌, ◌*◌, ◌/◌, ◌%◌, ◌^◌, min, max, ◌≤◌, ◌<◌, length, replicate, pos, negsuc}
use Rattle.std.proofs.Common.{◌∙◌, le-leb, lt-ltb}
use mathlib.Core.List.{List, [], ◌∷◌, ◌++◌}
use Rattle.std.proofs.Math.Option.{some, none}
use Rattle.laws.specs.Runs.{marked}
use Rattle.geometry.specs.Precinct.{across}
use Rattle.geometry.specs.Line.{bound_of, count}
use Rattle.geometry.specs.Tile.{tile_bounds_of}
use Rattle.geometry.proofs.Standard.{tile_standard}
use Rattle.geometry.specs.declared.tile.Area.{Area}
use Rattle.geometry.specs.declared.tile.Grid.{Grid}
use Rattle.words.specs.Words.{words_bytes, over}
use Rattle.words.specs.Laws.{Bytes}
use Rattle.types.specs.State.{empty_state, fresh_cursor, ended_cursor}
use Rattle.types.specs.Viewers.{is_viewer}
use Rattle.types.specs.Totals.{started_with, total_for, with_total}
use Rattle.packets.specs.Sheet.{wd, component_record, resolution_record}
use Rattle.packets.specs.Tile.{needed, index_of}
use Rattle.packets.specs.Table.{entry_word}
use Rattle.packets.specs.Refusals.{start-keeps, join-keeps, open_keeps, step-keeps, rectangle-keeps, run-keeps, bounds-keeps}
use Rattle.packets.specs.Calls.{Start, start_of, join_of, open_of, rectangle_of, step_of, whole_run_of, records_of}
use Rattle.packets.specs.Bounds.{bounds_of}
use Rattle.packets.specs.Host.{most_steps, call_turn, Hosted, host_calls, answered}
use Rattle.packets.specs.Traces.{Call, traced, dealt_where, writes, Running}
use Rattle.packets.specs.Wanted.{standard_of, standard_all, firsts}
use Rattle.packets.proofs.WholeRun.{start_zero, whole_run_calls}
use Rattle.packets.proofs.Own.{own_wide, own-high}
use Rattle.packets.specs.Among.{lists_of}
use Rattle.packets.specs.Counting.{unmarked}
use Rattle.packets.proofs.OwnRun.{own-turn, own-went, own_cursors, own_order, own_once, own-only, own-set, own_clear, own_beyond, own-size, own_long, own-lists, own_exists, own-state, own-total, own-answers, among_set, among_clear, among_beyond, among_size, among_none, own_none_left, own_opened, own-ended, own_reopened, own-fresh}
use Rattle.types.specs.declared.state.State.{State}
use Rattle.types.specs.declared.followed.Followed.{Followed}
use Rattle.types.specs.declared.cursor.Cursor.{Cursor}
use Rattle.packets.specs.Demands.{tr_of, numprecincts, Demand3, world_of, Alone}

-- DEMAND 1: a call whose number is below 0, which is negsuc n for -(n + 1), leaves everything lent as it was and answers nothing but that number.
-- (Setup for C: host, specs/Setup.antt.)
-- Setup, which answers the empty state then, and totals of 0
pub demand_1_setup : (sheet table marks : List ℕ) (n : ℕ) → (start_of sheet table marks).number ≡ negsuc n
    → start_of sheet table marks ≡ record { number = negsuc n; followed = started_with empty_state 0; table = table; marks = marks }
demand_1_setup sheet table marks = start-keeps sheet table marks

-- opening, which is lent nothing that it could change; it answers no cursor
pub demand_1_open : (f : Followed) (table marks : List ℕ) (v k n : ℕ) → (open_of f table marks v k).number ≡ negsuc n
    → open_of f table marks v k ≡ record { number = negsuc n; cursor = none }
demand_1_open f table marks = open_keeps f table marks

-- joining, which answers the state with its totals as given
pub demand_1_join : (f : Followed) (table marks : List ℕ) (v n : ℕ) → (join_of f table marks v).number ≡ negsuc n
    → join_of f table marks v ≡ record { number = negsuc n; followed = f; marks = marks }
demand_1_join f table marks = join-keeps f table marks

-- a step, which answers the cursor, and the state with its totals, as given
pub demand_1_step : (f : Followed) (table marks : List ℕ) (c : Cursor) (n : ℕ) → (step_of f table marks c).said.number ≡ negsuc n
    → step_of f table marks c ≡ record { said = record { number = negsuc n; packet = none; cursor = c }; followed = f; marks = marks }
demand_1_step f table marks = step-keeps f table marks

-- the rectangle of a precinct, a call that is lent nothing that it could change
pub demand_1_rectangle : (st : State) (table : List ℕ) (c r k n : ℕ) → (rectangle_of st table c r k).number ≡ negsuc n
    → rectangle_of st table c r k ≡ record { number = negsuc n; area = none }
demand_1_rectangle st table c r k = rectangle-keeps st table c r k

-- the whole run
pub demand_1_whole_run : (sheet table marks output : List ℕ) (n : ℕ) → (whole_run_of sheet table marks output).number ≡ negsuc n
    → whole_run_of sheet table marks output ≡ record { number = negsuc n; table = table; marks = marks; output = output }
demand_1_whole_run sheet table marks output = run-keeps sheet table marks output

-- tile bounds for C
pub demand_1_bounds : (image : Area) (g : Grid) (tileno : ℕ) (output : List ℕ) (n : ℕ) → (bounds_of image g tileno output).number ≡ negsuc n
    → bounds_of image g tileno output ≡ record { number = negsuc n; output = output }
demand_1_bounds image g tileno output = bounds-keeps output image g tileno

-- DEMAND 2, the proved half: bounds, counts and packets are T.800's.
-- B.3: tile n of numXtiles by numYtiles, in column p = n mod numXtiles and row q = n / numXtiles, is
-- from (max(XTOsiz + p·XTsiz, XOsiz), max(YTOsiz + q·YTsiz, YOsiz)) to (min(XTOsiz + (p + 1)·XTsiz, Xsiz), min(YTOsiz + (q + 1)·YTsiz, Ysiz)),
-- where nothing wraps: there are fewer than 2^32 tiles, tile n is one of them and starts below 2^32, and the image ends below 2^32; written for C into 16 bytes
pub demand_2_bounds : (image : Area) (g : Grid) (n : ℕ) (output : List ℕ) → (let p = n % g.tw in let q = n / g.tw in
    g.tw * g.th < 2 ^ 32 → n < g.tw * g.th → g.tx0 + p * g.tdx < 2 ^ 32 → g.ty0 + q * g.tdy < 2 ^ 32 → image.x1 < 2 ^ 32 → image.y1 < 2 ^ 32
    → (let bounds = max (g.tx0 + p * g.tdx) image.x0 ∷ max (g.ty0 + q * g.tdy) image.y0
    ∷ min (g.tx0 + (p + 1) * g.tdx) image.x1 ∷ min (g.ty0 + (q + 1) * g.tdy) image.y1 ∷ [] in
    (tile_bounds_of image g n ≡ record { number = pos 0; values = bounds })
    × (16 ≤ length output → bounds_of image g n output ≡ record { number = pos 0; output = over (words_bytes bounds) output })))
unfolding bounds_of
demand_2_bounds image g n output few number column row right bottom =
    let e = tile_standard image g n (record { few = few; number = number; column = column; row = row; right = right; bottom = bottom }) in
    (e, λ room. rw (e, le-leb _ _ room))

-- the width and the height that setup writes into the table for resolution r of component c of a sheet that it accepts, by the words of that sheet's own records
-- (i and j): the steps dx and dy are XRsiz and YRsiz, the exponents pdx and pdy PPx and PPy, and N_L is resolutions - 1
pub demand_2_precincts : (sheet table marks : List ℕ) → Bytes sheet → (let u : Start = start_of sheet table marks in u.number ≡ pos 0
    → (c r : ℕ) → (let i = component_record sheet c in let j = resolution_record sheet c r in
    let tx0 = wd sheet 0 1 in let ty0 = wd sheet 0 2 in let tx1 = wd sheet 0 3 in let ty1 = wd sheet 0 4 in
    let dx = wd sheet i 1 in let dy = wd sheet i 2 in let nL = wd sheet i 3 - 1 in let pdx = wd sheet j 1 in let pdy = wd sheet j 2 in
    c < wd sheet 0 6 → r < wd sheet i 3
    → (entry_word u.followed.state u.table 2 c r ≡ numprecincts (tr_of tx0 dx nL r) (tr_of tx1 dx nL r) pdx)
    × (entry_word u.followed.state u.table 3 c r ≡ numprecincts (tr_of ty0 dy nL r) (tr_of ty1 dy nL r) pdy)))
unfolding count across bound_of
demand_2_precincts sheet table marks bytes e c r h k =
    let (p, same) = start_zero sheet table marks e in
    rw same (own_wide sheet table marks bytes p c r h k, own-high sheet table marks bytes p c r h k)

-- B.12.1: progression k of a sheet that setup accepts, opened by viewer v over the marks that setup leaves and stepped, lists the packets of the standard's loops with their
-- own counters, within 01's ranges; its opening answers 0, each step that finds one 1, the last 0; the viewer's total is less by as many
pub demand_2_packets : (sheet table marks : List ℕ) → Bytes sheet → (let u : Start = start_of sheet table marks in u.number ≡ pos 0
    → (v k : ℕ) → v < 8 → k < u.followed.state.progressions
    → call_turn most_steps u.followed u.table u.marks v k
    ≡ record {
      opening = pos 0;
      steps = replicate (length (standard_of sheet k)) (pos 1) ++ (pos 0 ∷ []);
      packets = standard_of sheet k;
      cursor = some (ended_cursor v k);
      followed = with_total u.followed v (total_for u.followed v - length (standard_of sheet k));
      marks = marked v (index_of u.followed.state) u.marks (standard_of sheet k);
    })
demand_2_packets sheet table marks bytes e =
    let (p, same) = start_zero sheet table marks e in
    rw same (λ v k w. own-turn sheet table marks bytes p v (lt-ltb v 8 w) k)

-- DEMAND 3 (Demand3 of specs/Demands): for every sheet that setup accepts, every viewer and every such trace
pub demand_3 : (sheet table marks : List ℕ) → Bytes sheet → (let u : Start = start_of sheet table marks in u.number ≡ pos 0
    → (v : ℕ) → v < 8 → (calls : List Call) → (let t = traced u.table (world_of u) calls in
    Running u.followed.state (fresh_cursor v 0) (dealt_where (writes v) t.dealt) → Demand3 sheet marks u.followed.state u.table v t))
demand_3 sheet table marks bytes e =
    let (p, same) = start_zero sheet table marks e in
    rw same
    (λ v w calls own.
    let viewer : is_viewer v ≡ true = lt-ltb v 8 w in
    let together = own-lists sheet table marks bytes p v viewer in
    record {
      state = refl;
      state_stays = own-state sheet table marks bytes p v viewer calls;
      openings = own_opened sheet table marks bytes p v viewer calls own;
      lists = lists_of (host_calls _ _ _ v);
      every = own_long sheet table marks bytes p v viewer;
      answers = own-answers sheet table marks bytes p v viewer calls own;
      order = together ∙ own_order sheet table marks bytes p v viewer;
      once = rw together (own_once sheet table marks bytes p v viewer);
      only = rw together (own-only sheet table marks bytes p v viewer);
      set-marks = rw together (among_set sheet table marks bytes p v viewer calls own);
      clear_marks = rw together (among_clear sheet table marks bytes p v viewer calls own);
      other_marks = among_beyond sheet table marks bytes p v viewer calls own;
      as_many_marks = among_size sheet table marks bytes p v viewer calls own;
      none_to_come = among_none sheet table marks bytes p v viewer calls own;
      ended_again = own-ended sheet table marks bytes p v viewer calls own;
      opened_again = own_reopened sheet table marks bytes p v viewer calls own;
      stepped_again = own-fresh sheet table marks bytes p v viewer calls own;
      nothing_more = own_none_left sheet table marks bytes p v viewer calls own;
    })

-- and there are such traces
pub demand_3_met : (sheet table marks : List ℕ) → Bytes sheet → (let u : Start = start_of sheet table marks in u.number ≡ pos 0
    → (v : ℕ) → v < 8 → (calls : List Call) × Running u.followed.state (fresh_cursor v 0) (dealt_where (writes v) (traced u.table (world_of u) calls).dealt))
demand_3_met sheet table marks bytes e =
    let (p, same) = start_zero sheet table marks e in
    rw same (λ v w. own_exists sheet table marks bytes p v (lt-ltb v 8 w))

-- HOW MANY ARE STILL TO COME (02, P8): over every trace, in which each call is given the state that the last one answered, at every point (which is the end of a trace of fewer calls)
-- each viewer's total is the number of packets that some progression admits and that this viewer has not marked, counted in full
pub totals_right : (sheet table marks : List ℕ) → Bytes sheet → (let u : Start = start_of sheet table marks in u.number ≡ pos 0
    → (v : ℕ) → v < 8 → (calls : List Call) → (let t = traced u.table (world_of u) calls in
    total_for t.world.followed v ≡ length (unmarked v u.followed.state t.world.marks (firsts (standard_all sheet)))))
totals_right sheet table marks bytes e =
    let (p, same) = start_zero sheet table marks e in
    rw same (λ v w calls. own-total sheet table marks bytes p v (lt-ltb v 8 w) calls)

-- THE RUN ALONE (Alone of specs/Demands): for every sheet that setup accepts and every viewer
pub run-alone : (sheet table marks : List ℕ) → Bytes sheet → (let u : Start = start_of sheet table marks in u.number ≡ pos 0
    → (v : ℕ) → v < 8 → Alone sheet marks u.followed.state v (host_calls u.followed u.table u.marks v))
run-alone sheet table marks bytes e =
    let (p, same) = start_zero sheet table marks e in
    rw same
    (λ v w.
    let viewer : is_viewer v ≡ true = lt-ltb v 8 w in
    let went = own-went sheet table marks bytes p v viewer in
    record {
      openings = λ t i. (went.answers t i).opening;
      steps = λ t i. (went.answers t i).steps;
      cursors = own_cursors sheet table marks bytes p v viewer;
      order = own_order sheet table marks bytes p v viewer;
      set-marks = own-set sheet table marks bytes p v viewer;
      clear_marks = own_clear sheet table marks bytes p v viewer;
      other_marks = own_beyond sheet table marks bytes p v viewer;
      as_many_marks = own-size sheet table marks bytes p v viewer;
    })

-- THE WHOLE RUN IS THAT RUN of viewer 0, for every sheet that setup accepts and an output of 16 bytes for each mark needed: its number is the count of those packets, its
-- records are theirs in that order, table and marks are those that the calls leave
pub whole_run_same : (sheet table marks output : List ℕ) → Bytes sheet → (let u : Start = start_of sheet table marks in u.number ≡ pos 0
    → 16 * needed u.followed.state ≤ length output
    → (let r : Hosted = host_calls u.followed u.table u.marks 0 in
    (whole_run_of sheet table marks output
    ≡ record { number = pos (length (answered r)); table = u.table; marks = r.marks; output = over (records_of (answered r)) output })
    × (answered r ≡ firsts (standard_all sheet))))
whole_run_same sheet table marks output bytes e =
    let (p, same) = start_zero sheet table marks e in
    rw same (λ room. (whole_run_calls sheet table marks bytes p output room, own_order sheet table marks bytes p 0 refl))
