-- The run of an accepted sheet over its own bytes: what the host's calls list and leave, by the standard's loops and by packets. Assumes nothing.
use Rattle.std.specs.Prelude.{◌≡◌, refl, false, ℕ, ◌+◌, ◌-◌, ◌^◌, ◌≤◌, ◌<◌, length, get_or}
use Rattle.std.proofs.Math.Path.{sym, ap, subst, fun_ext}
use Rattle.std.proofs.Common.{◌∙◌, zero-le, arith}
use Rattle.std.proofs.Math.Bool.{true}
use mathlib.Core.List.Memᴰ.{map as in_map}
use mathlib.Core.List.Memᴰ.{of_map as in_of_map}
use mathlib.Core.List.{List, [], map, Memᴰ as In}
use Rattle.std.proofs.Math.Option.{some, none}
use Rattle.std.proofs.Math.IntN.{pos}
use Rattle.laws.specs.Axis.{span}
use Rattle.laws.specs.Marks.{free_byte, free_at, marked_byte, zero_free, marked_zero, marked-taken}
use Rattle.laws.specs.Gather.{gather, gather-map, keep}
use Rattle.laws.specs.Gathered.{gathered_all}
use Rattle.laws.specs.Members.{in_span}
use Rattle.laws.specs.AllRuns.{Listing, joined, Complete}
use Rattle.words.specs.Laws.{Bytes}
use Rattle.types.specs.State.{fresh_cursor, ended_cursor}
use Rattle.types.specs.Viewers.{is_viewer}
use Rattle.packets.specs.Tile.{reported, needed, index_of}
use Rattle.types.specs.Orders.{order_of, range_of}
use Rattle.packets.specs.Grid.{change_of}
use Rattle.packets.specs.Table.{sheet_at, sheet_in}
use Rattle.packets.specs.Sound.{state_sound, followed_sound, positions_for, sound}
use Rattle.packets.specs.Calls.{Setup, accepted, step_of, open_of, listed}
use Rattle.packets.specs.Host.{Turn, most_steps, call_turn, Hosted, host_calls, answered}
use Rattle.packets.specs.Traces.{Call, opens, Reply, opened, World, Trace, traced, dealt_where, writes, Running, told_run}
use Rattle.packets.specs.Inside.{Inside}
use Rattle.packets.proofs.Inside.{inside}
use Rattle.packets.specs.Meaning.{sound-means}
use Rattle.packets.specs.Wanted.{standard_of, standard_all, same_packet, firsts}
use Rattle.packets.proofs.Steps.{fresh-sound, open_good, ended_stays}
use Rattle.packets.proofs.Turns.{mark-needed, turn_for, turn-all}
use Rattle.packets.specs.Run.{listing_of}
use Rattle.packets.proofs.Run.{all, Went, calls-went, run-only, run-complete, run-listed, none_left}
use Rattle.packets.specs.Seen.{SameFor}
use Rattle.packets.proofs.Seen.{same_itself, Seen, seen-writes}
use Rattle.packets.specs.Among.{lists_of}
use Rattle.packets.proofs.Among.{lists_long, run_trace, run-traced, run_exists, traced-state}
use Rattle.packets.specs.Counting.{unmarked, Counts}
use Rattle.packets.proofs.Counting.{counts-all, counts-few, counts-traced, opened_fresh}
use Rattle.packets.proofs.Admitted.{total-listed}
use Rattle.packets.specs.WholeRun.{Passed}
use Rattle.packets.proofs.WholeRun.{accepted-sound, accepted_clear, accepted_beyond, accepted-size, accepted-good, start, start-total, start_place, start-sound}
use Rattle.packets.proofs.Own.{own_positions}
use Rattle.packets.proofs.Firsts.{AllInside, dedupe-firsts, count-packets}
use Rattle.types.specs.Totals.{following, total_for, total_with}
use Rattle.types.specs.declared.state.State.{State}
use Rattle.types.specs.declared.followed.Followed.{Followed}
use Rattle.types.specs.declared.cursor.Position.{Position}
use Rattle.types.specs.declared.cursor.Cursor.{Cursor}

module _ (sheet table marks : List ℕ) (bytes : Bytes sheet) (p : Passed sheet table marks) (v : ℕ) (viewer : is_viewer v ≡ true) where
  abbrev u : Setup
  u = accepted sheet table marks

  abbrev st : State
  st = reported (sheet_in sheet)

  abbrev f : Followed
  f = start sheet table marks bytes p

  abbrev r : Hosted
  r = host_calls f u.table u.marks v

  place : v < length f.totals
  place = start_place sheet table marks bytes p v viewer

  good : followed_sound f u.table u.marks v ≡ true
  good = start-sound sheet table marks bytes p v viewer

  abbrev fine : state_sound st u.table u.marks ≡ true
  fine = accepted-sound sheet table marks bytes p

  -- setup leaves the needed marks free for every viewer
  free : (i : ℕ) → i < needed st → free_at v u.marks i ≡ true
  free i h = zero_free v u.marks i (accepted_clear sheet table marks bytes p i h)

  enough : needed st < most_steps
  enough = omega (arith, p.few)

  -- a progression over the marks that setup leaves
  pub own-turn : (k : ℕ) → k < st.progressions → call_turn most_steps f u.table u.marks v k ≡ turn_for st u.table v k viewer f u.marks (standard_of sheet k)
  own-turn k h =
      turn-all st u.table v k viewer most_steps enough f.totals u.marks place good free h
      ∙ ap (turn_for st u.table v k viewer f u.marks) (own_positions sheet table marks bytes p k)

  -- every number of the calls, and the cursors that they leave
  pub own-went : Went st u.table v viewer f.totals u.marks 0 st.progressions r
  unfolding host_calls
  own-went = calls-went st u.table v viewer f.totals u.marks place good most_steps enough

  pub own_cursors : map (λ (t : Turn). t.cursor) r.turns ≡ map (λ k. some (ended_cursor v k)) (span 0 st.progressions)
  own_cursors =
      let e : 0 + st.progressions ≡ st.progressions = omega arith in
      own-went.cursors ∙ ap (λ (m : ℕ). map (λ k. some (ended_cursor v k)) (span 0 m)) e

  own-complete : Complete v (index_of st) (all st u.table v viewer) u.marks (listing_of r)
  unfolding host_calls
  own-complete = run-complete st u.table v viewer f.totals u.marks place good most_steps enough free

  own_from : (q : Position) → In q (answered r) → (k : ℕ) × (k < st.progressions) × In q (positions_for st u.table k)
  unfolding host_calls
  own_from = run-only st u.table v viewer f.totals u.marks place good most_steps enough

  pub own-only : (q : Position) → In q (answered r) → (k : ℕ) × (k < st.progressions) × In q (standard_of sheet k)
  own-only q i = let w = own_from q i in (w.0, w.1, subst (λ (l : List Position). In q l) (own_positions sheet table marks bytes p w.0) w.2)

  -- all of them are packets of the tile
  is_inside : (k : ℕ) (q : Position) → In q (positions_for st u.table k) → Inside (sheet_at st u.table) q
  is_inside k q i = inside (sheet_at st u.table) (range_of st (change_of st k)) (accepted-good sheet table marks bytes p) (order_of (change_of st k).prg) q i

  all-inside : AllInside (sheet_at st u.table) (accepted-good sheet table marks bytes p) (joined (all st u.table v viewer))
  all-inside q i =
      gathered_all (Inside (sheet_at st u.table)) (positions_for st u.table) (span 0 st.progressions) is_inside q
      (subst (λ (l : List Position). In q l) (gather-map (λ ps. ps) (positions_for st u.table) (span 0 st.progressions)) i)

  own-joined : joined (all st u.table v viewer) ≡ standard_all sheet
  own-joined =
      gather-map (λ ps. ps) (positions_for st u.table) (span 0 st.progressions)
      ∙ ap (λ f. gather f (span 0 st.progressions)) (fun_ext (own_positions sheet table marks bytes p))

  pub own_order : answered r ≡ firsts (standard_all sheet)
  own_order =
      own-complete.order
      ∙ dedupe-firsts (sheet_at st u.table) (accepted-good sheet table marks bytes p) (joined (all st u.table v viewer)) all-inside
      ∙ ap firsts own-joined

  pub own_once : (k : ℕ) → k < st.progressions → (q : Position) → In q (standard_of sheet k) → length (keep (same_packet q) (answered r)) ≡ 1
  own_once k h q i =
      let j : In q (positions_for st u.table k) = subst (λ (l : List Position). In q l) (sym (own_positions sheet table marks bytes p k)) i in
      sym (count-packets (sheet_at st u.table) (accepted-good sheet table marks bytes p) q (answered r) (is_inside k q j) (λ a m. let w = own_from a m in is_inside w.0 a w.2))
      ∙ own-complete.every (positions_for st u.table k) (in_map (positions_for st u.table) (in_span k st.progressions 0 zero-le h)) q j

  -- the marks
  pub own-set : (q : Position) → In q (answered r) → get_or r.marks (index_of st q) 0 ≡ 2 ^ v
  own-set q i =
      let w = own_from q i in
      own-complete.set-marks (index_of st q) (in_map (index_of st) i)
      ∙ ap (marked_byte v) (accepted_clear sheet table marks bytes p (index_of st q) (mark-needed st u.table u.marks ((sound-means st u.table u.marks).0 fine) w.0 q w.2))
      ∙ marked_zero v

  pub own_clear : (i : ℕ) → i < needed st → ((q : Position) → In q (answered r) → index_of st q ≡ i → ⊥) → get_or r.marks i 0 ≡ 0
  own_clear i h n =
      own-complete.other_marks i (λ m. let w = in_of_map (index_of st) (answered r) m in n w.0 w.1 w.2)
      ∙ accepted_clear sheet table marks bytes p i h

  pub own_beyond : (i : ℕ) → needed st ≤ i → get_or r.marks i 0 ≡ get_or marks i 0
  own_beyond i h =
      own-complete.other_marks i
      (λ m.
      let w = in_of_map (index_of st) (answered r) m in
      let k = own_from w.0 w.1 in
      let l = mark-needed st u.table u.marks ((sound-means st u.table u.marks).0 fine) k.0 w.0 k.2 in
      let e = w.2 in
      omega arith)
      ∙ accepted_beyond sheet table marks bytes p i h

  pub own-size : length r.marks ≡ length marks
  own-size = own-complete.size ∙ accepted-size sheet table marks bytes p

  -- every progression has a list, and together they are what is answered
  pub own_long : length (lists_of r) ≡ st.progressions
  unfolding host_calls
  own_long = lists_long st u.table v viewer most_steps enough st.progressions 0 f.totals u.marks

  pub own-lists : joined (lists_of r) ≡ answered r
  own-lists = gather-map (λ ps. ps) (λ (t : Turn). t.packets) r.turns

  -- setup's world
  abbrev pub world : World
  world = record { followed = f; marks = u.marks }

  pub own_exists : (calls : List Call) × Running st (fresh_cursor v 0) (dealt_where (writes v) (traced u.table world calls).dealt)
  own_exists = run_exists st u.table v viewer most_steps enough f.totals u.marks place good

  -- 02, P8: at every point of every trace the total is the number of packets that are unmarked
  pub own-counts : (calls : List Call) → Counts u.table v (traced u.table world calls).world
  own-counts calls =
      counts-traced u.table v viewer calls world
      (counts-all u.table v viewer st f.totals u.marks fine place free (start-total sheet table marks bytes p v viewer))

  -- the state is setup's
  pub own-state : (calls : List Call) → (traced u.table world calls).world.followed.state ≡ st
  own-state calls = traced-state u.table calls world

  -- and the run's list is that of the standard's loops
  pub own-listed : listed st u.table ≡ firsts (standard_all sheet)
  unfolding host_calls
  own-listed =
      ap (λ (l : Listing Position). l.packets) (sym (run-listed st u.table v viewer f.totals u.marks place good most_steps enough free)) ∙ own_order

  pub own-total : (calls : List Call)
      → (let w : World = (traced u.table world calls).world in total_for w.followed v ≡ length (unmarked v st w.marks (firsts (standard_all sheet))))
  own-total calls =
      let w : World = (traced u.table world calls).world in
      (own-counts calls).count
      ∙ ap (λ (s : State). length (unmarked v s w.marks (listed s u.table))) (own-state calls)
      ∙ ap (λ (l : List Position). length (unmarked v st w.marks l)) own-listed

  -- AMONG OTHERS: calls after setup, of which those that may write this viewer's bits are the run's
  module _ (cs : List Call) (own : Running st (fresh_cursor v 0) (dealt_where (writes v) (traced u.table world cs).dealt)) where
    abbrev t : Trace
    t = traced u.table world cs

    seen : Seen u.table v (writes v) t (traced u.table world (keep (writes v) cs))
    seen = seen-writes u.table v cs world world (same_itself v world)

    alone : traced u.table world (keep (writes v) cs) ≡ run_trace st u.table v viewer most_steps enough f.totals u.marks 0 st.progressions
    alone = run-traced st u.table v viewer most_steps enough (keep (writes v) cs) f.totals u.marks place good (rw seen.replies at own)

    pub own-answers : dealt_where (writes v) t.dealt ≡ told_run v 0 (lists_of r)
    unfolding host_calls
    own-answers = seen.replies ∙ ap (λ (s : Trace). s.dealt) alone

    left : SameFor v t.world (record { followed = r.followed; marks = r.marks })
    unfolding host_calls
    left = subst (λ (s : Trace). SameFor v t.world s.world) alone seen.left

    pub among_set : (q : Position) → In q (answered r) → free_at v t.world.marks (index_of st q) ≡ false
    unfolding free_at
    among_set q i = left.own (index_of st q) ∙ ap (free_byte v) (own-set q i ∙ sym (marked_zero v)) ∙ marked-taken v 0

    pub among_clear : (i : ℕ) → i < needed st → ((q : Position) → In q (answered r) → index_of st q ≡ i → ⊥) → free_at v t.world.marks i ≡ true
    among_clear i h n = left.own i ∙ zero_free v r.marks i (own_clear i h n)

    pub among_beyond : (i : ℕ) → needed st ≤ i → free_at v t.world.marks i ≡ free_at v marks i
    unfolding free_at
    among_beyond i h = left.own i ∙ ap (free_byte v) (own_beyond i h)

    pub among_size : length t.world.marks ≡ length marks
    among_size = left.long ∙ own-size

    -- nothing is to come any more
    pub among_none : total_for t.world.followed v ≡ 0
    among_none =
        let e = ap (λ (l : List Position). length l) (own-listed ∙ sym own_order) in
        let n = total-listed st u.table u.marks fine in
        let m = start-total sheet table marks bytes p v viewer in
        left.total
        ∙ ap (λ (g : Followed). total_for g v) own-went.counted
        ∙ total_with f v (total_for f v - length (answered r)) viewer place
        ∙ omega arith

    -- further calls
    left-sound : followed_sound t.world.followed u.table t.world.marks v ≡ true
    left-sound = counts-few u.table v viewer t.world (own-counts cs)

    abbrev after : Followed
    after = t.world.followed

    -- a further step of any sound cursor of this viewer answers 0 and changes nothing
    pub own_none_left : (c : Cursor) → c.viewer ≡ v → sound after u.table t.world.marks c ≡ true
        → step_of after u.table t.world.marks c
        ≡ record { said = record { number = pos 0; packet = none; cursor = ended_cursor v c.progression }; followed = after; marks = t.world.marks }
    unfolding host_calls
    own_none_left =
        subst
        (λ (s : State). (c : Cursor) → c.viewer ≡ v → sound (following s after.totals) u.table t.world.marks c ≡ true
        → step_of (following s after.totals) u.table t.world.marks c
        ≡ record { said = record { number = pos 0; packet = none; cursor = ended_cursor v c.progression }; followed = following s after.totals; marks = t.world.marks })
        (sym (own-state cs))
        (none_left st u.table v viewer f.totals u.marks place good most_steps enough free after.totals t.world.marks left.own)

    module _ (k : ℕ) (h : k < st.progressions) where
      there : k < after.state.progressions
      there = rw (own-state cs) h

      pub own_opened : (a : Reply) → In (opens v k, a) t.dealt → a ≡ opened (record { number = pos 0; cursor = some (fresh_cursor v k) })
      unfolding traced
      own_opened = opened_fresh u.table v viewer k cs world (own-counts []) h

      pub own-ended : step_of after u.table t.world.marks (ended_cursor v k)
          ≡ record { said = record { number = pos 0; packet = none; cursor = ended_cursor v k }; followed = after; marks = t.world.marks }
      own-ended = ended_stays after u.table t.world.marks v k left-sound viewer there

      pub own_reopened : open_of after u.table t.world.marks v k ≡ record { number = pos 0; cursor = some (fresh_cursor v k) }
      own_reopened = open_good after u.table t.world.marks v k left-sound viewer there

      pub own-fresh : step_of after u.table t.world.marks (fresh_cursor v k)
          ≡ record { said = record { number = pos 0; packet = none; cursor = ended_cursor v k }; followed = after; marks = t.world.marks }
      own-fresh = own_none_left (fresh_cursor v k) refl (fresh-sound after u.table t.world.marks v k left-sound viewer there)
