-- THE RUN: a viewer's calls of all progressions in turn, from marks that are free for it where they are needed, list the plain loops' packets in order, one already listed left
-- out, each exactly once; of the marks needed those alone are set; and then no step finds anything more. Assumes nothing.
use Rattle.std.specs.Prelude.{◌≡◌, false, pos}
use Rattle.std.proofs.Math.Path.{refl, sym, ap, subst}
use Rattle.std.proofs.Common.{◌∙◌, true≢false}
use Rattle.std.proofs.Math.Bool.{true}
use mathlib.Core.List.Memᴰ.{cases_cons as in_cons}
use mathlib.Core.List.Memᴰ.{map as in_map}
use mathlib.Core.List.Memᴰ.{not-nil as not_in_nil}
use mathlib.Core.List.Memᴰ.{of_map as in_of_map}
use mathlib.Core.List.{List, [], ◌∷◌, ◌++◌, map, Memᴰ as In}
use Rattle.std.proofs.Math.Logic.{⊎_elim}
use Rattle.std.proofs.Math.Option.{Option, some, none}
use Prim.Native.Nat.{ℕ, zero, suc, ◌+◌, ◌-◌, ◌≤◌, ◌<◌, zero-le}
use native.Mathlib.Omega.{arith}
use Rattle.std.proofs.Math.ListN.{length, length-append}
use Rattle.laws.specs.Axis.{span, up, up_grows}
use Rattle.laws.specs.Axes.{axis-bounds}
use Rattle.laws.specs.Spans.{span_head, span_end}
use Rattle.laws.specs.Gather.{gather, gather-map}
use Rattle.laws.specs.Marks.{free_byte, free_at, marked-taken}
use Rattle.laws.specs.Gathered.{gathered, gathered_from}
use Rattle.laws.specs.Members.{in_span}
use Rattle.laws.specs.Lists.{NoRepeats}
use Rattle.laws.specs.Runs.{Answer, Packet, Ended, Ran, seek, seek_is_free, found_in, run-lists, unlisted, marked}
use Rattle.laws.specs.Listing.{indexes, length-marked, listed-of, unlisted-within}
use Rattle.laws.specs.AllRuns.{Listing, joined, listing, run_all, run-all, NoneRepeats, Below, Complete, run_all-complete}
use Rattle.types.specs.State.{ended_cursor}
use Rattle.types.specs.Viewers.{is_viewer}
use Rattle.types.specs.Totals.{following, total_for, with_total, total_with, totals_long, with_again, with_same}
use Rattle.packets.specs.Tile.{needed, index_of}
use Rattle.packets.specs.Sound.{state_sound, followed_sound, positions_for, sound}
use Rattle.packets.specs.Meaning.{sound-means, all_sound_means}
use Rattle.packets.specs.Same.{same}
use Rattle.packets.specs.Calls
use Rattle.packets.specs.Host.{Turn, Hosted, call_runs, answered}
use Rattle.packets.specs.Steps.{as_cursor}
use Rattle.packets.proofs.Steps.{after_as, step_searches, followed_length, followed_state, followed_fewer}
use Rattle.types.specs.declared.state.State.{State}
use Rattle.types.specs.declared.followed.Followed.{Followed}
use Rattle.types.specs.declared.cursor.Position.{Position}
use Rattle.types.specs.declared.cursor.Cursor as cursor
use Rattle.packets.proofs.Turns.{once, mark-needed, turn_for, turn-lists}
use Rattle.packets.specs.Run.{Answered, listing_of}

module _ (st : State) (table : List ℕ) (v : ℕ) (viewer : is_viewer v ≡ true) where
  -- the progressions' lists, from number k on
  abbrev lists : ℕ → ℕ → List (List Position)
  lists k j = map (positions_for st table) (span k (k + j))

  -- what is right of the calls of j progressions from number k on
  pub record Went (ts marks : List ℕ) (k j : ℕ) (r : Hosted) : Type 0 where
    pub lists-all : listing_of r ≡ run_all same v (index_of st) (lists k j) marks
    pub answers : (t : Turn) → In t r.turns → Answered t
    pub cursors : map (λ (t : Turn). t.cursor) r.turns ≡ map (λ i. some (ended_cursor v i)) (span k (k + j))
    pub counted : r.followed ≡ with_total (following st ts) v (total_for (following st ts) v - length (answered r))

  -- one progression, and then the others
  went_on : (ts marks : List ℕ) (k j : ℕ) (r : Hosted) → v < length ts → (let l : List Position = unlisted v (index_of st) marks (positions_for st table k) in
      let t : Turn = turn_for st table v k viewer (following st ts) marks l in
      Went t.followed.totals t.marks (k + 1) j r → Went ts marks k (suc j) (record { turns = t ∷ r.turns; followed = r.followed; marks = r.marks }))
  unfolding run_all gather
  went_on ts marks k j r long w =
      let ps : List Position = positions_for st table k in
      let l : List Position = unlisted v (index_of st) marks ps in
      let next : k + suc j ≡ k + 1 + j = omega arith in
      let head : span k (k + suc j) ≡ k ∷ span (k + 1) (k + 1 + j) = rw (next, span_head k (k + 1 + j) (omega arith)) in
      let f : Followed = following st ts in
      let n : ℕ = total_for f v - length l in
      record {
        lists-all =
            ap (λ (s : Listing Position). record { packets = l ++ s.packets; marks = s.marks }) w.lists-all
            ∙ sym
            (ap (λ is. run_all same v (index_of st) (map (positions_for st table) is) marks) head
            ∙ ap (λ (r : Ran Position). let s = run_all same v (index_of st) (lists (k + 1) j) r.marks in record { packets = r.packets ++ s.packets; marks = s.marks })
            (run-lists same v (index_of st) ps (once st table k) (length ps + 1) marks (omega arith)));
        answers = λ t i. ⊎_elim (λ e. rw e (record { opening = refl; steps = refl })) (w.answers t) (in_cons i);
        cursors = ap (λ (cs : List (Option cursor.Cursor)). some (ended_cursor v k) ∷ cs) w.cursors ∙ sym (ap (map (λ i. some (ended_cursor v i))) head);
        counted =
            w.counted
            ∙ with_again f v n (total_for (with_total f v n) v - length (answered r))
            ∙ ap (with_total f v)
            (ap (λ (m : ℕ). m - length (answered r)) (total_with f v n viewer long)
            ∙ (let e = length-append l (answered r) in omega arith));
      }

  -- the calls of all progressions in turn
  runs_went : (n : ℕ) → needed st < n → (j k : ℕ) (ts marks : List ℕ) → k + j ≤ st.progressions → v < length ts → followed_sound (following st ts) table marks v ≡ true
      → Went ts marks k j (call_runs n j (following st ts) table marks v k)
  unfolding call_runs run_all gather
  runs_went n enough zero k ts marks l long h =
      let none : span k (k + 0) ≡ [] = span_end k (k + 0) (omega arith) in
      let f : Followed = following st ts in
      record { lists-all = rw none; answers = λ t i. absurd (not_in_nil i); cursors = rw none; counted = sym (with_same f v) ∙ ap (with_total f v) (omega arith) }
  runs_went n enough (suc j) k ts marks l long h =
      let f : Followed = following st ts in
      let listed : List Position = unlisted v (index_of st) marks (positions_for st table k) in
      let t : Turn = turn_for st table v k viewer f marks listed in
      let on : followed_sound t.followed table t.marks v ≡ true
      = followed_length t.followed table t.marks marks v (length-marked v (index_of st) marks listed) ∙ followed_fewer f table marks v (total_for f v - length listed) (omega arith) h in
      subst (λ (t : Turn). let r = call_runs n j t.followed table t.marks v (k + 1) in Went ts marks k (suc j) (record { turns = t ∷ r.turns; followed = r.followed; marks = r.marks }))
      (sym (turn-lists st table v k viewer n enough ts marks long h (omega arith)))
      (went_on ts marks k j (call_runs n j t.followed table t.marks v (k + 1)) long
      (runs_went n enough j (k + 1) t.followed.totals t.marks (omega arith) (rw (totals_long f v (total_for f v - length listed)) long) on))

  -- the plain loops of every progression
  abbrev pub all : List (List Position)
  all = map (positions_for st table) (span 0 st.progressions)

  all_once : NoneRepeats same v (index_of st) all
  all_once ps i = let r = in_of_map (positions_for st table) (span 0 st.progressions) i in subst (λ qs. NoRepeats qs) r.2 (once st table r.0)

  module _ (ts marks : List ℕ) (long : v < length ts) (fine : followed_sound (following st ts) table marks v ≡ true) (n : ℕ) (enough : needed st < n) where
    abbrev calls : Hosted
    calls = call_runs n st.progressions (following st ts) table marks v 0

    h : state_sound st table marks ≡ true
    h = followed_state (following st ts) table marks v fine

    pub calls-went : Went ts marks 0 st.progressions calls
    calls-went = runs_went n enough st.progressions 0 ts marks (omega arith) long fine

    all-below : Below (index_of st) (needed st) all
    all-below ps i p j =
        let r = in_of_map (positions_for st table) (span 0 st.progressions) i in
        mark-needed st table marks ((sound-means st table marks).0 h) r.0 p (subst (λ qs. In p qs) (sym r.2) j)

    runs : listing_of calls ≡ run_all same v (index_of st) all marks
    runs =
        let e : 0 + st.progressions ≡ st.progressions = omega arith in
        calls-went.lists-all ∙ ap (λ (m : ℕ). run_all same v (index_of st) (map (positions_for st table) (span 0 m)) marks) e

    -- whatever the marks, the calls list what has no mark when it is reached
    pub run-unlisted : listing_of calls ≡ listing v (index_of st) all marks
    run-unlisted = runs ∙ run-all same v (index_of st) all marks all_once

    -- what is listed is some progression's
    pub run-only : (p : Position) → In p (answered calls) → (k : ℕ) × (k < st.progressions) × In p (positions_for st table k)
    run-only p i =
        let j : In p (joined all) = unlisted-within v (index_of st) marks (joined all) p (subst (λ (r : Listing Position). In p r.packets) run-unlisted i) in
        let w = gathered_from (positions_for st table) (span 0 st.progressions) (subst (λ (l : List Position). In p l) (gather-map (λ ps. ps) (positions_for st table) _) j) in
        (w.0, (axis-bounds up up_grows (st.progressions - 0) 0 st.progressions w.0 (omega arith) w.1).1, w.2)

    module _ (clear : (i : ℕ) → i < needed st → free_at v marks i ≡ true) where
      -- THE RUN: in order, one already listed left out, each exactly once; those marks set and no others
      pub run-complete : Complete v (index_of st) all marks (listing_of calls)
      run-complete =
          rw runs (run_all-complete same v (index_of st) all marks (needed st) all_once ((sound-means st table marks).0 h).marks_long all-below clear)

      -- .. which is what `listed` says
      pub run-listed : listing_of calls ≡ record { packets = Calls.listed st table; marks = marked v (index_of st) marks (Calls.listed st table) }
      unfolding Calls.listed
      run-listed =
          run-unlisted
          ∙ ap (λ (l : List Position). record { packets = l; marks = marked v (index_of st) marks l }) (ap (λ (r : Listing Position). r.packets) (sym run-unlisted) ∙ run-complete.order)

      -- every position of a progression is found in time, and its mark is set
      all-marked : (k : ℕ) → k < st.progressions → (p : Position) → In p (positions_for st table k) → free_at v calls.marks (index_of st p) ≡ false
      unfolding free_at
      all-marked k l p i =
          ap (free_byte v)
          (run-complete.set-marks (index_of st p)
          (subst (λ (r : Listing Position). In (index_of st p) (indexes (index_of st) r.packets)) (sym run-unlisted)
          (listed-of v (index_of st) marks (joined all) (index_of st p) (clear (index_of st p) (mark-needed st table marks ((sound-means st table marks).0 h) k p i))
          (in_map (index_of st) (gathered (λ ps. ps) (in_map (positions_for st table) (in_span k st.progressions 0 zero-le l)) i)))))
          ∙ marked-taken v _

      -- so a step of this viewer from any sound cursor finds nothing more, whatever the totals and other bits are
      pub none_left : (us m : List ℕ) → ((i : ℕ) → free_at v m i ≡ free_at v calls.marks i) → (c : cursor.Cursor) → c.viewer ≡ v → sound (following st us) table m c ≡ true
          → Calls.step_of (following st us) table m c
          ≡ record { said = record { number = pos 0; packet = none; cursor = ended_cursor v c.progression }; followed = following st us; marks = m }
      none_left us m bits c own s =
          step_searches f table m c s
          ∙ ap (λ w. Calls.step_by f m w c.progression (seek w (index_of st) m (Calls.after c.place qs))) own
          ∙ ap (Calls.step_by f m v c.progression) (found (seek v (index_of st) m (Calls.after c.place qs)) refl)
        where
          f : Followed
          f = following st us

          qs : List Position
          qs = positions_for st table c.progression

          found : (a : Answer Position) → seek v (index_of st) m (Calls.after c.place qs) ≡ a → a ≡ Ended
          found (Packet p) e =
              let i = found_in same v (index_of st) qs m (as_cursor c.place) p (ap (seek v (index_of st) m) (sym (after_as c.place qs)) ∙ e) in
              let taken = all-marked c.progression ((all_sound_means f table m c).0 s).1.named p i in
              let is_free = seek_is_free v (index_of st) m (Calls.after c.place qs) p e in
              absurd (true≢false (sym is_free ∙ bits (index_of st p) ∙ taken))
          found Ended e = refl
