-- AT EVERY POINT OF A TRACE each viewer's total is the number of packets that some progression admits and that it has not marked (02, P8). Assumes nothing.
use Rattle.std.specs.Prelude.{◌≡◌, refl, true, ℕ, ◌-◌, ◌<◌, length, pos}
use Rattle.std.proofs.Common.{sym, ◌∙◌, subst, arith, le-leb}
use Rattle.std.proofs.Math.Path.{ap}
use mathlib.Core.List.Memᴰ.{cases_cons as in_cons}
use mathlib.Core.List.Memᴰ.{not-nil as not_in_nil}
use mathlib.Core.List.Memᴰ.{of_map as in_of_map}
use mathlib.Core.List.{List, [], ◌∷◌, Memᴰ as In}
use Rattle.std.proofs.Math.Logic.{⊎_elim}
use Rattle.std.proofs.Math.Option.{some}
use Rattle.std.proofs.Math.Decide.{ℕ_discrete}
use Rattle.laws.specs.Cases.{split, and_both}
use Rattle.laws.specs.Members.{keep-all, keep-same, keep-few}
use Rattle.laws.specs.Unmarked.{keep-marked}
use Rattle.laws.specs.Marks.{free_at, mark_at, cleared_to, mark-length, cleared_length, cleared_below}
use Rattle.laws.specs.Runs.{Answer, Packet, Ended, free, seek, seek_is_free, found_in}
use Rattle.laws.specs.Listing.{indexes}
use Rattle.types.specs.State.{fresh_cursor}
use Rattle.types.specs.Viewers.{is_viewer}
use Rattle.types.specs.Totals.{following, total_for, with_total, total_with, totals_long}
use Rattle.packets.specs.Tile.{needed, index_of}
use Rattle.packets.specs.Same.{same}
use Rattle.packets.specs.Sound.{state_sound, followed_sound, positions_for, sound}
use Rattle.packets.specs.Calls.{total_of, after, Step, step_by, listed}
use Rattle.packets.specs.Traces.{Call, joins, opens, steps, viewer_of, Reply, opened, World, made, traced}
use Rattle.packets.specs.Meaning.{sound-means, all_sound_means}
use Rattle.packets.specs.Steps.{as_cursor}
use Rattle.packets.proofs.Steps.{after_as, sound-length, open_good, join-good, step_searches, step_refused}
use Rattle.packets.specs.Seen.{SameFor}
use Rattle.packets.proofs.Seen.{others_keep}
use Rattle.packets.proofs.Among.{made-state}
use Rattle.packets.proofs.Admitted.{marks-apart, mark-listed, listed-needed, total-listed, total-few}
use Rattle.types.specs.declared.state.State.{State}
use Rattle.types.specs.declared.followed.Followed.{Followed}
use Rattle.types.specs.declared.cursor.Position.{Position}
use Rattle.types.specs.declared.cursor.Cursor.{Cursor}
use Rattle.packets.specs.Counting.{unmarked, Counts}

module _ (table : List ℕ) (v : ℕ) (viewer : is_viewer v ≡ true) where
  -- so it is for worlds that are the same for it
  counts-same : (a b : World) → SameFor v a b → Counts table v b → Counts table v a
  counts-same a b e c =
      record {
        fine = sound-length a.followed.state table a.marks b.marks e.long ∙ subst (λ (st : State). state_sound st table b.marks ≡ true) (sym e.state) c.fine;
        place = rw e.places c.place;
        count =
            e.total
            ∙ c.count
            ∙ subst (λ (st : State). length (unmarked v st b.marks (listed st table)) ≡ length (unmarked v a.followed.state a.marks (listed a.followed.state table))) e.state
            (ap (λ (l : List Position). length l) (keep-same (λ (p : Position). free_at v b.marks (index_of a.followed.state p)) (λ (p : Position). free_at v a.marks (index_of a.followed.state p)) (listed a.followed.state table) (λ p i. sym (e.own (index_of a.followed.state p)))));
      }

  -- its total is few
  pub counts-few : (w : World) → Counts table v w → followed_sound w.followed table w.marks v ≡ true
  unfolding followed_sound
  counts-few w c =
      let st : State = w.followed.state in
      let l = total-listed st table w.marks c.fine in
      let n = total-few st table w.marks c.fine in
      let k = keep-few (λ (p : Position). free_at v w.marks (index_of st p)) (listed st table) in
      let e = c.count in
      and_both c.fine (le-leb (total_for w.followed v) (needed st) (omega arith))

  -- all are to come where all are free
  pub counts-all : (st : State) (ts m : List ℕ) → state_sound st table m ≡ true → v < length ts → ((i : ℕ) → i < needed st → free_at v m i ≡ true)
      → total_for (following st ts) v ≡ total_of st table → Counts table v (record { followed = following st ts; marks = m })
  counts-all st ts m fine place clear e =
      record {
        fine = fine;
        place = place;
        count =
            e
            ∙ total-listed st table m fine
            ∙ ap (λ (l : List Position). length l)
            (sym (keep-all (λ (p : Position). free_at v m (index_of st p)) (listed st table) (λ p i. clear (index_of st p) (listed-needed st table m fine p i))));
      }

  -- a packet that is found and marked is one less
  counts-found : (st : State) (ts m : List ℕ) (k : ℕ) (p : Position) → Counts table v (record { followed = following st ts; marks = m }) → k < st.progressions
      → In p (positions_for st table k) → free_at v m (index_of st p) ≡ true
      → Counts table v (record { followed = with_total (following st ts) v (total_for (following st ts) v - 1); marks = mark_at v m (index_of st p) })
  counts-found st ts m k p c l i free =
      let f : Followed = following st ts in
      let j = index_of st p in
      let n : ℕ = total_for f v - 1 in
      let there = mark-listed st table m c.fine k l p i in
      let long : j < length m = omega (arith, ((sound-means st table m).0 c.fine).marks_long, in_listed st m c.fine j there) in
      let less = keep-marked v (index_of st) m (listed st table) (marks-apart st table m c.fine) j there long free in
      let e = c.count in
      record {
        fine = sound-length st table (mark_at v m j) m (mark-length v m j) ∙ c.fine;
        place = rw (totals_long f v n) c.place;
        count = total_with f v n viewer c.place ∙ omega arith;
      }
    where
      in_listed : (st : State) (m : List ℕ) (h : state_sound st table m ≡ true) (j : ℕ) → In j (indexes (index_of st) (listed st table)) → j < needed st
      in_listed st m h j q = let r = in_of_map (index_of st) (listed st table) q in subst (λ (n : ℕ). n < needed st) r.2 (listed-needed st table m h r.0 r.1)

  -- EVERY CALL keeps that, whoever makes it
  counts_own_join : (st : State) (ts m : List ℕ) → Counts table v (record { followed = following st ts; marks = m })
      → Counts table v (made table (record { followed = following st ts; marks = m }) (joins v)).world
  counts_own_join st ts m c =
      let f : Followed = following st ts in
      let n : ℕ = total_of st table in
      rw (join-good f table m v (counts-few (record { followed = f; marks = m }) c) viewer)
      (counts-all st (with_total f v n).totals (cleared_to v (needed st) m)
      (sound-length st table (cleared_to v (needed st) m) m (cleared_length v (needed st) m) ∙ c.fine)
      (rw (totals_long f v n) c.place)
      (cleared_below v (needed st) m)
      (total_with f v n viewer c.place))

  counts_own_step : (st : State) (ts m : List ℕ) (k : Cursor) → k.viewer ≡ v → Counts table v (record { followed = following st ts; marks = m })
      → Counts table v (made table (record { followed = following st ts; marks = m }) (steps k)).world
  counts_own_step st ts m k own c =
      let f : Followed = following st ts in
      let w : World = record { followed = f; marks = m } in
      split (sound f table m k)
      (λ h.
      rw (step_searches f table m k h)
      (by h (seek k.viewer (index_of st) m (after k.place (positions_for st table k.progression))) refl))
      (λ h. rw (step_refused f table m k h) c)
    where
      f : Followed
      f = following st ts

      by : sound f table m k ≡ true → (a : Answer Position) → seek k.viewer (index_of st) m (after k.place (positions_for st table k.progression)) ≡ a
          → (let u : Step = step_by f m k.viewer k.progression a in Counts table v (record { followed = u.followed; marks = u.marks }))
      by h (Packet p) e =
          let ps : List Position = positions_for st table k.progression in
          let i : In p ps = found_in same k.viewer (index_of st) ps m (as_cursor k.place) p (ap (seek k.viewer (index_of st) m) (sym (after_as k.place ps)) ∙ e) in
          let free = seek_is_free k.viewer (index_of st) m (after k.place ps) p e in
          rw own (counts-found st ts m k.progression p c ((all_sound_means f table m k).0 h).1.named i (rw own at free))
      by h Ended e = c

  pub counts_stay : (w : World) (call : Call) → Counts table v w → Counts table v (made table w call).world
  counts_stay w call c = by call (ℕ_discrete v (viewer_of call))
    where
      by : (call : Call) → Dec (v ≡ viewer_of call) → Counts table v (made table w call).world
      by call (no k) = counts-same (made table w call).world w (others_keep table v w call k) c
      by (joins u) (yes e) = subst (λ (x : ℕ). Counts table v (made table w (joins x)).world) e (counts_own_join w.followed.state w.followed.totals w.marks c)
      by (opens u j) (yes e) = c
      by (steps k) (yes e) = counts_own_step w.followed.state w.followed.totals w.marks k (sym e) c

  -- THE THEOREM: at every point of every trace
  pub counts-traced : (calls : List Call) (w : World) → Counts table v w → Counts table v (traced table w calls).world
  unfolding traced
  counts-traced [] w c = c
  counts-traced (d ∷ ds) w c = counts-traced ds (made table w d).world (counts_stay w d c)

  -- so an opening of a progression that there is answers 0 and a fresh cursor, wherever it stands in a trace
  pub opened_fresh : (k : ℕ) (cs : List Call) (w : World) → Counts table v w → k < w.followed.state.progressions → (a : Reply) → In (opens v k, a) (traced table w cs).dealt
      → a ≡ opened (record { number = pos 0; cursor = some (fresh_cursor v k) })
  unfolding traced
  opened_fresh k [] w c named a i = absurd (not_in_nil i)
  opened_fresh k (d ∷ ds) w c named a i =
      ⊎_elim
      (λ e.
      ap (λ (x : Call × Reply). x.1) e
      ∙ ap (λ (x : Call). (made table w x).reply) (sym (ap (λ (x : Call × Reply). x.0) e))
      ∙ ap opened (open_good w.followed table w.marks v k (counts-few w c) viewer named))
      (opened_fresh k ds (made table w d).world (counts_stay w d c) (rw (made-state table w d) named) a)
      (in_cons i)
