-- THE RUN AMONG OTHERS (02, P4): where of all calls that may write viewer v's bits there are only those of v's run, they are answered what the run alone is answered.
-- Assumes nothing.
use Rattle.std.specs.Prelude.{◌≡◌, pos}
use Rattle.std.proofs.Math.Path.{refl, ap, subst}
use Rattle.std.proofs.Common.{sym, ◌∙◌, eq-eqb}
use Rattle.std.proofs.Math.Bool.{true}
use mathlib.Core.List.{List, [], ◌∷◌, ◌++◌, map, map-append}
use Rattle.std.proofs.Math.Option.{some, none}
use Prim.Native.Nat.{ℕ, zero, suc, ◌+◌, ◌-◌, ◌<◌}
use native.Mathlib.Omega.{arith}
use Rattle.std.proofs.Math.ListN.{length}
use Rattle.laws.specs.Gather.{gather}
use Rattle.laws.specs.Runs.{Answer, Packet, Ended, seek, mark, to_come, unlisted, marked}
use Rattle.laws.specs.Listing.{length-marked}
use Rattle.types.specs.State.{fresh_cursor, ended_cursor}
use Rattle.types.specs.Totals.{following, total_for, with_total, total_with, totals_long, with_again, with_same}
use Rattle.types.specs.Answers.{StepSaid}
use Rattle.types.specs.Viewers.{is_viewer}
use Rattle.packets.specs.Tile.{needed, index_of}
use Rattle.packets.specs.Sound.{followed_sound, positions_for, sound}
use Rattle.packets.specs.Calls.{after, Step, step_by, step_of}
use Rattle.packets.specs.Host.{Turn, call_turn, call_runs}
use Rattle.packets.specs.Traces.{Call, steps, viewer_of, Reply, stepped, World, made, Trace, traced, dealt_where, writes, goes_on, Running, told_steps, told_run}
use Rattle.packets.specs.Same.{same}
use Rattle.packets.proofs.Steps.{step_searches, step-sound, followed_length, followed_fewer, sound-parts, fresh-sound}
use Rattle.packets.proofs.Seen.{others_keep}
use Rattle.packets.proofs.Turns.{turn-lists, left-found}
use Rattle.types.specs.declared.state.State.{State}
use Rattle.types.specs.declared.followed.Followed.{Followed}
use Rattle.types.specs.declared.cursor.Position.{Position}
use Rattle.types.specs.declared.cursor.Place.{Place}
use Rattle.types.specs.declared.cursor.Place.TheVariants as place
use Rattle.types.specs.declared.cursor.Cursor.{Cursor}
use Rattle.packets.specs.Among.{lists_of}

module _ (st : State) (table : List ℕ) (v : ℕ) (viewer : is_viewer v ≡ true) (n : ℕ) (enough : needed st < n) where
  abbrev at_place : ℕ → Place → Cursor
  at_place k p = record { viewer = v; progression = k; place = p }

  abbrev world : List ℕ → List ℕ → World
  world ts m = record { followed = following st ts; marks = m }

  -- what is to be listed from a place on
  abbrev left : List ℕ → ℕ → Place → List Position
  left m k p = unlisted v (index_of st) m (after p (positions_for st table k))

  -- the totals when that many are listed
  abbrev paid : List ℕ → ℕ → List ℕ
  paid ts i = let f : Followed = following st ts in (with_total f v (total_for f v - i)).totals

  abbrev totals_of : Followed → List ℕ
  totals_of f = f.totals

  paid_none : (ts : List ℕ) → paid ts 0 ≡ ts
  paid_none ts = let f : Followed = following st ts in ap totals_of (ap (with_total f v) (omega arith) ∙ with_same f v)

  paid_long : (ts : List ℕ) (i : ℕ) → v < length ts → v < length (paid ts i)
  paid_long ts i long = let f : Followed = following st ts in rw (totals_long f v (total_for f v - i)) long

  paid_more : (ts : List ℕ) (i j : ℕ) → v < length ts → paid (paid ts i) j ≡ paid ts (i + j)
  paid_more ts i j long =
      let f : Followed = following st ts in
      let k : ℕ = total_for f v - i in
      ap totals_of (with_again f v k (total_for (with_total f v k) v - j) ∙ ap (with_total f v) (ap (λ (m : ℕ). m - j) (total_with f v k viewer long) ∙ omega arith))

  pub lists_long : (j k : ℕ) (ts m : List ℕ) → length (lists_of (call_runs n j (following st ts) table m v k)) ≡ j
  unfolding call_runs
  lists_long j k ts m = many j k (following st ts) m
    where
      many : (j k : ℕ) (f : Followed) (m : List ℕ) → length (lists_of (call_runs n j f table m v k)) ≡ j
      many zero k f m = refl
      many (suc j) k f m = ap suc (many j (k + 1) (call_turn n f table m v k).followed (call_turn n f table m v k).marks)

  -- the calls of j progressions from number k on, as a trace
  abbrev pub run_trace : List ℕ → List ℕ → ℕ → ℕ → Trace
  run_trace ts m k j = let h = call_runs n j (following st ts) table m v k in record { dealt = told_run v k (lists_of h); world = record { followed = h.followed; marks = h.marks } }

  -- the steps of progression k from a place on, and then those
  abbrev on_trace : List ℕ → List ℕ → ℕ → Place → ℕ → Trace
  on_trace ts m k p j =
      let l : List Position = left m k p in
      let r = run_trace (paid ts (length l)) (marked v (index_of st) m l) (k + 1) j in
      record { dealt = told_steps v k p l ++ r.dealt; world = r.world }

  -- a progression's steps start its run
  run-starts : (ts m : List ℕ) (k j : ℕ) → v < length ts → followed_sound (following st ts) table m v ≡ true → k < st.progressions → on_trace ts m k place.Fresh j ≡ run_trace ts m k (suc j)
  unfolding call_runs told_run
  run-starts ts m k j long h l =
      ap (λ (t : Turn). let r = call_runs n j t.followed table t.marks v (k + 1) in
      record { dealt = told_run v k (t.packets ∷ lists_of r); world = record { followed = r.followed; marks = r.marks } })
      (sym (turn-lists st table v k viewer n enough ts m long h l))

  -- what is to be shown of some calls: steps from a place on
  abbrev FromPlace : List Call → Type 0
  FromPlace cs = (ts m : List ℕ) (k : ℕ) (p : Place) (j : ℕ) → v < length ts → k + suc j ≡ st.progressions → sound (following st ts) table m (at_place k p) ≡ true
      → Running st (at_place k p) (traced table (world ts m) cs).dealt → traced table (world ts m) cs ≡ on_trace ts m k p j

  -- .. and so from the start of a progression on, or of none
  from_start : (cs : List Call) → FromPlace cs → (ts m : List ℕ) (k j : ℕ) → v < length ts → k + j ≡ st.progressions → followed_sound (following st ts) table m v ≡ true
      → Running st (fresh_cursor v k) (traced table (world ts m) cs).dealt → traced table (world ts m) cs ≡ run_trace ts m k j
  unfolding traced Running call_runs told_run
  from_start [] go ts m k zero long e h r = refl
  from_start (c ∷ cs) go ts m k zero long e h r = absurd (let z : ⊥ = omega (arith, r.0) in z)
  from_start cs go ts m k (suc j) long e h r =
      let l : k < st.progressions = omega arith in
      go ts m k place.Fresh j long e (fresh-sound (following st ts) table m v k h viewer l) r ∙ run-starts ts m k j long h l

  -- a step, and then the rest
  stepped_on : (c : Call) (cs : List Call) (ts m : List ℕ) (k : ℕ) (p : Place) → c ≡ steps (at_place k p) → (u : Step) → step_of (following st ts) table m (at_place k p) ≡ u
      → traced table (world ts m) (c ∷ cs)
      ≡ (let r = traced table (record { followed = u.followed; marks = u.marks }) cs in record { dealt = (steps (at_place k p), stepped u.said) ∷ r.dealt; world = r.world })
  unfolding traced
  stepped_on c cs ts m k p e u f =
      ap (λ (d : Call). traced table (world ts m) (d ∷ cs)) e
      ∙ ap (λ (w : Step). let r = traced table (record { followed = w.followed; marks = w.marks }) cs in
      record { dealt = (steps (at_place k p), stepped w.said) ∷ r.dealt; world = r.world })
      f

  -- a trace behind one call more
  abbrev behind_step : ℕ → Place → StepSaid → Trace → Trace
  behind_step k p said t = record { dealt = (steps (at_place k p), stepped said) ∷ t.dealt; world = t.world }

  -- what is left when the rest of a list is listed after its first
  abbrev told_on : List ℕ → List ℕ → ℕ → Place → ℕ → List Position → Trace
  told_on ts m k p j l = let s = run_trace (paid ts (length l)) (marked v (index_of st) m l) (k + 1) j in record { dealt = told_steps v k p l ++ s.dealt; world = s.world }

  first-paid : (ts m : List ℕ) (k : ℕ) (p : Place) (j : ℕ) (q : Position) (l : List Position) → v < length ts
      → behind_step k p (record { number = pos 1; packet = some q; cursor = at_place k (place.At q) }) (told_on (paid ts 1) (mark v (index_of st) m q) k (place.At q) j l)
      ≡ told_on ts m k p j (q ∷ l)
  unfolding told_steps marked
  first-paid ts m k p j q l long =
      let e : paid (paid ts 1) (length l) ≡ paid ts (length (q ∷ l)) = paid_more ts 1 (length l) long ∙ ap (paid ts) (omega arith) in
      ap (λ (us : List ℕ). let s = run_trace us (marked v (index_of st) (mark v (index_of st) m q) l) (k + 1) j in
      record { dealt = told_steps v k p (q ∷ l) ++ s.dealt; world = s.world })
      e

  none_paid : (ts m : List ℕ) (k : ℕ) (p : Place) (j : ℕ)
      → behind_step k p (record { number = pos 0; packet = none; cursor = ended_cursor v k }) (run_trace ts m (k + 1) j) ≡ told_on ts m k p j []
  unfolding told_steps marked
  none_paid ts m k p j =
      ap (λ (us : List ℕ). let s = run_trace us m (k + 1) j in record { dealt = told_steps v k p [] ++ s.dealt; world = s.world }) (sym (paid_none ts))

  -- by what the step finds
  step_finds : (c : Call) (cs : List Call) → FromPlace cs → (ts m : List ℕ) (k : ℕ) (p : Place) (j : ℕ) → v < length ts → k + suc j ≡ st.progressions
      → sound (following st ts) table m (at_place k p) ≡ true → Running st (at_place k p) (traced table (world ts m) (c ∷ cs)).dealt
      → (a : Answer Position) → seek v (index_of st) m (after p (positions_for st table k)) ≡ a → traced table (world ts m) (c ∷ cs) ≡ on_trace ts m k p j
  unfolding traced Running
  step_finds c cs go ts m k p j long e h r a g =
      let f : Followed = following st ts in
      let step : step_of f table m (at_place k p) ≡ step_by f m v k a = step_searches f table m (at_place k p) h ∙ ap (step_by f m v k) g in
      let first = stepped_on c cs ts m k p r.1 (step_by f m v k a) step in
      let rest = (subst (λ (t : Trace). Running st (at_place k p) t.dealt) first r).2 in
      first ∙ by a step rest ∙ ap (told_on ts m k p j) (sym (left-found st table v k viewer m p a g))
    where
      f : Followed
      f = following st ts

      after-step : Answer Position → World
      after-step a = record { followed = (step_by f m v k a).followed; marks = (step_by f m v k a).marks }

      by : (a : Answer Position) → step_of f table m (at_place k p) ≡ step_by f m v k a
          → Running st (goes_on (at_place k p) (stepped (step_by f m v k a).said)) (traced table (after-step a) cs).dealt
          → behind_step k p (step_by f m v k a).said (traced table (after-step a) cs) ≡ told_on ts m k p j (to_come same v (index_of st) (positions_for st table k) m a)
      by (Packet q) step rest =
          ap (behind_step k p (step_by f m v k (Packet q)).said)
          (go (paid ts 1) (mark v (index_of st) m q) k (place.At q) j (paid_long ts 1 long) e
          (subst (λ (u : Step). sound u.followed table u.marks u.said.cursor ≡ true) step (step-sound f table m (at_place k p) h))
          rest)
          ∙ first-paid ts m k p j q (left (mark v (index_of st) m q) k (place.At q)) long
      by Ended step rest =
          ap (behind_step k p (step_by f m v k Ended).said) (from_start cs go ts m (k + 1) j long (omega arith) (sound-parts f table m (at_place k p) h).0 rest)
          ∙ none_paid ts m k p j

  from_place : (cs : List Call) → FromPlace cs
  unfolding traced Running
  from_place [] ts m k p j long e h r = absurd (let z : ⊥ = omega (arith, r) in z)
  from_place (c ∷ cs) ts m k p j long e h r = step_finds c cs (from_place cs) ts m k p j long e h r (seek v (index_of st) m (after p (positions_for st table k))) refl

  -- THE CALLS OF A RUN are those of the host that runs alone
  pub run-traced : (cs : List Call) (ts m : List ℕ) → v < length ts → followed_sound (following st ts) table m v ≡ true
      → Running st (fresh_cursor v 0) (traced table (world ts m) cs).dealt → traced table (world ts m) cs ≡ run_trace ts m 0 st.progressions
  run-traced cs ts m long h = from_start cs (from_place cs) ts m 0 st.progressions long (omega arith) h

  -- AND THERE ARE SUCH CALLS: those of the host that runs alone
  abbrev made_by : List (Call × Reply) → List Call
  made_by = map (λ (d : Call × Reply). d.0)

  -- what a step finds, by what is to be listed
  none_found : (m : List ℕ) (k : ℕ) (a : Answer Position) → to_come same v (index_of st) (positions_for st table k) m a ≡ [] → a ≡ Ended
  none_found m k (Packet q) e = absurd (let z : ◌≡◌ {A = ℕ} 0 1 = cc in let n : ⊥ = omega arith in n)
  none_found m k Ended e = refl

  one-found : (m : List ℕ) (k : ℕ) (q : Position) (l : List Position) (a : Answer Position) → to_come same v (index_of st) (positions_for st table k) m a ≡ q ∷ l
      → (a ≡ Packet q) × (left (mark v (index_of st) m q) k (place.At q) ≡ l)
  one-found m k q l (Packet r) e =
      let f : r ≡ q = cc in
      let g : left (mark v (index_of st) m r) k (place.At r) ≡ l = cc in
      (ap Packet f, subst (λ (x : Position). left (mark v (index_of st) m x) k (place.At x) ≡ l) f g)
  one-found m k q l Ended e = absurd (let z : ◌≡◌ {A = ℕ} 0 1 = cc in let n : ⊥ = omega arith in n)

  steps-made : (l : List Position) (ts m : List ℕ) (k : ℕ) (p : Place) (cs : List Call) → v < length ts → sound (following st ts) table m (at_place k p) ≡ true → left m k p ≡ l
      → traced table (world ts m) (made_by (told_steps v k p l) ++ cs)
      ≡ (let r = traced table (world (paid ts (length l)) (marked v (index_of st) m l)) cs in record { dealt = told_steps v k p l ++ r.dealt; world = r.world })
  unfolding told_steps marked
  steps-made [] ts m k p cs long h e =
      let f : Followed = following st ts in
      let a = seek v (index_of st) m (after p (positions_for st table k)) in
      let found : a ≡ Ended = none_found m k a (sym (left-found st table v k viewer m p a refl) ∙ e) in
      stepped_on (steps (at_place k p)) cs ts m k p refl (step_by f m v k Ended) (step_searches f table m (at_place k p) h ∙ ap (step_by f m v k) found)
      ∙ ap (λ (us : List ℕ). behind_step k p (step_by f m v k Ended).said (traced table (world us m) cs)) (sym (paid_none ts))
  steps-made (q ∷ l) ts m k p cs long h e =
      let f : Followed = following st ts in
      let a = seek v (index_of st) m (after p (positions_for st table k)) in
      let (found, rest) = one-found m k q l a (sym (left-found st table v k viewer m p a refl) ∙ e) in
      let step : step_of f table m (at_place k p) ≡ step_by f m v k (Packet q) = step_searches f table m (at_place k p) h ∙ ap (step_by f m v k) found in
      let on : sound (following st (paid ts 1)) table (mark v (index_of st) m q) (at_place k (place.At q)) ≡ true
      = subst (λ (u : Step). sound u.followed table u.marks u.said.cursor ≡ true) step (step-sound f table m (at_place k p) h) in
      let more : paid (paid ts 1) (length l) ≡ paid ts (length (q ∷ l)) = paid_more ts 1 (length l) long ∙ ap (paid ts) (omega arith) in
      stepped_on (steps (at_place k p)) (made_by (told_steps v k (place.At q) l) ++ cs) ts m k p refl (step_by f m v k (Packet q)) step
      ∙ ap (behind_step k p (step_by f m v k (Packet q)).said) (steps-made l (paid ts 1) (mark v (index_of st) m q) k (place.At q) cs (paid_long ts 1 long) on rest)
      ∙ ap (λ (us : List ℕ). let r = traced table (world us (marked v (index_of st) (mark v (index_of st) m q) l)) cs in record { dealt = told_steps v k p (q ∷ l) ++ r.dealt; world = r.world })
      more

  runs_made : (j k : ℕ) (ts m : List ℕ) → v < length ts → k + j ≡ st.progressions → followed_sound (following st ts) table m v ≡ true
      → traced table (world ts m) (made_by (run_trace ts m k j).dealt) ≡ run_trace ts m k j
  unfolding call_runs told_run traced
  runs_made zero k ts m long e h = refl
  runs_made (suc j) k ts m long e h =
      let f : Followed = following st ts in
      let l : List Position = left m k place.Fresh in
      let us : List ℕ = paid ts (length l) in
      let o : List ℕ = marked v (index_of st) m l in
      let named : k < st.progressions = omega arith in
      let on : followed_sound (following st us) table o v ≡ true
      = followed_length (following st us) table o m v (length-marked v (index_of st) m l) ∙ followed_fewer f table m v (total_for f v - length l) (omega arith) h in
      let start = run-starts ts m k j long h named in
      let r : Trace = run_trace us o (k + 1) j in
      ap (λ (t : Trace). traced table (world ts m) (made_by t.dealt)) (sym start)
      ∙ ap (traced table (world ts m)) (map-append (λ (d : Call × Reply). d.0) (told_steps v k place.Fresh l) r.dealt)
      ∙ steps-made l ts m k place.Fresh (made_by r.dealt) long (fresh-sound f table m v k h viewer named) refl
      ∙ ap (λ (t : Trace). record { dealt = told_steps v k place.Fresh l ++ t.dealt; world = t.world }) (runs_made j (k + 1) us o (paid_long ts (length l) long) (omega arith) on)
      ∙ start

  runs_on : (l : List Position) (k : ℕ) (p : Place) (ds : List (Call × Reply)) → k < st.progressions → Running st (fresh_cursor v (k + 1)) ds
      → Running st (at_place k p) (told_steps v k p l ++ ds)
  unfolding Running told_steps
  runs_on [] k p ds h r = (h, refl, r)
  runs_on (q ∷ l) k p ds h r = (h, refl, runs_on l k (place.At q) ds h r)

  runs_all : (ls : List (List Position)) (k : ℕ) → k + length ls ≡ st.progressions → Running st (fresh_cursor v k) (told_run v k ls)
  unfolding Running told_run
  runs_all [] k e = omega arith
  runs_all (l ∷ ls) k e = runs_on l k place.Fresh (told_run v (k + 1) ls) (omega arith) (runs_all ls (k + 1) (omega arith))

  -- and all of them are calls that write v's bits
  steps_write : (l : List Position) (k : ℕ) (p : Place) (ds : List (Call × Reply))
      → dealt_where (writes v) (told_steps v k p l ++ ds) ≡ told_steps v k p l ++ dealt_where (writes v) ds
  unfolding told_steps gather
  steps_write [] k p ds = rw (eq-eqb v v refl)
  steps_write (q ∷ l) k p ds = rw (eq-eqb v v refl, steps_write l k (place.At q) ds)

  runs_write : (ls : List (List Position)) (k : ℕ) → dealt_where (writes v) (told_run v k ls) ≡ told_run v k ls
  unfolding told_run gather
  runs_write [] k = refl
  runs_write (l ∷ ls) k = steps_write l k place.Fresh (told_run v (k + 1) ls) ∙ ap (λ (ds : List (Call × Reply)). told_steps v k place.Fresh l ++ ds) (runs_write ls (k + 1))

  pub run_exists : (ts m : List ℕ) → v < length ts → followed_sound (following st ts) table m v ≡ true
      → (calls : List Call) × Running st (fresh_cursor v 0) (dealt_where (writes v) (traced table (world ts m) calls).dealt)
  run_exists ts m long h =
      let ls : List (List Position) = lists_of (call_runs n st.progressions (following st ts) table m v 0) in (
        made_by (told_run v 0 ls),
        subst (λ (s : Trace). Running st (fresh_cursor v 0) (dealt_where (writes v) s.dealt)) (sym (runs_made st.progressions 0 ts m long (omega arith) h))
            (rw (runs_write ls 0) (runs_all ls 0 (omega (arith, lists_long st.progressions 0 ts m)))),
      )

-- THE STATE STAYS, whatever is called: to a viewer that a call is not by nothing changes
pub made-state : (table : List ℕ) (w : World) (c : Call) → (made table w c).world.followed.state ≡ w.followed.state
made-state table w c = (others_keep table (suc (viewer_of c)) w c (λ e. let z : ⊥ = omega arith in z)).state

pub traced-state : (table : List ℕ) (cs : List Call) (w : World) → (traced table w cs).world.followed.state ≡ w.followed.state
unfolding traced
traced-state table [] w = refl
traced-state table (c ∷ cs) w = traced-state table cs (made table w c).world ∙ made-state table w c
