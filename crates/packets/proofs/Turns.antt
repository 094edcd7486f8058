-- The calls of one progression: its opening answers 0, each step that finds a packet 1 and the one that ends it 0; what they list is what has no mark. Assumes nothing.
use Rattle.std.specs.Prelude.{◌≡◌, Bool, false, cond, eqb}
use Rattle.std.proofs.Math.Path.{refl, sym, ap, subst}
use Rattle.std.proofs.Common.{◌∙◌, arith}
use Rattle.std.proofs.Math.Bool.{true}
use mathlib.Core.List.Memᴰ.{of_map as in_of_map}
use mathlib.Core.List.{List, [], ◌∷◌, Memᴰ as In}
use Rattle.std.proofs.Math.Option.{some}
use Prim.Native.Nat.{ℕ, zero, suc, ◌-◌, ◌≤◌, ◌<◌}
use Rattle.std.proofs.Math.ListN.{length}
use Rattle.std.proofs.Math.IntN.{pos}
use Rattle.laws.specs.Mapped.{map-no_repeats}
use Rattle.laws.specs.Lists.{NoRepeats}
use Rattle.laws.specs.Marks.{free_at}
use Rattle.laws.specs.Frees.{frees_most, unlisted-few}
use Rattle.laws.specs.Runs.{Answer, Packet, Ended, step_by, step_of, seek, mark, to_come, step-next, unlisted, marked}
use Rattle.laws.specs.Listing.{indexes, unlisted-all}
use Rattle.types.specs.State.{ended_cursor}
use Rattle.types.specs.Viewers.{is_viewer}
use Rattle.types.specs.Totals.{following, total_for, with_total, total_with, totals_long, with_again, with_same}
use Rattle.packets.specs.Tile.{Sheet, needed, index_of}
use Rattle.packets.specs.Table.{sheet_at}
use Rattle.types.specs.Orders.{order_of, range_of, whole_tile, volume}
use Rattle.types.specs.declared.order.Order.{Order}
use Rattle.types.specs.declared.order.Range.{Range}
use Rattle.packets.specs.Grid.{change_of}
use Rattle.packets.specs.Sound.{state_sound, followed_sound, positions_for, sound}
use Rattle.packets.specs.Meaning.{Sound, sound-means, sound-good}
use Rattle.packets.proofs.Inside.{inside}
use Rattle.packets.proofs.Once.{positions_once, packet_once, index_small, index_apart}
use Rattle.packets.specs.Same.{same}
use Rattle.types.specs.Answers.{OpenSaid}
use Rattle.packets.specs.Calls
use Rattle.packets.specs.Host.{Called, then_rest, call_steps, Turn, turn_by, call_turn}
use Rattle.packets.specs.Steps.{as_cursor}
use Rattle.packets.proofs.Steps.{after_as, step_searches, step-sound, followed_state, fresh-sound, open_good}
use Rattle.types.specs.declared.state.Progression.{Progression}
use Rattle.types.specs.declared.state.State.{State}
use Rattle.types.specs.declared.followed.Followed.{Followed}
use Rattle.types.specs.declared.cursor.Position.{Position}
use Rattle.types.specs.declared.cursor.Place.{Place}
use Rattle.types.specs.declared.cursor.Place.TheVariants as place
use Rattle.types.specs.declared.cursor.Cursor as cursor
use Rattle.packets.specs.Turns.{ones_then_zero}

-- layers of a range are layers of the tile
pub layers-within : (st : State) (q : Progression) → (range_of st q).layno1 ≤ st.layers
unfolding range_of
layers-within st q = by (eqb q.kind 5)
  where
    by : (t : Bool) → (cond t (whole_tile st) (volume st q)).layno1 ≤ st.layers
    by true = omega arith
    by false = omega arith

module _ (st : State) (table : List ℕ) where
  -- a progression lists no position twice
  pub once : (k : ℕ) → NoRepeats (positions_for st table k)
  once k = positions_once (sheet_at st table) (range_of st (change_of st k)) (order_of (change_of st k).prg)

  -- a progression's positions have their marks among those needed
  pub mark-needed : (marks : List ℕ) → Sound st table marks → (k : ℕ) (p : Position) → In p (positions_for st table k) → index_of st p < needed st
  mark-needed marks d k p i =
      let q : Progression = change_of st k in
      index_small (sheet_at st table) (sound-good st table marks ((sound-means st table marks).1 d)) (range_of st q) (order_of q.prg) p i (layers-within st q)

  -- and no two of them have one mark
  indexes_once : (marks : List ℕ) → state_sound st table marks ≡ true → (k : ℕ) → NoRepeats (indexes (index_of st) (positions_for st table k))
  indexes_once marks h k =
      let s : Sheet = sheet_at st table in
      let good = sound-good st table marks h in
      let q : Progression = change_of st k in
      let g : Range = range_of st q in
      let o : Order = order_of q.prg in
      map-no_repeats (index_of st)
      (λ a b i j e.
      let w = index_apart s good a b (inside s g good o a i) (inside s g good o b j) e in
      packet_once s g good o a b i j w.0 w.1 w.2 w.3)
      (once k)

  -- no more is left to list than marks are needed
  few-left : (v : ℕ) (marks : List ℕ) → state_sound st table marks ≡ true → (k : ℕ) → length (unlisted v (index_of st) marks (positions_for st table k)) ≤ needed st
  few-left v marks h k =
      let d = (sound-means st table marks).0 h in
      omega (
        arith,
        frees_most v (needed st) marks,
        unlisted-few v (index_of st) (needed st) marks (positions_for st table k) (λ p i. let b = mark-needed marks d k p i in (b, omega (arith, d.marks_long))),
      )

module _ (st : State) (table : List ℕ) (v k : ℕ) (viewer : is_viewer v ≡ true) where
  abbrev ps : List Position
  ps = positions_for st table k

  abbrev at_place : Place → cursor.Cursor
  at_place p = record { viewer = v; progression = k; place = p }

  -- what is to be listed from a place on
  abbrev left : List ℕ → Place → List Position
  left marks p = unlisted v (index_of st) marks (Calls.after p ps)

  -- one less for each
  paid : Followed → List Position → Followed
  paid f [] = f
  paid f (p ∷ l) = paid (with_total f v (total_for f v - 1)) l

  -- what steps answer and leave that list l
  abbrev called_for : List ℕ → List ℕ → List Position → Called
  called_for ts marks l =
      record { numbers = ones_then_zero l; packets = l; cursor = ended_cursor v k; followed = paid (following st ts) l; marks = marked v (index_of st) marks l }

  pub left-found : (marks : List ℕ) (p : Place) (a : Answer Position) → seek v (index_of st) marks (Calls.after p ps) ≡ a → left marks p ≡ to_come same v (index_of st) ps marks a
  unfolding step_of
  left-found marks p a e =
      ap (unlisted v (index_of st) marks) (after_as p ps)
      ∙ step-next same v (index_of st) ps (once st table k) marks (as_cursor p)
      ∙ ap (λ (l : List Position). to_come same v (index_of st) ps marks (step_by v (index_of st) marks (seek v (index_of st) marks l)).answer) (sym (after_as p ps))
      ∙ ap (λ (b : Answer Position). to_come same v (index_of st) ps marks (step_by v (index_of st) marks b).answer) e
      ∙ same-answer a
    where
      same-answer : (b : Answer Position) → to_come same v (index_of st) ps marks (step_by v (index_of st) marks b).answer ≡ to_come same v (index_of st) ps marks b
      same-answer (Packet q) = refl
      same-answer Ended = refl

  -- one step more, by what it finds
  one_more : (n : ℕ) (ts marks : List ℕ) (p : Place) → sound (following st ts) table marks (at_place p) ≡ true → length (left marks p) < suc n
      → ((us m : List ℕ) (q : Place) → sound (following st us) table m (at_place q) ≡ true → length (left m q) < n
      → call_steps n (following st us) table m (at_place q) ≡ called_for us m (left m q))
      → (a : Answer Position) → seek v (index_of st) marks (Calls.after p ps) ≡ a → call_steps (suc n) (following st ts) table marks (at_place p) ≡ called_for ts marks (left marks p)
  unfolding call_steps marked paid
  one_more n ts marks p h fuel go (Packet q) e =
      let f : Followed = following st ts in
      let g : Followed = with_total f v (total_for f v - 1) in
      let step : Calls.step_of f table marks (at_place p) ≡ Calls.step_by f marks v k (Packet q)
      = step_searches f table marks (at_place p) h ∙ ap (Calls.step_by f marks v k) e in
      let on : sound g table (mark v (index_of st) marks q) (at_place (place.At q)) ≡ true
      = subst (λ (u : Calls.Step). sound u.followed table u.marks u.said.cursor ≡ true) step (step-sound f table marks (at_place p) h) in
      let t : left marks p ≡ q ∷ left (mark v (index_of st) marks q) (place.At q) = left-found marks p (Packet q) e in
      let fewer : length (q ∷ left (mark v (index_of st) marks q) (place.At q)) < suc n = rw t at fuel in
      ap (λ (u : Calls.Step). then_rest u (call_steps n u.followed table u.marks u.said.cursor)) step
      ∙ ap (λ (r : Called). record { numbers = pos 1 ∷ r.numbers; packets = q ∷ r.packets; cursor = r.cursor; followed = r.followed; marks = r.marks })
      (go g.totals (mark v (index_of st) marks q) (place.At q) on (omega arith))
      ∙ ap (called_for ts marks) (sym t)
  one_more n ts marks p h fuel go Ended e =
      let f : Followed = following st ts in
      ap (λ (u : Calls.Step). then_rest u (call_steps n u.followed table u.marks u.said.cursor)) (step_searches f table marks (at_place p) h ∙ ap (Calls.step_by f marks v k) e)
      ∙ ap (called_for ts marks) (sym (left-found marks p Ended e))

  -- enough steps from any sound cursor list what is left after it, mark it, and end
  steps_from : (n : ℕ) (ts marks : List ℕ) (p : Place) → sound (following st ts) table marks (at_place p) ≡ true → length (left marks p) < n
      → call_steps n (following st ts) table marks (at_place p) ≡ called_for ts marks (left marks p)
  steps_from zero ts marks p h fuel = absurd (let z : ⊥ = omega arith in z)
  steps_from (suc n) ts marks p h fuel = one_more n ts marks p h fuel (steps_from n) (seek v (index_of st) marks (Calls.after p ps)) refl

  -- what is paid is the length of the list
  paid-all : (l : List Position) (f : Followed) → v < length f.totals → paid f l ≡ with_total f v (total_for f v - length l)
  unfolding paid
  paid-all [] f long = sym (with_same f v) ∙ ap (with_total f v) (omega arith)
  paid-all (p ∷ l) f long =
      let n : ℕ = total_for f v - 1 in
      let g : Followed = with_total f v n in
      paid-all l g (rw (totals_long f v n) long)
      ∙ with_again f v n (total_for g v - length l)
      ∙ ap (with_total f v) (ap (λ (m : ℕ). m - length l) (total_with f v n viewer long) ∙ omega arith)

  -- the calls of one progression that list l
  abbrev pub turn_for : Followed → List ℕ → List Position → Turn
  turn_for f marks l =
      record {
        opening = pos 0;
        steps = ones_then_zero l;
        packets = l;
        cursor = some (ended_cursor v k);
        followed = with_total f v (total_for f v - length l);
        marks = marked v (index_of st) marks l;
      }

  -- THE CALLS OF A PROGRESSION list what has no mark
  pub turn-lists : (n : ℕ) → needed st < n → (ts marks : List ℕ) → v < length ts → followed_sound (following st ts) table marks v ≡ true → k < st.progressions
      → call_turn n (following st ts) table marks v k ≡ turn_for (following st ts) marks (unlisted v (index_of st) marks ps)
  unfolding call_turn
  turn-lists n enough ts marks long h l =
      let f : Followed = following st ts in
      ap (λ (o : OpenSaid). turn_by (call_steps n f table marks) f marks o.number o.cursor) (open_good f table marks v k h viewer l)
      ∙ ap (λ (r : Called). record { opening = pos 0; steps = r.numbers; packets = r.packets; cursor = some r.cursor; followed = r.followed; marks = r.marks })
      (steps_from n ts marks place.Fresh (fresh-sound f table marks v k h viewer l) (omega (arith, few-left st table v marks (followed_state f table marks v h) k)))
      ∙ ap (λ (g : Followed). record {
        opening = pos 0;
        steps = ones_then_zero (unlisted v (index_of st) marks ps);
        packets = unlisted v (index_of st) marks ps;
        cursor = some (ended_cursor v k);
        followed = g;
        marks = marked v (index_of st) marks (unlisted v (index_of st) marks ps);
      })
      (paid-all (unlisted v (index_of st) marks ps) f long)

  -- and all of it where all are free
  pub turn-all : (n : ℕ) → needed st < n → (ts marks : List ℕ) → v < length ts → followed_sound (following st ts) table marks v ≡ true
      → ((i : ℕ) → i < needed st → free_at v marks i ≡ true) → k < st.progressions → call_turn n (following st ts) table marks v k ≡ turn_for (following st ts) marks ps
  turn-all n enough ts marks long h clear l =
      let fine = followed_state (following st ts) table marks v h in
      let small : (i : ℕ) → In i (indexes (index_of st) ps) → i < needed st
      = λ i q. let r = in_of_map (index_of st) ps q in subst (λ (j : ℕ). j < needed st) r.2 (mark-needed st table marks ((sound-means st table marks).0 fine) k r.0 r.1) in
      turn-lists n enough ts marks long h l
      ∙ ap (turn_for (following st ts) marks) (unlisted-all v (index_of st) marks ps (indexes_once st table marks fine k) (λ i q. clear i (small i q)))
