-- WHO DEPENDS ON WHAT (02, P4): what viewer v is answered goes by his own calls and his own bits alone, whatever others do between them. Assumes nothing.
use Rattle.std.specs.Prelude.{◌≡◌, refl, true, false, length}
use Rattle.std.proofs.Math.Path.{sym, ap}
use Rattle.std.proofs.Common.{◌∙◌, subst, true≢false, ⊎_elim, eqb-true}
use Rattle.std.proofs.Math.Bool.{Bool, cond}
use mathlib.Core.List.{List, [], ◌∷◌}
use Prim.Native.Nat.{ℕ, ◌-◌, ◌≤◌, ◌<◌}
use Rattle.std.proofs.Math.Decide.{ℕ_discrete}
use Rattle.std.proofs.Math.IntN.{pos}
use Rattle.std.proofs.lemmas.Bool.{eqb-false}
use Rattle.laws.specs.Cases.{le_or_lt, split}
use Rattle.laws.specs.Gather.{gather, keep, keep_yes, keep_no}
use Rattle.laws.specs.Marks.{free_byte, free_at, cleared_to, mark_at, mark-length, mark_out, taken_self, free_other, free_others, cleared_length, cleared_below, cleared_beyond, cleared_others}
use Rattle.laws.specs.Runs.{Answer, Packet, Ended, seek, seek-same}
use Rattle.types.specs.Viewers.{is_viewer}
use Rattle.types.specs.Totals.{following, total_for, with_total, total_other, total-alike, totals_long}
use Rattle.packets.specs.Tile.{needed, index_of}
use Rattle.packets.specs.Sound.{followed_sound, sound, positions_for}
use Rattle.packets.specs.Calls.{total_of, Join, join_of, open_of, after, Step, step_by, step_of, refusal}
use Rattle.packets.specs.Traces.{Call, joins, opens, steps, viewer_of, Reply, joined, stepped, World, Made, made, Trace, traced, dealt_where, is_own, writes}
use Rattle.packets.proofs.Steps.{sound-length}
use Rattle.types.specs.declared.state.State.{State}
use Rattle.types.specs.declared.followed.Followed.{Followed}
use Rattle.types.specs.declared.cursor.Position.{Position}
use Rattle.types.specs.declared.cursor.Cursor.{Cursor}
use Rattle.packets.specs.Seen.{SameFor}

pub same_itself : (v : ℕ) (w : World) → SameFor v w w
same_itself v w = record { state = refl; places = refl; total = refl; long = refl; own = λ i. refl }

same-after : {v : ℕ} {a b c : World} → SameFor v a b → SameFor v b c → SameFor v a c
same-after x y =
    record { state = x.state ∙ y.state; places = x.places ∙ y.places; total = x.total ∙ y.total; long = x.long ∙ y.long; own = λ i. x.own i ∙ y.own i }

-- whatever is marked or cleared for another viewer, and written as its total, is the same for this one
module _ (v w : ℕ) (k : v ≡ w → ⊥) (f : Followed) (n : ℕ) (m : List ℕ) where
  other_world : (l : List ℕ) → length l ≡ length m → ((i : ℕ) → free_at v l i ≡ free_at v m i)
      → SameFor v (record { followed = with_total f w n; marks = l }) (record { followed = f; marks = m })
  other_world l long own = record { state = refl; places = totals_long f w n; total = total_other f w n v k; long = long; own = own }

module _ (v : ℕ) (a b : World) (e : SameFor v a b) where
  -- marking the same one for this viewer, or clearing as many, keeps that
  both_marked : (i : ℕ) (j : ℕ) → free_at v (mark_at v a.marks i) j ≡ free_at v (mark_at v b.marks i) j
  both_marked i j =
      ⊎_elim
      (λ h. rw (mark_out v a.marks i h, mark_out v b.marks i (rw e.long at h)) (e.own j))
      (λ h. by h (ℕ_discrete j i))
      (le_or_lt (length a.marks) i)
    where
      by : i < length a.marks → Dec (j ≡ i) → free_at v (mark_at v a.marks i) j ≡ free_at v (mark_at v b.marks i) j
      by h (yes k) = rw k (taken_self v a.marks i h ∙ sym (taken_self v b.marks i (rw e.long at h)))
      by h (no k) = free_other v a.marks i j k ∙ e.own j ∙ sym (free_other v b.marks i j k)

  beyond_cleared : (k : ℕ) (l : List ℕ) (j : ℕ) → k ≤ j → free_at v (cleared_to v k l) j ≡ free_at v l j
  unfolding free_at
  beyond_cleared k l j h = ap (free_byte v) (cleared_beyond v k l j h)

  both_cleared : (k : ℕ) (j : ℕ) → free_at v (cleared_to v k a.marks) j ≡ free_at v (cleared_to v k b.marks) j
  both_cleared k j =
      ⊎_elim
      (λ h. beyond_cleared k a.marks j h ∙ e.own j ∙ sym (beyond_cleared k b.marks j h))
      (λ h. cleared_below v k a.marks j h ∙ sym (cleared_below v k b.marks j h))
      (le_or_lt k j)

  -- and so does writing the same total for it
  both_written : (n : ℕ) (l m : List ℕ) → length l ≡ length m → ((i : ℕ) → free_at v l i ≡ free_at v m i)
      → SameFor v (record { followed = with_total a.followed v n; marks = l }) (record { followed = with_total b.followed v n; marks = m })
  both_written n l m long own =
      record {
        state = e.state;
        places = totals_long a.followed v n ∙ e.places ∙ sym (totals_long b.followed v n);
        total = total-alike a.followed b.followed v n e.places;
        long = long;
        own = own;
      }

-- WHO DEPENDS ON WHAT, call by call
module _ (table : List ℕ) where
  -- viewer v's own call answers the same in worlds that are the same for it, and leaves such
  pub record Alike (v : ℕ) (x y : Made) : Type 0 where
    pub reply : x.reply ≡ y.reply
    pub own : SameFor v x.world y.world

  abbrev of_step : Step → Made
  of_step u = record { reply = stepped u.said; world = record { followed = u.followed; marks = u.marks } }

  abbrev of_join : Join → Made
  of_join r = record { reply = joined r.number; world = record { followed = r.followed; marks = r.marks } }

  -- in worlds of one state
  module _ (st : State) (ts us m n : List ℕ) where
    abbrev a : World
    a = record { followed = following st ts; marks = m }

    abbrev b : World
    b = record { followed = following st us; marks = n }

    -- which are as sound for it
    pub followed_same : (v : ℕ) → SameFor v a b → followed_sound a.followed table m v ≡ followed_sound b.followed table n v
    unfolding followed_sound
    followed_same v e = rw (e.total, sound-length st table m n e.long)

    sound-same : (c : Cursor) → SameFor c.viewer a b → sound a.followed table m c ≡ sound b.followed table n c
    unfolding sound
    sound-same c e = rw (followed_same c.viewer e)

    found-alike : (v k : ℕ) → SameFor v a b → (x : Answer Position) → Alike v (of_step (step_by a.followed m v k x)) (of_step (step_by b.followed n v k x))
    found-alike v k e (Packet p) =
        let i = index_of st p in
        record {
          reply = refl;
          own = rw e.total
              (both_written v a b e (total_for b.followed v - 1) (mark_at v m i) (mark_at v n i) (mark-length v m i ∙ e.long ∙ sym (mark-length v n i)) (both_marked v a b e i));
        }
    found-alike v k e Ended = record { reply = refl; own = e }

    own-step : (c : Cursor) → SameFor c.viewer a b → Alike c.viewer (made table a (steps c)) (made table b (steps c))
    unfolding step_of
    own-step c e =
        let ps : List Position = after c.place (positions_for st table c.progression) in
        let s = sound-same c e in
        split (sound a.followed table m c)
        (λ t.
        rw (t, sym s ∙ t, seek-same c.viewer (index_of st) m n e.own ps)
        (found-alike c.viewer c.progression e (seek c.viewer (index_of st) n ps)))
        (λ t. rw (t, sym s ∙ t) (record { reply = refl; own = e }))

    own-join : (v : ℕ) → SameFor v a b → Alike v (made table a (joins v)) (made table b (joins v))
    unfolding join_of
    own-join v e = rw (followed_same v e) (by (followed_sound b.followed table n v) (is_viewer v))
      where
        outcome : World → Bool → Bool → Join
        outcome w s t =
            cond s
            (cond t
            (record { number = pos 0; followed = with_total w.followed v (total_of w.followed.state table); marks = cleared_to v (needed w.followed.state) w.marks })
            (record { number = refusal 15; followed = w.followed; marks = w.marks }))
            (record { number = refusal 9; followed = w.followed; marks = w.marks })

        by : (s t : Bool) → Alike v (of_join (outcome a s t)) (of_join (outcome b s t))
        by true true =
            let k = needed st in
            record {
              reply = refl;
              own = both_written v a b e (total_of st table) (cleared_to v k m) (cleared_to v k n) (cleared_length v k m ∙ e.long ∙ sym (cleared_length v k n)) (both_cleared v a b e k);
            }
        by true false = record { reply = refl; own = e }
        by false t = record { reply = refl; own = e }

    own_open : (v k : ℕ) → SameFor v a b → Alike v (made table a (opens v k)) (made table b (opens v k))
    unfolding open_of
    own_open v k e = record { reply = rw (followed_same v e); own = e }

    own_of_state : (v : ℕ) → SameFor v a b → (c : Call) → viewer_of c ≡ v → Alike v (made table a c) (made table b c)
    own_of_state v e (joins w) k = subst (λ (u : ℕ). SameFor u a b → Alike u (made table a (joins w)) (made table b (joins w))) k (own-join w) e
    own_of_state v e (opens w j) k = subst (λ (u : ℕ). SameFor u a b → Alike u (made table a (opens w j)) (made table b (opens w j))) k (own_open w j) e
    own_of_state v e (steps c) k = subst (λ (u : ℕ). SameFor u a b → Alike u (made table a (steps c)) (made table b (steps c))) k (own-step c) e

  pub own-alike : (v : ℕ) (a b : World) → SameFor v a b → (c : Call) → viewer_of c ≡ v → Alike v (made table a c) (made table b c)
  own-alike v a b e =
      subst
      (λ (st : State). let w : World = record { followed = following st b.followed.totals; marks = b.marks } in
      SameFor v a w → (c : Call) → viewer_of c ≡ v → Alike v (made table a c) (made table w c))
      e.state
      (own_of_state a.followed.state a.followed.totals b.followed.totals a.marks b.marks v)
      e

  -- no call of another viewer changes them
  other_join : (v w : ℕ) → (v ≡ w → ⊥) → (a : World) → SameFor v (made table a (joins w)).world a
  unfolding join_of
  other_join v w k a = by (followed_sound a.followed table a.marks w) (is_viewer w)
    where
      n : ℕ
      n = total_of a.followed.state table

      m : List ℕ
      m = cleared_to w (needed a.followed.state) a.marks

      by : (s t : Bool) → (let r : Join = cond s (cond t (record { number = pos 0; followed = with_total a.followed w n; marks = m }) (record { number = refusal 15; followed = a.followed; marks = a.marks }))
          (record { number = refusal 9; followed = a.followed; marks = a.marks }) in
          SameFor v (record { followed = r.followed; marks = r.marks }) a)
      by true true = other_world v w k a.followed n a.marks m (cleared_length w _ a.marks) (cleared_others w v k _ a.marks)
      by true false = same_itself v a
      by false t = same_itself v a

  other_step : (v : ℕ) (c : Cursor) → (v ≡ c.viewer → ⊥) → (a : World) → SameFor v (made table a (steps c)).world a
  unfolding step_of
  other_step v c k a =
      split (sound a.followed table a.marks c)
      (λ t. rw t (found (seek c.viewer (index_of a.followed.state) a.marks (after c.place (positions_for a.followed.state table c.progression)))))
      (λ t. rw t (same_itself v a))
    where
      found : (x : Answer Position) → SameFor v (of_step (step_by a.followed a.marks c.viewer c.progression x)).world a
      found (Packet p) =
          let i = index_of a.followed.state p in
          other_world v c.viewer k a.followed (total_for a.followed c.viewer - 1) a.marks (mark_at c.viewer a.marks i)
          (mark-length c.viewer a.marks i)
          (free_others c.viewer a.marks i v k)
      found Ended = same_itself v a

  pub others_keep : (v : ℕ) (a : World) (c : Call) → (v ≡ viewer_of c → ⊥) → SameFor v (made table a c).world a
  others_keep v a (joins w) k = other_join v w k a
  others_keep v a (opens w j) k = same_itself v a
  others_keep v a (steps c) k = other_step v c k a

  -- A TRACE AS ONE VIEWER SEES IT: some of its own calls, all that write its bits among them, are answered in it as if there were no others, and leave its bits and its total so
  pub record Seen (v : ℕ) (f : Call → Bool) (all some : Trace) : Type 0 where
    pub replies : dealt_where f all.dealt ≡ some.dealt
    pub left : SameFor v all.world some.world

  seen_some : (v : ℕ) (f : Call → Bool) → ((c : Call) → f c ≡ true → viewer_of c ≡ v) → ((c : Call) → f c ≡ false → (a : World) → SameFor v (made table a c).world a)
      → (cs : List Call) (a b : World) → SameFor v a b → Seen v f (traced table a cs) (traced table b (keep f cs))
  unfolding traced gather
  seen_some v f own others [] a b e = record { replies = refl; left = e }
  seen_some v f own others (c ∷ cs) a b e =
      let r : Made = made table a c in
      split (f c)
      (λ t.
      let x = own-alike v a b e c (own c t) in
      let s = seen_some v f own others cs r.world (made table b c).world x.own in
      rw (keep_yes f c cs t)
      (record { replies = keep_yes (λ (d : Call × Reply). f d.0) (c, r.reply) (traced table r.world cs).dealt t ∙ (λ i. (c, x.reply i) ∷ s.replies i); left = s.left }))
      (λ t.
      let s = seen_some v f own others cs r.world b (same-after (others c t a) e) in
      rw (keep_no f c cs t)
      (record { replies = keep_no (λ (d : Call × Reply). f d.0) (c, r.reply) (traced table r.world cs).dealt t ∙ s.replies; left = s.left }))

  -- all of its own
  pub seen-alone : (v : ℕ) (cs : List Call) (a b : World) → SameFor v a b → Seen v (is_own v) (traced table a cs) (traced table b (keep (is_own v) cs))
  seen-alone v = seen_some v (is_own v) (λ c t. eqb-true _ v t) (λ c t a. others_keep v a c (λ k. eqb-false _ v t (sym k)))

  -- or those that write its bits
  writes-own : (v : ℕ) (c : Call) → writes v c ≡ true → viewer_of c ≡ v
  writes-own v (joins w) t = eqb-true w v t
  writes-own v (opens w k) t = absurd (let z : false ≡ true = t in true≢false (sym z))
  writes-own v (steps c) t = eqb-true c.viewer v t

  no_write : (v : ℕ) (c : Call) → writes v c ≡ false → (a : World) → SameFor v (made table a c).world a
  no_write v (joins w) t a = others_keep v a (joins w) (λ k. eqb-false w v t (sym k))
  no_write v (opens w k) t a = same_itself v a
  no_write v (steps c) t a = others_keep v a (steps c) (λ k. eqb-false c.viewer v t (sym k))

  pub seen-writes : (v : ℕ) (cs : List Call) (a b : World) → SameFor v a b → Seen v (writes v) (traced table a cs) (traced table b (keep (writes v) cs))
  seen-writes v = seen_some v (writes v) (writes-own v) (no_write v)
