-- A step from a sound cursor searches its progression and answers a sound cursor; an ended cursor answers 0 for good; a refusal changes nothing. Assumes nothing.
use Rattle.std.specs.Prelude.{◌≡◌, refl, true, false, ℕ, ◌-◌, ◌≤◌, ◌<◌, length, ltb, pos}
use Rattle.std.proofs.Common.{sym, ap, ◌∙◌, arith}
use mathlib.Core.List.{List, Memᴰ as In}
use Rattle.std.proofs.Math.Option.{some, none}
use borrow.Author.Tests.{lt-ltb, le-leb, leb-true}
use Rattle.laws.specs.Cases.{split, and_true, and_both}
use Rattle.laws.specs.Marks.{cleared_to, mark-length}
use Rattle.laws.specs.Runs.{Answer, Packet, Ended, seek, mark, after as behind_cursor, found_in}
use Rattle.types.specs.State.{fresh_cursor, ended_cursor}
use Rattle.types.specs.Viewers.{is_viewer}
use Rattle.types.specs.Totals.{total_for, with_total, total_most}
use Rattle.packets.specs.Tile.{needed, index_of}
use Rattle.packets.specs.Sound.{state_sound, followed_sound, place_sound, positions_for, cursor_sound, sound}
use Rattle.packets.specs.Same.{same}
use Rattle.packets.specs.Calls.{after, refusal, total_of, join_of, open_of, Step, step_by, step_of}
use Rattle.packets.specs.Inside.{in_is}
use Rattle.types.specs.declared.state.State.{State}
use Rattle.types.specs.declared.followed.Followed.{Followed}
use Rattle.types.specs.declared.cursor.Position.{Position}
use Rattle.types.specs.declared.cursor.Place.{Place}
use Rattle.types.specs.declared.cursor.Place.TheVariants as place
use Rattle.types.specs.declared.cursor.Cursor as cursor
use Rattle.packets.specs.Steps.{as_cursor}

pub after_as : (p : Place) (ps : List Position) → after p ps ≡ behind_cursor same (as_cursor p) ps
after_as place.Fresh ps = refl
after_as (place.At p) ps = refl
after_as place.Ended ps = refl

-- soundness looks at the number of marks, not at the marks
pub sound-length : (st : State) (table m n : List ℕ) → length m ≡ length n → state_sound st table m ≡ state_sound st table n
unfolding state_sound
sound-length st table m n e = rw e

-- nor at another viewer's total
pub followed_length : (f : Followed) (table m n : List ℕ) (v : ℕ) → length m ≡ length n → followed_sound f table m v ≡ followed_sound f table n v
unfolding followed_sound
followed_length f table m n v e = rw (sound-length f.state table m n e)

-- the state of one that is sound is sound
pub followed_state : (f : Followed) (table marks : List ℕ) (v : ℕ) → followed_sound f table marks v ≡ true → state_sound f.state table marks ≡ true
unfolding followed_sound
followed_state f table marks v h = (and_true (state_sound f.state table marks) _ h).0

-- a total that is no larger is as good
pub followed_fewer : (f : Followed) (table marks : List ℕ) (v n : ℕ) → n ≤ total_for f v → followed_sound f table marks v ≡ true → followed_sound (with_total f v n) table marks v ≡ true
unfolding followed_sound
followed_fewer f table marks v n few h =
    let (a, b) = and_true (state_sound f.state table marks) _ h in
    and_both a (le-leb (total_for (with_total f v n) v) (needed f.state) (omega (arith, total_most f v n, leb-true (total_for f v) (needed f.state) b)))

-- a sound state, a viewer, and a place that its progression admits
pub sound-made : (f : Followed) (table marks : List ℕ) (v k : ℕ) (p : Place) → followed_sound f table marks v ≡ true → is_viewer v ≡ true → ltb k f.state.progressions ≡ true
    → place_sound p (positions_for f.state table k) ≡ true → sound f table marks (record { viewer = v; progression = k; place = p }) ≡ true
unfolding sound cursor_sound
sound-made f table marks v k p a w b d = and_both a (and_both w (and_both b d))

module _ (f : Followed) (table marks : List ℕ) (c : cursor.Cursor) where
  abbrev st : State
  st = f.state

  abbrev ps : List Position
  ps = positions_for st table c.progression

  abbrev v : ℕ
  v = c.viewer

  abbrev found : Answer Position
  found = seek v (index_of st) marks (after c.place ps)

  -- a sound cursor is searched from
  pub step_searches : sound f table marks c ≡ true → step_of f table marks c ≡ step_by f marks v c.progression found
  unfolding step_of
  step_searches h = rw h

  -- a refused step answers -9 with the cursor as given, and changes nothing
  pub step_refused : sound f table marks c ≡ false
      → step_of f table marks c ≡ record { said = record { number = refusal 9; packet = none; cursor = c }; followed = f; marks = marks }
  unfolding step_of
  step_refused h = rw h

  -- the state with the viewer's total, and the cursor, are each sound
  pub sound-parts : sound f table marks c ≡ true → (followed_sound f table marks v ≡ true) × (cursor_sound st table c ≡ true)
  unfolding sound
  sound-parts h = and_true (followed_sound f table marks v) (cursor_sound st table c) h

  names : sound f table marks c ≡ true → (is_viewer v ≡ true) × (ltb c.progression st.progressions ≡ true)
  unfolding cursor_sound
  names h =
      let (viewer, rest) = and_true (is_viewer v) _ (sound-parts h).1 in
      (viewer, (and_true (ltb c.progression st.progressions) (place_sound c.place ps) rest).0)

  -- what is found is a position of its progression
  found-listed : (p : Position) → found ≡ Packet p → In p ps
  found-listed p e = found_in same v (index_of st) ps marks (as_cursor c.place) p (ap (seek v (index_of st) marks) (sym (after_as c.place ps)) ∙ e)

  -- and so is the packet that a step answers
  pub step-listed : (p : Position) → (step_of f table marks c).said.packet ≡ some p → In p ps
  step-listed p e =
      split (sound f table marks c)
      (λ h. by found refl (ap (λ (u : Step). u.said.packet) (sym (step_searches h)) ∙ e))
      (λ h. absurd (some_none (sym (ap (λ (u : Step). u.said.packet) (sym (step_refused h)) ∙ e))))
    where
      some_none : {q : Position} → some q ≡ none → ⊥
      some_none z = let n : ◌≡◌ {A = ℕ} 0 1 = cc in omega arith

      by : (a : Answer Position) → found ≡ a → (step_by f marks v c.progression a).said.packet ≡ some p → In p ps
      by (Packet q) g h = let same : q ≡ p = cc in found-listed p (g ∙ ap Packet same)
      by Ended g h = absurd (some_none (sym h))

  -- A STEP FROM A SOUND CURSOR ANSWERS A SOUND CURSOR, over the state, the totals and the marks that it leaves
  pub step-sound : sound f table marks c ≡ true
      → (let u : Step = step_of f table marks c in sound u.followed table u.marks u.said.cursor ≡ true)
  step-sound h = rw (step_searches h) (by found refl)
    where
      by : (a : Answer Position) → found ≡ a
          → (let u : Step = step_by f marks v c.progression a in sound u.followed table u.marks u.said.cursor ≡ true)
      by (Packet p) e =
          sound-made (with_total f v (total_for f v - 1)) table (mark v (index_of st) marks p) v c.progression (place.At p)
          (followed_length (with_total f v (total_for f v - 1)) table (mark v (index_of st) marks p) marks v (mark-length v marks (index_of st p))
          ∙ followed_fewer f table marks v (total_for f v - 1) (omega arith) (sound-parts h).0)
          (names h).0
          (names h).1
          (in_is p ps (found-listed p e))
      by Ended e = sound-made f table marks v c.progression place.Ended (sound-parts h).0 (names h).0 (names h).1 refl

-- joining gives the total anew and clears the marks
pub join-good : (f : Followed) (table marks : List ℕ) (v : ℕ) → followed_sound f table marks v ≡ true → is_viewer v ≡ true
    → join_of f table marks v ≡ record { number = pos 0; followed = with_total f v (total_of f.state table); marks = cleared_to v (needed f.state) marks }
unfolding join_of
join-good f table marks v h w = rw (h, w)

-- opening gives a fresh cursor, which is sound
module _ (f : Followed) (table marks : List ℕ) (v k : ℕ) (h : followed_sound f table marks v ≡ true) (w : is_viewer v ≡ true) where
  pub fresh-sound : k < f.state.progressions → sound f table marks (fresh_cursor v k) ≡ true
  fresh-sound l = sound-made f table marks v k place.Fresh h w (lt-ltb _ _ l) refl

  pub open_good : k < f.state.progressions → open_of f table marks v k ≡ record { number = pos 0; cursor = some (fresh_cursor v k) }
  unfolding open_of
  open_good l = rw (h, w, lt-ltb _ _ l)

  -- AN ENDED CURSOR STAYS ENDED: 0, nothing marked, and 0 again
  pub ended_stays : k < f.state.progressions
      → step_of f table marks (ended_cursor v k) ≡ record { said = record { number = pos 0; packet = none; cursor = ended_cursor v k }; followed = f; marks = marks }
  unfolding step_of sound cursor_sound seek
  ended_stays l = rw (h, w, lt-ltb _ _ l)
