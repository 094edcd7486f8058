-- One progression and one viewer v: a step, a run of steps until the answer is Ended, and what the run lists. Assumes nothing.
use Rattle.std.proofs.Math.Path.{◌≡◌, refl, sym, ap}
use Rattle.std.proofs.Common.{◌∙◌}
use Rattle.std.specs.Prelude.{Bool, true, false}
use mathlib.Core.List.Memᴰ.{append_right as in_right}
use mathlib.Core.List.Memᴰ.{head as here}
use mathlib.Core.List.Memᴰ.{tail as there}
use mathlib.Core.List.{List, [], ◌∷◌, ◌++◌, append_assoc, append-nil, Memᴰ as In}
use Prim.Native.Nat.{ℕ, zero, suc, ◌+◌, ◌≤◌, ◌<◌}
use native.Mathlib.Omega.{arith}
use Rattle.std.proofs.Math.ListN.{length}
use Rattle.laws.specs.Cases.{split}
use Rattle.laws.specs.Marks.{free_at, mark_at}
use Rattle.laws.specs.Lists.{NoRepeats, no_repeats_before, behind, behind_here, behind_past, behind_ends}

pub data Cursor (P : Type 0) : Type 0 where
  fresh : Cursor P
  at : P → Cursor P
  ended : Cursor P

pub data Answer (P : Type 0) : Type 0 where
  Packet : P → Answer P
  Ended : Answer P

-- what a step answers and leaves
pub record Step (P : Type 0) : Type 0 where
  pub answer : Answer P
  pub cursor : Cursor P
  pub marks : List ℕ

-- what a run lists and leaves
pub record Ran (P : Type 0) : Type 0 where
  pub packets : List P
  pub cursor : Cursor P
  pub marks : List ℕ

-- a run whose first step is known: it ends there, or the packet is listed and the run goes on
abbrev pub onward : {P : Type 0} → Step P → (List ℕ → Cursor P → Ran P) → Ran P
onward s rest =
    elim s.answer [
      | Packet p ↦
          let r = rest s.marks s.cursor in
          record { packets = p ∷ r.packets; cursor = r.cursor; marks = r.marks }
      | Ended ↦ record { packets = []; cursor = s.cursor; marks = s.marks }
    ]

-- the cursor is fresh, ended, or at a position of the list
abbrev pub Admits : {P : Type 0} → List P → Cursor P → Type 0
Admits ps fresh = Unit {0}
Admits ps (at p) = In p ps
Admits ps ended = Unit {0}

module _ {P : Type 0} (same : Discrete P) where
  -- what is left after a cursor
  abbrev pub after : Cursor P → List P → List P
  after fresh ps = ps
  after (at p) ps = behind same p ps
  after ended ps = []

  after_ends : (c : Cursor P) (ps : List P) → (before : List P) × (ps ≡ before ++ after c ps)
  after_ends fresh ps = ([], refl)
  after_ends (at p) ps = behind_ends same p ps
  after_ends ended ps = (ps, sym (append-nil ps))

module _ {P : Type 0} (v : ℕ) (ix : P → ℕ) where
  -- p has no mark
  abbrev pub free : List ℕ → P → Bool
  free m p = free_at v m (ix p)

  abbrev pub mark : List ℕ → P → List ℕ
  mark m p = mark_at v m (ix p)

  -- the first position that has no mark
  unfoldable pub seek : List ℕ → List P → Answer P
  seek m [] = Ended
  seek m (p ∷ ps) = elim (free m p) [ true ↦ Packet p | false ↦ seek m ps ]

  abbrev pub step_by : List ℕ → Answer P → Step P
  step_by m (Packet p) = record { answer = Packet p; cursor = at p; marks = mark m p }
  step_by m Ended = record { answer = Ended; cursor = ended; marks = m }

  -- the positions that have no mark when they are reached, each being marked as it is listed
  unfoldable pub unlisted : List ℕ → List P → List P
  unlisted m [] = []
  unlisted m (p ∷ ps) = elim (free m p) [ true ↦ p ∷ unlisted (mark m p) ps | false ↦ unlisted m ps ]

  -- the marks with those of all these set
  unfoldable pub marked : List ℕ → List P → List ℕ
  marked m [] = m
  marked m (p ∷ ps) = marked (mark m p) ps

  -- what a run lists and leaves that has `left` before it
  abbrev pub finished : List ℕ → List P → Ran P
  finished m left = record { packets = unlisted m left; cursor = ended; marks = marked m (unlisted m left) }

  module _ (m : List ℕ) (p : P) (ps : List P) where
    pub seek-free : free m p ≡ true → seek m (p ∷ ps) ≡ Packet p
    unfolding seek
    seek-free e = rw (seek, e)

    pub seek-taken : free m p ≡ false → seek m (p ∷ ps) ≡ seek m ps
    unfolding seek
    seek-taken e = rw (seek, e)

    pub unlisted-free : free m p ≡ true → unlisted m (p ∷ ps) ≡ p ∷ unlisted (mark m p) ps
    unfolding unlisted
    unlisted-free e = rw (unlisted, e)

    pub unlisted-taken : free m p ≡ false → unlisted m (p ∷ ps) ≡ unlisted m ps
    unfolding unlisted
    unlisted-taken e = rw (unlisted, e)

  -- what is found is one of the list
  pub seek_in : (m : List ℕ) (ps : List P) (p : P) → seek m ps ≡ Packet p → In p ps
  unfolding seek
  seek_in m [] p e = let z : ◌≡◌ {A = ℕ} 0 1 = cc in absurd (let n : ⊥ = omega arith in n)
  seek_in m (q ∷ ps) p e =
      split (free m q)
      (λ t. let k = seek-free m q ps t in let r : p ≡ q = cc in here r)
      (λ t. there (seek_in m ps p (sym (seek-taken m q ps t) ∙ e)))

  -- and is free
  pub seek_is_free : (m : List ℕ) (ps : List P) (p : P) → seek m ps ≡ Packet p → free m p ≡ true
  unfolding seek
  seek_is_free m [] p e = let z : ◌≡◌ {A = ℕ} 0 1 = cc in absurd (let n : ⊥ = omega arith in n)
  seek_is_free m (q ∷ ps) p e =
      split (free m q)
      (λ t. let k = seek-free m q ps t in let r : p ≡ q = cc in rw r t)
      (λ t. seek_is_free m ps p (sym (seek-taken m q ps t) ∙ e))

  -- a search sees nothing of the marks but whether they are free
  pub seek-same : (m n : List ℕ) → ((i : ℕ) → free_at v m i ≡ free_at v n i) → (ps : List P) → seek m ps ≡ seek n ps
  unfolding seek
  seek-same m n e [] = refl
  seek-same m n e (p ∷ ps) =
      split (free m p)
      (λ t. seek-free m p ps t ∙ sym (seek-free n p ps (sym (e (ix p)) ∙ t)))
      (λ t. seek-taken m p ps t ∙ seek-same m n e ps ∙ sym (seek-taken n p ps (sym (e (ix p)) ∙ t)))

  pub unlisted_shorter : (m : List ℕ) (ps : List P) → length (unlisted m ps) ≤ length ps
  unfolding unlisted
  unlisted_shorter m [] = omega arith
  unlisted_shorter m (p ∷ ps) =
      split (free m p)
      (λ e. rw (unlisted-free m p ps e) (let h = unlisted_shorter (mark m p) ps in omega arith))
      (λ e. rw (unlisted-taken m p ps e) (let h = unlisted_shorter m ps in omega arith))

module _ {P : Type 0} (same : Discrete P) (v : ℕ) (ix : P → ℕ) where
  unfoldable pub step_of : List P → List ℕ → Cursor P → Step P
  step_of ps m c = step_by v ix m (seek v ix m (after same c ps))

  -- at most n steps, each from where the one before has left off, until one answers Ended
  unfoldable pub run : ℕ → List P → List ℕ → Cursor P → Ran P
  run zero ps m c = record { packets = []; cursor = c; marks = m }
  run (suc n) ps m c = onward (step_of ps m c) (run n ps)

  -- a run depends on its cursor only through what the first step finds
  run_by : (n : ℕ) (ps : List P) (m : List ℕ) (c : Cursor P) (a : Answer P)
      → seek v ix m (after same c ps) ≡ a → run (suc n) ps m c ≡ onward (step_by v ix m a) (run n ps)
  unfolding run step_of
  run_by n ps m c a e = ap (λ (b : Answer P). onward (step_by v ix m b) (run n ps)) e

  -- once the answer was Ended, every further step answers Ended and changes nothing
  pub ended_stays : (ps : List P) (m : List ℕ) → step_of ps m ended ≡ record { answer = Ended; cursor = ended; marks = m }
  unfolding step_of seek
  ended_stays ps m = refl

  -- what is yet to be listed, by what a step finds
  abbrev pub to_come : List P → List ℕ → Answer P → List P
  to_come ps m (Packet p) = p ∷ unlisted v ix (mark v ix m p) (after same (at p) ps)
  to_come ps m Ended = []

  -- what a search after a cursor finds is a position of the list
  pub found_in : (ps : List P) (m : List ℕ) (c : Cursor P) (p : P) → seek v ix m (after same c ps) ≡ Packet p → In p ps
  found_in ps m c p e = let w = after_ends same c ps in rw w.1 (in_right w.0 (seek_in v ix m (after same c ps) p e))

  -- the cursor that a step answers is one of these, whatever it was before
  pub step-admits : (ps : List P) (m : List ℕ) (c : Cursor P) → Admits ps (step_of ps m c).cursor
  unfolding step_of
  step-admits ps m c = admits (seek v ix m (after same c ps)) refl
    where
      admits : (a : Answer P) → seek v ix m (after same c ps) ≡ a → Admits ps (step_by v ix m a).cursor
      admits (Packet p) e = found_in ps m c p e
      admits Ended e = tt

  module _ (ps : List P) (u : NoRepeats ps) where
    behind-left : (before left : List P) (p : P) → ps ≡ before ++ (p ∷ left) → behind same p ps ≡ left
    behind-left before left p w =
        ap (behind same p) w
        ∙ behind_past same p before (p ∷ left) (no_repeats_before before p left (rw w at u))
        ∙ behind_here same p p left refl

    step-left : (m : List ℕ) (before left : List P) → ps ≡ before ++ left → unlisted v ix m left ≡ to_come ps m (seek v ix m left)
    unfolding unlisted seek
    step-left m before [] w = refl
    step-left m before (p ∷ left) w =
        split (free v ix m p)
        (λ t.
        unlisted-free v ix m p left t
        ∙ ap (λ (l : List P). p ∷ unlisted v ix (mark v ix m p) l) (sym (behind-left before left p w))
        ∙ ap (to_come ps m) (sym (seek-free v ix m p left t)))
        (λ t.
        unlisted-taken v ix m p left t
        ∙ step-left m (before ++ (p ∷ [])) left (w ∙ sym (append_assoc before (p ∷ []) left))
        ∙ ap (to_come ps m) (sym (seek-taken v ix m p left t)))

    to_come_lem : (m : List ℕ) (c : Cursor P) (a : Answer P) → seek v ix m (after same c ps) ≡ a → unlisted v ix m (after same c ps) ≡ to_come ps m a
    to_come_lem m c a e = let w = after_ends same c ps in step-left m w.0 (after same c ps) w.1 ∙ ap (to_come ps m) e

    -- THE LAW OF A STEP: what is yet to be listed starts with the packet that the step answers, and goes on with what is yet to be listed then
    pub step-next : (m : List ℕ) (c : Cursor P) → unlisted v ix m (after same c ps) ≡ to_come ps m (step_of ps m c).answer
    unfolding step_of
    step-next m c = to_come_lem m c _ (answer-same (seek v ix m (after same c ps)))
      where
        answer-same : (a : Answer P) → a ≡ (step_by v ix m a).answer
        answer-same (Packet p) = refl
        answer-same Ended = refl

    run-found : (n : ℕ) (m : List ℕ) (c : Cursor P) (a : Answer P) → seek v ix m (after same c ps) ≡ a → length (unlisted v ix m (after same c ps)) < suc n
        → ((k : List ℕ) (d : Cursor P) → length (unlisted v ix k (after same d ps)) < n → run n ps k d ≡ finished v ix k (after same d ps))
        → run (suc n) ps m c ≡ finished v ix m (after same c ps)
    unfolding marked
    run-found n m c (Packet p) e h go =
        let t : unlisted v ix m (after same c ps) ≡ p ∷ unlisted v ix (mark v ix m p) (behind same p ps) = to_come_lem m c (Packet p) e in
        let k : length (p ∷ unlisted v ix (mark v ix m p) (behind same p ps)) < suc n = rw t at h in
        run_by n ps m c (Packet p) e
        ∙ ap (λ (r : Ran P). record { packets = p ∷ r.packets; cursor = r.cursor; marks = r.marks }) (go (mark v ix m p) (at p) (omega arith))
        ∙ ap (λ (l : List P). record { packets = l; cursor = ended; marks = marked v ix m l }) (sym t)
    run-found n m c Ended e h go =
        run_by n ps m c Ended e
        ∙ ap (λ (l : List P). record { packets = l; cursor = ended; marks = marked v ix m l }) (sym (to_come_lem m c Ended e))

    -- a run from any cursor lists what is unlisted after it, marks these, and ends
    pub run_from : (n : ℕ) (m : List ℕ) (c : Cursor P) → length (unlisted v ix m (after same c ps)) < n → run n ps m c ≡ finished v ix m (after same c ps)
    run_from zero m c h = absurd (let z : ⊥ = omega arith in z)
    run_from (suc n) m c h = run-found n m c _ refl h (run_from n)

    -- R1: a run of one progression. length ps + 1 steps are enough, and more change nothing
    pub run-lists : (n : ℕ) (m : List ℕ) → length ps < n → run n ps m fresh ≡ finished v ix m ps
    run-lists n m h = run_from n m fresh (omega (arith, unlisted_shorter v ix m ps))
