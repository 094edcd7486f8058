-- A sheet that is read without a refusal: every record is good where it stands, and none is missing or left over. Assumes nothing.
use Rattle.std.proofs.Math.Path.{◌≡◌, refl, subst}
use Rattle.std.specs.Prelude.{false, cond, ◌&&◌, List, length, ltb, eqb}
use Rattle.std.proofs.Math.Logic.{⊎_elim}
use Prim.Native.Nat.{ℕ, zero, suc, ◌+◌, ◌-◌, ◌*◌, ◌/◌, ◌%◌, ◌≤◌, ◌<◌}
use native.Mathlib.Omega.{arith}
use Rattle.std.proofs.Common.{lt-ltb, ltb-true, leb-true, eqb-true}
use Rattle.std.proofs.lemmas.Bool.{eqb-false}
use Rattle.laws.specs.Cases.{le_or_lt, and_true, split, cond_zero}
use Rattle.packets.specs.Sheet.{wd, Due, due, record_verdict, due_after, complete, read_from, read_verdict, length_good, tile_verdict, component_verdict, resolution_verdict, progression_verdict, component_record, resolution_record, progression_record}

-- a verdict that is 0 lets the reading go on
goes_on : (v rest : ℕ) → cond (eqb v 0) rest v ≡ 0 → (v ≡ 0) × (rest ≡ 0)
goes_on v rest e = let z = cond_zero (eqb v 0) rest v (eqb-false v 0) e in (eqb-true v 0 z.0, z.1)

-- one record was read: n records were left, the first had the verdict v, and `rest` is the reading of those after it
record Next (n v : ℕ) (rest : ℕ → ℕ) : Type 0 where
  left : ℕ
  more : n ≡ left + 1
  fine : v ≡ 0
  on : rest left ≡ 0

module _ (s : List ℕ) (count : ℕ) where
  -- a record that is due is there
  due-there : (n i : ℕ) (d : Due) → complete d ≡ false → read_from s count n i d ≡ 0
      → Next n (record_verdict s count i d) (λ m. read_from s count m (i + 1) (due_after s i d))
  unfolding read_from
  due-there zero i d c e = absurd (let z : ◌≡◌ {A = ℕ} 2 0 = rw c at e in let n : ⊥ = omega arith in n)
  due-there (suc n) i d c e =
      let w = goes_on (record_verdict s count i d) (read_from s count n (i + 1) (due_after s i d)) e in
      record { left = n; more = omega arith; fine = w.0; on = w.1 }

  not-complete : (r c p : ℕ) → 0 < r + c + p → complete (due r c p) ≡ false
  not-complete r c p h =
      split (complete (due r c p))
      (λ t.
      let a = and_true (eqb r 0) (eqb c 0 && eqb p 0) t in
      let b = and_true (eqb c 0) (eqb p 0) a.1 in
      absurd (let z : ⊥ = omega (arith, eqb-true r 0 a.0, eqb-true c 0 b.0, eqb-true p 0 b.1) in z))
      (λ t. t)

  step-r : (n i r c p : ℕ) → 0 < r → read_from s count n i (due r c p) ≡ 0 → Next n (resolution_verdict s i) (λ m. read_from s count m (i + 1) (due (r - 1) c p))
  unfolding record_verdict due_after
  step-r n i r c p h e = rw (lt-ltb 0 r h) at (due-there n i (due r c p) (not-complete r c p (omega arith)) e)

  step_c : (n i c p : ℕ) → 0 < c → read_from s count n i (due 0 c p) ≡ 0 → Next n (component_verdict s i) (λ m. read_from s count m (i + 1) (due (wd s i 3) (c - 1) p))
  unfolding record_verdict due_after
  step_c n i c p h e = rw (lt-ltb 0 c h) at (due-there n i (due 0 c p) (not-complete 0 c p (omega arith)) e)

  step_p : (n i p : ℕ) → 0 < p → read_from s count n i (due 0 0 p) ≡ 0 → Next n (progression_verdict s count i) (λ m. read_from s count m (i + 1) (due 0 0 (p - 1)))
  unfolding record_verdict due_after
  step_p n i p h e = rw (lt-ltb 0 p h) at (due-there n i (due 0 0 p) (not-complete 0 0 p (omega arith)) e)

  -- nothing is due: nothing is left over
  step_end : (n i : ℕ) → read_from s count n i (due 0 0 0) ≡ 0 → n ≡ 0
  unfolding read_from record_verdict
  step_end zero i e = refl
  step_end (suc n) i e = let z : ◌≡◌ {A = ℕ} 2 0 = e in omega arith

  -- r resolutions, from record i on
  record Resolved (n i r c p : ℕ) : Type 0 where
    there : r ≤ n
    fine : (j : ℕ) → j < r → resolution_verdict s (i + j) ≡ 0
    on : read_from s count (n - r) (i + r) (due 0 c p) ≡ 0

  resolved : (r n i c p : ℕ) → read_from s count n i (due r c p) ≡ 0 → Resolved n i r c p
  resolved zero n i c p e =
      let a : n - 0 ≡ n = omega arith in
      let b : i + 0 ≡ i = omega arith in
      record { there = omega arith; fine = λ j h. omega arith; on = rw (a, b) e }
  resolved (suc r) n i c p e =
      let w = step-r n i (suc r) c p (omega arith) e in
      let more = w.more in
      let back : suc r - 1 ≡ r = omega arith in
      let v = resolved r w.left (i + 1) c p (rw back at w.on) in
      let there = v.there in
      let left : n - suc r ≡ w.left - r = omega arith in
      let at : i + suc r ≡ i + 1 + r = omega arith in
      record {
        there = omega arith;
        fine = λ j h. first r i j h w.fine v.fine;
        on = rw (left, at) v.on;
      }
    where
      first : (r i j : ℕ) → j < suc r → resolution_verdict s i ≡ 0 → ((j : ℕ) → j < r → resolution_verdict s (i + 1 + j) ≡ 0) → resolution_verdict s (i + j) ≡ 0
      first r i zero h a b = let e : i + 0 ≡ i = omega arith in rw e a
      first r i (suc j) h a b = let e : i + suc j ≡ i + 1 + j = omega arith in rw e (b j (omega arith))

  -- c components, the first of which is component j
  record Composed (n j c p : ℕ) : Type 0 where
    component : (k : ℕ) → j ≤ k → k < j + c → component_verdict s (component_record s k) ≡ 0
    resolution : (k r : ℕ) → j ≤ k → k < j + c → r < wd s (component_record s k) 3 → resolution_verdict s (resolution_record s k r) ≡ 0
    left : ℕ
    size : n + component_record s j ≡ left + component_record s (j + c)
    on : read_from s count left (component_record s (j + c)) (due 0 0 p) ≡ 0

  composed : (c n j p : ℕ) → read_from s count n (component_record s j) (due 0 c p) ≡ 0 → Composed n j c p
  unfolding component_record
  composed zero n j p e =
      let a : j + 0 ≡ j = omega arith in
      record {
        component = λ k h l. omega arith;
        resolution = λ k r h l. omega arith;
        left = n;
        size = rw a refl;
        on = rw a e;
      }
  composed (suc c) n j p e =
      let i : ℕ = component_record s j in
      let w = step_c n i (suc c) p (omega arith) e in
      let back : suc c - 1 ≡ c = omega arith in
      let v = resolved (wd s i 3) w.left (i + 1) c p (rw back at w.on) in
      let u = composed c (w.left - wd s i 3) (suc j) p v.on in
      let next : j + suc c ≡ suc j + c = omega arith in
      let more = w.more in
      let there = v.there in
      let size = u.size in
      record {
        component = λ k h l. first-or j k (λ (m : ℕ). component_verdict s (component_record s m) ≡ 0) h w.fine (λ g. u.component k g (omega arith));
        resolution =
            λ k r h l.
            first-or j k (λ (m : ℕ). r < wd s (component_record s m) 3 → resolution_verdict s (resolution_record s m r) ≡ 0) h (v.fine r) (λ g. u.resolution k r g (omega arith));
        left = u.left;
        size = rw next (omega arith);
        on = rw next u.on;
      }
    where
      first-or : (j k : ℕ) (Q : ℕ → Type 0) → j ≤ k → Q j → (suc j ≤ k → Q k) → Q k
      first-or j k Q h a b = ⊎_elim (λ (e : k ≤ j). let d : j ≡ k = omega arith in subst Q d a) b (le_or_lt k j)

  -- p progressions, the first of which is record i
  record Progressed (n i p : ℕ) : Type 0 where
    all : n ≡ p
    fine : (k : ℕ) → k < p → progression_verdict s count (i + k) ≡ 0

  progressed : (p n i : ℕ) → read_from s count n i (due 0 0 p) ≡ 0 → Progressed n i p
  progressed zero n i e = record { all = step_end n i e; fine = λ k h. omega arith }
  progressed (suc p) n i e =
      let w = step_p n i (suc p) (omega arith) e in
      let back : suc p - 1 ≡ p = omega arith in
      let v = progressed p w.left (i + 1) (rw back at w.on) in
      let more = w.more in
      let all = v.all in
      record { all = omega arith; fine = λ k h. first i k h w.fine v.fine }
    where
      first : (i k : ℕ) → k < suc p → progression_verdict s count i ≡ 0 → ((k : ℕ) → k < p → progression_verdict s count (i + 1 + k) ≡ 0) → progression_verdict s count (i + k) ≡ 0
      first i zero h a b = let e : i + 0 ≡ i = omega arith in rw e a
      first i (suc k) h a b = let e : i + suc k ≡ i + 1 + k = omega arith in rw e (b k (omega arith))

-- what a sheet has that is read without a refusal
pub record Read (s : List ℕ) : Type 0 where
  pub tile : tile_verdict s 0 ≡ 0
  pub component : (c : ℕ) → c < wd s 0 6 → component_verdict s (component_record s c) ≡ 0
  pub resolution : (c r : ℕ) → c < wd s 0 6 → r < wd s (component_record s c) 3 → resolution_verdict s (resolution_record s c r) ≡ 0
  pub progression : (k : ℕ) → k < wd s 0 7 → progression_verdict s (wd s 0 7) (progression_record s k) ≡ 0
  pub size : length s ≡ 32 * progression_record s (wd s 0 7)
  pub short : length s ≤ 32 * 577

pub read-good : (s : List ℕ) → read_verdict s ≡ 0 → Read s
unfolding read_verdict component_record
read-good s e =
    let a = cond_zero (length_good s) _ 1 (λ t z. omega arith) e in
    let b = goes_on (tile_verdict s 0) _ a.1 in
    let g = and_true (ltb 0 (length s)) _ a.0 in
    let h = and_true (eqb (length s % 32) 0) _ g.1 in
    let some = ltb-true 0 (length s) g.0 in
    let whole = eqb-true (length s % 32) 0 h.0 in
    let n : ℕ = length s / 32 - 1 in
    let v = composed s (wd s 0 7) (wd s 0 6) n 0 (wd s 0 7) b.1 in
    let zero_more : 0 + wd s 0 6 ≡ wd s 0 6 = omega arith in
    let u = progressed s (wd s 0 7) (wd s 0 7) v.left (component_record s (0 + wd s 0 6)) v.on in
    let size = v.size in
    let all = u.all in
    record {
      tile = b.0;
      component = λ c l. v.component c (omega arith) (omega arith);
      resolution = λ c r l. v.resolution c r (omega arith) (omega arith);
      progression = λ k l. rw zero_more at (u.fine k l);
      size = rw (← zero_more) (omega arith);
      short = leb-true (length s) (32 * 577) h.1;
    }
