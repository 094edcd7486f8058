-- A sheet whose records are good where they stand, none missing and none left over, is read without a refusal: the converse of `Reading`. Assumes nothing.
use Rattle.std.specs.Prelude.{◌≡◌, true, List, ◌↔◌, length}
use Rattle.std.proofs.Math.Path.{refl}
use Prim.Native.Nat.{ℕ, zero, suc, ◌+◌, ◌-◌, ◌*◌, ◌/◌, ◌%◌, ◌≤◌, ◌<◌}
use Rattle.std.proofs.Math.Nat.{mul-mod_right, mul-div_right}
use native.Mathlib.Omega.{arith}
use borrow.Author.Tests.{lt-ltb, le-leb, eq-eqb}
use Rattle.laws.specs.Cases.{and_both}
use Rattle.packets.specs.Sheet.{wd, Due, due, record_verdict, due_after, read_from, read_verdict, length_good, component_verdict, resolution_verdict, progression_verdict, component_record, resolution_record, progression_record}
use Rattle.packets.specs.Reading.{Read, read-good}

-- the verdicts of n + 1 records from record i on: of the first, and of those after it
module _ (v : ℕ → ℕ) (n i : ℕ) (h : (j : ℕ) → j < suc n → v (i + j) ≡ 0) where
  first : v i ≡ 0
  first = let e : i + 0 ≡ i = omega arith in rw e at (h 0 (omega arith))

  behind : (j : ℕ) → j < n → v (i + 1 + j) ≡ 0
  behind j l = let e : i + suc j ≡ i + 1 + j = omega arith in rw e at (h (suc j) (omega arith))

module _ (s : List ℕ) (count : ℕ) where
  -- a good record lets the reading go on
  go_on : (n i : ℕ) (d : Due) → record_verdict s count i d ≡ 0 → read_from s count n (i + 1) (due_after s i d) ≡ 0 → read_from s count (suc n) i d ≡ 0
  unfolding read_from
  go_on n i d e f = rw e f

  -- by what is due
  on_r : (n i r c p : ℕ) → resolution_verdict s i ≡ 0 → read_from s count n (i + 1) (due r c p) ≡ 0 → read_from s count (suc n) i (due (suc r) c p) ≡ 0
  unfolding record_verdict due_after
  on_r n i r c p e f = let t = lt-ltb 0 (suc r) (omega arith) in let back : suc r - 1 ≡ r = omega arith in go_on n i (due (suc r) c p) (rw t e) (rw (t, back) f)

  on_c : (n i c p : ℕ) → component_verdict s i ≡ 0 → read_from s count n (i + 1) (due (wd s i 3) c p) ≡ 0 → read_from s count (suc n) i (due 0 (suc c) p) ≡ 0
  unfolding record_verdict due_after
  on_c n i c p e f = let t = lt-ltb 0 (suc c) (omega arith) in let back : suc c - 1 ≡ c = omega arith in go_on n i (due 0 (suc c) p) (rw t e) (rw (t, back) f)

  on_p : (n i p : ℕ) → progression_verdict s count i ≡ 0 → read_from s count n (i + 1) (due 0 0 p) ≡ 0 → read_from s count (suc n) i (due 0 0 (suc p)) ≡ 0
  unfolding record_verdict due_after
  on_p n i p e f = let t = lt-ltb 0 (suc p) (omega arith) in let back : suc p - 1 ≡ p = omega arith in go_on n i (due 0 0 (suc p)) (rw t e) (rw back f)

  -- p progressions, and nothing left over
  read-progressions : (p i : ℕ) → ((k : ℕ) → k < p → progression_verdict s count (i + k) ≡ 0) → read_from s count p i (due 0 0 p) ≡ 0
  unfolding read_from
  read-progressions zero i h = refl
  read-progressions (suc p) i h = on_p p i p (first (progression_verdict s count) p i h) (read-progressions p (i + 1) (behind (progression_verdict s count) p i h))

  -- r resolutions, and then m records
  read-resolutions : (r m i c p : ℕ) → ((j : ℕ) → j < r → resolution_verdict s (i + j) ≡ 0) → read_from s count m (i + r) (due 0 c p) ≡ 0 → read_from s count (m + r) i (due r c p) ≡ 0
  read-resolutions zero m i c p h e =
      let a : m + 0 ≡ m = omega arith in
      let b : i + 0 ≡ i = omega arith in
      rw a (rw b at e)
  read-resolutions (suc r) m i c p h e =
      let a : m + suc r ≡ suc (m + r) = omega arith in
      let b : i + suc r ≡ i + 1 + r = omega arith in
      rw a (on_r (m + r) i r c p (first (resolution_verdict s) r i h) (read-resolutions r m (i + 1) c p (behind (resolution_verdict s) r i h) (rw b at e)))

  -- records go up
  at-least : (c j : ℕ) → component_record s j ≤ component_record s (j + c)
  unfolding component_record
  at-least zero j = let e : j + 0 ≡ j = omega arith in rw e (omega arith)
  at-least (suc c) j = let e : j + suc c ≡ suc j + c = omega arith in rw e (let h = at-least c (suc j) in omega arith)

  -- c components from component j on, and then m records
  read-components : (c m n j p : ℕ) → n + component_record s j ≡ m + component_record s (j + c)
      → ((k : ℕ) → j ≤ k → k < j + c → component_verdict s (component_record s k) ≡ 0)
      → ((k r : ℕ) → j ≤ k → k < j + c → r < wd s (component_record s k) 3 → resolution_verdict s (resolution_record s k r) ≡ 0)
      → read_from s count m (component_record s (j + c)) (due 0 0 p) ≡ 0 → read_from s count n (component_record s j) (due 0 c p) ≡ 0
  unfolding component_record
  read-components zero m n j p z f g e =
      let a : j + 0 ≡ j = omega arith in
      let b : n ≡ m = let y = rw a at z in omega arith in
      rw b (rw a at e)
  read-components (suc c) m n j p z f g e =
      let i : ℕ = component_record s j in
      let r : ℕ = wd s i 3 in
      let a : j + suc c ≡ suc j + c = omega arith in
      let rest : read_from s count m (component_record s (suc j + c)) (due 0 0 p) ≡ 0 = rw a at e in
      let y : n + i ≡ m + component_record s (suc j + c) = rw a at z in
      let tail : (l : ℕ) → l + (i + 1 + r) ≡ m + component_record s (suc j + c) → read_from s count l (i + 1 + r) (due 0 c p) ≡ 0
      = λ l x. read-components c m l (suc j) p x (λ k h b. f k (omega arith) (omega arith)) (λ k q h b. g k q (omega arith) (omega arith)) rest in
      let up = at-least c (suc j) in
      let l : ℕ = n - 1 - r in
      let n-is : n ≡ suc (l + r) = omega arith in
      rw n-is
      (on_c (l + r) i c p (f j (omega arith) (omega arith))
      (read-resolutions r l (i + 1) c p (λ q b. g j q (omega arith) (omega arith) b) (tail l (omega arith))))

-- the converse of `read-good`
pub good-read : (s : List ℕ) → Read s → read_verdict s ≡ 0
unfolding read_verdict component_record
good-read s g =
    let c : ℕ = wd s 0 6 in
    let p : ℕ = wd s 0 7 in
    let n : ℕ = progression_record s p in
    let z : 0 + c ≡ c = omega arith in
    let some : 1 ≤ component_record s c = rw z at (at-least s p c 0) in
    let size : length s ≡ 32 * n = g.size in
    let whole : length s % 32 ≡ 0 = rw size (mul-mod_right 32 n) in
    let long : length_good s ≡ true = and_both (lt-ltb 0 (length s) (omega arith)) (and_both (eq-eqb _ _ whole) (le-leb _ _ g.short)) in
    let records : length s / 32 - 1 ≡ n - 1 = rw (size, mul-div_right n {m = 32} (omega arith)) in
    let rest : read_from s p (n - 1) 1 (due 0 c p) ≡ 0
    = read-components s p c p (n - 1) 0 p (rw z (omega arith)) (λ k h l. g.component k (omega arith)) (λ k r h l. g.resolution k r (omega arith))
    (rw z (read-progressions s p p (component_record s c) g.progression)) in
    rw (long, g.tile, records) rest

-- a sheet is read without a refusal exactly if this holds
pub read-means : (s : List ℕ) → (read_verdict s ≡ 0) ↔ Read s
read-means s = (read-good s, good-read s)
