-- A MARK: whether it is free for a viewer, and marking it. Nothing else looks into a byte of the marks. Assumes nothing.
use Rattle.std.specs.Prelude.{◌≡◌, Bool, true, false, cond, get_or, set}
use Rattle.std.proofs.Math.Path.{refl, ap}
use Rattle.std.proofs.Common.{sym, ◌∙◌, zero-add, div-lt_iff_lt-mul, add-one, pow_pos, pow-add, pow_mono, shr-shr}
use mathlib.Core.List.{List, [], ◌∷◌}
use Rattle.std.proofs.Math.Logic.{⊎_elim}
use Prim.Native.Nat.{ℕ, zero, suc, ◌+◌, ◌-◌, ◌*◌, ◌/◌, ◌%◌, ◌^◌, ◌≤◌, ◌<◌}
use Rattle.std.proofs.Math.Nat.{mod-lt, zero-div, add-div_right, add-mul-div_right, div-eq_of_lt}
use Rattle.std.proofs.Math.Decide.{ℕ_discrete}
use native.Mathlib.Omega.{arith}
use Rattle.std.proofs.Math.Arith.{lt_of_le-ne}
use Rattle.std.proofs.Math.ListN.{length, length-set}
use Rattle.std.proofs.Math.Seq.{get_or-set_same, get_or-set_other, set_out}
use Rattle.std.proofs.Math.Dec.{eqb}
use borrow.Author.Tests.{eq-eqb, eqb-true, eqb-false}
use Rattle.laws.specs.Cases.{split, le_or_lt}

-- 02, P4: a mark is a byte of eight bits, and viewer v owns the bit of weight 2^v: it is free where that bit is 0, and marking sets that bit
unfoldable pub free_byte : ℕ → ℕ → Bool
free_byte v b = eqb (b / 2 ^ v % 2) 0

unfoldable pub marked_byte : ℕ → ℕ → ℕ
marked_byte v b = cond (free_byte v b) (b + 2 ^ v) b

-- clearing it makes that bit 0
unfoldable pub cleared_byte : ℕ → ℕ → ℕ
cleared_byte v b = cond (free_byte v b) b (b - 2 ^ v)

-- of the marks, the one at i
unfoldable pub free_at : ℕ → List ℕ → ℕ → Bool
free_at v m i = free_byte v (get_or m i 0)

unfoldable pub mark_at : ℕ → List ℕ → ℕ → List ℕ
mark_at v m i = set m i (marked_byte v (get_or m i 0))

unfoldable pub clear_at : ℕ → List ℕ → ℕ → List ℕ
clear_at v m i = set m i (cleared_byte v (get_or m i 0))

-- the first n marks
unfoldable pub cleared_to : ℕ → ℕ → List ℕ → List ℕ
cleared_to v zero m = m
cleared_to v (suc n) [] = []
cleared_to v (suc n) (b ∷ bs) = cleared_byte v b ∷ cleared_to v n bs

-- A BYTE. 0 is free for every viewer
pub free_zero : (v : ℕ) → free_byte v 0 ≡ true
unfolding free_byte
free_zero v = rw (zero-div (2 ^ v))

-- setting a bit that is 0: it is set, the bits below and above are as they were
module _ (v b : ℕ) (even : b / 2 ^ v % 2 ≡ 0) where
  bit_set : (b + 2 ^ v) / 2 ^ v % 2 ≡ 1
  bit_set = rw (add-div_right b (pow_pos v)) (omega arith)

  bit_below : (w : ℕ) → w < v → (b + 2 ^ v) / 2 ^ w % 2 ≡ b / 2 ^ w % 2
  bit_below w h =
      let e : v ≡ v - w - 1 + 1 + w = omega arith in
      let p : 2 ^ v ≡ 2 ^ (v - w - 1) * 2 * 2 ^ w = ap (λ (n : ℕ). 2 ^ n) e ∙ pow-add 2 (v - w - 1 + 1) w ∙ ap (λ (n : ℕ). n * 2 ^ w) (pow-add 2 (v - w - 1) 1) in
      rw (p, add-mul-div_right b (2 ^ (v - w - 1) * 2) (pow_pos w)) (omega arith)

  bit_above : (w : ℕ) → v < w → (b + 2 ^ v) / 2 ^ w ≡ b / 2 ^ w
  bit_above w h =
      let e : w ≡ v + 1 + (w - v - 1) = omega arith in
      let half : (b / 2 ^ v + 1) / 2 ≡ b / 2 ^ v / 2 = omega arith in
      let parts : (n : ℕ) → n / 2 ^ w ≡ n / 2 ^ v / 2 / 2 ^ (w - v - 1)
      = λ n. ap (λ (k : ℕ). n / 2 ^ k) e ∙ sym (shr-shr n (v + 1) (w - v - 1)) ∙ ap (λ (k : ℕ). k / 2 ^ (w - v - 1)) (sym (shr-shr n v 1)) in
      rw (parts (b + 2 ^ v), parts b, add-div_right b (pow_pos v), half)

  bit_other : (w : ℕ) → (w ≡ v → ⊥) → (b + 2 ^ v) / 2 ^ w % 2 ≡ b / 2 ^ w % 2
  bit_other w n = ⊎_elim (λ h. rw (bit_above w (lt_of_le-ne h (λ e. n (sym e))))) (bit_below w) (le_or_lt v w)

  -- it stays within as many bits
  pub bit_fits : (n : ℕ) → v < n → b < 2 ^ n → b + 2 ^ v < 2 ^ n
  bit_fits n h l =
      let z : (b + 2 ^ v) / 2 ^ n < 1 = rw (bit_above n h, div-eq_of_lt l) (omega arith) in
      omega (arith, (div-lt_iff_lt-mul {k = 2 ^ n} {x = b + 2 ^ v} {y = 1} (pow_pos n)).0 z)

-- a bit beyond a number's is 0, and one that is not is in it
pub no_bit : (v b n : ℕ) → n ≤ v → b < 2 ^ n → free_byte v b ≡ true
unfolding free_byte
no_bit v b n h l = rw (div-eq_of_lt {n = b} {m = 2 ^ v} (omega (arith, pow_mono {i = n} {j = v} h)))

pub bit_held : (v b : ℕ) → (b / 2 ^ v % 2 ≡ 0 → ⊥) → 2 ^ v ≤ b
bit_held v b n = ⊎_elim (λ h. h) (λ h. absurd (n (rw (div-eq_of_lt {n = b} {m = 2 ^ v} h) refl))) (le_or_lt (2 ^ v) b)

module _ (v b : ℕ) where
  -- marking a byte that is free sets the bit, and one that is not stays
  on_free : free_byte v b ≡ true → marked_byte v b ≡ b + 2 ^ v
  unfolding marked_byte
  on_free e = rw e

  on_taken : free_byte v b ≡ false → marked_byte v b ≡ b
  unfolding marked_byte
  on_taken e = rw e

  -- a marked byte is not free
  pub marked-taken : free_byte v (marked_byte v b) ≡ false
  unfolding free_byte
  marked-taken =
      split (free_byte v b)
      (λ e. rw (on_free e, bit_set v b (eqb-true _ 0 e)))
      (λ e. rw (on_taken e) e)

  -- other viewers see it as it was
  pub marked_other : (w : ℕ) → (w ≡ v → ⊥) → free_byte w (marked_byte v b) ≡ free_byte w b
  unfolding free_byte
  marked_other w n =
      split (free_byte v b)
      (λ e. rw (on_free e, bit_other v b (eqb-true _ 0 e) w n))
      (λ e. rw (on_taken e))

-- clearing a byte: the bit is 0 then, and other viewers see it as it was
module _ (v b : ℕ) where
  held : free_byte v b ≡ false → 2 ^ v ≤ b
  unfolding free_byte
  held e = bit_held v b (eqb-false _ 0 e)

  -- without the bit it is a byte that had it 0 before it was set
  was_clear : free_byte v b ≡ false → (b - 2 ^ v) / 2 ^ v % 2 ≡ 0
  unfolding free_byte
  was_clear e =
      let back : b - 2 ^ v + 2 ^ v ≡ b = omega (arith, held e) in
      let up : b / 2 ^ v ≡ (b - 2 ^ v) / 2 ^ v + 1 = ap (λ (n : ℕ). n / 2 ^ v) (sym back) ∙ add-div_right (b - 2 ^ v) (pow_pos v) in
      let odd : b / 2 ^ v % 2 ≡ 0 → ⊥ = eqb-false _ 0 e in
      ⊎_elim (λ h. absurd (odd (omega arith))) (λ h. omega (arith, mod-lt ((b - 2 ^ v) / 2 ^ v) {m = 2} (omega arith))) (le_or_lt 1 ((b - 2 ^ v) / 2 ^ v % 2))

  pub cleared_free : free_byte v (cleared_byte v b) ≡ true
  unfolding cleared_byte
  cleared_free =
      split (free_byte v b)
      (λ e. rw e e)
      (λ e. rw e (unfold free_byte in eq-eqb _ 0 (was_clear e)))

  pub cleared_other : (w : ℕ) → (w ≡ v → ⊥) → free_byte w (cleared_byte v b) ≡ free_byte w b
  unfolding cleared_byte free_byte
  cleared_other w n =
      split (free_byte v b)
      (λ e. rw e)
      (λ e.
      let back : b - 2 ^ v + 2 ^ v ≡ b = omega (arith, held e) in
      rw e (ap (λ (k : ℕ). eqb k 0) (sym (bit_other v (b - 2 ^ v) (was_clear e) w n) ∙ ap (λ (k : ℕ). k / 2 ^ w % 2) back)))

-- marking it again changes nothing
pub marked_again : (v b : ℕ) → marked_byte v (marked_byte v b) ≡ marked_byte v b
marked_again v b = on_taken v (marked_byte v b) (marked-taken v b)

-- of 0 only that bit
pub marked_zero : (v : ℕ) → marked_byte v 0 ≡ 2 ^ v
marked_zero v = on_free v 0 (free_zero v) ∙ zero-add (2 ^ v)

-- where a byte is 0 the mark is free
pub zero_free : (v : ℕ) (m : List ℕ) (i : ℕ) → get_or m i 0 ≡ 0 → free_at v m i ≡ true
unfolding free_at
zero_free v m i e = ap (free_byte v) e ∙ free_zero v

module _ (v : ℕ) (m : List ℕ) (i : ℕ) where
  pub mark-length : length (mark_at v m i) ≡ length m
  unfolding mark_at
  mark-length = length-set m i _

  -- the byte that is marked, and every other
  pub mark_self : i < length m → get_or (mark_at v m i) i 0 ≡ marked_byte v (get_or m i 0)
  unfolding mark_at
  mark_self h = get_or-set_same m i _ 0 h

  pub mark_other : (j : ℕ) → (j ≡ i → ⊥) → get_or (mark_at v m i) j 0 ≡ get_or m j 0
  unfolding mark_at
  mark_other j n = get_or-set_other m i j _ 0 n

  -- so it is free no more, and the others are as they were
  pub taken_self : i < length m → free_at v (mark_at v m i) i ≡ false
  unfolding free_at
  taken_self h = ap (free_byte v) (mark_self h) ∙ marked-taken v _

  pub free_other : (j : ℕ) → (j ≡ i → ⊥) → free_at v (mark_at v m i) j ≡ free_at v m j
  unfolding free_at
  free_other j n = ap (free_byte v) (mark_other j n)

  -- where there is none, nothing changes
  pub mark_out : length m ≤ i → mark_at v m i ≡ m
  unfolding mark_at
  mark_out h = set_out m i _ h

  -- and all are as they were for another viewer
  pub free_others : (w : ℕ) → (w ≡ v → ⊥) → (j : ℕ) → free_at w (mark_at v m i) j ≡ free_at w m j
  unfolding free_at
  free_others w n j = ⊎_elim (λ h. rw (mark_out h)) (λ h. by h (ℕ_discrete j i)) (le_or_lt (length m) i)
    where
      by : i < length m → Dec (j ≡ i) → free_byte w (get_or (mark_at v m i) j 0) ≡ free_byte w (get_or m j 0)
      by h (yes e) = rw e (ap (free_byte w) (mark_self h) ∙ marked_other v (get_or m i 0) w n)
      by h (no k) = ap (free_byte w) (mark_other j k)

-- CLEARING the first n marks: as many are left, those are free, those from there on are as they were, and all are for another viewer
module _ (v : ℕ) where
  pub cleared_length : (n : ℕ) (m : List ℕ) → length (cleared_to v n m) ≡ length m
  unfolding cleared_to
  cleared_length zero m = refl
  cleared_length (suc n) [] = refl
  cleared_length (suc n) (b ∷ bs) = ap suc (cleared_length n bs)

  pub cleared_below : (n : ℕ) (m : List ℕ) (i : ℕ) → i < n → free_at v (cleared_to v n m) i ≡ true
  unfolding cleared_to free_at
  cleared_below zero m i h = absurd (let z : ⊥ = omega arith in z)
  cleared_below (suc n) [] i h = free_zero v
  cleared_below (suc n) (b ∷ bs) zero h = cleared_free v b
  cleared_below (suc n) (b ∷ bs) (suc i) h = cleared_below n bs i (omega arith)

  pub cleared_beyond : (n : ℕ) (m : List ℕ) (i : ℕ) → n ≤ i → get_or (cleared_to v n m) i 0 ≡ get_or m i 0
  unfolding cleared_to
  cleared_beyond zero m i h = refl
  cleared_beyond (suc n) [] i h = refl
  cleared_beyond (suc n) (b ∷ bs) zero h = absurd (let z : ⊥ = omega arith in z)
  cleared_beyond (suc n) (b ∷ bs) (suc i) h = cleared_beyond n bs i (omega arith)

  pub cleared_others : (w : ℕ) → (w ≡ v → ⊥) → (n : ℕ) (m : List ℕ) (i : ℕ) → free_at w (cleared_to v n m) i ≡ free_at w m i
  unfolding cleared_to free_at
  cleared_others w k zero m i = refl
  cleared_others w k (suc n) [] i = refl
  cleared_others w k (suc n) (b ∷ bs) zero = cleared_other v b w k
  cleared_others w k (suc n) (b ∷ bs) (suc i) = cleared_others w k n bs i

  -- one more
  one_cleared : (n : ℕ) (m : List ℕ) → n < length m → clear_at v (cleared_to v n m) n ≡ cleared_to v (suc n) m
  unfolding cleared_to clear_at
  one_cleared n [] h = absurd (let z : ⊥ = omega arith in z)
  one_cleared zero (b ∷ bs) h = refl
  one_cleared (suc n) (b ∷ bs) h = ap (λ (l : List ℕ). cleared_byte v b ∷ l) (one_cleared n bs (omega arith))

  pub cleared_next : (n : ℕ) (m : List ℕ) → n < length m → clear_at v (cleared_to v n m) n ≡ cleared_to v (n + 1) m
  cleared_next n m h = one_cleared n m h ∙ ap (λ (k : ℕ). cleared_to v k m) (sym (add-one n))
