-- Where the elements of a list stand that is gathered over 0, 1, .. n - 1. Assumes nothing.
use Rattle.std.specs.Prelude.{◌≡◌, refl, length, get_or}
use Rattle.std.proofs.Common.{sym, mul-add, mul-zero, mul-suc, add-one, arith}
use mathlib.Core.List.{List, [], ◌∷◌, ◌++◌, append-nil}
use Prim.Native.Nat.{ℕ, zero, suc, ◌+◌, ◌*◌, ◌<◌}
use Rattle.std.proofs.Math.ListN.{length-append, get_or-append}
use Rattle.std.proofs.Math.Seq.{get_or-append-add}
use Rattle.laws.specs.Gather.{gather, gather-append}
use Rattle.laws.specs.Axis.{span}
use Rattle.laws.specs.Spans.{span_head, span_end, span-append}
use Rattle.laws.specs.Below.{sum_below}

-- one number more
pub span_last : (n : ℕ) → span 0 (n + 1) ≡ span 0 n ++ (n ∷ [])
span_last n =
    let tail : span n (n + 1) ≡ n ∷ [] = rw (span_head n (n + 1) (omega arith), span_end (n + 1) (n + 1) (omega arith)) in
    rw (← tail) (sym (span-append (n + 1) n 0 (omega arith) (omega arith)))

module _ {B : Type 0} (f : ℕ → List B) where
  pub gather_last : (n : ℕ) → gather f (span 0 (n + 1)) ≡ gather f (span 0 n) ++ f n
  unfolding gather
  gather_last n = rw (span_last n, gather-append f (span 0 n) (n ∷ []), append-nil (f n))

  pub gather-length : (n : ℕ) → length (gather f (span 0 n)) ≡ sum_below (λ i. length (f i)) n
  unfolding sum_below gather
  gather-length zero = rw (span_end 0 0 (omega arith))
  gather-length (suc n) =
      let e : gather f (span 0 (suc n)) ≡ gather f (span 0 n) ++ f n = rw (add-one n) at (gather_last n) in
      rw (e, length-append (gather f (span 0 n)) (f n), gather-length n)

  -- element j of what c gives stands after all that the numbers below c give
  pub gather-at : (n c j : ℕ) (d : B) → c < n → j < length (f c) → get_or (gather f (span 0 n)) (sum_below (λ i. length (f i)) c + j) d ≡ get_or (f c) j d
  unfolding gather
  gather-at n c j d h k =
      let parts : span 0 n ≡ span 0 c ++ (c ∷ span (c + 1) n) = rw (← (span_head c n h)) (sym (span-append n c 0 (omega arith) (omega arith))) in
      rw (
        parts,
        gather-append f (span 0 c) (c ∷ span (c + 1) n),
        ← (gather-length c),
        get_or-append-add (gather f (span 0 c)) (f c ++ gather f (span (c + 1) n)) j d,
        get_or-append (f c) (gather f (span (c + 1) n)) d j k,
      )

-- a sum of multiples
pub sum_times : (m : ℕ) (f : ℕ → ℕ) (n : ℕ) → sum_below (λ i. m * f i) n ≡ m * sum_below f n
unfolding sum_below
sum_times m f zero = rw (mul-zero m)
sum_times m f (suc n) = rw (sum_times m f n, mul-add m (sum_below f n) (f n))

pub sum-same : (f g : ℕ → ℕ) (n : ℕ) → ((i : ℕ) → f i ≡ g i) → sum_below f n ≡ sum_below g n
unfolding sum_below
sum-same f g zero e = refl
sum-same f g (suc n) e = rw (sum-same f g n e, e n)

pub sum_constant : (m n : ℕ) → sum_below (λ i. m) n ≡ m * n
unfolding sum_below
sum_constant m zero = rw (mul-zero m)
sum_constant m (suc n) = let e : m * suc n ≡ m * n + m = mul-suc m n in rw (sum_constant m n, e)
