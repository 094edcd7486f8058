-- How many of the first n marks are free: a number that falls with every mark that is set, so that no more is listed. Assumes nothing.
use Rattle.std.specs.Prelude.{◌≡◌, refl, Bool, true, false, ℕ, zero, suc, ◌+◌, ◌≤◌, ◌<◌, length}
use mathlib.Core.List.Memᴰ.{head as here}
use mathlib.Core.List.Memᴰ.{tail as there}
use mathlib.Core.List.{List, [], ◌∷◌, Memᴰ as In}
use Rattle.std.proofs.Common.{arith}
use Rattle.laws.specs.Cases.{split}
use Rattle.laws.specs.Marks.{free_byte, marked-taken, free_at, mark_at, mark-length}
use Rattle.laws.specs.Runs.{free, mark, unlisted, unlisted-free, unlisted-taken}

abbrev one : Bool → ℕ
one true = 1
one false = 0

unfoldable pub frees : ℕ → ℕ → List ℕ → ℕ
frees v zero l = 0
frees v (suc n) [] = 0
frees v (suc n) (x ∷ xs) = one (free_byte v x) + frees v n xs

one-small : (t : Bool) → one t ≤ 1
one-small true = omega arith
one-small false = omega arith

pub frees_most : (v n : ℕ) (l : List ℕ) → frees v n l ≤ n
unfolding frees
frees_most v zero l = omega arith
frees_most v (suc n) [] = omega arith
frees_most v (suc n) (x ∷ xs) = omega (arith, frees_most v n xs, one-small (free_byte v x))

-- a free mark that is set
frees_fall : (v n : ℕ) (l : List ℕ) (i : ℕ) → i < n → i < length l → free_at v l i ≡ true → frees v n (mark_at v l i) < frees v n l
unfolding frees free_at mark_at
frees_fall v zero l i k h e = omega arith
frees_fall v (suc n) [] i k h e = omega arith
frees_fall v (suc n) (x ∷ xs) zero k h e = rw (e, marked-taken v x) (omega arith)
frees_fall v (suc n) (x ∷ xs) (suc i) k h e = let r = frees_fall v n xs i (omega arith) (omega arith) e in omega arith

-- no more is listed than there are frees
pub unlisted-few : {P : Type 0} (v : ℕ) (ix : P → ℕ) (n : ℕ) (m : List ℕ) (ps : List P)
    → ((p : P) → In p ps → (ix p < n) × (ix p < length m)) → length (unlisted v ix m ps) ≤ frees v n m
unfolding unlisted
unlisted-few v ix n m [] h = omega arith
unlisted-few {P} v ix n m (p ∷ ps) h =
    split (free v ix m p)
    (λ t.
    let b = h p (here refl) in
    let f = frees_fall v n m (ix p) b.0 b.1 t in
    let r = unlisted-few v ix n (mark v ix m p) ps (λ q i. let c = h q (there i) in (c.0, rw (mark-length v m (ix p)) c.1)) in
    rw (unlisted-free v ix m p ps t) (omega arith))
    (λ t. rw (unlisted-taken v ix m p ps t) (unlisted-few v ix n m ps (λ q i. h q (there i))))
