-- The digits that io::decimal spells are 01's decimal number. Assumes nothing.
use Rattle.std.specs.Prelude.{◌≡◌, List, ℕ, zero, suc, ◌+◌, ◌-◌, ◌*◌, ◌/◌, ◌%◌, ◌^◌, ◌≤◌, ◌<◌, take}
use Rattle.std.proofs.Common.{◌∙◌, ⊎_elim, pow-suc, div-lt_iff_lt-mul, le-div_iff_mul-le, mod-lt, arith, lt-ltb, le-ltb}
use Rattle.std.proofs.Math.Nat.{pow-le-pow_right}
use Rattle.laws.specs.Cases.{le_or_lt}
use Rattle.io.specs.Digits.{last_digits, hex_digit_ascii, IsDigitCount}
use Rattle.packets.specs.Text.{decimal, digits_up_to}

-- a 32-bit number has at most ten
pub few_digits : (n k : ℕ) → n < 4294967296 → IsDigitCount 10 1 n k → k ≤ 10
few_digits n k h f = ⊎_elim (λ p. p) (λ q. absurd (more q)) (le_or_lt k 10)
  where
    more : 10 < k → ⊥
    more q =
        let ten : 10 ^ 10 ≤ 10 ^ (k - 1) = pow-le-pow_right (omega arith) {i = 10} {j = k - 1} (omega arith) in
        let all = f.2 (omega arith) in
        omega (arith, ten, all)

last_digit : (n : ℕ) → hex_digit_ascii (n % 10) ≡ 48 + n % 10
last_digit n = let h : n % 10 < 10 = mod-lt n (omega arith) in rw (lt-ltb _ _ h)

same_digits : (m k n : ℕ) → k ≤ m → IsDigitCount 10 1 n k → last_digits 10 k n ≡ digits_up_to m n
unfolding digits_up_to
same_digits m zero n h f = absurd (let no : ⊥ = omega (arith, f.0) in no)
same_digits zero (suc k) n h f = absurd (let no : ⊥ = omega arith in no)
same_digits (suc m) (suc zero) n h f =
    let small : n < 10 = omega (arith, f.1) in
    rw (lt-ltb _ _ small, last_digit n)
same_digits (suc m) (suc (suc j)) n h f =
    let most : n < 10 ^ suc j * 10 = rw (pow-suc 10 (suc j)) at f.1 in
    let one_less : suc (suc j) - 1 ≡ suc j = omega arith in
    let two-less : suc j - 1 ≡ j = omega arith in
    let least : 10 ^ suc j ≤ n = rw one_less at (f.2 (omega arith)) in
    let ten : 10 ^ 1 ≤ 10 ^ suc j = pow-le-pow_right (omega arith) {i = 1} {j = suc j} (omega arith) in
    let large : 10 ≤ n = omega arith in
    let front : IsDigitCount 10 1 (n / 10) (suc j)
    = (omega arith, (div-lt_iff_lt-mul {k = 10} (omega arith)).1 most, λ l. rw two-less ((le-div_iff_mul-le {k = 10} (omega arith)).1 (rw (pow-suc 10 j) at least))) in
    rw (le-ltb _ _ large, last_digit n, same_digits m (suc j) (n / 10) (omega arith) front)

-- what was spelled
pub spelled : (n k : ℕ) (text : List ℕ) → n < 4294967296 → IsDigitCount 10 1 n k → take k text ≡ last_digits 10 k n → take k text ≡ decimal n
spelled n k text h f e = e ∙ same_digits 10 k n (few_digits n k h f) f
