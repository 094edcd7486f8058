-- Marking for a viewer (02, P4): there are eight, 0 to 7, and for no other anything is written.
use Rattle.std.specs.Prelude.{◌≡◌, Bool, true, cond, List, ℕ, ◌*◌, ◌%◌, ◌^◌, ◌<◌, get_or, set, ltb}
use Rattle.std.proofs.Common.{one-mul, mod-eq_of_lt}
use Rattle.std.proofs.Math.Pow.{pow-lt}
use Rattle.laws.specs.Marks.{marked_byte, mark_at}

-- 02, P4: viewer v is one of 0 to 7
abbrev pub is_viewer : ℕ → Bool
is_viewer v = ltb v 8

unfoldable pub set_byte : ℕ → ℕ → ℕ
set_byte v b = cond (is_viewer v) (marked_byte v b) b

unfoldable pub set_at : ℕ → List ℕ → ℕ → List ℕ
set_at v m i = set m i (set_byte v (get_or m i 0))

-- for a viewer it is to mark
pub set-marks : (v : ℕ) (m : List ℕ) (i : ℕ) → is_viewer v ≡ true → set_at v m i ≡ mark_at v m i
unfolding set_at set_byte mark_at
set-marks v m i e = rw e

-- the weight of a viewer's bit, as code makes it
pub weight : (v : ℕ) → v < 8 → 1 * 2 ^ v % 256 ≡ 2 ^ v
weight v h = rw (one-mul (2 ^ v)) (mod-eq_of_lt (pow-lt h))
