-- `floored`: by 32 or more nothing is left. Assumes nothing.
use Rattle.std.proofs.Common.{◌≡◌, ℕ, ◌/◌, ◌^◌, ◌<◌, Option, Some, None, SomeIff, unwrap_or, sym, arith, pow_mono}
use native.Mathlib.Nat.{div-eq_of_lt}
use Rattle.geometry.proofs.power.floored.Goals as goal

left : (a by : ℕ) → a < 2 ^ 32 → (o : Option ℕ) → SomeIff o (by < 32) (a / 2 ^ by) → unwrap_or o 0 ≡ a / 2 ^ by
left a by h (Some x) s = s.1
left a by h None s = sym (div-eq_of_lt (omega (arith, s, pow_mono {i = 32} {j = by} (omega (arith, s)))))

pub returns : goal.returns
returns c = let a = c.args in rw c.unwrap_or.ensures (left a.a a.by (omega arith) _ c.checked_shr.ensures)
