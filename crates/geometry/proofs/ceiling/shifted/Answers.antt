-- `shifted`: the quotient shifted back is the number without what is left over, so that it is less just where something is; then the ceiling is one more than the
-- quotient. By 2^32 or more it is 1, or 0 of 0. Assumes nothing.
use Rattle.std.proofs.Common.{◌≡◌, ℕ, ◌+◌, ◌*◌, ◌/◌, ◌%◌, ◌^◌, ◌<◌, sym, ◌∙◌, mod-eq_of_lt, div-add-mod', arith, pow_pos, pow_mono}
use Rattle.laws.specs.Ceiling.{ceil_off, ceil_one}
use Rattle.geometry.proofs.ceiling.shifted.Goals as goal

-- the shift back loses nothing
back : (a by : ℕ) → a < 2 ^ 32 → a / 2 ^ by * 2 ^ by % 2 ^ 32 + a % 2 ^ by ≡ a
back a by h =
    let whole = div-add-mod' a (2 ^ by) in
    let k : a / 2 ^ by * 2 ^ by < 2 ^ 32 = omega arith in
    rw (mod-eq_of_lt k) whole

pub returns-then-q-by : goal.returns-then-q-by
returns-then-q-by c =
    let a = c.args in
    sym (ceil_off (2 ^ a.by) (pow_pos a.by) a.a (λ z. omega (arith, c.if-q-by.true, back a.a a.by (omega arith))))

pub returns-else-by-lt32 : goal.returns-else-by-lt32
returns-else-by-lt32 c =
    let a = c.args in
    c.min.ensures ∙ sym (ceil_one (2 ^ a.by) (pow_pos a.by) a.a (omega (arith, pow_mono {i = 32} {j = a.by} (omega arith))))
