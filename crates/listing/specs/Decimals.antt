-- The digits that std prints are 01's decimal number. Assumes nothing.
use Rattle.std.specs.Prelude.{◌≡◌, ℕ, ◌^◌, ◌<◌, ◌≤◌, length}
use Rattle.std.specs.Fmt.{decimal as printed}
use Rattle.std.proofs.Common.{sym, arith, rules}
use Rattle.std.proofs.lemmas.Fmt.{AppendsLastDigit, decimal_from_appends, length-decimal-le}
use Rattle.packets.specs.Text.{decimal, digits_up_to}

appends : AppendsLastDigit digits_up_to
unfolding digits_up_to
appends = search rules

pub printed_decimal : (n : ℕ) → n < 2 ^ 32 → printed n ≡ decimal n
printed_decimal n h =
    let few : length (printed n) ≤ 10 = length-decimal-le 10 n (omega arith) (omega arith) (omega arith) in
    sym (decimal_from_appends digits_up_to appends 10 n (omega arith) few)
