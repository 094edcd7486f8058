-- What reading a sheet answers (01: -1, -2, -3): the fields, or a refusal with the empty state.
use Rattle.std.specs.Prelude.{ℕ, cond, List, eqb, pos, nat_abs, Result, Ok, Err}
use Rattle.types.specs.State.{empty_state}
use Rattle.packets.specs.Sheet.{read_verdict, fields_of}
use Rattle.types.specs.Answers.{SetUpSaid, number_of}
use Rattle.packets.specs.Calls.{refusal}
use Rattle.types.specs.declared.answer.Refusal.{Refusal}

-- a verdict in the numbers of the definitions: that of its refusal, without its sign, or 0
abbrev pub verdict_of : {A : Type 0} → Result A Refusal → ℕ
verdict_of (Ok a) = 0
verdict_of (Err e) = nat_abs (number_of e)

-- the fields of a sheet with no refusal; else the refusal, which carries only its number
unfoldable pub read_of : List ℕ → SetUpSaid
read_of s =
    cond (eqb (read_verdict s) 0) (record { number = pos 0; state = fields_of s }) (record { number = refusal (read_verdict s); state = empty_state })
