-- Setup for a call that writes an output too, which has to have room (01: -8 comes after -7).
use Rattle.std.specs.Prelude.{◌≡◌, refl, Bool, true, cond, List, ℕ, ◌*◌, length, leb, eqb, Result}
use Rattle.std.proofs.Common.{eqb-true}
use Rattle.laws.specs.Cases.{split}
use Rattle.types.specs.Answers.{of_set_up}
use Rattle.types.specs.declared.answer.Refusal.{Refusal}
use Rattle.types.specs.declared.state.State.{State}
use Rattle.packets.specs.Tile.{reported, needed}
use Rattle.packets.specs.Table.{sheet_in}
use Rattle.packets.specs.Calls.{Setup, accepted, turned_away, setup_verdict, setup_of, run_verdict}
use Rattle.calls.specs.declared.output.Output.{Output}
use Rattle.calls.specs.declared.output.Output.TheVariants.{Nothing, Records, Reports}

-- the bytes lent suffice: 16 for each mark needed, or 16 for what setup reports
abbrev pub room_for : Output → ℕ → Bool
room_for Nothing n = true
room_for (Records bytes) n = leb (16 * n) bytes
room_for (Reports bytes) n = leb 16 bytes

-- setup's verdict, then -8
unfoldable pub room_verdict : List ℕ → List ℕ → List ℕ → Output → ℕ
room_verdict sheet table marks output =
    let v = setup_verdict sheet table marks in
    cond (eqb v 0) (cond (room_for output (needed (reported (sheet_in sheet)))) 0 8) v

unfoldable pub setup_in : List ℕ → List ℕ → List ℕ → Output → Setup
setup_in sheet table marks output =
    let v = room_verdict sheet table marks output in
    cond (eqb v 0) (accepted sheet table marks) (turned_away v table marks)

-- for records it is the whole run's verdict
pub room_run : (sheet table marks output : List ℕ) → room_verdict sheet table marks (Records (length output)) ≡ run_verdict sheet table marks output
unfolding room_verdict run_verdict
room_run sheet table marks output = refl

-- for nothing it is setup
pub room_none : (sheet table marks : List ℕ) → setup_in sheet table marks Nothing ≡ setup_of sheet table marks
unfolding setup_in room_verdict setup_of
room_none sheet table marks = split (eqb (setup_verdict sheet table marks) 0) (λ t. rw (eqb-true (setup_verdict sheet table marks) 0 t)) (λ t. rw (t, t))

-- what a setup answered and left
pub record SetUpLeft (sheet table marks : List ℕ) (output : Output) (r : Result State Refusal) (t m : List ℕ) : Type 0 where
  pub said : of_set_up r ≡ (setup_in sheet table marks output).said
  pub table_is : t ≡ (setup_in sheet table marks output).table
  pub marks_is : m ≡ (setup_in sheet table marks output).marks

pub done_is : {sheet table marks : List ℕ} {output : Output} {r : Result State Refusal} {t m : List ℕ} → SetUpLeft sheet table marks output r t m
    → ◌≡◌ {A = Setup} (record { said = of_set_up r; table = t; marks = m }) (setup_in sheet table marks output)
done_is h = λ i. record { said = h.said i; table = h.table_is i; marks = h.marks_is i }
