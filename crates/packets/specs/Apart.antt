-- Two answers that say the same are the same. Assumes nothing.
use Rattle.std.specs.Prelude.{◌≡◌, refl, true, false, zero, suc, eqb, ℤ, pos, negsuc, ℕ, ◌-◌, nat_abs, Result, Ok, Err, ⊤}
use Rattle.std.proofs.Common.{sym, ap, ◌∙◌}
use Rattle.std.proofs.Math.Option.{Option, some, none}
use Rattle.types.specs.Answers.{number_of, SetUpSaid, of_set_up, StartSaid, of_started, of_run, OpenSaid, of_opened, StepSaid, of_joined, of_stepped, RectangleSaid, of_located}
use Rattle.types.specs.declared.state.State.{State}
use Rattle.types.specs.declared.followed.Followed.{Followed}
use Rattle.types.specs.declared.cursor.Cursor.{Cursor}
use Rattle.types.specs.declared.answer.Refusal.{Refusal}
use Rattle.types.specs.declared.answer.Refusal.TheVariants as refusal
use Rattle.types.specs.declared.answer.NotOpened.{NotOpened}
use Rattle.types.specs.declared.answer.NotOpened.TheVariants as unopened
use Rattle.types.specs.declared.answer.NotJoined.{NotJoined}
use Rattle.types.specs.declared.answer.NotJoined.TheVariants as unjoined
use Rattle.types.specs.declared.answer.Stepped.{Stepped}
use Rattle.types.specs.declared.answer.Stepped.TheVariants as stepped
use Rattle.types.specs.declared.answer.NotLocated.{NotLocated}
use Rattle.types.specs.declared.answer.NotLocated.TheVariants as unlocated
use Rattle.types.specs.declared.cursor.Position.{Position}
use Rattle.geometry.specs.declared.tile.Area.{Area}

-- a refusal from its number
by_number : ℤ → Refusal
by_number (pos n) = refusal.Output
by_number (negsuc zero) = refusal.Length
by_number (negsuc (suc zero)) = refusal.Shape
by_number (negsuc (suc (suc zero))) = refusal.Range
by_number (negsuc (suc (suc (suc zero)))) = refusal.Grid
by_number (negsuc (suc (suc (suc (suc zero))))) = refusal.TooMany
by_number (negsuc (suc (suc (suc (suc (suc zero)))))) = refusal.Marks
by_number (negsuc (suc (suc (suc (suc (suc (suc zero))))))) = refusal.Table
by_number (negsuc (suc (suc (suc (suc (suc (suc (suc n)))))))) = refusal.Output

by_number_lem : (e : Refusal) → by_number (number_of e) ≡ e
unfolding by_number
by_number_lem refusal.Length = refl
by_number_lem refusal.Shape = refl
by_number_lem refusal.Range = refl
by_number_lem refusal.Grid = refl
by_number_lem refusal.TooMany = refl
by_number_lem refusal.Marks = refl
by_number_lem refusal.Table = refl
by_number_lem refusal.Output = refl

pub refusal-apart : (d e : Refusal) → number_of d ≡ number_of e → d ≡ e
refusal-apart d e h = sym (by_number_lem d) ∙ ap by_number h ∙ by_number_lem e

-- which is below 0
pub refusal-negative : (e : Refusal) → number_of e ≡ negsuc (nat_abs (number_of e) - 1)
refusal-negative refusal.Length = refl
refusal-negative refusal.Shape = refl
refusal-negative refusal.Range = refl
refusal-negative refusal.Grid = refl
refusal-negative refusal.TooMany = refl
refusal-negative refusal.Marks = refl
refusal-negative refusal.Table = refl
refusal-negative refusal.Output = refl

-- a result that may be refused, from its number and its value
by_value : {A : Type 0} → ℤ → A → Result A Refusal
by_value (pos n) x = Ok x
by_value (negsuc n) x = Err (by_number (negsuc n))

by_value_err : {A : Type 0} (e : Refusal) (x : A) → by_value (number_of e) x ≡ Err e
unfolding by_value by_number
by_value_err refusal.Length x = refl
by_value_err refusal.Shape x = refl
by_value_err refusal.Range x = refl
by_value_err refusal.Grid x = refl
by_value_err refusal.TooMany x = refl
by_value_err refusal.Marks x = refl
by_value_err refusal.Table x = refl
by_value_err refusal.Output x = refl

by_state : (r : Result State Refusal) → by_value (of_set_up r).number (of_set_up r).state ≡ r
unfolding by_value
by_state (Ok st) = refl
by_state (Err e) = by_value_err e _

pub setup-apart : (r s : Result State Refusal) → of_set_up r ≡ of_set_up s → r ≡ s
setup-apart r s e = sym (by_state r) ∙ ap (λ (x : SetUpSaid). by_value x.number x.state) e ∙ by_state s

by_followed : (r : Result Followed Refusal) → by_value (of_started r).number (of_started r).followed ≡ r
unfolding by_value
by_followed (Ok f) = refl
by_followed (Err e) = by_value_err e _

pub started-apart : (r s : Result Followed Refusal) → of_started r ≡ of_started s → r ≡ s
started-apart r s e = sym (by_followed r) ∙ ap (λ (x : StartSaid). by_value x.number x.followed) e ∙ by_followed s

-- a whole run from what it says
by_count : ℤ → Result ℕ Refusal
by_count z = by_value z (nat_abs z)

by_count_lem : (r : Result ℕ Refusal) → by_count (of_run r) ≡ r
unfolding by_count by_value
by_count_lem (Ok n) = refl
by_count_lem (Err e) = by_value_err e _

pub run-apart : (r s : Result ℕ Refusal) → of_run r ≡ of_run s → r ≡ s
run-apart r s e = sym (by_count_lem r) ∙ ap by_count e ∙ by_count_lem s

-- an opening from what it says
by_cursor : Option Cursor → ℤ → Result Cursor NotOpened
by_cursor (some c) n = Ok c
by_cursor none (pos n) = Err unopened.NoSuch
by_cursor none (negsuc n) =
    elim (eqb n 8) [ true ↦ Err unopened.Unsound | false ↦ elim (eqb n 14) [ true ↦ Err unopened.NoViewer | false ↦ Err unopened.NoSuch ] ]

by_cursor_lem : (o : Result Cursor NotOpened) → by_cursor (of_opened o).cursor (of_opened o).number ≡ o
unfolding by_cursor
by_cursor_lem (Ok c) = refl
by_cursor_lem (Err unopened.Unsound) = refl
by_cursor_lem (Err unopened.NoViewer) = refl
by_cursor_lem (Err unopened.NoSuch) = refl

pub opened_apart : (r s : Result Cursor NotOpened) → of_opened r ≡ of_opened s → r ≡ s
opened_apart r s e = sym (by_cursor_lem r) ∙ ap (λ (x : OpenSaid). by_cursor x.cursor x.number) e ∙ by_cursor_lem s

-- a joining from what it says
by_join : ℤ → Result ⊤ NotJoined
by_join (pos n) = Ok _
by_join (negsuc n) = elim (eqb n 8) [ true ↦ Err unjoined.Unsound | false ↦ Err unjoined.NoViewer ]

by_join_lem : (r : Result ⊤ NotJoined) → by_join (of_joined r) ≡ r
unfolding by_join
by_join_lem (Ok u) = refl
by_join_lem (Err unjoined.Unsound) = refl
by_join_lem (Err unjoined.NoViewer) = refl

pub joined-apart : (r s : Result ⊤ NotJoined) → of_joined r ≡ of_joined s → r ≡ s
joined-apart r s e = sym (by_join_lem r) ∙ ap by_join e ∙ by_join_lem s

-- a step from what it says
by_packet : Option Position → ℤ → Cursor → Stepped
by_packet (some p) n c = stepped.Packet p c
by_packet none (pos n) c = stepped.Ended c
by_packet none (negsuc n) c = stepped.Unsound c

by_packet_lem : (r : Stepped) → by_packet (of_stepped r).packet (of_stepped r).number (of_stepped r).cursor ≡ r
unfolding by_packet
by_packet_lem (stepped.Packet p c) = refl
by_packet_lem (stepped.Ended c) = refl
by_packet_lem (stepped.Unsound c) = refl

pub stepped-apart : (r s : Stepped) → of_stepped r ≡ of_stepped s → r ≡ s
stepped-apart r s e = sym (by_packet_lem r) ∙ ap (λ (x : StepSaid). by_packet x.packet x.number x.cursor) e ∙ by_packet_lem s

-- a rectangle from what it says
by_area : Option Area → ℤ → Result Area NotLocated
by_area (some a) n = Ok a
by_area none (pos n) = Err unlocated.NoSuch
by_area none (negsuc n) = elim (eqb n 8) [ true ↦ Err unlocated.Unsound | false ↦ Err unlocated.NoSuch ]

by_area_lem : (r : Result Area NotLocated) → by_area (of_located r).area (of_located r).number ≡ r
unfolding by_area
by_area_lem (Ok a) = refl
by_area_lem (Err unlocated.Unsound) = refl
by_area_lem (Err unlocated.NoSuch) = refl

pub located_apart : (r s : Result Area NotLocated) → of_located r ≡ of_located s → r ≡ s
located_apart r s e = sym (by_area_lem r) ∙ ap (λ (x : RectangleSaid). by_area x.area x.number) e ∙ by_area_lem s
