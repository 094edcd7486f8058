-- Document 01's number and values for every case of every answer ('Numbers that come back'), and those of 02.
use Rattle.std.proofs.Math.Option.{Option, some, none}
use Rattle.std.specs.Prelude.{ℕ, ℤ, pos, negsuc, Result, Ok, Err, ⊤}
use Rattle.geometry.specs.declared.tile.Area.{Area}
use Rattle.types.specs.State.{empty_state}
use Rattle.types.specs.Totals.{started_with}
use Rattle.types.specs.declared.state.State.{State}
use Rattle.types.specs.declared.followed.Followed.{Followed}
use Rattle.types.specs.declared.cursor.Position.{Position}
use Rattle.types.specs.declared.cursor.Cursor.{Cursor}
use Rattle.types.specs.declared.answer.Refusal.{Refusal}
use Rattle.types.specs.declared.answer.Refusal.TheVariants as refusal
use Rattle.types.specs.declared.answer.NotOpened.{NotOpened}
use Rattle.types.specs.declared.answer.NotOpened.TheVariants as unopened
use Rattle.types.specs.declared.answer.NotJoined.{NotJoined}
use Rattle.types.specs.declared.answer.NotJoined.TheVariants as unjoined
use Rattle.types.specs.declared.answer.Stepped.{Stepped}
use Rattle.types.specs.declared.answer.Stepped.TheVariants as stepped
use Rattle.types.specs.declared.answer.NotLocated.{NotLocated}
use Rattle.types.specs.declared.answer.NotLocated.TheVariants as unlocated

-- setup and whole run: -1 to -8
abbrev pub number_of : Refusal → ℤ
number_of refusal.Length = negsuc 0
number_of refusal.Shape = negsuc 1
number_of refusal.Range = negsuc 2
number_of refusal.Grid = negsuc 3
number_of refusal.TooMany = negsuc 4
number_of refusal.Marks = negsuc 5
number_of refusal.Table = negsuc 6
number_of refusal.Output = negsuc 7

-- setup: success answers the state; a refusal carries only its number
pub record SetUpSaid : Type 0 where
  pub number : ℤ
  pub state : State

abbrev pub of_set_up : Result State Refusal → SetUpSaid
of_set_up (Ok st) = record { number = pos 0; state = st }
of_set_up (Err e) = record { number = number_of e; state = empty_state }

-- and with the totals, for those who follow it; with a refusal they are 0
pub record StartSaid : Type 0 where
  pub number : ℤ
  pub followed : Followed

abbrev pub of_started : Result Followed Refusal → StartSaid
of_started (Ok f) = record { number = pos 0; followed = f }
of_started (Err e) = record { number = number_of e; followed = started_with empty_state 0 }

-- whole run: success answers how many packets are listed
abbrev pub of_run : Result ℕ Refusal → ℤ
of_run (Ok n) = pos n
of_run (Err e) = number_of e

-- open: a cursor, -9, -15 (02, P4) or -11
abbrev pub of_not_opened : NotOpened → ℤ
of_not_opened unopened.Unsound = negsuc 8
of_not_opened unopened.NoViewer = negsuc 14
of_not_opened unopened.NoSuch = negsuc 10

pub record OpenSaid : Type 0 where
  pub number : ℤ
  pub cursor : Option Cursor

abbrev pub of_opened : Result Cursor NotOpened → OpenSaid
of_opened (Ok c) = record { number = pos 0; cursor = some c }
of_opened (Err e) = record { number = of_not_opened e; cursor = none }

-- 02, P4: join, 0, -9 or -15
abbrev pub of_joined : Result ⊤ NotJoined → ℤ
of_joined (Ok u) = pos 0
of_joined (Err unjoined.Unsound) = negsuc 8
of_joined (Err unjoined.NoViewer) = negsuc 14

-- step: 1 with the packet and the moved cursor, 0 with the ended cursor, -9 with the cursor as given
pub record StepSaid : Type 0 where
  pub number : ℤ
  pub packet : Option Position
  pub cursor : Cursor

abbrev pub of_stepped : Stepped → StepSaid
of_stepped (stepped.Packet p c) = record { number = pos 1; packet = some p; cursor = c }
of_stepped (stepped.Ended c) = record { number = pos 0; packet = none; cursor = c }
of_stepped (stepped.Unsound c) = record { number = negsuc 8; packet = none; cursor = c }

-- 02, P2: the rectangle of a precinct on its resolution, -9 or -14
abbrev pub of_not_located : NotLocated → ℤ
of_not_located unlocated.Unsound = negsuc 8
of_not_located unlocated.NoSuch = negsuc 13

pub record RectangleSaid : Type 0 where
  pub number : ℤ
  pub area : Option Area

abbrev pub of_located : Result Area NotLocated → RectangleSaid
of_located (Ok a) = record { number = pos 0; area = some a }
of_located (Err e) = record { number = of_not_located e; area = none }
