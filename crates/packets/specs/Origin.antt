-- Where a state comes from: some accepted sheet's setup.
use Rattle.std.specs.Prelude.{◌≡◌, true, List, ℕ, ◌≤◌, length, take, pos}
use Rattle.words.specs.Laws.{Bytes}
use Rattle.packets.specs.Sheet.{read_verdict}
use Rattle.packets.specs.Tile.{reported, needed, table_bytes}
use Rattle.packets.specs.Grid.{grid_agreed}
use Rattle.packets.specs.Table.{table_of, sheet_in}
use Rattle.packets.specs.Calls.{setup_of}
use Rattle.types.specs.declared.state.State.{State}

-- a state and a table are what setup answers and writes for the sheet b, which it accepts for marks of this length
pub record SetUpFrom (st : State) (table marks b : List ℕ) : Type 0 where
  pub bytes : Bytes b
  pub accepted : read_verdict b ≡ 0
  pub agreed : grid_agreed (sheet_in b) ≡ true
  pub few : needed st ≤ 65536
  pub marks_long : needed st ≤ length marks
  pub table_long : table_bytes st ≤ length table
  pub answered : st ≡ reported (sheet_in b)
  pub filled : take (table_bytes st) table ≡ table_of (sheet_in b)

-- THE SAME OF THE CALL: setup, lent this table and these marks, accepts the sheet b, answers the state and finds its words in the table already
pub record SetUpBy (st : State) (table marks b : List ℕ) : Type 0 where
  pub bytes : Bytes b
  pub accepts : (setup_of b table marks).said.number ≡ pos 0
  pub answers : (setup_of b table marks).said.state ≡ st
  pub writes : (setup_of b table marks).table ≡ table
