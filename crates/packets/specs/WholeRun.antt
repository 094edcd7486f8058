-- What setup has tested of a sheet, a table and marks that it accepts.
use Rattle.std.specs.Prelude.{◌≡◌, true, List, length}
use Prim.Native.Nat.{ℕ, ◌≤◌}
use Rattle.packets.specs.Sheet.{read_verdict}
use Rattle.packets.specs.Tile.{reported, needed, table_bytes}
use Rattle.packets.specs.Grid.{grid_agreed}
use Rattle.packets.specs.Table.{sheet_in}

-- what an accepted sheet has passed
pub record Passed (sheet table marks : List ℕ) : Type 0 where
  pub read : read_verdict sheet ≡ 0
  pub grid : grid_agreed (sheet_in sheet) ≡ true
  pub few : needed (reported (sheet_in sheet)) ≤ 65536
  pub enough : needed (reported (sheet_in sheet)) ≤ length marks
  pub room : table_bytes (reported (sheet_in sheet)) ≤ length table
