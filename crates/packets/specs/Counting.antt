-- The packets that a viewer has not marked, and a total that counts them (02, P8).
use Rattle.std.specs.Prelude.{◌≡◌, true, ℕ, ◌<◌, length}
use mathlib.Core.List.{List}
use Rattle.laws.specs.Gather.{keep}
use Rattle.laws.specs.Marks.{free_at}
use Rattle.types.specs.Totals.{total_for}
use Rattle.packets.specs.Tile.{index_of}
use Rattle.packets.specs.Sound.{state_sound}
use Rattle.packets.specs.Calls.{listed}
use Rattle.packets.specs.Traces.{World}
use Rattle.types.specs.declared.state.State.{State}
use Rattle.types.specs.declared.cursor.Position.{Position}

-- of some packets, those that a viewer has not marked
abbrev pub unmarked : ℕ → State → List ℕ → List Position → List Position
unmarked v st marks = keep (λ (p : Position). free_at v marks (index_of st p))

-- what is right of a world for viewer v: it is sound for it, has a place for its total, and that is the number of packets unmarked
pub record Counts (table : List ℕ) (v : ℕ) (w : World) : Type 0 where
  pub fine : state_sound w.followed.state table w.marks ≡ true
  pub place : v < length w.followed.totals
  pub count : total_for w.followed v ≡ length (unmarked v w.followed.state w.marks (listed w.followed.state table))
