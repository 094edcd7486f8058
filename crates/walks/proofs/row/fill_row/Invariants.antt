-- `fill_row`: what the two loops have passed is noted, and y + best is the least next multiple of it, for every sheet that is so prepared; at their end all is.
-- Assumes nothing.
use Rattle.std.proofs.Common.{ℕ, ◌≤◌, max}
use Rattle.packets.specs.Tile.{Sheet}
use Rattle.packets.specs.Grid.{step_y}
use Rattle.packets.specs.InPlay.{play_y}
use Rattle.walks.specs.Prepared.{Prep}
use Rattle.walks.specs.InRow.{AtRow, Row}
use Rattle.walks.specs.Nexts.{NearestBefore, NearestSeen}
use Rattle.walks.specs.RowLaws.{Noted}
use Rattle.walks.specs.declared.walk.Walk.{Walk}
use Rattle.walks.proofs.row.fill_row.Given as goal

-- the loops stand in a row
abbrev pub Here : Prep → Walk → ℕ → Sheet → Type 0
Here prep w y s = AtRow s prep w.resno0 w.resno1 w.compno0 w.compno1 y

abbrev pub invariant-loop-r : goal.invariant-loop-r
invariant-loop-r l =
    (l.r ≤ max l.w.resno0 l.w.resno1)
    × ((s : Sheet) → Here l.prep l.w l.y s → Noted s l.row l.w.resno0 l.w.resno1 l.w.compno0 l.c l.r l.y)
    × NearestSeen (Here l.prep l.w l.y) play_y step_y l.w.ty1 l.y l.w.resno0 l.w.resno1 l.w.compno0 l.c l.r l.best

abbrev pub invariant-loop-c : goal.invariant-loop-c
invariant-loop-c l =
    (l.c ≤ max l.w.compno0 l.w.compno1)
    × ((s : Sheet) → Here l.prep l.w l.y s → Row s l.row l.w.resno0 l.w.resno1 l.w.compno0 l.c l.y)
    × NearestBefore (Here l.prep l.w l.y) play_y step_y l.w.ty1 l.y l.w.resno0 l.w.resno1 l.w.compno0 l.c l.best
