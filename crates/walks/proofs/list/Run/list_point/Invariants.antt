-- `list_point`: what is left where each loop stands, and x + best is the least next multiple of what the loops have passed (`NearestBefore`, `NearestSeen`).
-- Assumes nothing.
use Prim.Native.Nat.{ℕ, ◌≤◌, max}
use Rattle.packets.specs.Tile.{Sheet}
use Rattle.packets.specs.Grid.{step_x}
use Rattle.packets.specs.InPlay.{play_x}
use Rattle.walks.specs.Prepared.{Prep, Firsts, at_row}
use Rattle.walks.specs.InRow.{PointPlay}
use Rattle.walks.specs.Nexts.{NearestBefore, NearestSeen}
use Rattle.walks.specs.Listing.{Listing}
use Rattle.walks.specs.Layers.{PointedAt}
use Rattle.walks.specs.Pcrl.{point, left_r}
use Rattle.walks.specs.declared.walk.Walk.{Walk}
use Rattle.walks.proofs.list.Run.list_point.Given as goal

-- the loops stand at a point of the row
abbrev pub Here : Prep → Firsts → Walk → ℕ → ℕ → Sheet → Type 0
Here prep row w x y s = PointPlay s prep row w.resno0 w.resno1 w.compno0 w.compno1 x y

abbrev pub invariant-rs : goal.invariant-rs
invariant-rs l =
    (l.r ≤ max l.w.resno0 l.w.resno1)
    × Listing (PointedAt l.prep l.row l.w l.x l.y) l.fn.self (point l.y l.x l.w.compno0 l.w.resno0 0) l.self (left_r l.w l.y l.x l.c l.r 0)
    × NearestSeen (Here l.prep l.row l.w l.x l.y) (λ s. play_x s (at_row l.y)) step_x l.w.tx1 l.x l.w.resno0 l.w.resno1 l.w.compno0 l.c l.r l.best

abbrev pub invariant-cs : goal.invariant-cs
invariant-cs l =
    (l.c ≤ max l.w.compno0 l.w.compno1)
    × Listing (PointedAt l.prep l.row l.w l.x l.y) l.fn.self (point l.y l.x l.w.compno0 l.w.resno0 0) l.self (point l.y l.x l.c l.w.resno0 0)
    × NearestBefore (Here l.prep l.row l.w l.x l.y) (λ s. play_x s (at_row l.y)) step_x l.w.tx1 l.x l.w.resno0 l.w.resno1 l.w.compno0 l.c l.best
