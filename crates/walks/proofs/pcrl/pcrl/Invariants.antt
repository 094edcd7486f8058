-- `pcrl` meets its contract. Each of the five loops keeps one thing, for every sheet and range that the walk is ready for (`Kept`): nothing is found yet, and
-- what is left at this loop answers as what was to be searched at entry. A turn is one law of specs/Pcrl or specs/ByPoints. Assumes nothing.
use Rattle.std.proofs.Common.{◌+◌, ◌-◌, ◌≤◌}
use Rattle.walks.specs.Going.{◌then◌, nothing}
use Rattle.walks.specs.AtPoint.{layers_from}
use Rattle.walks.specs.Pcrl.{entry, entry_at, point, left_x, left_r, after_x}
use Rattle.walks.specs.ByPoints.{Kept}
use Rattle.walks.proofs.pcrl.pcrl.Given as goal

abbrev pub invariant-ls : goal.invariant-ls
invariant-ls l =
    Kept l.prep l.w l.marks (entry_at l.fn.from) l.found (layers_from l.r l.c l.x l.y l.k l.l then left_r l.w l.y l.x l.c (l.r + 1) 0 then after_x l.w l.y l.x then nothing)

abbrev pub invariant-rs : goal.invariant-rs
invariant-rs l =
    Kept l.prep l.w l.marks (entry_at l.fn.from) l.found (left_r l.w l.y l.x l.c l.r l.at.layno then after_x l.w l.y l.x then nothing)

abbrev pub invariant-cs : goal.invariant-cs
invariant-cs l =
    (l.w.resno0 ≤ l.at.resno) × Kept l.prep l.w l.marks (entry_at l.fn.from) l.found (point l.y l.x l.c l.at.resno l.at.layno then after_x l.w l.y l.x then nothing)

abbrev pub invariant-xs : goal.invariant-xs
invariant-xs l =
    (l.w.tx0 ≤ l.x) × (l.w.compno0 ≤ l.at.compno) × (l.w.resno0 ≤ l.at.resno) × Kept l.prep l.w l.marks (entry_at l.fn.from) l.found (left_x l.w l.y l.x l.at.compno l.at.resno l.at.layno then nothing)

abbrev pub decreases-xs : goal.decreases-xs
decreases-xs l =
    l.w.tx1 - l.x

abbrev pub invariant-search : goal.invariant-search
invariant-search l =
    (l.w.ty0 ≤ l.y) × (l.w.tx0 ≤ l.at.x) × (l.w.compno0 ≤ l.at.compno) × (l.w.resno0 ≤ l.at.resno) × Kept l.prep l.w l.marks (entry_at l.fn.from) l.found (entry l.y l.at.x l.at.compno l.at.resno l.at.layno then nothing)

abbrev pub decreases-search : goal.decreases-search
decreases-search l =
    l.w.ty1 - l.y
