-- `cprl` meets its contract. Each of the five loops keeps one thing, for every sheet and range that the walk is ready for (`Kept`): nothing is found yet, and
-- what is left at this loop answers as what was to be searched at entry. One component alone is what PCRL has of it (*Cprl.one-left*), so a turn is one law of
-- specs/Cprl or specs/ByPoints. Assumes nothing.
use Rattle.std.proofs.Common.{◌+◌, ◌-◌, ◌≤◌}
use Rattle.walks.specs.Going.{◌then◌}
use Rattle.walks.specs.AtPoint.{layers_from}
use Rattle.walks.specs.Pcrl as pcrl
use Rattle.walks.specs.Pcrl.{left_x, left_r, after_x}
use Rattle.walks.specs.Cprl.{entry, entry_at, on_from, alone_by, only}
use Rattle.walks.specs.ByPoints.{Kept}
use Rattle.walks.proofs.cprl.cprl.Given as goal

abbrev pub invariant-ls : goal.invariant-ls
invariant-ls l =
    Kept l.prep l.w l.marks (entry_at l.fn.from) l.found (layers_from l.r l.c l.x l.y l.k l.l then only l.c (left_r (alone_by l.w l.c) l.y l.x l.c (l.r + 1) 0) then only l.c (after_x (alone_by l.w l.c) l.y l.x) then on_from l.w (l.c + 1))

abbrev pub invariant-rs : goal.invariant-rs
invariant-rs l =
    Kept l.prep l.w l.marks (entry_at l.fn.from) l.found (only l.c (left_r (alone_by l.w l.c) l.y l.x l.c l.r l.at.layno) then only l.c (after_x (alone_by l.w l.c) l.y l.x) then on_from l.w (l.c + 1))

abbrev pub invariant-xs : goal.invariant-xs
invariant-xs l =
    (l.w.tx0 ≤ l.x) × (l.w.resno0 ≤ l.at.resno) × Kept l.prep l.w l.marks (entry_at l.fn.from) l.found (only l.c (left_x (alone_by l.w l.c) l.y l.x l.c l.at.resno l.at.layno) then on_from l.w (l.c + 1))

abbrev pub decreases-xs : goal.decreases-xs
decreases-xs l =
    l.w.tx1 - l.x

abbrev pub invariant-ys : goal.invariant-ys
invariant-ys l =
    (l.w.ty0 ≤ l.y) × (l.w.tx0 ≤ l.at.x) × (l.w.resno0 ≤ l.at.resno) × Kept l.prep l.w l.marks (entry_at l.fn.from) l.found (only l.c (pcrl.entry l.y l.at.x l.c l.at.resno l.at.layno) then on_from l.w (l.c + 1))

abbrev pub decreases-ys : goal.decreases-ys
decreases-ys l =
    l.w.ty1 - l.y

abbrev pub invariant-search : goal.invariant-search
invariant-search l =
    (l.w.ty0 ≤ l.at.y) × (l.w.tx0 ≤ l.at.x) × (l.w.resno0 ≤ l.at.resno) × Kept l.prep l.w l.marks (entry_at l.fn.from) l.found (entry l.c l.at.y l.at.x l.at.resno l.at.layno)
