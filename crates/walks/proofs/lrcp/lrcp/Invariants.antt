-- `lrcp` meets its contract. Each of the four loops keeps one thing, for every sheet and range that the walk is counted for (`Kept`): nothing is found yet, and
-- what is left at this loop answers as what was to be searched at entry. A turn is one law of specs/Lrcp or specs/Counts. Assumes nothing.
use Rattle.std.proofs.Common.{◌+◌, ◌≤◌}
use Rattle.walks.specs.Going.{◌then◌}
use Rattle.walks.specs.Counts.{level, left_k, Kept}
use Rattle.walks.specs.Lrcp.{entry, entry_at, left_r}
use Rattle.walks.proofs.lrcp.lrcp.Given as goal

abbrev pub invariant-ks : goal.invariant-ks
invariant-ks l =
    Kept l.counts l.w l.marks (entry_at l.fn.from) l.found (left_k l.l l.r l.c l.k then left_r l.w l.l (l.r + 1) l.w.compno0 0)

abbrev pub invariant-cs : goal.invariant-cs
invariant-cs l =
    Kept l.counts l.w l.marks (entry_at l.fn.from) l.found (level l.l l.r l.c l.at.precno then left_r l.w l.l (l.r + 1) l.w.compno0 0)

abbrev pub invariant-rs : goal.invariant-rs
invariant-rs l =
    (l.w.compno0 ≤ l.at.compno) × Kept l.counts l.w l.marks (entry_at l.fn.from) l.found (left_r l.w l.l l.r l.at.compno l.at.precno)

abbrev pub invariant-search : goal.invariant-search
invariant-search l =
    (l.w.resno0 ≤ l.at.resno) × (l.w.compno0 ≤ l.at.compno) × Kept l.counts l.w l.marks (entry_at l.fn.from) l.found (entry l.l l.at.resno l.at.compno l.at.precno)
