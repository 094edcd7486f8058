-- `of`: the entry stands after those of the components before, and is the resolution's. Assumes nothing.
use mathlib.Core.Path.{◌≡◌, ap, ◌∙◌}
use Prim.Native.Nat.{ℕ, ◌+◌, min}
use native.Mathlib.Omega.{arith}
use Rattle.laws.specs.Below.{sum_below}
use Rattle.packets.specs.Tile.{res_of, entries_before}
use Rattle.packets.specs.Table.{entry_of, sheet_at}
use Rattle.types.specs.Entries.{entry_at}
use Rattle.soundness.proofs.Resolution.{few_before, small, entry}
use Rattle.soundness.proofs.sides.Sides.of.Goals as goal
use Rattle.soundness.proofs.sides.Sides.of.Goals.{After-entries-before}

-- so many entries stand before the component's
entries-are : (c : After-entries-before) → c.entries-before.result ≡ entries_before c.args.st c.args.c
unfolding entries_before
entries-are c =
    let a = c.args in
    let few = few_before a.st a.table.now a.c a.r c.requires in
    let e : min a.c 16 ≡ a.c = omega arith in
    c.entries-before.ensures ∙ ap (sum_below (res_of a.st)) e

pub overflow_add-before : goal.overflow_add-before
overflow_add-before c =
    let a = c.args in
    omega (arith, entries-are (goal.at.overflow_add-before c).After-entries-before, small a.st a.table.now a.c a.r c.requires)

pub returns : goal.returns
returns c =
    let a = c.args in
    let e : c.at-entry.result ≡ entry_of (sheet_at a.st a.table.now) a.c a.r
    = c.at-entry.ensures ∙ ap (λ (n : ℕ). entry_at a.table.now (n + a.r)) (entries-are (goal.at.returns c).After-entries-before) ∙ entry a.st a.table.now a.c a.r c.requires in
    rw e
