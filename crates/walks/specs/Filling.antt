-- What is made of a resolution's entry is what the walks by points need. Assumes nothing.
use Rattle.std.specs.Prelude.{ℕ, ◌+◌, ◌≤◌, ◌<◌, ◌≡◌, ltb}
use Rattle.std.proofs.Common.{true, ap, ◌∙◌, ltb-true, lt-ltb}
use Rattle.laws.specs.Cases.{split}
use Rattle.laws.specs.Below.{sum_none, sum_more}
use Rattle.geometry.specs.Line.{Line, bound_of, step}
use Rattle.geometry.specs.Fitted.{fitted-small}
use Rattle.geometry.proofs.Hits.{whole_law, factors}
use Rattle.packets.specs.Tile.{Sheet, line_x, line_y, width, height, res_of, level_of, precincts, entries_before}
use Rattle.packets.specs.Table.{entry_of}
use Rattle.packets.proofs.MetOnce.{precincts-of}
use Rattle.types.specs.declared.state.State.{State}
use Rattle.walks.specs.Made.{product}
use Rattle.walks.specs.ByResolution.{place}
use Rattle.walks.specs.Prepared.{along_of, Prep, unprepared, kept}
use Rattle.walks.specs.Prepare.{side_of, sides_of, along_by, prepared_by, Filled}

-- as a line has them, where its step fits
line_along : (l : Line) → step l ≤ 4294967295 → along_by (side_of l.t0 l.d) l.level l.pd ≡ along_of l
unfolding along_by bound_of
line_along l h = rw (fitted-small (step l) h, whole_law l)

-- WHERE THE ENTRIES of a component stand
pub entries_none : (st : State) → entries_before st 0 ≡ 0
unfolding entries_before
entries_none st = sum_none (res_of st)

pub entries_more : (st : State) (c : ℕ) → entries_before st (c + 1) ≡ entries_before st c + res_of st c
unfolding entries_before
entries_more st c = sum_more (res_of st) c

-- A RESOLUTION of a component: its precincts are counted by its entry
pub entry-count : (s : Sheet) (c r : ℕ) → r < res_of s.st c → product (entry_of s c r) ≡ precincts s c r
entry-count s c r k = rw (precincts-of s c r k)

-- and what is made of it is right
pub entry-filled : (s : Sheet) (prep : Prep) (c r : ℕ) → r < res_of s.st c → place unprepared prep r c ≡ prepared_by (sides_of s.st c) (level_of s.st c r) (entry_of s c r)
    → Filled s prep r c
entry-filled s prep c r k e fits =
    let n = entry-count s c r k in
    let at = ap kept e in
    split (ltb 0 (precincts s c r))
    (λ t.
    let some : 0 < precincts s c r = ltb-true 0 _ t in
    let f = fits some in
    let x = line_along (line_x s c r) f.0 in
    let y = line_along (line_y s c r) f.1 in
    let wide : ltb 0 (width s c r) ≡ true = lt-ltb 0 (width s c r) (factors (width s c r) (height s c r) (rw n some)).0 in
    rw t (at ∙ rw (n, t, wide, x, y)))
    (λ t. rw t (at ∙ rw (n, t)))
