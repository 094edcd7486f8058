-- `next_column`: the steps along x that are in play in the row, for every sheet that is so prepared. Assumes nothing.
use Rattle.std.proofs.Common.{◌+◌, rules}
use Rattle.packets.specs.Grid.{step_x}
use Rattle.packets.specs.InPlay.{play_x}
use Rattle.walks.specs.Prepared.{at_row}
use Rattle.walks.specs.InRow.{AtRow}
use Rattle.walks.specs.RowLaws.{row_part}
use Rattle.walks.proofs.next.next_column.Goals as goal

pub returns : goal.returns
returns c =
    λ s h.
    c.next_by.ensures (record { play = play_x s (at_row c.args.y); step = step_x s })
    (λ r i o a e.
    let one : AtRow s c.args.prep.now r (r + 1) i (i + 1) c.args.y = row_part s _ _ _ _ _ _ _ _ h a.res_from a.res_to a.comp_from a.comp_to in
    search rules)
