-- `next_row`: the steps along y that are in play, for every sheet that is so prepared. Assumes nothing.
use Rattle.std.proofs.Common.{◌+◌, arith, rules}
use Rattle.packets.specs.Grid.{step_y}
use Rattle.packets.specs.InPlay.{play_y}
use Rattle.walks.specs.Prepared.{InPlay}
use Rattle.walks.specs.Turns.{play_part}
use Rattle.walks.proofs.next.next_row.Goals as goal

pub returns : goal.returns
returns c =
    λ s h.
    c.next_by.ensures (record { play = play_y s; step = step_y s })
    (λ r i o a e.
    let one : InPlay s c.args.prep.now r (r + 1) i (i + 1) = play_part s _ _ _ _ _ _ _ _ _ h a.res_from (omega arith) a.comp_from (omega arith) in
    search rules)
