-- `all_turns`: the progressions that are left lead to the end that was to be reached at entry (`KeptTurns`). Assumes nothing.
use Rattle.stepping.specs.Kept.{turns-first, turns-few, turns-next, turns-ended}
use Rattle.stepping.proofs.all_turns.Goals as goal

pub loop-k-init : goal.loop-k-init
loop-k-init c = turns-first

pub turn-count-requires : goal.turn-count-requires
turn-count-requires c = turns-few c.loop-k.invariant c.loop-k-test.true c.requires

pub loop-k-preserved : goal.loop-k-preserved
loop-k-preserved c = turns-next c.loop-k.invariant c.loop-k-test.true c.turn-count.auto.marks c.turn-count.auto.output c.turn-count.ensures

pub returns : goal.returns
returns c = turns-ended c.loop-k.invariant c.loop-k-test.false
