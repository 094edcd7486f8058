-- `raise`: each turn raises one resolution. Assumes nothing.
use Rattle.std.proofs.Common.{arith}
use Rattle.soundness.proofs.Counting.{raised_none, raised_more, raised-all}
use Rattle.soundness.proofs.totals.raise.Goals as goal

pub loop-r-init : goal.loop-r-init
loop-r-init c = record { near = omega arith; raised = raised_none c.args.most.now c.args.a c.args.layers c.requires.1 }

pub loop-r-preserved : goal.loop-r-preserved
loop-r-preserved c =
    let a = c.args in
    record { near = omega arith; raised = rw c.max.ensures (raised_more a.most.now a.a a.layers (omega arith) (omega arith) c.loop-r.invariant.raised) }

pub returns : goal.returns
returns c = let a = c.args in raised-all a.most.now a.a a.layers c.loop-r.invariant.near (omega arith) c.loop-r.invariant.raised
