-- `list_rpcl`: what is left where the loop stands. A turn is the law `one-left` of specs/Rpcl: one resolution is listed by PCRL. Assumes nothing.
use Rattle.walks.specs.Walk.{ready_long}
use Rattle.walks.specs.Running.{part_listed, still_long, few_part, run_ends}
use Rattle.walks.specs.Pcrl as pcrl
use Rattle.walks.specs.Rpcl.{alone, none_left, ready-alone, one-left}
use Rattle.walks.proofs.list.Run.list_rpcl.Goals as goal

pub list_pcrl-requires : goal.list_pcrl-requires
list_pcrl-requires c =
    let p = c.requires in
    let h = p.1.1 in
    let k = c.rs.invariant _ _ h in
    let f = c.rs.auto.r in
    let t = c.rs-test.true in
    rw c.part-one.ensures
    (p.0, (alone p.1.0 _, ready_long _ _ _ _ _ _ (still_long k) (ready-alone _ _ _ _ _ h _ f t), few_part k _ _ (one-left _ _ _ _ _ h _ f t _ _ _ _) p.1.2))

pub rs-preserved : goal.rs-preserved
rs-preserved c =
    let one = c.part-one in
    let f = c.rs.auto.r in
    let t = c.rs-test.true in
    λ s g h.
    let k = c.rs.invariant s g h in
    part_listed k (pcrl.wholly one.result s (alone g c.rs.r)) _ (rw one.ensures (one-left s g _ _ _ h _ f t _ _ _ _))
    (c.list_pcrl.ensures s (alone g c.rs.r) (rw one.ensures (ready_long _ _ _ _ _ _ (still_long k) (ready-alone _ _ _ _ _ h _ f t))))

pub returns : goal.returns
returns c = λ s g h. run_ends (c.rs.invariant s g h) (none_left s g _ _ _ h _ _ _ _ _ c.rs-test.false)
