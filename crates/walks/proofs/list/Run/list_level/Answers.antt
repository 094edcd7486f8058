-- `list_level`: a turn of each of the two loops is one law of specs/Counts. Assumes nothing.
use Rattle.std.proofs.Common.{arith}
use Rattle.walks.specs.Running.{goes_on, still_long, listed_few, run_ends}
use Rattle.walks.specs.Listing.{one_listed}
use Rattle.walks.specs.Counts.{in_c, out_c, in_k, out_k, Stands, held, count_is, below, mark-fits, mark-there, mark_is}
use Rattle.walks.proofs.list.Run.list_level.Goals as goal
use Rattle.walks.proofs.list.Run.list_level.Goals.{In-cs}

-- the numbers of the loops stand inside the ranges
stands : (c : In-cs) → (let a = c.args in Stands a.w a.l a.r c.cs.c)
stands c = record { level = c.requires.0; comp_from = c.cs.auto.c; comp_to = c.cs-test.true }

pub at-precincts-requires : goal.at-precincts-requires
at-precincts-requires c = let p = c.requires.1 in (omega arith, held p.0 p.1.0 _ _ _ p.1.1 _ _ _ (stands (goal.at.at-precincts-requires c).In-cs))

pub ks-init : goal.ks-init
ks-init c = λ s g h. goes_on (c.cs.invariant s g h) (in_c s g _ _ _ _ (rw h.ranged.compno1 at c.cs-test.true))

pub list_packet-requires : goal.list_packet-requires
list_packet-requires c =
    let p = c.requires.1 in
    let k = c.ks.invariant _ _ p.1.1 in
    let s = stands (goal.at.list_packet-requires c).In-cs in
    let e = c.at-precincts.ensures 0 in
    let h = c.ks-test.true in
    (mark-fits p.0 p.1.0 _ _ _ p.1.1 _ _ _ s _ e _ h, rw (still_long k) (mark-there p.0 p.1.0 _ _ _ p.1.1 _ _ _ s _ e _ h), listed_few k p.1.2)

pub ks-preserved : goal.ks-preserved
ks-preserved c =
    let t = stands (goal.at.ks-preserved c).In-cs in
    let e = c.at-precincts.ensures 0 in
    let k = c.ks-test.true in
    λ s g h.
    one_listed (c.ks.invariant s g h) _ _ (in_k s g _ _ _ _ (below s g _ _ _ h _ _ _ t _ e _ k), mark_is s g _ _ _ h _ _ _ t _ e _ k) c.list_packet.ensures

pub cs-preserved : goal.cs-preserved
cs-preserved c =
    let t = stands (goal.at.cs-preserved c).In-cs in
    let e = c.at-precincts.ensures 0 in
    λ s g h. goes_on (c.ks.invariant s g h) (out_k s g _ _ _ _ (rw (count_is s g _ _ _ h _ _ _ t _ e) at c.ks-test.false))

pub returns : goal.returns
returns c = λ s g h. run_ends (c.cs.invariant s g h) (out_c s g _ _ _ _ (rw h.ranged.compno1 at c.cs-test.false))
