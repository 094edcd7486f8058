-- `list_rlcp`: what is left where each of the two loops stands. A turn is one law of specs/Rlcp: one layer of one resolution is listed. Assumes nothing.
use Rattle.walks.specs.Walk.{counted_long}
use Rattle.walks.specs.Running.{goes_on, part_listed, still_long, few_part, run_ends}
use Rattle.walks.specs.Counts.{level}
use Rattle.walks.specs.Rlcp.{in_r, out_r, in_l, out_l}
use Rattle.walks.proofs.list.Run.list_rlcp.Goals as goal

pub ls-init : goal.ls-init
ls-init c = λ s g h. goes_on (c.rs.invariant s g h) (in_r s g _ _ _ h _ _ _ _ c.rs-test.true)

pub list_level-requires : goal.list_level-requires
list_level-requires c =
    let p = c.requires in
    let h = p.1.1 in
    let k = c.ls.invariant _ _ h in (
      record { layer = c.ls-test.true; res_from = c.rs.auto.r; res_to = c.rs-test.true },
      (p.0, (p.1.0, counted_long _ _ _ _ _ _ (still_long k) h, few_part k _ _ (in_l _ _ _ _ _ h _ _ _ _ c.ls-test.true) p.1.2)),
    )

pub ls-preserved : goal.ls-preserved
ls-preserved c =
    λ s g h.
    let k = c.ls.invariant s g h in
    part_listed k (level _ _ _ _ s g) _ (in_l s g _ _ _ h _ _ _ _ c.ls-test.true) (c.list_level.ensures s g (counted_long s g _ _ _ _ (still_long k) h))

pub rs-preserved : goal.rs-preserved
rs-preserved c = λ s g h. goes_on (c.ls.invariant s g h) (out_l s g _ _ _ h _ _ _ _ c.ls-test.false)

pub returns : goal.returns
returns c = λ s g h. run_ends (c.rs.invariant s g h) (out_r s g _ _ _ h _ _ _ _ c.rs-test.false)
