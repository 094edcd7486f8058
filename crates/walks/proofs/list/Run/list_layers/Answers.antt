-- `list_layers`: a turn lists the next layer (`one_listed`). Assumes nothing.
use native.Mathlib.Omega.{arith}
use Rattle.walks.specs.AtPoint.{in_l, out_l}
use Rattle.walks.specs.Running.{still_long, listed_few, run_ends}
use Rattle.walks.specs.Listing.{one_listed}
use Rattle.walks.specs.Layers.{layer_is, layer-fits, layer-there}
use Rattle.walks.proofs.list.Run.list_layers.Goals as goal

pub list_packet-requires : goal.list_packet-requires
list_packet-requires c =
    let p = c.requires in
    let d = p.1.1 in
    let k = c.ls.invariant _ _ d in
    let h = c.ls-test.true in
    (layer-fits _ _ _ _ _ _ _ _ _ d _ h, rw (still_long k) (layer-there _ _ _ _ _ _ _ _ _ d _ h), listed_few k p.1.2)

pub ls-preserved : goal.ls-preserved
ls-preserved c =
    let h = c.ls-test.true in
    λ s g d.
    one_listed (c.ls.invariant s g d) _ _ (in_l s g _ _ _ _ _ _ (omega (arith, h, d.ranged.layno1)), layer_is s g _ _ _ _ _ _ _ d _ h) c.list_packet.ensures

pub returns : goal.returns
returns c = λ s g d. run_ends (c.ls.invariant s g d) (out_l s g _ _ _ _ _ _ (rw d.ranged.layno1 at c.ls-test.false))
