-- `list_layers`: a turn lists the next layer. Assumes nothing.
use Rattle.walks.specs.AtPoint.{layers_at}
use Rattle.walks.specs.Listing.{Listing}
use Rattle.walks.specs.Layers.{LayeredAt}
use Rattle.walks.proofs.list.Run.list_layers.Given as goal

abbrev pub invariant-ls : goal.invariant-ls
invariant-ls l = Listing (LayeredAt l.w l.p) l.fn.self (layers_at l.p 0) l.self (layers_at l.p l.l)
