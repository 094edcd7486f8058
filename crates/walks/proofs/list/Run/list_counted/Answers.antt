-- `list_counted`: each order by counts has its listing; no order by points is asked for, and without an order nothing is listed. Assumes nothing.
use mathlib.Core.Path.{refl}
use Rattle.walks.specs.Search.{some, other_counts}
use Rattle.walks.specs.ByOrder.{none_listed, counted_asks, counted_lists}
use Rattle.walks.proofs.list.Run.list_counted.Goals as goal

pub list_lrcp-requires : goal.list_lrcp-requires
list_lrcp-requires c = let e = c.in-Lrcp.is in counted_asks _ e (some e refl) _ c.args.self.now c.requires.0

pub list_rlcp-requires : goal.list_rlcp-requires
list_rlcp-requires c = let e = c.in-Rlcp.is in counted_asks _ e (some e refl) _ c.args.self.now c.requires.0

pub returns-in-Lrcp : goal.returns-in-Lrcp
returns-in-Lrcp c = let e = c.in-Lrcp.is in counted_lists _ e (some e refl) _ _ _ c.list_lrcp.ensures

pub returns-in-Rlcp : goal.returns-in-Rlcp
returns-in-Rlcp c = let e = c.in-Rlcp.is in counted_lists _ e (some e refl) _ _ _ c.list_rlcp.ensures

pub returns-in_default : goal.returns-in_default
returns-in_default c =
    let o = c.in_default in
    λ st table k d a. none_listed _ _ _ _ _ d (other_counts _ c.requires.1 o.not-Lrcp o.not-Rlcp) _
