-- `list_progression`: each order by points has its listing, and any other is listed by counts. Assumes nothing.
use mathlib.Core.Path.{ap}
use Rattle.types.specs.Orders.{by_points}
use Rattle.walks.specs.ByOrder.{points_asks, points_lists, not_by_points}
use Rattle.walks.proofs.list.Run.list_progression.Goals as goal

pub list_rpcl-requires : goal.list_rpcl-requires
list_rpcl-requires c = let e = c.in-Rpcl.is in points_asks _ e (ap by_points e) _ _ c.args.self.now c.requires

pub list_pcrl-requires : goal.list_pcrl-requires
list_pcrl-requires c = let e = c.in-Pcrl.is in points_asks _ e (ap by_points e) _ _ c.args.self.now c.requires

pub list_cprl-requires : goal.list_cprl-requires
list_cprl-requires c = let e = c.in-Cprl.is in points_asks _ e (ap by_points e) _ _ c.args.self.now c.requires

pub list_counted-requires : goal.list_counted-requires
list_counted-requires c =
    let q = c.requires.1.1 in
    let o = c.in_default in
    ((_, (_, (_, q.1, q.2.0, q.3))), not_by_points _ o.not-Rpcl o.not-Pcrl o.not-Cprl)

pub returns-in-Rpcl : goal.returns-in-Rpcl
returns-in-Rpcl c = let e = c.in-Rpcl.is in points_lists _ e (ap by_points e) _ _ _ _ c.list_rpcl.ensures

pub returns-in-Pcrl : goal.returns-in-Pcrl
returns-in-Pcrl c = let e = c.in-Pcrl.is in points_lists _ e (ap by_points e) _ _ _ _ c.list_pcrl.ensures

pub returns-in-Cprl : goal.returns-in-Cprl
returns-in-Cprl c = let e = c.in-Cprl.is in points_lists _ e (ap by_points e) _ _ _ _ c.list_cprl.ensures
