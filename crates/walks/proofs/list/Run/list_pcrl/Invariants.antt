-- `list_pcrl`: what is left where each of the two loops stands. A turn is one law of specs/Pcrl, as in the walk's proof. Assumes nothing.
use Prim.Native.Nat.{◌-◌, ◌≤◌}
use Rattle.walks.specs.Listing.{Listing, ReadyBy}
use Rattle.walks.specs.Pcrl.{wholly, on_from, left_x}
use Rattle.walks.proofs.list.Run.list_pcrl.Given as goal

abbrev pub invariant-xs : goal.invariant-xs
invariant-xs l =
    (l.w.tx0 ≤ l.x) × Listing (ReadyBy l.prep l.w) l.fn.self (wholly l.w) l.self (left_x l.w l.y l.x l.w.compno0 l.w.resno0 0)

abbrev pub decreases-xs : goal.decreases-xs
decreases-xs l = l.w.tx1 - l.x

abbrev pub invariant-ys : goal.invariant-ys
invariant-ys l =
    (l.w.ty0 ≤ l.y) × Listing (ReadyBy l.prep l.w) l.fn.self (wholly l.w) l.self (on_from l.w l.y)

abbrev pub decreases-ys : goal.decreases-ys
decreases-ys l = l.w.ty1 - l.y
