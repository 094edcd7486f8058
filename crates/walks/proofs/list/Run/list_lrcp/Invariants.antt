-- `list_lrcp`: what is left where each of the two loops stands. A turn is one law of specs/Lrcp: one resolution of one layer is listed. Assumes nothing.
use Rattle.walks.specs.Listing.{Listing, CountedBy}
use Rattle.walks.specs.Lrcp.{wholly, on_from, left_r}
use Rattle.walks.proofs.list.Run.list_lrcp.Given as goal

abbrev pub invariant-rs : goal.invariant-rs
invariant-rs l = Listing (CountedBy l.counts l.w) l.fn.self (wholly l.w) l.self (left_r l.w l.l l.r l.w.compno0 0)

abbrev pub invariant-ls : goal.invariant-ls
invariant-ls l = Listing (CountedBy l.counts l.w) l.fn.self (wholly l.w) l.self (on_from l.w l.l)
