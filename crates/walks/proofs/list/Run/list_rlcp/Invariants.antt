-- `list_rlcp`: what is left where each of the two loops stands. A turn is one law of specs/Rlcp: one layer of one resolution is listed. Assumes nothing.
use Rattle.walks.specs.Listing.{Listing, CountedBy}
use Rattle.walks.specs.Rlcp.{wholly, on_from, left_l}
use Rattle.walks.proofs.list.Run.list_rlcp.Given as goal

abbrev pub invariant-ls : goal.invariant-ls
invariant-ls l = Listing (CountedBy l.counts l.w) l.fn.self (wholly l.w) l.self (left_l l.w l.r l.l l.w.compno0 0)

abbrev pub invariant-rs : goal.invariant-rs
invariant-rs l = Listing (CountedBy l.counts l.w) l.fn.self (wholly l.w) l.self (on_from l.w l.r)
