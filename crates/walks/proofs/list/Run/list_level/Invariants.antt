-- `list_level`: what is left where each of the two loops stands. A turn is one law of specs/Counts. Assumes nothing.
use Rattle.walks.specs.Listing.{Listing, CountedBy}
use Rattle.walks.specs.Counts.{level, left_k}
use Rattle.walks.proofs.list.Run.list_level.Given as goal

abbrev pub invariant-ks : goal.invariant-ks
invariant-ks l = Listing (CountedBy l.counts l.w) l.fn.self (level l.l l.r l.w.compno0 0) l.self (left_k l.l l.r l.c l.k)

abbrev pub invariant-cs : goal.invariant-cs
invariant-cs l = Listing (CountedBy l.counts l.w) l.fn.self (level l.l l.r l.w.compno0 0) l.self (level l.l l.r l.c 0)
