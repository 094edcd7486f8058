-- `search_counted`: a sound state can be counted, and each order by counts has its walk; without an order nothing is left. Assumes nothing.
use Rattle.std.proofs.Common.{refl}
use Rattle.laws.specs.Runs.{seek}
use Rattle.walks.specs.Search.{some, other_counts}
use Rattle.walks.specs.Plan.{planned-counted}
use Rattle.walks.proofs.search.search_counted.Goals as goal

pub count_precincts-requires-clause-sound : goal.count_precincts-requires-clause-sound
count_precincts-requires-clause-sound c = (_, c.requires.0.1.sound)

pub lrcp-requires-clause-some_counted : goal.lrcp-requires-clause-some_counted
lrcp-requires-clause-some_counted c =
    (_, (_, planned-counted _ _ _ _ _ c.requires.0.1 (some c.in-Lrcp.is refl) c.count_precincts.ensures))

pub rlcp-requires-clause-some_counted : goal.rlcp-requires-clause-some_counted
rlcp-requires-clause-some_counted c =
    (_, (_, planned-counted _ _ _ _ _ c.requires.0.1 (some c.in-Rlcp.is refl) c.count_precincts.ensures))

pub returns-in-Lrcp : goal.returns-in-Lrcp
returns-in-Lrcp c k d = rw c.in-Lrcp.is (c.lrcp.ensures _ _ (planned-counted _ _ _ _ _ d (some c.in-Lrcp.is refl) c.count_precincts.ensures))

pub returns-in-Rlcp : goal.returns-in-Rlcp
returns-in-Rlcp c k d = rw c.in-Rlcp.is (c.rlcp.ensures _ _ (planned-counted _ _ _ _ _ d (some c.in-Rlcp.is refl) c.count_precincts.ensures))

pub returns-in_default : goal.returns-in_default
unfolding seek
returns-in_default c k d = rw (other_counts c.args.plan.order c.requires.2 c.in_default.not-Lrcp c.in_default.not-Rlcp)
