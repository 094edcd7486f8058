-- `search_points`: a sound state can be prepared, and each order by points has its walk. Assumes nothing.
use Rattle.walks.specs.Search.{three_points}
use Rattle.walks.specs.Walk.{SomeReady}
use Rattle.walks.specs.Plan.{planned-ready}
use Rattle.walks.proofs.search.search_points.Goals as goal
use Rattle.walks.proofs.search.search_points.Goals.{After-prepare}

ready : (c : After-prepare) → SomeReady c.prepare.new.prep c.args.plan.walk c.args.marks.now
ready c = (_, (_, planned-ready _ _ _ _ _ c.requires.0.1 c.prepare.ensures c.requires.2))

pub prepare-requires-clause-sound : goal.prepare-requires-clause-sound
prepare-requires-clause-sound c = (_, c.requires.0.1.sound)

pub rpcl-requires-clause-some_ready : goal.rpcl-requires-clause-some_ready
rpcl-requires-clause-some_ready c = ready (goal.at.rpcl-requires-clause-some_ready c).After-prepare

pub pcrl-requires-clause-some_ready : goal.pcrl-requires-clause-some_ready
pcrl-requires-clause-some_ready c = ready (goal.at.pcrl-requires-clause-some_ready c).After-prepare

pub cprl-requires-clause-some_ready : goal.cprl-requires-clause-some_ready
cprl-requires-clause-some_ready c = ready (goal.at.cprl-requires-clause-some_ready c).After-prepare

pub returns-in-Rpcl : goal.returns-in-Rpcl
returns-in-Rpcl c k d = rw c.in-Rpcl.is (c.rpcl.ensures _ _ (planned-ready _ _ _ _ _ d c.prepare.ensures c.requires.2))

pub returns-in-Pcrl : goal.returns-in-Pcrl
returns-in-Pcrl c k d = rw c.in-Pcrl.is (c.pcrl.ensures _ _ (planned-ready _ _ _ _ _ d c.prepare.ensures c.requires.2))

pub returns-in-Cprl : goal.returns-in-Cprl
returns-in-Cprl c k d = rw c.in-Cprl.is (c.cprl.ensures _ _ (planned-ready _ _ _ _ _ d c.prepare.ensures c.requires.2))

pub returns-in_default : goal.returns-in_default
returns-in_default c k d = absurd (three_points c.args.plan.order c.requires.2 c.in_default.not-Rpcl c.in_default.not-Pcrl c.in_default.not-Cprl)
