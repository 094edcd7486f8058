-- `search`: each place leaves what is after it. Assumes nothing.
use mathlib.Core.Path.{◌∙◌}
use native.Mathlib.Omega.{arith}
use Rattle.laws.specs.Runs.{seek}
use Rattle.walks.specs.Plan.{fresh-left, at-startable, at-small, at-left}
use Rattle.walks.proofs.search.search.Goals as goal

pub next_try-requires : goal.next_try-requires
next_try-requires c = let w = c.requires in at-small _ _ _ _ _ w.1 _ (rw c.in-At.is at w.2) (omega arith)

pub search_from-requires-in-At : goal.search_from-requires-in-At
search_from-requires-in-At c = let w = c.requires in ((w.0, w.1), rw c.next_try.ensures (at-startable _ _ _ _ _ w.1 _ (rw c.in-At.is at w.2)))

pub returns-in-Fresh : goal.returns-in-Fresh
returns-in-Fresh c = λ k d h. let a = c.args in c.search_from.ensures k d ∙ rw (c.first.ensures, fresh-left _ _ _ _ _ d, c.in-Fresh.is)

pub returns-in-At : goal.returns-in-At
returns-in-At c = λ k d h. let a = c.args in c.search_from-in-At.ensures k d ∙ rw (c.next_try.ensures, at-left _ _ _ _ _ d _ (rw c.in-At.is at h), c.in-At.is)

pub returns-in-Ended : goal.returns-in-Ended
unfolding seek
returns-in-Ended c = λ k d h. rw c.in-Ended.is
