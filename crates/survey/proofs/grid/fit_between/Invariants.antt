-- `fit_between`: the components passed have steps that fit. Assumes nothing.
use Rattle.std.specs.Prelude.{◌≡◌, ℕ, ◌≤◌, ◌<◌, true, get_or}
use Rattle.survey.specs.Passing.{no_sums}
use Rattle.survey.proofs.grid.fit_between.Given as goal

abbrev pub invariant-loop-c : goal.invariant-loop-c
invariant-loop-c l = (i : ℕ) → l.c0 ≤ i → i < l.c → (get_or l.parts i no_sums).fit ≡ true
