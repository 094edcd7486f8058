-- `most_wanted`: the most that the progressions passed want. Assumes nothing.
use Rattle.std.specs.Prelude.{◌≡◌}
use Rattle.packets.specs.Grid.{change_of}
use Rattle.survey.specs.Passing.{want_for, most_of}
use Rattle.survey.proofs.grid.most_wanted.Given as goal

abbrev pub invariant-loop-p : goal.invariant-loop-p
invariant-loop-p l = l.most ≡ most_of (λ k. want_for (change_of l.fn.st k)) l.p-index
