-- `fields`: after c components the state has those c and the next record is the one at hand; so with the progressions. Assumes nothing.
use Rattle.reader.proofs.Parts.{Components, Progressions}
use Rattle.reader.proofs.fields.fields.Given as goal

abbrev pub invariant-loop-c : goal.invariant-loop-c
invariant-loop-c l = Components l.sheet l.components l.at l.c l.out

abbrev pub invariant-loop-k : goal.invariant-loop-k
invariant-loop-k l = Progressions l.sheet l.progressions l.at l.k l.out
