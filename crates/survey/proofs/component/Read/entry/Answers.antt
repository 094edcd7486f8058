-- `Read::entry`: the tests are those of the definition. Assumes nothing.
use Rattle.std.proofs.Common.{rules}
use Rattle.survey.specs.Passing.{entry_fine, entry_found}
use Rattle.survey.proofs.component.Read.entry.Goals as goal

pub returns-then-not-exponents_in_range : goal.returns-then-not-exponents_in_range
unfolding entry_fine entry_found
returns-then-not-exponents_in_range c = search rules

pub returns-then-not-sizes_right : goal.returns-then-not-sizes_right
unfolding entry_fine entry_found
returns-then-not-sizes_right c = search rules

pub returns : goal.returns
unfolding entry_fine entry_found
returns c = search rules
