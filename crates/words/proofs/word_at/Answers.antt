-- `word_at`: the test and the sum of the four bytes are those of the definition. Assumes nothing.
use Rattle.std.proofs.Common.{sym, ◌∙◌}
use Rattle.words.specs.Words.{word_at}
use Rattle.words.proofs.word_at.Goals as goal

pub returns-then-has : goal.returns-then-has
unfolding word_at
returns-then-has c = rw (sym c.has.ensures ∙ c.if-has.true) c.from_be_bytes.ensures

pub returns-else-has : goal.returns-else-has
unfolding word_at
returns-else-has c = rw (sym c.has.ensures ∙ c.if-has.false)
