-- `put_word`: without room nothing is written. Assumes nothing.
use Rattle.std.proofs.Common.{sym, ◌∙◌}
use Rattle.words.specs.Words.{put_word}
use Rattle.words.proofs.put_word.Goals as goal

pub returns-else-has : goal.returns-else-has
unfolding put_word
returns-else-has c = rw (sym c.has.ensures ∙ c.if-has.false)
