-- `put_four`: the four words, one after the other, if there is room for all of them. Assumes nothing.
use Rattle.std.proofs.Common.{sym, ◌∙◌}
use Rattle.words.specs.Words.{put_four}
use Rattle.words.proofs.put_four.Goals as goal

pub returns-then-has : goal.returns-then-has
unfolding put_four
returns-then-has c = rw (sym c.has.ensures ∙ c.if-has.true, c.lay-then-has-3.ensures, c.lay-then-has-2.ensures, c.lay-then-has.ensures, c.lay.ensures)

pub returns-else-has : goal.returns-else-has
unfolding put_four
returns-else-has c = rw (sym c.has.ensures ∙ c.if-has.false)
