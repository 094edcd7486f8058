-- Each public contract of this crate allows one outcome only. Assumes nothing.
use mathlib.Core.Path.{refl}
use Rattle.laws.specs.Determined.{determined, OneAnswer, OneOutcome}
use Rattle.words.proofs.word_at.Kinds as word_at_kinds
use Rattle.words.proofs.word_at.Reads as word_at
use Rattle.words.proofs.four_at.Kinds as four_at_kinds
use Rattle.words.proofs.four_at.Reads as four_at_it
use Rattle.words.proofs.put_word.Kinds as put_word_kinds
use Rattle.words.proofs.put_word.Reads as put_word
use Rattle.words.proofs.put_four.Kinds as put_four_kinds
use Rattle.words.proofs.put_four.Reads as put_four

pub word_at-determined : OneAnswer word_at_kinds.ps word_at_kinds.r word_at.Post
word_at-determined κs a r s e f = determined _ r s

pub four_at-determined : OneAnswer four_at_kinds.ps four_at_kinds.r four_at_it.Post
four_at-determined κs a r s e f = determined _ r s

pub put_word-determined : OneOutcome put_word_kinds.ps put_word_kinds.r put_word.Post (λ κs e. e.0.now)
put_word-determined κs a r s e f p q = (refl, determined _ _ _ p q)

pub put_four-determined : OneOutcome put_four_kinds.ps put_four_kinds.r put_four.Post (λ κs e. e.0.now)
put_four-determined κs a r s e f p q = (refl, determined _ _ _ p q)
