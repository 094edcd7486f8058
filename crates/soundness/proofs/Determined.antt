-- Each public contract of this crate allows one answer. Assumes nothing.
use Rattle.laws.specs.Determined.{determined, OneAnswer}
use Rattle.soundness.proofs.sheet_sound.Kinds as sheet_sound_kinds
use Rattle.soundness.proofs.sheet_sound.Reads as sheet-sound
use Rattle.soundness.proofs.followed_sound.Kinds as followed_sound_kinds
use Rattle.soundness.proofs.followed_sound.Reads as followed_sound_it
use Rattle.soundness.proofs.marks_needed.Kinds as marks_needed_kinds
use Rattle.soundness.proofs.marks_needed.Reads as marks-needed
use Rattle.soundness.proofs.sound.Kinds as sound_kinds
use Rattle.soundness.proofs.sound.Reads as sound
use Rattle.soundness.proofs.totals.total.Kinds as total_kinds
use Rattle.soundness.proofs.totals.total.Reads as total

pub sheet_sound-determined : OneAnswer sheet_sound_kinds.ps sheet_sound_kinds.r sheet-sound.Post
sheet_sound-determined κs a r s e f = determined _ r s

pub followed_sound-determined : OneAnswer followed_sound_kinds.ps followed_sound_kinds.r followed_sound_it.Post
followed_sound-determined κs a r s e f = determined _ r s

pub marks_needed_determined : OneAnswer marks_needed_kinds.ps marks_needed_kinds.r marks-needed.Post
marks_needed_determined κs a r s e f = determined _ r s

pub sound-determined : OneAnswer sound_kinds.ps sound_kinds.r sound.Post
sound-determined κs a r s e f = determined _ r s

pub total-determined : OneAnswer total_kinds.ps total_kinds.r total.Post
total-determined κs a r s e f = determined _ r s
