-- `open`: -9 before -15 before -11, and else a fresh cursor. Assumes nothing.
use Rattle.packets.specs.Calls.{open_of}
use borrow.Author.Tests.{lt-ltb, le-ltb}
use mathlib.Core.Path.{sym, ◌∙◌}
use Rattle.calls.proofs.open.open.Goals as goal

pub returns-then-not-followed_sound : goal.returns-then-not-followed_sound
unfolding open_of
returns-then-not-followed_sound c = rw (sym c.followed_sound.ensures ∙ c.if-not-followed_sound.true)

pub returns-then-viewer-ge-VIEWERS : goal.returns-then-viewer-ge-VIEWERS
unfolding open_of
returns-then-viewer-ge-VIEWERS c = rw (sym c.followed_sound.ensures ∙ c.if-not-followed_sound.false, le-ltb _ 8 c.if-viewer-ge-VIEWERS.true)

pub returns-then-f-progression : goal.returns-then-f-progression
unfolding open_of
returns-then-f-progression c = rw (sym c.followed_sound.ensures ∙ c.if-not-followed_sound.false, lt-ltb _ 8 c.if-viewer-ge-VIEWERS.false, le-ltb _ _ c.if-f-progression.true)

pub returns : goal.returns
unfolding open_of
returns c = rw (sym c.followed_sound.ensures ∙ c.if-not-followed_sound.false, lt-ltb _ 8 c.if-viewer-ge-VIEWERS.false, lt-ltb _ _ c.if-f-progression.false, c.fresh.ensures)
