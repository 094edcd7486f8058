-- `sound`: a sound state, and then the cursor: its viewer, its progression and its place. Assumes nothing.
use Rattle.packets.specs.Meaning.{followed_means}
use Rattle.packets.specs.Sound.{cursor_sound, sound}
use borrow.Author.Tests.{lt-ltb, le-ltb}
use Rattle.std.specs.Prelude.{◌≡◌, false}
use Rattle.std.proofs.Common.{sym, ◌∙◌, ⊎_elim, arith}
use Rattle.soundness.proofs.sound.Goals as goal

pub admitted-requires : goal.admitted-requires
admitted-requires c =
    let a = c.args in
    let good = (followed_means a.f a.table.now a.marks.now a.cursor.viewer).0 (sym c.followed_sound.ensures ∙ c.if-followed_sound.true) in
    (record { marks = a.marks.now; sound = good.0 }, c.if-cursor-st.true)

pub returns-then-cursor-st : goal.returns-then-cursor-st
unfolding sound cursor_sound
returns-then-cursor-st c =
    rw (sym c.followed_sound.ensures ∙ c.if-followed_sound.true, lt-ltb c.args.cursor.viewer 8 (omega arith), lt-ltb _ _ c.if-cursor-st.true) c.admitted.ensures

pub returns : goal.returns
unfolding sound cursor_sound
returns c =
    ⊎_elim (λ h. rw (sym c.followed_sound.ensures ∙ h.0, lt-ltb _ 8 h.1, le-ltb _ _ h.2))
    (⊎_elim (λ h. rw (sym c.followed_sound.ensures ∙ h.0, le-ltb _ 8 h.1)) (λ (h : c.followed_sound.result ≡ false). rw (sym c.followed_sound.ensures ∙ h)))
    c.else-followed_sound.either
