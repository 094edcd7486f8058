-- `join`: -9 before -15, and else the needed marks without the viewer's bit and its total anew. Assumes nothing.
use borrow.Author.Tests.{lt-ltb, le-ltb}
use mathlib.Core.Path.{refl, sym, ap, subst, ◌∙◌}
use Prim.Native.Nat.{ℕ, ◌≤◌}
use lib.ListN.{length}
use Rattle.laws.specs.Marks.{cleared_to}
use Rattle.types.specs.Totals.{with_total}
use Rattle.packets.specs.Calls.{Join, join_of}
use Rattle.packets.specs.Meaning.{followed_means}
use Rattle.packets.proofs.Steps.{join-good}
use Rattle.soundness.specs.Needs.{needs_told}
use Rattle.calls.proofs.join.join.Goals as goal

pub clear_for-requires : goal.clear_for-requires
clear_for-requires c =
    let a = c.args in
    let t = needs_told a.f a.table.now a.marks.now a.viewer c.marks_needed.ensures c.in-Some.is in
    subst (λ (k : ℕ). k ≤ length a.marks.now) (sym t.1) ((followed_means _ _ _ _).0 t.0).0.marks_long

pub total-requires : goal.total-requires
total-requires c =
    let a = c.args in
    let t = needs_told a.f a.table.now a.marks.now a.viewer c.marks_needed.ensures c.in-Some.is in
    record { marks = a.marks.now; sound = ((followed_means _ _ _ _).0 t.0).0 }

pub returns-then-viewer-lt-VIEWERS : goal.returns-then-viewer-lt-VIEWERS
returns-then-viewer-lt-VIEWERS c =
    let a = c.args in
    let t = needs_told a.f a.table.now a.marks.now a.viewer c.marks_needed.ensures c.in-Some.is in
    let e = join-good a.f a.table.now a.marks.now a.viewer t.0 (lt-ltb _ 8 c.if-viewer-lt-VIEWERS.true) in record { says = ap (λ (r : Join). r.number) (sym e); counts = c.with_total.ensures ∙ ap (with_total a.f a.viewer) c.total.ensures ∙ ap (λ (r : Join). r.followed) (sym e); cleared = c.clear_for.ensures ∙ ap (λ (k : ℕ). cleared_to a.viewer k a.marks.now) t.1 ∙ ap (λ (r : Join). r.marks) (sym e) }

pub returns-else-viewer-lt-VIEWERS : goal.returns-else-viewer-lt-VIEWERS
unfolding join_of
returns-else-viewer-lt-VIEWERS c =
    let a = c.args in
    let t = needs_told a.f a.table.now a.marks.now a.viewer c.marks_needed.ensures c.in-Some.is in
    rw (t.0, le-ltb _ 8 c.if-viewer-lt-VIEWERS.false) record { says = refl; counts = refl; cleared = refl }

pub returns-in-None : goal.returns-in-None
unfolding join_of
returns-in-None c =
    let a = c.args in
    rw (needs_told a.f a.table.now a.marks.now a.viewer c.marks_needed.ensures c.in-None.is) record { says = refl; counts = refl; cleared = refl }
