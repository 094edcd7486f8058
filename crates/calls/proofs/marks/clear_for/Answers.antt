-- `clear_for`: after i turns a viewer's bit is 0 in the first i marks. Assumes nothing.
use lib.ListN.{length}
use Prim.Native.Nat.{◌<◌}
use mathlib.Core.List.{List}
use Prim.Native.Nat.{ℕ}
use Rattle.laws.specs.Marks.{clear_at, cleared_to, cleared_next}
use mathlib.Core.Path.{refl, ap, ◌∙◌}
use native.Mathlib.Omega.{arith}
use Rattle.calls.proofs.marks.clear_for.Goals as goal

pub loop-i-init : goal.loop-i-init
unfolding cleared_to
loop-i-init c = refl

pub loop-i-preserved : goal.loop-i-preserved
loop-i-preserved c =
    let a = c.args in
    let l = c.loop-i in
    let h : l.i < length a.marks.now = omega arith in
    c.clear.ensures ∙ ap (λ (m : List ℕ). clear_at a.viewer m l.i) l.invariant ∙ cleared_next a.viewer l.i a.marks.now h
