-- `meets`: the tests of the code are those of the definition, one after the other. Assumes nothing.
use Rattle.std.proofs.Common.{◌≡◌, ◌%◌, refl, ◌∙◌, eq-eqb, ne_eqb, arith}
use Rattle.std.proofs.lemmas.Bool.{false≢true}
use Rattle.geometry.specs.Line.{step}
use Rattle.geometry.specs.Axis.{line_of}
use Rattle.geometry.specs.Fitted.{fitted_multiple}
use Rattle.geometry.proofs.Meeting.{on_step, on_start, on_none}
use Rattle.geometry.proofs.axis.Line.meets.Goals as goal
use Rattle.geometry.proofs.axis.Line.meets.Goals.{Else-is_multiple_of}

-- the step that is tested is the line's
off : (c : Else-is_multiple_of) → c.args.x % step (line_of c.args.self) ≡ 0 → ⊥
off c z =
    let a = c.args in
    false≢true (c.if-is_multiple_of.ensures.1 (rw c.step.ensures (fitted_multiple a.x (step (line_of a.self)) (omega arith) ∙ z)))

pub returns-then-is_multiple_of : goal.returns-then-is_multiple_of
returns-then-is_multiple_of c = let a = c.args in
    let z = rw (c.step.ensures, fitted_multiple a.x (step (line_of a.self)) (omega arith)) at (c.if-is_multiple_of.ensures.0 refl) in
    c.if-is_multiple_of.true ∙ on_step (line_of a.self) a.x (omega arith) (omega arith) (eq-eqb _ _ z)

pub returns-then-x-self-2 : goal.returns-then-x-self-2
returns-then-x-self-2 c = let a = c.args in
    c.uneven.ensures
    ∙ rw c.sample.ensures
    (on_start (line_of a.self) a.x (omega arith) (omega arith) (ne_eqb _ _ (off (goal.at.returns-then-x-self-2 c).Else-is_multiple_of)) c.if-x-self-2.true)

pub returns-else-x-self-2 : goal.returns-else-x-self-2
returns-else-x-self-2 c = let a = c.args in
    rw (ne_eqb _ _ c.if-x-self-2.false)
    (on_none (line_of a.self) a.x (omega arith) (omega arith) (ne_eqb _ _ (off (goal.at.returns-else-x-self-2 c).Else-is_multiple_of)) c.if-x-self-2.false)
