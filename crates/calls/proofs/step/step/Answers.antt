-- `step`: a sound call takes what is next after its cursor; any other changes nothing. Assumes nothing.
use mathlib.Core.Path.{◌≡◌, sym, ap, ◌∙◌}
use mathlib.Core.Bool.{true}
use mathlib.Core.Option.{none}
use lib.IntN.{pos}
use Rattle.packets.specs.Sound as spec
use Rattle.packets.specs.Calls.{Step, step_by, step_of}
use Rattle.packets.specs.Meaning.{all_sound_means}
use Rattle.packets.proofs.Steps.{step_refused, step_searches}
use Rattle.types.specs.declared.cursor.Cursor.{Cursor}
use Rattle.walks.specs.Walk.{answer_of}
use Rattle.walks.specs.Taking.{marked_by}
use Rattle.calls.proofs.step.step.Goals as goal
use Rattle.calls.proofs.step.step.Goals.{After-take, Else-not-sound}

-- the call is sound
call : (c : Else-not-sound) → (let a = c.args in spec.sound a.f a.table.now a.marks.now a.cursor ≡ true)
call c = sym c.sound.ensures ∙ c.if-not-sound.false

-- the step, by what was taken
stepped : (c : After-take) → (let a = c.args in
    step_of a.f a.table.now a.marks.now a.cursor ≡ step_by a.f a.marks.now a.cursor.viewer a.cursor.progression (answer_of c.take.result))
stepped c = step_searches _ _ _ _ (sym c.sound.ensures ∙ c.if-not-sound.false) ∙ ap (step_by _ _ _ _) (sym c.take.ensures.found)

pub returns-then-not-sound : goal.returns-then-not-sound
returns-then-not-sound c =
    let a = c.args in
    let e = step_refused a.f a.table.now a.marks.now a.cursor (sym c.sound.ensures ∙ c.if-not-sound.true) in
    record { says = ap (λ (x : Step). x.said) (sym e); counts = ap (λ (x : Step). x.followed) (sym e); marked = ap (λ (x : Step). x.marks) (sym e) }

pub take-requires : goal.take-requires
take-requires c = let w = (all_sound_means _ _ _ _).0 (call (goal.at.take-requires c).Else-not-sound) in (w.0.0, w.1)

pub returns-in-Some : goal.returns-in-Some
returns-in-Some c =
    let a = c.args in
    let e = c.in-Some.is in
    let t = stepped (goal.at.returns-in-Some c).After-take ∙ ap (λ f. step_by a.f a.marks.now a.cursor.viewer a.cursor.progression (answer_of f)) e in record { says = ap (λ (x : Step). x.said) (sym t); counts = c.one_less-followed.ensures ∙ ap (λ (x : Step). x.followed) (sym t); marked = c.take.ensures.marked ∙ ap (marked_by a.cursor.viewer a.f.state a.marks.now) e ∙ ap (λ (x : Step). x.marks) (sym t) }

pub returns-in-None : goal.returns-in-None
returns-in-None c =
    let a = c.args in
    let e = c.in-None.is in
    let t = stepped (goal.at.returns-in-None c).After-take ∙ ap (λ f. step_by a.f a.marks.now a.cursor.viewer a.cursor.progression (answer_of f)) e in record { says = ap (λ (x : Cursor). record { number = pos 0; packet = none; cursor = x }) c.ended.ensures ∙ ap (λ (x : Step). x.said) (sym t); counts = ap (λ (x : Step). x.followed) (sym t); marked = c.take.ensures.marked ∙ ap (marked_by a.cursor.viewer a.f.state a.marks.now) e ∙ ap (λ (x : Step). x.marks) (sym t) }
