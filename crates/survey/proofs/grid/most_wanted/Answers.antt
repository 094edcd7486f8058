-- `most_wanted`: the most that the progressions passed want; those beyond the array want nothing. Assumes nothing.
use Rattle.std.specs.Prelude.{◌≡◌, ◌<◌, length, take, get_or, min}
use Rattle.std.proofs.Common.{rules, arith, ◌∙◌, refl, add-one}
use Rattle.std.proofs.lemmas.List.{get_or-take, length-take-le}
use Rattle.std.specs.Ordering.{ord_max}
use mir.Val.{SFits}
use mir.Syntax.{w32}
use mir.Facts.{to_z-of_z}
use Rattle.types.specs.State.{no_progression}
use Rattle.packets.specs.Grid.{change_of}
use Rattle.survey.specs.Passing.{want_for, larger, most_of}
use Rattle.survey.specs.contracts.grid.WantOrd.TheImpl.{cmp-value}
use Rattle.survey.specs.declared.grid.Want.{Want}
use Rattle.survey.specs.declared.grid.Want.TheVariants.{Nothing, OwnFit, AllFit, Multiples}
use Rattle.survey.proofs.Orders.{wanted_up_to}
use Rattle.survey.proofs.grid.most_wanted.Goals as goal
use Rattle.survey.proofs.grid.most_wanted.Goals.{After-min-n, In-loop-p}

-- the array has 32 places, of which the first n are passed
long : (c : After-min-n) → length c.args.st.changes ≡ 32
long c = omega arith

passed : (c : After-min-n) → length (take c.min-n.result c.args.st.changes) ≡ c.min-n.result
passed c = length-take-le _ _ (omega (arith, long c, c.min-n.ensures))

pub loop-p-init : goal.loop-p-init
unfolding most_of
loop-p-init c = refl

-- the derived order is that of the ranks
max_is : (a b : Want) → ord_max cmp-value.it a b ≡ larger a b
max_is Nothing Nothing = refl
max_is Nothing OwnFit = refl
max_is Nothing AllFit = refl
max_is Nothing Multiples = refl
max_is OwnFit Nothing = refl
max_is OwnFit OwnFit = refl
max_is OwnFit AllFit = refl
max_is OwnFit Multiples = refl
max_is AllFit Nothing = refl
max_is AllFit OwnFit = refl
max_is AllFit AllFit = refl
max_is AllFit Multiples = refl
max_is Multiples Nothing = refl
max_is Multiples OwnFit = refl
max_is Multiples AllFit = refl
max_is Multiples Multiples = refl

pub loop-p-preserved : goal.loop-p-preserved
unfolding most_of
loop-p-preserved c =
    let st = c.args.st in
    let n = c.min-n.result in
    let i = c.loop-p.p-index in
    let below : i < n = omega (arith, passed (goal.at.loop-p-preserved c).After-min-n, c.loop-p-test.true) in
    let at : get_or (take n st.changes) i no_progression ≡ change_of st i = get_or-take n st.changes i no_progression below in
    let fits : SFits w32 (change_of st i).prg = search rules in
    let one : c.wants.result ≡ want_for (change_of st i) = c.wants.ensures ∙ rw (c.of.ensures, at, to_z-of_z fits) in
    rw (add-one i) (c.max-most.ensures ∙ max_is c.loop-p.most c.wants.result ∙ (λ j. larger (c.loop-p.invariant j) (one j)))

pub returns : goal.returns
returns c =
    let st = c.args.st in
    let w = (goal.at.returns c).After-min-n in
    let end : c.loop-p.p-index ≡ min st.progressions 32 = omega (arith, passed w, c.min-n.ensures) in
    rw end at c.loop-p.invariant ∙ wanted_up_to st (long w)
