-- `agreed`: each arm is a case of the definition. Assumes nothing.
use Rattle.std.specs.Prelude.{◌≡◌, Bool, true, false, ◌&&◌, ◌||◌, ◌⊎◌}
use Rattle.std.proofs.Common.{⊎_elim, sym, ◌∙◌, ap}
use Rattle.survey.specs.Passing.{ranges_fit, granted, agreed_of}
use Rattle.survey.specs.declared.grid.Want.{Want}
use Rattle.survey.specs.declared.grid.Want.TheVariants.{Nothing, OwnFit}
use Rattle.survey.proofs.grid.agreed.Goals as goal
use Rattle.survey.proofs.grid.agreed.Goals.{After-most_wanted}

-- a choice of two tests, and both of two, by the first
first_or : {a : Bool} (b : Bool) → a ≡ true → a ≡ (a || b)
first_or b e = rw e

second_or : {a b r : Bool} → a ≡ false → r ≡ b → r ≡ (a || b)
second_or e h = rw e h

first_and : {a : Bool} (b : Bool) → a ≡ false → a ≡ (a && b)
first_and b e = rw e

second_and : {a b r : Bool} → a ≡ true → r ≡ b → r ≡ (a && b)
second_and e h = rw e h

-- what is granted, by what is wanted
granted_is : (c : After-most_wanted) → {w : Want} → c.most_wanted.result ≡ w → let a = c.args in granted w a.st a.all a.parts.now ≡ agreed_of a.st a.all a.parts.now
unfolding agreed_of
granted_is c e = let a = c.args in ap (λ (w : Want). granted w a.st a.all a.parts.now) (sym e ∙ c.most_wanted.ensures)

granted-own : (c : After-most_wanted) → ((c.most_wanted.result ≡ Nothing) ⊎ (c.most_wanted.result ≡ OwnFit))
    → let a = c.args in (a.all.fit || ranges_fit a.st a.parts.now) ≡ agreed_of a.st a.all a.parts.now
granted-own c = ⊎_elim (λ e. granted_is c e) (λ e. granted_is c e)

pub returns-then-all : goal.returns-then-all
returns-then-all c =
    rw (← (granted-own (goal.at.returns-then-all c).After-most_wanted c.in-Nothing.is)) (first_or _ c.if-all.true)

pub returns-else-all : goal.returns-else-all
returns-else-all c =
    rw (← (granted-own (goal.at.returns-else-all c).After-most_wanted c.in-Nothing.is)) (second_or c.if-all.false c.ranges_fit.ensures)

pub returns-in-AllFit : goal.returns-in-AllFit
returns-in-AllFit c = granted_is (goal.at.returns-in-AllFit c).After-most_wanted c.in-AllFit.is

pub returns-then-all-2 : goal.returns-then-all-2
returns-then-all-2 c =
    rw (← (granted_is (goal.at.returns-then-all-2 c).After-most_wanted c.in-Multiples.is)) (second_and c.if-all-2.true c.multiples.ensures)

pub returns-else-all-2 : goal.returns-else-all-2
returns-else-all-2 c =
    rw (← (granted_is (goal.at.returns-else-all-2 c).After-most_wanted c.in-Multiples.is)) (first_and _ c.if-all-2.false)
