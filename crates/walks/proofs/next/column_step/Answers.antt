-- `column_step`: where the row meets no precinct nothing is in play; else the step is kept (RowLaws). Assumes nothing.
use mathlib.Core.Path.{sym, ap, ◌∙◌}
use Rattle.walks.specs.Prepared.{unprepared, kept}
use Rattle.walks.specs.Nexts.{play_x_lem}
use Rattle.walks.specs.RowLaws.{columns_none, columns_bare, columns_in}
use Rattle.walks.proofs.next.column_step.Goals as goal

pub returns-in_err-first-clause-is : goal.returns-in_err-first-clause-is
returns-in_err-first-clause-is c = λ s y h. c.from_residual.ensures ∙ columns_none s _ _ _ _ y h c.in_err-first.was

pub returns-in_err-p-clause-is : goal.returns-in_err-p-clause-is
returns-in_err-p-clause-is c = λ s y h. c.from_residual-in_err-p.ensures ∙ columns_bare s _ _ _ _ y h (sym (c.kept.ensures ∙ ap kept (c.at.ensures unprepared)) ∙ c.in_err-p.was)

pub returns : goal.returns
returns c =
    let k = sym (c.kept.ensures ∙ ap kept (c.at.ensures unprepared)) ∙ c.in_ok-p.was in
    let w = c.requires in
    record { is = λ s y h. columns_in s _ _ _ _ y h _ c.in_ok-first.was _ k; positive = play_x_lem w.0 _ _ _ w.1.1.at.play _ k }
