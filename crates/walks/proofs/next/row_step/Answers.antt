-- `row_step`: where nothing is kept nothing is in play; else the step is kept. Assumes nothing.
use mathlib.Core.Path.{sym, ap, ◌∙◌}
use Rattle.walks.specs.Prepared.{unprepared, kept}
use Rattle.walks.specs.Nexts.{rows_out, rows_in, play-entry, play_y_lem}
use Rattle.walks.proofs.next.row_step.Goals as goal

pub returns-in_err-p : goal.returns-in_err-p
returns-in_err-p c = record {
  is = λ s h. c.from_residual.ensures ∙ rows_out s _ _ _ (play-entry s _ _ _ h) (sym (c.kept.ensures ∙ ap kept (c.at.ensures unprepared)) ∙ c.in_err-p.was);
  positive = rw c.from_residual.ensures tt;
}

pub returns : goal.returns
returns c =
    let k = sym (c.kept.ensures ∙ ap kept (c.at.ensures unprepared)) ∙ c.in_ok-p.was in
    let w = c.requires in
    record { is = λ s h. rows_in s _ _ _ (play-entry s _ _ _ h) _ k; positive = play_y_lem w.0 _ _ _ w.1 _ k }
