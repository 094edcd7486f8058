-- `survey`: the pass over the components; what it kept of something that is not good is cleared. Assumes nothing.
use Rattle.std.specs.Prelude.{replicate}
use Rattle.std.proofs.Common.{◌∙◌, ap}
use Rattle.survey.proofs.Cleared.{bad_kept, good-kept}
use Rattle.survey.proofs.survey.Goals as goal

pub returns-then-is_none-clause-keeps : goal.returns-then-is_none-clause-keeps
returns-then-is_none-clause-keeps c =
    let a = c.args in
    let w = c.passed-found in
    c.fill.ensures.after (λ y e. e) ∙ ap (λ n. replicate n 0) w.auto.kept ∙ bad_kept a.e.now a.at a.check a.st a.kept.now w.result w.ensures.found c.if-is_none.ensures

pub returns-else-is_none-clause-keeps : goal.returns-else-is_none-clause-keeps
returns-else-is_none-clause-keeps c =
    let a = c.args in
    let w = c.passed-found in
    good-kept a.e.now a.at a.check a.st a.kept.now w.result w.ensures.found c.if-is_none.ensures w.ensures.keeps
