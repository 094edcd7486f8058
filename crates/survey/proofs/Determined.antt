-- The public contract of this crate allows one answer only, and one later content of what is kept. Assumes nothing.
use mathlib.Core.Path.{◌≡◌, sym, ◌∙◌}
use borrow.Fn.Kinds.{Dens, res_t, ended_of}
use contract.Lifetimes.{Lfts}
use denote.Triple.Clauses.{AtExit}
use Rattle.laws.specs.Determined.{OneAnswer}
use Rattle.survey.proofs.survey.Kinds as survey_kinds
use Rattle.survey.proofs.survey.Reads as survey

pub survey_determined : OneAnswer survey_kinds.ps survey_kinds.r survey.Post
survey_determined κs a r s e f p q = p.0 ∙ sym q.0

pub survey_leaves : (κs : Lfts 2) (a : Dens κs survey_kinds.ps) (r s : (res_t survey_kinds.r κs).Denot) (e f : AtExit (ended_of 2 survey_kinds.ps survey_kinds.r) κs)
    → survey.Post κs a r e → survey.Post κs a s f → e.1.1.1.1.0.now ≡ f.1.1.1.1.0.now
survey_leaves κs a r s e f p q = p.1 ∙ sym q.1
