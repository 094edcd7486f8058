-- The export's contract allows one answer and one later content of what is lent. Assumes nothing.
use mathlib.Core.Path.{◌≡◌, sym, ◌∙◌}
use borrow.Fn.Kinds.{Dens, res_t, ended_of}
use contract.Lifetimes.{Lfts}
use denote.Triple.Clauses.{AtExit}
use Rattle.laws.specs.Determined.{OneAnswer}
use Rattle.stepping.proofs.bonxigarth_stepped_run.Kinds as stepped_run_kinds
use Rattle.stepping.proofs.bonxigarth_stepped_run.Reads as stepped-run

pub stepped_run_determined : OneAnswer stepped_run_kinds.ps stepped_run_kinds.r stepped-run.Post
stepped_run_determined κs a r s e f p q = p.0 ∙ sym q.0

pub stepped_run_leaves : (κs : Lfts 4) (a : Dens κs stepped_run_kinds.ps) (r s : (res_t stepped_run_kinds.r κs).Denot) (e f : AtExit (ended_of 4 stepped_run_kinds.ps stepped_run_kinds.r) κs)
    → stepped-run.Post κs a r e → stepped-run.Post κs a s f
    → (e.1.0.now ≡ f.1.0.now) × (e.1.1.0.now ≡ f.1.1.0.now) × (e.1.1.1.0.now ≡ f.1.1.1.0.now)
stepped_run_leaves κs a r s e f p q = (p.1.0 ∙ sym q.1.0, p.1.1.0 ∙ sym q.1.1.0, p.1.1.1 ∙ sym q.1.1.1)
