-- Each public contract of this crate allows one answer and one later content of what is lent. Assumes nothing.
use mathlib.Core.Path.{◌≡◌, sym, ◌∙◌}
use borrow.Fn.Kinds.{Dens, res_t, ended_of}
use contract.Lifetimes.{Lfts}
use denote.Triple.Clauses.{AtExit}
use Rattle.laws.specs.Determined.{determined_by, OneAnswer}
use Rattle.types.specs.Answers.{of_opened, of_located}
use Rattle.packets.specs.Apart.{setup-apart, started-apart, run-apart, joined-apart, opened_apart, stepped-apart, located_apart}
use Rattle.calls.proofs.setup.setup_for.Kinds as setup_for_kinds
use Rattle.calls.proofs.setup.setup_for.Reads as setup-for
use Rattle.calls.proofs.setup.setup.Kinds as setup_kinds
use Rattle.calls.proofs.setup.setup.Reads as setup
use Rattle.calls.proofs.join.join.Kinds as join_kinds
use Rattle.calls.proofs.join.join.Reads as join
use Rattle.calls.proofs.open.open.Kinds as opening_kinds
use Rattle.calls.proofs.open.open.Reads as opening
use Rattle.calls.proofs.step.step.Kinds as step_kinds
use Rattle.calls.proofs.step.step.Reads as step
use Rattle.calls.proofs.rectangle.rectangle.Kinds as rectangle_kinds
use Rattle.calls.proofs.rectangle.rectangle.Reads as rectangle
use Rattle.calls.proofs.whole.whole_run.Kinds as whole_run_kinds
use Rattle.calls.proofs.whole.whole_run.Reads as whole_run

pub setup-determined : OneAnswer setup_kinds.ps setup_kinds.r setup.Post
setup-determined κs a r s e f p q = started-apart r s (λ i. record { number = (p.0 ∙ sym q.0) i; followed = (p.1.0 ∙ sym q.1.0) i })

-- and what stands in the table and in the marks at exit
pub setup_leaves : (κs : Lfts 3) (a : Dens κs setup_kinds.ps) (r s : (res_t setup_kinds.r κs).Denot) (e f : AtExit (ended_of 3 setup_kinds.ps setup_kinds.r) κs)
    → setup.Post κs a r e → setup.Post κs a s f → (e.1.0.now ≡ f.1.0.now) × (e.1.1.0.now ≡ f.1.1.0.now)
setup_leaves κs a r s e f p q = (p.1.1.0 ∙ sym q.1.1.0, p.1.1.1 ∙ sym q.1.1.1)

pub setup_for_determined : OneAnswer setup_for_kinds.ps setup_for_kinds.r setup-for.Post
setup_for_determined κs a r s e f p q = setup-apart r s (p.0 ∙ sym q.0)

pub setup_for_leaves : (κs : Lfts 3) (a : Dens κs setup_for_kinds.ps) (r s : (res_t setup_for_kinds.r κs).Denot) (e f : AtExit (ended_of 3 setup_for_kinds.ps setup_for_kinds.r) κs)
    → setup-for.Post κs a r e → setup-for.Post κs a s f → (e.1.0.now ≡ f.1.0.now) × (e.1.1.0.now ≡ f.1.1.0.now)
setup_for_leaves κs a r s e f p q = (p.1.0 ∙ sym q.1.0, p.1.1 ∙ sym q.1.1)

pub join-determined : OneAnswer join_kinds.ps join_kinds.r join.Post
join-determined κs a r s e f p q = λ i. record { said = joined-apart r.said s.said (p.0 ∙ sym q.0) i; followed = (p.1.0 ∙ sym q.1.0) i }

pub join_leaves : (κs : Lfts 2) (a : Dens κs join_kinds.ps) (r s : (res_t join_kinds.r κs).Denot) (e f : AtExit (ended_of 2 join_kinds.ps join_kinds.r) κs)
    → join.Post κs a r e → join.Post κs a s f → e.1.1.0.now ≡ f.1.1.0.now
join_leaves κs a r s e f p q = p.1.1 ∙ sym q.1.1

pub open_determined : OneAnswer opening_kinds.ps opening_kinds.r opening.Post
open_determined κs a r s e f = determined_by of_opened opened_apart _ r s

pub rectangle-determined : OneAnswer rectangle_kinds.ps rectangle_kinds.r rectangle.Post
rectangle-determined κs a r s e f = determined_by of_located located_apart _ r s

pub step-determined : OneAnswer step_kinds.ps step_kinds.r step.Post
step-determined κs a r s e f p q = λ i. record { said = stepped-apart r.said s.said (p.0 ∙ sym q.0) i; followed = (p.1.0 ∙ sym q.1.0) i }

pub step_leaves : (κs : Lfts 2) (a : Dens κs step_kinds.ps) (r s : (res_t step_kinds.r κs).Denot) (e f : AtExit (ended_of 2 step_kinds.ps step_kinds.r) κs)
    → step.Post κs a r e → step.Post κs a s f → e.1.1.0.now ≡ f.1.1.0.now
step_leaves κs a r s e f p q = p.1.1 ∙ sym q.1.1

pub whole_run_determined : OneAnswer whole_run_kinds.ps whole_run_kinds.r whole_run.Post
whole_run_determined κs a r s e f p q = run-apart r s (p.0 ∙ sym q.0)

pub whole_run_leaves : (κs : Lfts 4) (a : Dens κs whole_run_kinds.ps) (r s : (res_t whole_run_kinds.r κs).Denot) (e f : AtExit (ended_of 4 whole_run_kinds.ps whole_run_kinds.r) κs)
    → whole_run.Post κs a r e → whole_run.Post κs a s f
    → (e.1.0.now ≡ f.1.0.now) × (e.1.1.0.now ≡ f.1.1.0.now) × (e.1.1.1.0.now ≡ f.1.1.1.0.now)
whole_run_leaves κs a r s e f p q = (p.1.0 ∙ sym q.1.0, p.1.1.0 ∙ sym q.1.1.0, p.1.1.1.0 ∙ sym q.1.1.1.0)
