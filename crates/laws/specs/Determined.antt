-- A contract that is an equation allows one outcome only. The laws are over a function's own `ensures`, as the checker reads it (`Post`). Assumes nothing.
use Rattle.std.specs.Prelude.{◌≡◌, List, ℕ}
use Rattle.std.proofs.Common.{sym, ◌∙◌}
use borrow.Fn.Kinds.{ParamKind, ResultKind, Out, Dens, res_t, ended_of}
use contract.Lifetimes.{Lfts}
use denote.Triple.Clauses.{AtExit}

-- any two outcomes that are allowed coincide
abbrev pub Determined : {A : Type 0} → (A → Type 0) → Type 0
Determined {A} Allowed = (r s : A) → Allowed r → Allowed s → r ≡ s

-- THE LAW: what is to equal a value is that value
pub determined : {A : Type 0} (a : A) → Determined (λ (r : A). r ≡ a)
determined a r s p q = p ∙ sym q

-- the same where the equation is on what the outcome says, and outcomes that say the same are the same
pub determined_by : {A B : Type 0} (says : A → B) → ((r s : A) → says r ≡ says s → r ≡ s) → (b : B) → Determined (λ (r : A). says r ≡ b)
determined_by says apart b r s p q = apart r s (p ∙ sym q)

-- of a function with parameters ps and a result k: of the same arguments its contract allows one answer
abbrev pub OneAnswer : {n : ℕ} (ps : List (ParamKind n)) (k : ResultKind n) → Out n ps k → Type 0
OneAnswer {n} ps k Post =
    (κs : Lfts n) (a : Dens κs ps) (r s : (res_t k κs).Denot) (e f : AtExit (ended_of n ps k) κs) → Post κs a r e → Post κs a s f → r ≡ s

-- .. and one later content of what was lent, which `seen` reads off the parameters at exit
abbrev pub OneOutcome : {n : ℕ} (ps : List (ParamKind n)) (k : ResultKind n) → Out n ps k → {L : Type 0} → ((κs : Lfts n) → AtExit (ended_of n ps k) κs → L) → Type 0
OneOutcome {n} ps k Post seen =
    (κs : Lfts n) (a : Dens κs ps) (r s : (res_t k κs).Denot) (e f : AtExit (ended_of n ps k) κs) → Post κs a r e → Post κs a s f → (r ≡ s) × (seen κs e ≡ seen κs f)
