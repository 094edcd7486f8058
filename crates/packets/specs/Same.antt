-- Positions are told apart by their numbers. Assumes nothing.
use Rattle.std.specs.Prelude.{◌≡◌, refl, ◌↔◌, Bool, true, false, ◌&&◌, ℕ, eqb}
use Rattle.std.proofs.Common.{sym, ◌∙◌, eqb-true, eq-eqb}
use Rattle.std.proofs.lemmas.Bool.{false≢true}
use Rattle.laws.specs.Cases.{and_true}
use Rattle.types.specs.declared.cursor.Position.{Position}

-- two positions have the same numbers
abbrev pub same_position : Position → Position → Bool
same_position p q =
    eqb p.layno q.layno
    && (eqb p.resno q.resno && (eqb p.compno q.compno && (eqb p.precno q.precno && (eqb p.x q.x && eqb p.y q.y))))

-- two positions with the same numbers are one
pub same_numbers : {p q : Position} → p.layno ≡ q.layno → p.resno ≡ q.resno → p.compno ≡ q.compno → p.precno ≡ q.precno → p.x ≡ q.x → p.y ≡ q.y → p ≡ q
same_numbers l r c k x y = λ i. record { layno = l i; resno = r i; compno = c i; precno = k i; x = x i; y = y i }

pub same_from : (p q : Position) → same_position p q ≡ true → p ≡ q
same_from p q h =
    let a = and_true _ _ h in
    let b = and_true _ _ a.1 in
    let c = and_true _ _ b.1 in
    let d = and_true _ _ c.1 in
    let e = and_true _ _ d.1 in
    same_numbers (eqb-true _ _ a.0) (eqb-true _ _ b.0) (eqb-true _ _ c.0) (eqb-true _ _ d.0) (eqb-true _ _ e.0) (eqb-true _ _ e.1)

same_self : (q : Position) → same_position q q ≡ true
same_self q = let e : (n : ℕ) → eqb n n ≡ true = λ n. eq-eqb n n refl in simp e

-- same_position tests whether two positions are one
pub same_true : (p q : Position) → (same_position p q ≡ true) ↔ (p ≡ q)
same_true p q = (same_from p q, λ e. rw e (same_self q))

unfoldable pub decided : (p q : Position) (t : Bool) → same_position p q ≡ t → Dec (p ≡ q)
decided p q true e = yes (same_from p q e)
decided p q false e = no (λ d. false≢true (sym e ∙ (same_true p q).1 d))

-- whether two positions are the same, with the reason
unfoldable pub same : Discrete Position
same p q = decided p q (same_position p q) refl
