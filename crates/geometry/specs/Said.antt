-- What an answer says in document 01's terms ('Numbers that come back'): a number, and the values that come with it.
use Rattle.std.specs.Prelude.{◌≡◌, ℕ, ◌-◌, Bool, true, false, cond, List, [], ◌∷◌, ℤ, pos, negsuc, refl, Option, Some, None}
use Rattle.std.proofs.Common.{sym, ap, ◌∙◌}
use mathlib.Core.List.{cons≢nil, head-eq_of_cons-eq, tail-eq_of_cons-eq}
use Rattle.geometry.specs.declared.tile.Area.{Area}

pub record Said : Type 0 where
  pub number : ℤ
  pub values : List ℕ

-- an answer that is no refusal: number 0, and its values
abbrev pub value : List ℕ → Said
value ns = record { number = pos 0; values = ns }

-- the refusal -n, which carries only its number
abbrev pub refusal : ℕ → Said
refusal n = record { number = negsuc (n - 1); values = [] }

-- arithmetic: a value, or -22
abbrev pub of_word : Option ℕ → Said
of_word (Some n) = value (n ∷ [])
of_word None = refusal 22

-- tile bounds: tx0 ty0 tx1 ty1, or -10
abbrev pub of_tile : Option Area → Said
of_tile (Some a) = value (a.x0 ∷ a.y0 ∷ a.x1 ∷ a.y1 ∷ [])
of_tile None = refusal 10

-- what is said of a test that chooses between a value and -22, read off a case of the answer
module _ (t : Bool) (n : ℕ) where
  pub word_value : (w : Option ℕ) (x : ℕ) → w ≡ Some x → of_word w ≡ cond t (value (n ∷ [])) (refusal 22) → (t ≡ true) × (x ≡ n)
  word_value w x p q = by t (ap of_word (sym p) ∙ q)
    where
      by : (t : Bool) → of_word (Some x) ≡ cond t (value (n ∷ [])) (refusal 22) → (t ≡ true) × (x ≡ n)
      by true e = (refl, head-eq_of_cons-eq (ap (λ (s : Said). s.values) e))
      by false e = absurd (cons≢nil (ap (λ (s : Said). s.values) e))

  pub word_refused : (w : Option ℕ) → w ≡ None → of_word w ≡ cond t (value (n ∷ [])) (refusal 22) → t ≡ false
  word_refused w p q = by t (ap of_word (sym p) ∙ q)
    where
      by : (t : Bool) → of_word None ≡ cond t (value (n ∷ [])) (refusal 22) → t ≡ false
      by true e = absurd (cons≢nil (sym (ap (λ (s : Said). s.values) e)))
      by false e = refl

-- two answers that say the same are the same
pub word_apart : (r s : Option ℕ) → of_word r ≡ of_word s → r ≡ s
word_apart (Some a) (Some b) e = ap Some (head-eq_of_cons-eq (ap (λ (s : Said). s.values) e))
word_apart (Some a) None e = absurd (cons≢nil (ap (λ (s : Said). s.values) e))
word_apart None (Some b) e = absurd (cons≢nil (sym (ap (λ (s : Said). s.values) e)))
word_apart None None e = refl

pub tile-apart : (r s : Option Area) → of_tile r ≡ of_tile s → r ≡ s
tile-apart (Some a) (Some b) e = ap Some (by (ap (λ (s : Said). s.values) e))
  where
    by : (of_tile (Some a)).values ≡ (of_tile (Some b)).values → a ≡ b
    by v =
        let v1 = tail-eq_of_cons-eq v in
        let v2 = tail-eq_of_cons-eq v1 in
        let v3 = tail-eq_of_cons-eq v2 in
        λ i. record { x0 = head-eq_of_cons-eq v i; y0 = head-eq_of_cons-eq v1 i; x1 = head-eq_of_cons-eq v2 i; y1 = head-eq_of_cons-eq v3 i }
tile-apart (Some a) None e = absurd (cons≢nil (ap (λ (s : Said). s.values) e))
tile-apart None (Some b) e = absurd (cons≢nil (sym (ap (λ (s : Said). s.values) e)))
tile-apart None None e = refl
