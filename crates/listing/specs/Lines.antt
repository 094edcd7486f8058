-- Lines of the output's records, and that they are those of the packets written there. Assumes nothing.
use Rattle.std.specs.Prelude.{◌≡◌, refl, List, [], ◌∷◌, ◌++◌, ℕ, zero, suc, ◌+◌, ◌*◌}
use Rattle.std.proofs.Common.{sym, ap, ◌∙◌, append_assoc, append-nil, arith, add-one}
use Rattle.words.specs.Words.{word_at}
use Rattle.packets.specs.Text.{decimal}

-- a line of four numbers
abbrev pub line_with : ℕ → ℕ → ℕ → ℕ → List ℕ
line_with a b c d = decimal a ++ 32 ∷ decimal b ++ 32 ∷ decimal c ++ 32 ∷ decimal d ++ 10 ∷ []

-- one part put after the other
pub put_both : (t x y : List ℕ) {u v : List ℕ} → u ≡ t ++ x → v ≡ u ++ y → v ≡ t ++ (x ++ y)
put_both t x y p q = q ∙ ap (λ (l : List ℕ). l ++ y) p ∙ append_assoc t x y

-- put number by number
pub put-line : (t : List ℕ) (a b c d : ℕ) {u v w x : List ℕ} → u ≡ t ++ (decimal a ++ 32 ∷ []) → v ≡ u ++ (decimal b ++ 32 ∷ []) → w ≡ v ++ (decimal c ++ 32 ∷ [])
    → x ≡ w ++ (decimal d ++ 10 ∷ []) → x ≡ t ++ line_with a b c d
put-line t a b c d p q r s = put_both _ _ _ (put_both _ _ _ (put_both _ _ _ p q) r) s ∙ ap (λ (l : List ℕ). t ++ l) same
  where
    same : (((decimal a ++ 32 ∷ []) ++ (decimal b ++ 32 ∷ [])) ++ (decimal c ++ 32 ∷ [])) ++ (decimal d ++ 10 ∷ []) ≡ line_with a b c d
    same = simp append_assoc

-- the line of the record at place at
abbrev pub line_at : List ℕ → ℕ → List ℕ
line_at output at = line_with (word_at output at) (word_at output (at + 4)) (word_at output (at + 8)) (word_at output (at + 12))

-- the lines of n records from place at on
unfoldable pub lines_at : List ℕ → ℕ → ℕ → List ℕ
lines_at output at zero = []
lines_at output at (suc n) = line_at output at ++ lines_at output (at + 16) n

-- one line more
pub lines_more : (output : List ℕ) (at n : ℕ) → lines_at output at (suc n) ≡ lines_at output at n ++ line_at output (at + 16 * n)
unfolding lines_at
lines_more output at zero =
    let e : at + 16 * 0 ≡ at = omega arith in
    rw e (append-nil (line_at output at))
lines_more output at (suc n) =
    let e : at + 16 + 16 * n ≡ at + 16 * suc n = omega arith in
    rw (lines_more output (at + 16) n, e) (sym (append_assoc (line_at output at) (lines_at output (at + 16) n) (line_at output (at + 16 * suc n))))

-- put line by line, and the count after them
pub lines_none : (output : List ℕ) → [] ≡ lines_at output 0 0
unfolding lines_at
lines_none output = refl

pub put-lines : (output : List ℕ) (i : ℕ) {t u : List ℕ} → t ≡ lines_at output 0 i → u ≡ t ++ line_at output (16 * i) → u ≡ lines_at output 0 (i + 1)
put-lines output i e p =
    let first : 0 + 16 * i ≡ 16 * i = omega arith in
    p ∙ rw (add-one i, lines_more output 0 i, first, e)

pub put-count : (output : List ℕ) {t u : List ℕ} {i : ℕ} (n : ℕ) → i ≡ n → t ≡ lines_at output 0 i → u ≡ t ++ (decimal n ++ 10 ∷ [])
    → u ≡ lines_at output 0 n ++ (decimal n ++ 10 ∷ [])
put-count output n s e p = p ∙ ap (λ (l : List ℕ). l ++ (decimal n ++ 10 ∷ [])) (e ∙ ap (lines_at output 0) s)
