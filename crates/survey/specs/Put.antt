-- Numbers written into a list one after the other, and what that leaves: those of two lists, and with room for all the list with its start written.
use Rattle.std.specs.Prelude.{◌≡◌, refl, List, [], ◌∷◌, ◌++◌, ℕ, suc, ◌+◌, ◌≤◌, ◌<◌, length, set}
use Rattle.std.proofs.Common.{ap, ◌∙◌, append_assoc, append-nil, arith, length-set, length-append}
use Rattle.words.specs.Words.{over}

-- numbers written one after the other from a place on; those beyond the list's end are not written
unfoldable pub put_numbers : List ℕ → ℕ → List ℕ → List ℕ
put_numbers l at [] = l
put_numbers l at (n ∷ ns) = put_numbers (set l at n) (at + 1) ns

pub put-length : (ns l : List ℕ) (at : ℕ) → length (put_numbers l at ns) ≡ length l
unfolding put_numbers
put-length [] l at = refl
put-length (n ∷ ns) l at = put-length ns (set l at n) (at + 1) ∙ length-set l at n

pub put_more : (ns ms l : List ℕ) (at : ℕ) → put_numbers (put_numbers l at ns) (at + length ns) ms ≡ put_numbers l at (ns ++ ms)
unfolding put_numbers
put_more [] ms l at = let e : at + 0 ≡ at = omega arith in rw e
put_more (n ∷ ns) ms l at =
    let e : at + suc (length ns) ≡ at + 1 + length ns = omega arith in
    rw e (put_more ns ms (set l at n) (at + 1))

-- one number after those that are laid over a list, and more
set-over : (ns old : List ℕ) (m : ℕ) → length ns < length old → set (over ns old) (length ns) m ≡ over (ns ++ (m ∷ [])) old
set-over [] [] m h = absurd (omega arith)
set-over [] (x ∷ old) m h = refl
set-over (n ∷ ns) [] m h = absurd (omega arith)
set-over (n ∷ ns) (x ∷ old) m h = ap (λ (l : List ℕ). n ∷ l) (set-over ns old m (omega arith))

more_over : (ms ns old : List ℕ) → length ns + length ms ≤ length old → put_numbers (over ns old) (length ns) ms ≡ over (ns ++ ms) old
unfolding put_numbers
more_over [] ns old h = rw (append-nil ns)
more_over (m ∷ ms) ns old h =
    let k : length (ns ++ (m ∷ [])) ≡ length ns + 1 = length-append ns (m ∷ []) in
    rw (set-over ns old m (omega arith), ← k, more_over ms (ns ++ (m ∷ [])) old (omega arith), append_assoc ns (m ∷ []) ms)

-- with room for all
pub put-over : (ns old : List ℕ) → length ns ≤ length old → put_numbers old 0 ns ≡ over ns old
put-over ns old h = more_over ns [] old (omega arith)
