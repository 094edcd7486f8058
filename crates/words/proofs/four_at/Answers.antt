-- `four_at`: the first four words of a part are those of the whole from where it begins. Assumes nothing.
use Rattle.std.proofs.Common.{◌≡◌, ◌-◌, ◌+◌, ◌≤◌, ℕ, List, [], Bor, Option, Some, None, unwrap_or, refl, sym, ◌∙◌, length, leb-true, arith}
use Rattle.std.specs.Slice.{IsGetRangeResult}
use Rattle.words.specs.Words.{word_at, four_at}
use Rattle.words.specs.Laws.{four_part, four_beyond}
use Rattle.words.proofs.four_at.Goals as goal

pub returns : goal.returns
returns c = let a = c.args in
    let room : a.at + 16 ≤ length a.s.now = leb-true _ _ (sym c.has.ensures ∙ c.if-not-has.false) in
    c.first_four-2.ensures ∙ four_part a.s.now a.at (a.at + 16 - a.at) (omega arith) (λ k. omega arith)

-- what is there from a place on, or nothing
rest : (s : List ℕ) (at : ℕ) (none : Bor (List ℕ)) → none.now ≡ [] → (o : Option (Bor (List ℕ))) → IsGetRangeResult s at (length s) o
    → four_at (unwrap_or o none).now 0 ≡ four_at s at
unfolding word_at
rest s at none e (Some x) k = rw k.0.2 (four_part s at (length s - at) (omega arith) (λ h. omega arith))
rest s at none e None k = rw e (sym (four_beyond s at (omega (arith, k))))

pub returns-then-not-has : goal.returns-then-not-has
returns-then-not-has c = let a = c.args in
    c.first_four.ensures ∙ rw c.unwrap_or.ensures (rest a.s.now a.at _ refl c.get.result c.get.ensures.lookup)
