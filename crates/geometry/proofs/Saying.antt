-- What an Option of the library says in document 01's terms: the answer of a test, and that of an operation which may not have one. Assumes nothing.
use Rattle.std.proofs.Common.{◌≡◌, ℕ, ◌<◌, Bool, true, false, cond, refl, [], ◌∷◌, Option, Some, None, SomeIff, nat_lt, lt-ltb, le-ltb, arith}
use Rattle.std.specs.Bool.{then_some}
use Rattle.geometry.specs.Said.{value, refusal, of_word}

pub said_then : (t : Bool) (n : ℕ) → of_word (then_some t n) ≡ cond t (value (n ∷ [])) (refusal 22)
said_then true n = refl
said_then false n = refl

pub said_below : (o : Option ℕ) (m k n : ℕ) → SomeIff o (m < k) n → of_word o ≡ cond (nat_lt m k) (value (n ∷ [])) (refusal 22)
said_below (Some x) m k n s = rw (lt-ltb m k s.0, s.1)
said_below None m k n s = rw (le-ltb m k (omega (arith, s)))
