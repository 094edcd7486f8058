-- How many of some positions have no mark, and that a mark that is set is one less. Assumes nothing.
use Rattle.std.specs.Prelude.{◌≡◌, ℕ, suc, ◌<◌, length}
use Rattle.std.proofs.Math.Path.{sym}
use Rattle.std.proofs.Common.{◌∙◌, arith}
use Rattle.std.proofs.Math.Bool.{true, false}
use mathlib.Core.List.Memᴰ.{cases_cons as in_cons}
use mathlib.Core.List.Memᴰ.{cast as in_cast}
use mathlib.Core.List.Memᴰ.{map as in_map}
use mathlib.Core.List.Memᴰ.{not-nil as not_in_nil}
use mathlib.Core.List.{List, [], ◌∷◌, Memᴰ as In}
use Rattle.std.proofs.Math.Logic.{⊎_elim}
use Rattle.laws.specs.Cases.{split}
use Rattle.laws.specs.Gather.{gather, keep}
use Rattle.laws.specs.Lists.{NoRepeats, more}
use Rattle.laws.specs.Members.{keep-same}
use Rattle.laws.specs.Marks.{free_at, mark_at, taken_self, free_other}
use Rattle.laws.specs.Runs.{free}
use Rattle.laws.specs.Listing.{indexes}

module _ {P : Type 0} (v : ℕ) (ix : P → ℕ) (m : List ℕ) where
  pub keep-marked : (xs : List P) → NoRepeats (indexes ix xs) → (i : ℕ) → In i (indexes ix xs) → i < length m → free_at v m i ≡ true
      → length (keep (free v ix m) xs) ≡ suc (length (keep (free v ix (mark_at v m i)) xs))
  unfolding gather
  keep-marked [] u i q l e = absurd (not_in_nil q)
  keep-marked (x ∷ xs) (more n u) i q l e =
      ⊎_elim
      (λ (k : i ≡ ix x).
      let rest = keep-same (free v ix m) (free v ix (mark_at v m i)) xs (λ p j. sym (free_other v m i (ix p) (λ z. n (in_cast (sym k) (in_cast (sym z) (in_map ix j)))))) in
      let was : free_at v m (ix x) ≡ true = rw k at e in
      let is : free_at v (mark_at v m i) (ix x) ≡ false = rw (sym k) (taken_self v m i l) in
      rw (was, is, rest))
      (λ j.
      let other = free_other v m i (ix x) (λ z. n (in_cast z j)) in
      let less = keep-marked xs u i j l e in
      split (free v ix m x) (λ t. rw (other ∙ t, t) (omega arith)) (λ t. rw (other ∙ t, t) less))
      (in_cons q)
