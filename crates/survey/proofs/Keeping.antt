-- The words of a component's resolutions, written one after the other: none, and those of one resolution more. Assumes nothing.
use mathlib.Core.Path.{◌≡◌, ◌∙◌}
use mathlib.Core.List.{List}
use Prim.Native.Nat.{ℕ, ◌+◌, ◌-◌, ◌*◌}
use native.Mathlib.Omega.{arith}
use lib.ListN.{length}
use Rattle.laws.specs.Gather.{gather}
use Rattle.laws.specs.Spans.{span_end}
use Rattle.laws.specs.Indexing.{gather_last, gather-length, sum_constant}
use Rattle.survey.specs.declared.axes.Axes.{Axes}
use Rattle.survey.specs.Put.{put_numbers, put_more}
use Rattle.survey.specs.Kept.{words_of, resolution_words}
use Rattle.survey.specs.Passing.{entry_from}

module _ (e : List ℕ) (q : ℕ → ℕ) (a : Axes) (n : ℕ) where
  words_length : (k : ℕ) → length (resolution_words e q a n k) ≡ 4 * k
  unfolding resolution_words
  words_length k = gather-length (λ r. words_of (entry_from e (q r) a (n - 1 - r))) k ∙ sum_constant 4 k

  pub words_none : (l : List ℕ) (to : ℕ) → put_numbers l to (resolution_words e q a n 0) ≡ l
  unfolding resolution_words put_numbers gather
  words_none l to = rw (span_end 0 0 (omega arith))

  pub words_more : (l : List ℕ) (to r : ℕ)
      → put_numbers (put_numbers l to (resolution_words e q a n r)) (to + 4 * r) (words_of (entry_from e (q r) a (n - 1 - r))) ≡ put_numbers l to (resolution_words e q a n (r + 1))
  unfolding resolution_words
  words_more l to r =
      let f : to + 4 * r ≡ to + length (resolution_words e q a n r) = omega (arith, words_length r) in
      rw (f, gather_last (λ r. words_of (entry_from e (q r) a (n - 1 - r))) r)
      (put_more (resolution_words e q a n r) (words_of (entry_from e (q r) a (n - 1 - r))) l to)
