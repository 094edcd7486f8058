-- What is held after r resolutions of a component, its next turn (one resolution more, or nothing), and the sums that the
-- exponents of all tell. Assumes nothing.
use Rattle.std.specs.Prelude.{cond, Some, None}
use Rattle.std.proofs.lemmas.Option.{cond_some}
use mathlib.Core.Path.{◌≡◌, refl, sym, ap}
use mathlib.Core.Bool.{Bool, true, false}
use mathlib.Core.List.{List}
use Prim.Native.Nat.{ℕ, ◌+◌, ◌-◌, ◌*◌, ◌^◌, ◌≤◌, ◌<◌, min}
use native.Mathlib.Nat.{mul-add, mul-one, mul-zero, mul-le-mul_left}
use native.Mathlib.Omega.{arith}
use lib.Dec.{leb}
use borrow.Author.Tests.{leb-true}
use Rattle.laws.specs.Cases.{and_true}
use Rattle.types.specs.Ranges.{exponent_range}
use Rattle.laws.specs.Below.{all_below, all_none, all_more, all_fails, max_below, max_none, max_more, min_below, min_none, min_more}
use Rattle.laws.specs.Extremes.{all-and, min_grown, all_grown, shifted_grows}
use Rattle.words.specs.Words.{word_at}
use Rattle.types.specs.declared.table.Entry.{Entry}
use Rattle.survey.specs.Capped.{capped-max}
use Rattle.survey.specs.Passing.{start_gathered, with_entry, sums_of, entry_from, entry_fine, entry_found, exponent_at, gathered_to, passed, resolution_sums, exponents_at}
use Rattle.survey.specs.declared.places.Places.{Places}
use Rattle.survey.specs.declared.axes.Axes.{Axes}
use Rattle.survey.specs.declared.gathered.Gathered.{Gathered}
use Rattle.survey.specs.Kept.{words_of, resolution_words}
use Rattle.survey.specs.Put.{put_numbers}
use Rattle.survey.proofs.Keeping.{words_more}

-- a choice that gives nothing has failed its test
pub cond_none : {A : Type 0} (t : Bool) (x : A) → None ≡ cond t (Some x) None → t ≡ false
cond_none true x e = cc
cond_none false x e = refl

-- what is found of a resolution tells whether it is good
module _ (e : List ℕ) (p : ℕ) (check : Bool) (a : Axes) (level : ℕ) where
  fine_told : {x : Entry} → Some x ≡ entry_found e p check a level → (entry_fine e p check a level ≡ true) × (entry_from e p a level ≡ x)
  unfolding entry_found
  fine_told h = cond_some (entry_fine e p check a level) _ _ (sym h)

  bad_told : None ≡ entry_found e p check a level → entry_fine e p check a level ≡ false
  unfolding entry_found
  bad_told h = cond_none (entry_fine e p check a level) _ h

-- and has exponents in range
pub ranged_entry : (e : List ℕ) (p : ℕ) (check : Bool) (a : Axes) (level : ℕ) (x : Entry) → Some x ≡ entry_found e p check a level → (x.pdx < 16) × (x.pdy < 16)
unfolding entry_fine
ranged_entry e p check a level x h =
    let f = fine_told e p check a level h in
    let r = and_true (exponent_range (word_at e p) (word_at e (p + 4))) _ f.0 in
    let b = and_true (leb (word_at e p) 15) (leb (word_at e (p + 4)) 15) r.0 in
    rw (← f.1) (omega (arith, leb-true (word_at e p) 15 b.0), omega (arith, leb-true (word_at e (p + 4)) 15 b.1))

-- the place of the next resolution
place_next : (p : Places) (r : ℕ) → exponents_at p r + p.apart ≡ exponents_at p (r + 1)
place_next p r = omega (arith, mul-add p.apart r 1, mul-one p.apart)

pub place_within : (p : Places) (r n : ℕ) → r < n → exponents_at p r + p.apart ≤ exponents_at p n
place_within p r n h = omega (arith, place_next p r, mul-le-mul_left {m = r + 1} {n = n} p.apart (omega arith))

-- axes whose steps are numbers of 32 bits above 0
pub record Stepped (a : Axes) : Type 0 where
  pub x_above : 1 ≤ a.x.d
  pub x_fits : a.x.d ≤ 4294967295
  pub y_above : 1 ≤ a.y.d
  pub y_fits : a.y.d ≤ 4294967295

-- the exponents of some steps tell the smallest of these, and whether all of them fit
module _ (d : ℕ) (above : 1 ≤ d) (fits : d ≤ 4294967295) (k : ℕ → ℕ) (n : ℕ) where
  least-told : min_below 4294967295 (λ r. d * 2 ^ k r) n ≡ min 4294967295 (d * 2 ^ min_below 32 k n)
  least-told = min_grown (λ e. d * 2 ^ e) (shifted_grows d) k 4294967295 32 (omega arith) n

  fit-told : all_below (λ r. leb (d * 2 ^ k r) 4294967295) n ≡ leb (d * 2 ^ max_below k n) 4294967295
  fit-told = all_grown (λ e. d * 2 ^ e) (shifted_grows d) k 4294967295 (omega arith) n

-- so what was gathered over all resolutions tells the sums
gathered_sums : (e : List ℕ) (q : ℕ → ℕ) (a : Axes) (n : ℕ) → Stepped a → sums_of a (gathered_to e q a n n) ≡ passed e q a n
unfolding gathered_to passed
gathered_sums e q a n s =
    let x : ℕ → ℕ = λ r. exponent_at e (q r) (n - 1 - r) in
    let y : ℕ → ℕ = λ r. exponent_at e (q r + 4) (n - 1 - r) in
    rw (all-and (λ r. leb (a.x.d * 2 ^ x r) 4294967295) (λ r. leb (a.y.d * 2 ^ y r) 4294967295) n, fit-told a.x.d s.x_above s.x_fits x n, fit-told a.y.d s.y_above s.y_fits y n, least-told a.x.d s.x_above s.x_fits x n, least-told a.y.d s.y_above s.y_fits y n)

-- after r of n resolutions the exponents of the next stand at place `at`, and everything before was good
pub record Taken (e : List ℕ) (p : Places) (check : Bool) (a : Axes) (n at : ℕ) (g : Gathered) (r : ℕ) : Type 0 where
  pub there : at ≡ exponents_at p r
  pub held : g ≡ gathered_to e (exponents_at p) a n r
  pub fine : all_below (λ i. entry_fine e (exponents_at p i) check a (n - 1 - i)) r ≡ true

pub taken_none : (e : List ℕ) (p : Places) (check : Bool) (a : Axes) (n : ℕ) → Taken e p check a n p.first start_gathered 0
unfolding gathered_to
taken_none e p check a n =
    record { there = omega (arith, mul-zero p.apart); held = simp (max_none, min_none); fine = all_none _ }

module _ {e : List ℕ} {p : Places} {check : Bool} {a : Axes} {n at : ℕ} {g : Gathered} {r : ℕ} (k : Taken e p check a n at g r) where
  -- with the next
  pub taken_more : {x : Entry} → Some x ≡ entry_found e at check a (n - 1 - r) → Taken e p check a n (at + p.apart) (with_entry g (n - 1 - r) x) (r + 1)
  unfolding gathered_to
  taken_more h =
      let f = fine_told e at check a (n - 1 - r) h in
      record {
        there = rw k.there (place_next p r);
        held = rw (← f.1, k.there, k.held, capped-max) (simp (max_more, min_more));
        fine = all_more _ r k.fine (rw k.there at f.0);
      }

  pub taken_bad : r < n → None ≡ entry_found e at check a (n - 1 - r) → None ≡ resolution_sums e (exponents_at p) check a n
  unfolding resolution_sums
  taken_bad l h =
      rw (all_fails (λ i. entry_fine e (exponents_at p i) check a (n - 1 - i)) n r l (rw k.there at (bad_told e at check a (n - 1 - r) h)))

  -- and of all, on axes with steps above 0
  pub taken-all : Stepped a → r ≡ n → Some (sums_of a g) ≡ resolution_sums e (exponents_at p) check a n
  unfolding resolution_sums
  taken-all s h = rw (rw h at k.fine, rw h at k.held) (ap Some (gathered_sums e (exponents_at p) a n s))

  -- its words are written after those before
  pub words_taken : {x : Entry} → Some x ≡ entry_found e at check a (n - 1 - r) → (old : List ℕ) {kept : List ℕ} (to : ℕ)
      → kept ≡ put_numbers old to (resolution_words e (exponents_at p) a n r)
      → put_numbers kept (to + 4 * r) (words_of x) ≡ put_numbers old to (resolution_words e (exponents_at p) a n (r + 1))
  words_taken h old {kept} to w = rw (w, ← (fine_told e at check a (n - 1 - r) h).1, k.there) (words_more e (exponents_at p) a n old to r)
