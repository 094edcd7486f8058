-- The total of a single progression: the precincts in its range are counted, and each is admitted in all of its layers. Assumes nothing.
use mathlib.Core.Path.{◌≡◌, refl, sym, ap, ◌∙◌}
use mathlib.Core.Bool.{Bool, true, false, cond}
use mathlib.Core.List.{List}
use mathlib.Core.Logic.{⊎_elim}
use Prim.Native.Nat.{ℕ, zero, suc, ◌+◌, ◌-◌, ◌*◌, ◌≤◌, ◌<◌, min, max}
use native.Mathlib.Nat.{add-mul}
use native.Mathlib.Numerals.{add-one}
use native.Mathlib.Omega.{arith}
use lib.Dec.{leb}
use borrow.Author.Tests.{lt-ltb, le-ltb, le-leb, lt-leb}
use Rattle.laws.specs.Cases.{le_or_lt, and_false}
use Rattle.laws.specs.Below.{sum_below, sum_none, sum_more, sum_most, max_below, max_none, max_more}
use Rattle.types.specs.Orders.{range_of}
use Rattle.types.specs.declared.order.Range.{Range}
use Rattle.types.specs.declared.state.Progression.{Progression}
use Rattle.types.specs.declared.state.State.{State}
use Rattle.packets.specs.Tile.{Sheet, res_of, precincts, entries_before}
use Rattle.packets.specs.Grid.{change_of}
use Rattle.packets.specs.Table.{sheet_at}
use Rattle.packets.specs.Totals.{layers_by, layers_admitted, total}
use Rattle.packets.specs.Meaning.{Fit}
use Rattle.packets.proofs.Entered.{few_before, few-precincts}
use Rattle.soundness.specs.Totals.{layers_for, between, precincts_at, precincts_from, FewFrom}
use Rattle.soundness.proofs.Counting.{layers_by_lem, same-sum, admitted_of, admitted_below, admitted-all, precincts_are}

-- SUMS. Of numbers that are each taken so many times
sum_times : (f : ℕ → ℕ) (l n : ℕ) → sum_below (λ i. f i * l) n ≡ sum_below f n * l
unfolding sum_below
sum_times f l zero = omega arith
sum_times f l (suc n) = rw (sum_times f l n) (sym (add-mul (sum_below f n) (f n) l))

-- of those from a up to b only
between_more : (f : ℕ → ℕ) (a b n : ℕ)
    → sum_below (λ i. f (a + i)) (min b n - a) + cond (between a b n) (f n) 0 ≡ sum_below (λ i. f (a + i)) (min b (n + 1) - a)
between_more f a b n =
    ⊎_elim
    (λ (p : a ≤ n).
    ⊎_elim
    (λ (q : b ≤ n). let e : min b (n + 1) - a ≡ min b n - a = omega arith in rw (le-ltb n b q, and_false (leb a n), e) (omega arith))
    (λ (q : n < b).
    let e : min b (n + 1) - a ≡ n - a + 1 = omega arith in
    let d : min b n - a ≡ n - a = omega arith in
    let at : a + (n - a) ≡ n = omega arith in
    rw (le-leb a n p, lt-ltb n b q, e, d, sum_more (λ i. f (a + i)) (n - a), at))
    (le_or_lt b n))
    (λ (p : n < a). let e : min b (n + 1) - a ≡ min b n - a = omega arith in rw (lt-leb a n p, e) (omega arith))
    (le_or_lt a n)

sum-between : (f : ℕ → ℕ) (a b n : ℕ) → sum_below (λ i. cond (between a b i) (f i) 0) n ≡ sum_below (λ i. f (a + i)) (min b n - a)
unfolding sum_below
sum-between f a b zero = let e : min b 0 - a ≡ 0 = omega arith in rw e
sum-between f a b (suc n) = rw (sum-between f a b n) (rw (add-one n) at (between_more f a b n))

-- THE PRECINCTS OF ENTRIES, from number a on
module _ (table : List ℕ) (a : ℕ) where
  pub from_none : precincts_from table a a ≡ 0
  unfolding precincts_from
  from_none = let e : a - a ≡ 0 = omega arith in rw e (sum_none _)

  pub from_more : (i : ℕ) → a ≤ i → precincts_from table a (i + 1) ≡ precincts_from table a i + precincts_at table i
  unfolding precincts_from
  from_more i h =
      let e : i + 1 - a ≡ i - a + 1 = omega arith in
      let at : a + (i - a) ≡ i = omega arith in
      rw (e, sum_more (λ k. precincts_at table (a + k)) (i - a), at)

  -- up to b, or where a is beyond that
  pub from_all : {b i : ℕ} → i ≤ max a b → b ≤ i → precincts_from table a i ≡ precincts_from table a b
  unfolding precincts_from
  from_all {b} {i} h l = let e : i - a ≡ b - a = omega arith in rw e

  -- they are few
  pub from_few : {b : ℕ} → FewFrom table a b → (i : ℕ) → i ≤ b → precincts_from table a i ≤ 65536 * (i - a)
  unfolding precincts_from
  from_few {b} f i h = sum_most (λ k. precincts_at table (a + k)) 65536 (i - a) (λ k l. f.precincts (a + k) (omega arith) (omega arith))

-- THE PRECINCTS IN A RANGE. A number that counts only where a range goes over resolution r of component c
abbrev inside : Range → ℕ → ℕ → ℕ → ℕ
inside g c r n = cond (between g.compno0 g.compno1 c) (cond (between g.resno0 g.resno1 r) n 0) 0

inside_times : (s t : Bool) (n l : ℕ) → cond s (cond t n 0) 0 * l ≡ n * cond s (cond t l 0) 0
inside_times true true n l = refl
inside_times true false n l = omega arith
inside_times false t n l = omega arith

-- of component c, and of the components below c
within_of : Sheet → Range → ℕ → ℕ
within_of s g c = sum_below (λ r. inside g c r (precincts s c r)) (res_of s.st c)

pub within_below : Sheet → Range → ℕ → ℕ
within_below s g c = sum_below (within_of s g) c

module _ (s : Sheet) (g : Range) where
  pub within_none : within_below s g 0 ≡ 0
  unfolding within_below
  within_none = sum_none _

  within_more : (c : ℕ) → within_below s g (c + 1) ≡ within_below s g c + within_of s g c
  unfolding within_below
  within_more c = sum_more _ c

  -- none of a component that it does not go over
  pub within-passed : (c : ℕ) → between g.compno0 g.compno1 c ≡ false → within_below s g c ≡ within_below s g (c + 1)
  unfolding within_of
  within-passed c e =
      let none : within_of s g c ≤ 0 * res_of s.st c = sum_most (λ r. inside g c r (precincts s c r)) 0 (res_of s.st c) (λ r l. rw e (omega arith)) in
      omega (arith, within_more c, none)

-- they are counted by the component's entries, of which the first is number e
module _ (st : State) (table : List ℕ) (fit : Fit st table) (c : ℕ) (h : c < st.components) {e : ℕ} (first : e ≡ entries_before st c) where
  abbrev s : Sheet
  s = sheet_at st table

  pub entries-few : e + res_of st c ≤ 528
  entries-few = omega (arith, first, few_before st table fit.marks fit.sound c h, fit.sound.tile.components.1, (fit.sound.component c h).resolutions.1)

  counted : (r : ℕ) → r < res_of st c → precincts_at table (e + r) ≡ precincts s c r
  counted r l = rw first (precincts_are st table fit c h r l)

  from_is : (a b : ℕ) → precincts_from table (e + a) (e + min b (res_of st c)) ≡ sum_below (λ r. cond (between a b r) (precincts s c r) 0) (res_of st c)
  unfolding precincts_from
  from_is a b =
      let d : e + min b (res_of st c) - (e + a) ≡ min b (res_of st c) - a = omega arith in
      rw (d, sum-between (precincts s c) a b (res_of st c))
      (same-sum _ _ (min b (res_of st c) - a) (λ i l. let at : e + a + i ≡ e + (a + i) = omega arith in rw (at, counted (a + i) (omega arith))))

  -- up to resolution b there are few
  module _ (a : ℕ) {b : ℕ} (end : b ≤ res_of st c) where
    pub from_small : FewFrom table (e + a) (e + b)
    from_small =
        record {
          entries = omega (arith, entries-few);
          precincts = λ i l k.
              let at : e + (i - e) ≡ i = omega arith in
              rw (← at, counted (i - e) (omega arith)) (few-precincts st table fit.marks fit.sound c (i - e) h);
        }

    pub from_most : {n : ℕ} → n ≡ precincts_from table (e + a) (e + b) → n ≤ 65536 * res_of st c
    from_most is = omega (arith, is, from_few table (e + a) from_small (e + b) (omega arith))

  -- with those of a component that the range goes over
  pub within_added : (g : Range) → between g.compno0 g.compno1 c ≡ true → {b x n : ℕ} → b ≡ min g.resno1 (res_of st c) → x ≡ within_below s g c
      → n ≡ precincts_from table (e + g.resno0) (e + b) → x + n ≡ within_below s g (c + 1)
  unfolding within_of
  within_added g over end p is = rw (p, is, end, from_is g.resno0 g.resno1, within_more s g c, over)

-- THE TOTAL of a single progression
module _ (st : State) (table : List ℕ) (one : st.progressions ≡ 1) where
  abbrev sheet : Sheet
  sheet = sheet_at st table

  abbrev q : Progression
  q = change_of st 0

  abbrev range : Range
  range = range_of st q

  layers-one : (c r : ℕ) → layers_admitted sheet c r ≡ inside range c r (layers_for st q range)
  unfolding layers_admitted
  layers-one c r =
      let f : ℕ → ℕ = λ k. layers_by sheet c r (change_of st k) in
      ap (max_below f) one ∙ max_more f 0 ∙ omega (arith, max_none f, layers_by_lem sheet c r q)

  admitted-one : (c : ℕ) → within_of sheet range c * layers_for st q range ≡ admitted_of sheet c
  unfolding within_of admitted_of
  admitted-one c =
      sym (sum_times _ (layers_for st q range) (res_of st c))
      ∙ same-sum _ _ (res_of st c)
      (λ r l.
      rw (layers-one c r)
      (inside_times (between range.compno0 range.compno1 c) (between range.resno0 range.resno1 r) (precincts sheet c r) (layers_for st q range)))

  total_is : within_below sheet range st.components * layers_for st q range ≡ total sheet
  unfolding within_below admitted_below
  total_is = sym (sum_times (within_of sheet range) (layers_for st q range) st.components) ∙ same-sum _ _ st.components (λ c l. admitted-one c) ∙ admitted-all sheet

  -- with the progression's range, of all components
  pub total-one : {g : Range} {c x l : ℕ} → g ≡ range → c ≡ st.components → x ≡ within_below sheet g c → l ≡ layers_for st q g → x * l ≡ total sheet
  total-one is end p d = rw (p, d, is, end) total_is
