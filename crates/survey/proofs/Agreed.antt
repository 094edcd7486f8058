-- The grid is agreed for every progression: where one wants something of all components, they have the most that is wanted or not, and nothing else matters; else
-- each wants something of its own, which have it where all have it. Assumes nothing.
use mathlib.Core.Path.{◌≡◌, refl, sym, ap, ◌∙◌}
use mathlib.Core.Bool.{Bool, true, false, cond, ◌&&◌, ◌||◌, true≢false}
use mathlib.Core.Logic.{⊎_elim}
use mathlib.Core.List.{List}
use Prim.Native.Nat.{ℕ, zero, suc, ◌-◌, ◌%◌, ◌≤◌, ◌<◌, max}
use native.Mathlib.Omega.{arith}
use lib.Dec.{ltb, eqb}
use borrow.Author.Tests.{leb-true, lt-ltb, le-ltb, le-leb, lt-leb}
use Rattle.laws.specs.Cases.{le_or_lt, and_true, and_both, split, asked-same}
use Rattle.laws.specs.Below.{all-at, max_below, max-at, max-least}
use Rattle.laws.specs.Pointwise.{all_true, all-same}
use Rattle.laws.specs.Extremes.{same_tests, all-and}
use Rattle.packets.specs.Tile.{Sheet, res_of}
use Rattle.types.specs.Orders.{order_of, range_of, components_good}
use Rattle.types.specs.declared.order.Order.{Order}
use Rattle.types.specs.declared.order.Order.TheVariants.{Lrcp as lrcp, Rlcp as rlcp, Rpcl as rpcl, Pcrl as pcrl, Cprl as cprl, NoPositions as other}
use Rattle.types.specs.declared.order.Range.{Range}
use Rattle.packets.specs.Grid.{everywhere, step_x, step_y, smallest, steps_fit, steps_divide, agreed, change_of, grid_agreed}
use Rattle.types.specs.declared.state.Progression.{Progression}
use Rattle.packets.specs.Meaning.{fit-means, agreed-means}
use Rattle.survey.specs.Passing.{want_of, want_for, rank, larger, most_of, most_wanted, fit_between, own_fit, ranges_fit}
use Rattle.survey.specs.declared.grid.Want.{Want}
use Rattle.survey.specs.declared.grid.Want.TheVariants.{Nothing, OwnFit, AllFit, Multiples}
use Rattle.survey.specs.declared.sums.Sums.{Sums}

-- the two axes one after the other
pub divide_axes : (s : Sheet)
    → steps_divide s
    ≡ (everywhere s.st (λ c r. eqb (step_x s c r % smallest (step_x s) s.st) 0) && everywhere s.st (λ c r. eqb (step_y s c r % smallest (step_y s) s.st) 0))
unfolding steps_divide
divide_axes s =
    all-same _ _ s.st.components
    (λ c h. all-and (λ r. eqb (step_x s c r % smallest (step_x s) s.st) 0) (λ r. eqb (step_y s c r % smallest (step_y s) s.st) 0) (res_of s.st c))
    ∙ all-and _ _ s.st.components

-- the rank of the most is the largest rank, and tells a want
rank-larger : (a b : Want) → rank (larger a b) ≡ max (rank a) (rank b)
rank-larger a b =
    ⊎_elim
    (λ (h : rank a ≤ rank b). rw (le-leb _ _ h) (omega arith))
    (λ (h : rank b < rank a). rw (lt-leb _ _ h) (omega arith))
    (le_or_lt (rank a) (rank b))

pub rank-most : (f : ℕ → Want) (n : ℕ) → rank (most_of f n) ≡ max_below (λ k. rank (f k)) n
unfolding most_of max_below
rank-most f zero = refl
rank-most f (suc n) = rw (rank-larger (most_of f n) (f n), rank-most f n)

of_rank : ℕ → Want
of_rank zero = Nothing
of_rank (suc zero) = OwnFit
of_rank (suc (suc zero)) = AllFit
of_rank (suc (suc (suc n))) = Multiples

ranked : (w : Want) → of_rank (rank w) ≡ w
unfolding of_rank
ranked Nothing = refl
ranked OwnFit = refl
ranked AllFit = refl
ranked Multiples = refl

pub same_rank : (a b : Want) → rank a ≡ rank b → a ≡ b
same_rank a b e = sym (ranked a) ∙ ap of_rank e ∙ ranked b

-- who goes by all components wants something of all
of-all : (six : Bool) → rank (cond six AllFit Multiples) < 2 → ⊥
of-all true h = omega arith
of-all false h = omega arith

module _ (s : Sheet) where
  abbrev fit : Bool
  fit = steps_fit s 0 s.st.components

  -- the components have what is wanted up to n, of which 2 and 3 are of all
  abbrev have : ℕ → Bool
  have n = fit && (ltb n 3 || steps_divide s)

  -- steps that fit everywhere fit in any range
  range-agrees : fit ≡ true → (kind : ℕ) (g : Range) → agreed s kind g cprl ≡ true
  range-agrees t kind g = (agreed-means s kind g cprl).1 (λ w c a b r l. (fit-means s 0 s.st.components).0 t c (omega arith) (omega (arith, w.1)) r l)

  -- an order that goes by all components, of kind 6 or not, is agreed where they have what it wants
  points_agree : (six : Bool) (n : ℕ) → have n ≡ true → rank (cond six AllFit Multiples) ≤ n → (fit && (six || steps_divide s)) ≡ true
  points_agree true n e h = and_both (and_true fit _ e).0 refl
  points_agree false n e h = rw (le-ltb n 3 h) at e

  -- and else it wants less than n
  points_less : (six : Bool) (n : ℕ) → have n ≡ false → rank (cond six AllFit Multiples) ≤ n → (fit && (six || steps_divide s)) ≡ true
      → rank (cond six AllFit Multiples) < n
  points_less true n e h t =
      ⊎_elim (λ l. absurd (true≢false (sym (and_both (and_true fit _ t).0 (rw (lt-ltb n 3 (omega arith)) refl)) ∙ e))) (λ l. l) (le_or_lt n 2)
  points_less false n e h t = absurd (true≢false (sym (rw (le-ltb n 3 h) t) ∙ e))

  all_agree : (n kind : ℕ) (g : Range) (o : Order) → have n ≡ true → rank (want_of kind o) ≤ n → agreed s kind g o ≡ true
  all_agree n kind g lrcp e h = refl
  all_agree n kind g rlcp e h = refl
  all_agree n kind g rpcl e h = points_agree (eqb kind 6) n e h
  all_agree n kind g pcrl e h = points_agree (eqb kind 6) n e h
  all_agree n kind g cprl e h = range-agrees (and_true fit _ e).0 kind g
  all_agree n kind g other e h = refl

  agreed_less : (n kind : ℕ) (g : Range) (o : Order) → 2 ≤ n → have n ≡ false → rank (want_of kind o) ≤ n → agreed s kind g o ≡ true → rank (want_of kind o) < n
  agreed_less n kind g lrcp some e h t = omega arith
  agreed_less n kind g rlcp some e h t = omega arith
  agreed_less n kind g rpcl some e h t = points_less (eqb kind 6) n e h t
  agreed_less n kind g pcrl some e h t = points_less (eqb kind 6) n e h t
  agreed_less n kind g cprl some e h t = omega arith
  agreed_less n kind g other some e h t = omega arith

  -- no progression wants more than the most
  abbrev wanted : ℕ → ℕ
  wanted k = rank (want_for (change_of s.st k))

  abbrev most : ℕ
  most = rank (most_wanted s.st)

  most_is : most ≡ max_below wanted s.st.progressions
  unfolding most_wanted
  most_is = rank-most (λ k. want_for (change_of s.st k)) s.st.progressions

  wants : (k : ℕ) → k < s.st.progressions → wanted k ≤ most
  wants k h = rw most_is (max-at wanted s.st.progressions k h)

  -- ONE WANTS SOMETHING OF ALL
  pub grid_all : 2 ≤ most → grid_agreed s ≡ have most
  unfolding grid_agreed
  grid_all some =
      same_tests _ _
      (λ t. split (have most) (λ e. e) (λ e. absurd (never e t)))
      (λ e. all_true _ s.st.progressions (λ k h. let q : Progression = change_of s.st k in all_agree most q.kind (range_of s.st q) (order_of q.prg) e (wants k h)))
    where
      never : have most ≡ false → grid_agreed s ≡ true → ⊥
      never e t =
          let less : max_below wanted s.st.progressions ≤ most - 1
          = max-least wanted s.st.progressions (most - 1)
          (λ k h.
          let q : Progression = change_of s.st k in
          let l : wanted k < most = agreed_less most q.kind (range_of s.st q) (order_of q.prg) some e (wants k h) (all-at _ s.st.progressions t k h) in
          omega arith) in
          omega (arith, most_is)

  -- EACH OF ITS OWN. Of these the sums say whether their steps fit
  module _ (l : List Sums) (says : (c0 c1 : ℕ) → c1 ≤ s.st.components → steps_fit s c0 c1 ≡ fit_between l c0 c1) where
    own-agrees : (kind : ℕ) (g : Range) (o : Order) → rank (want_of kind o) < 2 → agreed s kind g o ≡ own_fit s.st l g (want_of kind o)
    own-agrees kind g lrcp h = refl
    own-agrees kind g rlcp h = refl
    own-agrees kind g rpcl h = absurd (of-all (eqb kind 6) h)
    own-agrees kind g pcrl h = absurd (of-all (eqb kind 6) h)
    own-agrees kind g cprl h =
        asked-same (components_good s.st g) (steps_fit s g.compno0 g.compno1) (fit_between l g.compno0 g.compno1)
        (λ e. says g.compno0 g.compno1 (leb-true _ _ (and_true (ltb g.compno0 s.st.components) _ e).1))
    own-agrees kind g other h = refl

    pub grid_own : most < 2 → grid_agreed s ≡ (fit || ranges_fit s.st l)
    unfolding grid_agreed ranges_fit
    grid_own few = by fit refl
      where
        by : (b : Bool) → fit ≡ b → grid_agreed s ≡ (b || ranges_fit s.st l)
        by true f =
            all_true _ s.st.progressions
            (λ k h. let q : Progression = change_of s.st k in all_agree 1 q.kind (range_of s.st q) (order_of q.prg) (and_both f refl) (omega (arith, wants k h)))
        by false f =
            all-same _ _ s.st.progressions
            (λ k h. let q : Progression = change_of s.st k in own-agrees q.kind (range_of s.st q) (order_of q.prg) (omega (arith, wants k h)))
