-- What the survey finds once every component is passed: each number is the sheet's. Assumes nothing.
use Rattle.std.specs.Prelude.{Some, is_some, get_or}
use Rattle.std.proofs.Math.Bool.{and-true}
use mathlib.Core.Path.{◌≡◌, refl, sym, ap, ◌∙◌}
use mathlib.Core.Bool.{Bool, true, false, cond, ◌&&◌, ◌||◌}
use mathlib.Core.List.{List}
use Prim.Native.Nat.{ℕ, ◌+◌, ◌-◌, ◌≤◌, ◌<◌, min}
use native.Mathlib.Omega.{arith}
use lib.Dec.{leb}
use borrow.Author.Tests.{le-leb}
use Rattle.laws.specs.Cases.{cond-told}
use Rattle.laws.specs.Below.{all_below, all-at}
use Rattle.laws.specs.Extremes.{all-and}
use Rattle.laws.specs.Pointwise.{all-same}
use Rattle.packets.specs.Tile.{dx_of, dy_of, res_of, level_of, max_prec, max_res, dx_min, dy_min, reported, needed}
use Rattle.packets.specs.Grid.{step_x, step_y, steps_fit, steps_divide, grid_agreed}
use Rattle.packets.specs.Meaning.{StepsFit, fit-means}
use Rattle.types.specs.declared.state.State.{State}
use Rattle.survey.specs.Capped.{capped, few_of, same-few}
use Rattle.survey.specs.Passing.{no_sums, rank, most_wanted, multiples, fit_between, ranges_fit, granted, agreed_of, needed_of, few_marks, findings_of}
use Rattle.survey.specs.declared.grid.Want.{Want}
use Rattle.survey.specs.declared.grid.Want.TheVariants.{Nothing, OwnFit, AllFit, Multiples}
use Rattle.survey.specs.declared.sums.Sums.{Sums}
use Rattle.survey.specs.declared.places.Places.{Places}
use Rattle.survey.specs.Ranges.{Ranged, in_range_lem}
use Rattle.survey.proofs.Bases.{place_in}
use Rattle.survey.proofs.Over.{ranged_at, good_over, found_over, fits_in, sums_to}
use Rattle.survey.proofs.Steps.{least-above, divide_is, clip_is}
use Rattle.survey.proofs.Agreed.{divide_axes, grid_all, grid_own}
use Rattle.survey.proofs.Products.{needed_cut}
use Rattle.survey.proofs.Seen.{sheet_by, Seen}

module _ {e : List ℕ} {p : Places} {check : Bool} {st : State} {here : Places} {all : Sums} {deep : ℕ} {parts : List Sums}
    (s : Seen e p check st here all deep parts st.components) where
  ranged : (c : ℕ) → c < st.components → Ranged (dx_of st c) (dy_of st c) (res_of st c)
  ranged c h = in_range_lem (dx_of st c) (dy_of st c) (res_of st c) (all-at (ranged_at st) st.components s.ranged c h)

  -- exponent and level together, on each axis
  by_x : ℕ → ℕ → ℕ
  by_x c r = (sheet_by e p st).pdx c r + level_of st c r

  by_y : ℕ → ℕ → ℕ
  by_y c r = (sheet_by e p st).pdy c r + level_of st c r

  -- the smallest steps are above 0
  pub above_x : 0 < all.x_least
  unfolding sums_to by_x
  above_x = rw s.sums (least-above st (dx_of st) by_x (λ c h. (ranged c h).dx_low))

  pub above_y : 0 < all.y_least
  unfolding sums_to by_y
  above_y = rw s.sums (least-above st (dy_of st) by_y (λ c h. (ranged c h).dy_low))

  -- the steps from component c0 up to c1 fit where the sums say so of each, and those of all where the sums of all do
  between_is : (c0 c1 : ℕ) → c1 ≤ st.components → steps_fit (sheet_by e p st) c0 c1 ≡ fit_between parts c0 c1
  unfolding steps_fit fit_between
  between_is c0 c1 h = all-same _ _ (c1 - c0) (λ i l. sym (ap (λ (a : Sums). a.fit) (s.each (c0 + i) (omega arith))))

  all-fit : steps_fit (sheet_by e p st) 0 st.components ≡ all.fit
  unfolding steps_fit sums_to
  all-fit =
      ap (all_below (λ i. fits_in (sheet_by e p st) (0 + i))) (omega arith)
      ∙ all-same _ _ st.components (λ c l. ap (fits_in (sheet_by e p st)) (omega arith)) ∙ sym (ap (λ (a : Sums). a.fit) s.sums)

  divides : steps_fit (sheet_by e p st) 0 st.components ≡ true → steps_divide (sheet_by e p st) ≡ multiples parts st.components all
  unfolding sums_to by_x by_y multiples
  divides fit =
      let small : StepsFit (sheet_by e p st) 0 st.components = (fit-means (sheet_by e p st) 0 st.components).0 fit in
      let part : ℕ → Sums = λ c. get_or parts c no_sums in
      let x = divide_is st (dx_of st) by_x (λ c h. (ranged c h).dx_low) (λ c h. (ranged c h).n_low) (λ c r h l. (small c (omega arith) h r l).0)
      (λ c. (part c).x_least) (λ c h. ap (λ (a : Sums). a.x_least) (s.each c h)) in
      let y = divide_is st (dy_of st) by_y (λ c h. (ranged c h).dy_low) (λ c h. (ranged c h).n_low) (λ c r h l. (small c (omega arith) h r l).1)
      (λ c. (part c).y_least) (λ c h. ap (λ (a : Sums). a.y_least) (s.each c h)) in
      rw s.sums (divide_axes (sheet_by e p st) ∙ (λ i. x i && y i) ∙ sym (all-and _ _ st.components))

  -- whether they divide is asked only where all fit
  whole_is : (steps_fit (sheet_by e p st) 0 st.components && steps_divide (sheet_by e p st)) ≡ (all.fit && multiples parts st.components all)
  whole_is = by (steps_fit (sheet_by e p st) 0 st.components) divides ∙ ap (λ (f : Bool). f && multiples parts st.components all) all-fit
    where
      by : {a b : Bool} (t : Bool) → (t ≡ true → a ≡ b) → (t && a) ≡ (t && b)
      by true h = h refl
      by false h = refl

  grid_is : agreed_of st all parts ≡ grid_agreed (sheet_by e p st)
  unfolding agreed_of
  grid_is = by (most_wanted st) refl
    where
      own : rank (most_wanted st) < 2 → (all.fit || ranges_fit st parts) ≡ grid_agreed (sheet_by e p st)
      own t = sym (grid_own (sheet_by e p st) parts between_is t ∙ ap (λ (f : Bool). f || ranges_fit st parts) all-fit)

      by : (w : Want) → most_wanted st ≡ w → granted w st all parts ≡ grid_agreed (sheet_by e p st)
      by Nothing w = own (rw w (omega arith))
      by OwnFit w = own (rw w (omega arith))
      by AllFit w = sym (grid_all (sheet_by e p st) (rw w (omega arith)) ∙ rw (w, all-fit) (and-true all.fit))
      by Multiples w = sym (grid_all (sheet_by e p st) (rw w (omega arith)) ∙ rw w whole_is)

  good_is : st.components ≤ 16 → good_over e (place_in p st) check st ≡ true
  unfolding good_over
  good_is h = rw (le-leb _ _ h, s.ranged, s.fine)

  prec_is : all.most ≡ capped (max_prec (sheet_by e p st))
  unfolding max_prec sums_to
  prec_is = ap (λ (a : Sums). a.most) s.sums

  res_is : deep ≡ max_res st
  unfolding max_res
  res_is = s.deepest

  dx_is : min 2147483647 all.x_least ≡ dx_min (sheet_by e p st)
  unfolding dx_min sums_to
  dx_is = rw s.sums (sym (clip_is st (step_x (sheet_by e p st))))

  dy_is : min 2147483647 all.y_least ≡ dy_min (sheet_by e p st)
  unfolding dy_min sums_to
  dy_is = rw s.sums (sym (clip_is st (step_y (sheet_by e p st))))

  pub found_is : st.components ≤ 16
      → Some (findings_of (agreed_of st all parts) st.layers st.components deep all) ≡ found_over e (place_in p st) check st
  unfolding findings_of found_over few_marks needed reported
  found_is h =
      let prec : ℕ = max_prec (sheet_by e p st) in
      let marks : ℕ → ℕ = needed_of st.layers (max_res st) st.components in
      let cut = needed_cut st.layers (max_res st) st.components prec in
      let few : few_of (marks all.most) ≡ few_of (marks prec) = ap (λ n. few_of (marks n)) prec_is ∙ same-few (marks (capped prec)) (marks prec) cut in
      let told : is_some (few_of (marks all.most)) ≡ leb (marks prec) 65536 = ap is_some few ∙ cond-told is_some _ _ _ refl refl in
      rw (good_is h, res_is)
      (λ i.
      Some
      (record {
        grid = grid_is i;
        needed = few i;
        reports = record { max_prec = cond (told i) (prec_is i) 0; max_res = max_res st; dx_min = dx_is i; dy_min = dy_is i };
      }))
