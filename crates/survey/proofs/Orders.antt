-- What the progressions want of the grid: those beyond the array want nothing. Assumes nothing.
use mathlib.Core.Path.{◌≡◌, ap, ◌∙◌, sym}
use mathlib.Core.List.{List}
use Prim.Native.Nat.{ℕ, ◌≤◌, min}
use native.Mathlib.Omega.{arith}
use lib.ListN.{length, get_or-eq_default}
use Rattle.laws.specs.Below.{all_below}
use Rattle.laws.specs.Extremes.{all_up_to, max_up_to}
use Rattle.types.specs.State.{no_progression}
use Rattle.packets.specs.Grid.{change_of}
use Rattle.types.specs.declared.state.State.{State}
use Rattle.survey.specs.Passing.{want_for, rank, most_of, most_wanted, range_fits, ranges_fit}
use Rattle.survey.specs.declared.sums.Sums.{Sums}
use Rattle.survey.proofs.Agreed.{rank-most, same_rank}

module _ (st : State) (long : length st.changes ≡ 32) where
  none : (k : ℕ) → 32 ≤ k → change_of st k ≡ no_progression
  none k h = get_or-eq_default st.changes no_progression {n = k} (omega arith)

  pub wanted_up_to : most_of (λ k. want_for (change_of st k)) (min st.progressions 32) ≡ most_wanted st
  unfolding most_wanted
  wanted_up_to =
      same_rank _ _
      (rank-most (λ k. want_for (change_of st k)) (min st.progressions 32)
      ∙ max_up_to (λ k. rank (want_for (change_of st k))) 32 (λ k l. ap (λ q. rank (want_for q)) (none k l)) st.progressions
      ∙ sym (rank-most (λ k. want_for (change_of st k)) st.progressions))

  pub fit_up_to : (l : List Sums) → all_below (λ k. range_fits st l (change_of st k)) (min st.progressions 32) ≡ ranges_fit st l
  unfolding ranges_fit
  fit_up_to l = all_up_to (λ k. range_fits st l (change_of st k)) 32 (λ k h. ap (range_fits st l) (none k h)) st.progressions
