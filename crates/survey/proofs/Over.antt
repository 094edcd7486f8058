-- The survey over any places: the exponents of resolution r of component c stand at q c r. With the places of a source it is the survey of that source.
-- A component's sums are what the sheet has of it. Assumes nothing.
use mathlib.Core.Path.{◌≡◌, refl, subst, ap}
use mathlib.Core.Bool.{Bool, cond, ◌&&◌, ◌||◌, not}
use Rattle.std.specs.Prelude.{Option, Some, None}
use mathlib.Core.List.{List}
use Prim.Native.Nat.{ℕ, ◌+◌, ◌*◌}
use lib.Dec.{leb, eqb}
use borrow.Author.Tests.{lt-ltb}
use Rattle.laws.specs.Below.{all_below, all_none, all-next, max_below, max_none, max_more, min_below, min_none, min_more}
use Rattle.laws.specs.Pointwise.{max-same}
use Rattle.words.specs.Words.{word_at}
use Rattle.geometry.specs.Line.{count, bound_of}
use Rattle.geometry.specs.Axis.{columns_of}
use Rattle.geometry.specs.declared.tile.Area.{Area}
use Rattle.types.specs.Ranges.{component_range, exponent_range}
use Rattle.packets.specs.Tile.{Sheet, dx_of, dy_of, res_of, width, height, precincts}
use Rattle.packets.specs.Grid.{everywhere, step_x, step_y}
use Rattle.types.specs.declared.state.State.{State}
use Rattle.survey.specs.Capped.{capped, capped-max}
use Rattle.survey.specs.Survey.{place_of, survey_good, surveyed, survey_of}
use Rattle.survey.specs.Passing.{fits_32, start_sums, joined_sums, entry_fine, passed, resolution_sums, component_sums}
use Rattle.survey.specs.declared.Source.{Source}
use Rattle.survey.specs.declared.Findings.{Findings}
use Rattle.survey.specs.declared.sums.Sums.{Sums}

module _ (e : List ℕ) (q : ℕ → ℕ → ℕ) (st : State) where
  abbrev pub sheet_over : Sheet
  sheet_over = record { st = st; pdx = λ c r. word_at e (q c r); pdy = λ c r. word_at e (q c r + 4) }

  abbrev pub entry_over : Bool → ℕ → ℕ → Bool
  entry_over check c r =
      exponent_range (word_at e (q c r)) (word_at e (q c r + 4))
      && (not check || (eqb (word_at e (q c r + 8)) (width sheet_over c r) && eqb (word_at e (q c r + 12)) (height sheet_over c r)))

-- a component's own fields, and its resolutions
abbrev pub ranged_at : State → ℕ → Bool
ranged_at st c = component_range (dx_of st c) (dy_of st c) (res_of st c)

abbrev pub fine_at : List ℕ → (ℕ → ℕ → ℕ) → State → Bool → ℕ → Bool
fine_at e q st check c = all_below (entry_over e q st check c) (res_of st c)

unfoldable pub good_over : List ℕ → (ℕ → ℕ → ℕ) → Bool → State → Bool
good_over e q check st = leb st.components 16 && (all_below (ranged_at st) st.components && everywhere st (entry_over e q st check))

unfoldable pub found_over : List ℕ → (ℕ → ℕ → ℕ) → Bool → State → Option Findings
found_over e q check st = cond (good_over e q check st) (Some (surveyed (sheet_over e q st))) None

pub survey_over : (e : List ℕ) (at : Source) (check : Bool) (st : State) (q : ℕ → ℕ → ℕ) → place_of at st ≡ q → survey_of e at check st ≡ found_over e q check st
unfolding survey_of survey_good found_over good_over
survey_over e at check st q p = subst (λ (q : ℕ → ℕ → ℕ). survey_of e at check st ≡ found_over e q check st) p refl

-- the tile's bounds
abbrev pub tile_of : State → Area
tile_of st = record { x0 = st.tx0; y0 = st.ty0; x1 = st.tx1; y1 = st.ty1 }

-- the steps on both axes fit
abbrev step_fits : Sheet → ℕ → ℕ → Bool
step_fits s c r = fits_32 (step_x s c r) && fits_32 (step_y s c r)

-- those of a component
abbrev pub fits_in : Sheet → ℕ → Bool
fits_in s c = all_below (step_fits s c) (res_of s.st c)

-- the smallest step of a component, but for the largest 32-bit number
abbrev pub least_in : (ℕ → ℕ → ℕ) → State → ℕ → ℕ
least_in f st c = min_below 4294967295 (f c) (res_of st c)

-- the sums of component c, and of the components before c
abbrev pub part_sums : Sheet → ℕ → Sums
part_sums s c =
    record {
      most = capped (max_below (precincts s c) (res_of s.st c));
      fit = fits_in s c;
      x_least = least_in (step_x s) s.st c;
      y_least = least_in (step_y s) s.st c;
    }

unfoldable pub sums_to : Sheet → ℕ → Sums
sums_to s k =
    record {
      most = capped (max_below (λ c. max_below (precincts s c) (res_of s.st c)) k);
      fit = all_below (fits_in s) k;
      x_least = min_below 4294967295 (least_in (step_x s) s.st) k;
      y_least = min_below 4294967295 (least_in (step_y s) s.st) k;
    }

pub sums_none : (s : Sheet) → sums_to s 0 ≡ start_sums
unfolding sums_to
sums_none s = rw (max_none, all_none, min_none, min_none)

pub sums_more : (s : Sheet) (c : ℕ) → joined_sums (sums_to s c) (part_sums s c) ≡ sums_to s (c + 1)
unfolding sums_to
sums_more s c =
    rw (capped-max (max_below (λ c. max_below (precincts s c) (res_of s.st c)) c) (max_below (precincts s c) (res_of s.st c)), max_more (λ c. max_below (precincts s c) (res_of s.st c)) c, all-next (fits_in s) c, min_more 4294967295 (least_in (step_x s) s.st) c, min_more 4294967295 (least_in (step_y s) s.st) c)

-- what the pass over a component gives
pub component_is : (e : List ℕ) (q : ℕ → ℕ → ℕ) (check : Bool) (st : State) (c : ℕ)
    → component_sums e (q c) check (tile_of st) (dx_of st c) (dy_of st c) (res_of st c)
    ≡ cond (ranged_at st c) (cond (fine_at e q st check c) (Some (part_sums (sheet_over e q st) c)) None) None
unfolding component_sums resolution_sums passed entry_fine columns_of count bound_of
component_is e q check st c =
    ap
    (λ (m : ℕ).
    cond (ranged_at st c)
    (cond (fine_at e q st check c)
    (Some
    (record {
      most = capped m;
      fit = fits_in (sheet_over e q st) c;
      x_least = least_in (step_x (sheet_over e q st)) st c;
      y_least = least_in (step_y (sheet_over e q st)) st c;
    }))
    None)
    None)
    (max-same (λ r. width (sheet_over e q st) c r * height (sheet_over e q st) c r) (precincts (sheet_over e q st) c) (res_of st c) (λ r h. rw (lt-ltb r (res_of st c) h)))
