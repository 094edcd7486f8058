-- What the survey holds after c components, and its next turn: one component more, or nothing. Assumes nothing.
use Rattle.std.specs.Prelude.{Option, Some, None, leb}
use Rattle.std.proofs.Common.{below_more}
use Rattle.std.proofs.lemmas.Option.{cond_some}
use mathlib.Core.Path.{◌≡◌, refl, sym, ◌∙◌}
use mathlib.Core.Bool.{Bool, true, false, cond, ◌&&◌}
use mathlib.Core.List.{List}
use Prim.Native.Nat.{ℕ, ◌+◌, ◌*◌, ◌≤◌, ◌<◌, max}
use native.Mathlib.Omega.{arith}
use lib.ListN.{length, get_or, set, replicate, length-set}
use lib.Seq.{get_or-set_same, get_or-set_other}
use borrow.Author.Tests.{lt-leb}
use Rattle.laws.specs.Cases.{and_true, and_false, cond-and}
use Rattle.laws.specs.Below.{all_below, all_none, all_more, all_fails, max_below, max_none, max_more, not-below}
use Rattle.packets.specs.Tile.{Sheet, dx_of, dy_of, res_of}
use Rattle.types.specs.declared.state.State.{State}
use Rattle.survey.specs.Survey.{survey_of}
use Rattle.survey.specs.Passing.{start_sums, no_sums, joined_sums, component_sums, places_of, places_after, exponents_at}
use Rattle.survey.specs.declared.Source.{Source}
use Rattle.survey.specs.declared.sums.Sums.{Sums}
use Rattle.survey.specs.declared.places.Places.{Places}
use Rattle.survey.specs.Ranges.{in_range_lem}
use Rattle.survey.proofs.Bases.{place_in, places_at, Small, places_none, places_more, apart-small, places_are}
use Rattle.survey.proofs.Components.{cond_none}
use Rattle.survey.proofs.Over.{sheet_over, ranged_at, fine_at, good_over, found_over, survey_over, tile_of, part_sums, sums_to, sums_none, sums_more, component_is}

-- the sheet whose exponents stand at these places
abbrev pub sheet_by : List ℕ → Places → State → Sheet
sheet_by e p st = sheet_over e (place_in p st) st

-- after c components the next stands at the places `here`, and everything before was good
pub record Seen (e : List ℕ) (p : Places) (check : Bool) (st : State) (here : Places) (all : Sums) (deep : ℕ) (parts : List Sums) (c : ℕ) : Type 0 where
  pub at : here ≡ places_at p st c
  pub near : here.first ≤ 68 + 1088 * c
  pub room : here.to ≤ 132 * c
  pub ranged : all_below (ranged_at st) c ≡ true
  pub fine : all_below (fine_at e (place_in p st) st check) c ≡ true
  pub sums : all ≡ sums_to (sheet_by e p st) c
  pub deepest : deep ≡ max_below (res_of st) c
  pub long : length parts ≡ 16
  pub each : (k : ℕ) → k < c → get_or parts k no_sums ≡ part_sums (sheet_by e p st) k

pub seen_none : (e : List ℕ) (p : Places) (check : Bool) (st : State) → Small p → Seen e p check st p start_sums 0 (replicate 16 start_sums) 0
seen_none e p check st small =
    let f = small.first in
    record {
      at = places_none p st;
      near = omega arith;
      room = omega (arith, small.start);
      ranged = all_none (ranged_at st);
      fine = all_none (fine_at e (place_in p st) st check);
      sums = sym (sums_none (sheet_by e p st));
      deepest = sym (max_none (res_of st));
      long = refl;
      each = λ k h. not-below k h;
    }

pub apart_near : {e : List ℕ} {p : Places} {check : Bool} {st : State} {here : Places} {all : Sums} {deep : ℕ} {parts : List Sums} {c : ℕ}
    → Seen e p check st here all deep parts c → Small p → here.apart ≤ 32
apart_near s small = rw s.at small.apart

module _ {e : List ℕ} {p : Places} {check : Bool} {st : State} {here : Places} {all : Sums} {deep : ℕ} {parts : List Sums} {c : ℕ}
    (s : Seen e p check st here all deep parts c) where
  abbrev good_at : ℕ → Bool
  good_at c = ranged_at st c && fine_at e (place_in p st) st check c

  abbrev found_at : Option Sums
  found_at = component_sums e (exponents_at here) check (tile_of st) (dx_of st c) (dy_of st c) (res_of st c)

  -- the component's sums, by what it is
  found_is : found_at ≡ cond (good_at c) (Some (part_sums (sheet_by e p st) c)) None
  found_is = rw s.at (component_is e (place_in p st) check st c ∙ cond-and (ranged_at st c) (fine_at e (place_in p st) st check c) _ _)

  -- a component that is not good ends the survey
  pub seen_bad : c < st.components → None ≡ found_at → None ≡ found_over e (place_in p st) check st
  unfolding found_over good_over
  seen_bad h g =
      rw (none (ranged_at st) (fine_at e (place_in p st) st check) c h (cond_none (good_at c) _ (g ∙ found_is)), and_false (leb st.components 16))
    where
      none : (f g : ℕ → Bool) (c : ℕ) → c < st.components → (f c && g c) ≡ false → (all_below f st.components && all_below g st.components) ≡ false
      none f g c h bad = by (f c) refl bad
        where
          by : (t : Bool) → f c ≡ t → (t && g c) ≡ false → (all_below f st.components && all_below g st.components) ≡ false
          by true i bad = rw (all_fails g st.components c h bad) (and_false (all_below f st.components))
          by false i bad = rw (all_fails f st.components c h i)

  module _ {one : Sums} (is : Some one ≡ found_at) where
    good : (ranged_at st c ≡ true) × (fine_at e (place_in p st) st check c ≡ true)
    good = and_true (ranged_at st c) _ (cond_some (good_at c) _ _ (sym (is ∙ found_is))).0

    part : one ≡ part_sums (sheet_by e p st) c
    part = sym (cond_some (good_at c) _ _ (sym (is ∙ found_is))).1

    pub levels_few : res_of st c ≤ 33
    levels_few = (in_range_lem (dx_of st c) (dy_of st c) (res_of st c) good.0).n_high

    pub seen_more : Small p → c < 16
        → Seen e p check st (places_after here (res_of st c)) (joined_sums all one) (max deep (res_of st c)) (set parts c one) (c + 1)
    seen_more small h =
        let a : here.apart * res_of st c ≤ 32 * 33 = rw s.at (apart-small p (res_of st c) small levels_few) in
        let b : here.between ≤ 32 = rw s.at small.between in
        let near = s.near in
        let high = levels_few in
        let long = s.long in
        record {
          at = rw s.at (places_more p st c);
          near = omega arith;
          room = omega (arith, s.room);
          ranged = all_more (ranged_at st) c s.ranged good.0;
          fine = all_more (fine_at e (place_in p st) st check) c s.fine good.1;
          sums = rw (s.sums, part) (sums_more (sheet_by e p st) c);
          deepest = rw (max_more (res_of st) c, s.deepest);
          long = length-set parts c one ∙ long;
          each =
              below_more _ _
              (λ k l. get_or-set_other parts c k one no_sums (λ z. omega arith) ∙ s.each k l)
              (get_or-set_same parts c one no_sums (omega arith) ∙ part);
        }

    -- the next place is near
    pub next_near : Small p → c < 16 → ((places_after here (res_of st c)).first ≤ 17476) × ((places_after here (res_of st c)).to ≤ 2112)
    next_near small h = let n = seen_more small h in (omega (arith, n.near), omega (arith, n.room))

-- the survey of a source is that over its places
pub survey_in : (e : List ℕ) (at : Source) (check : Bool) (st : State) (p : Places) → p ≡ places_of at → survey_of e at check st ≡ found_over e (place_in p st) check st
survey_in e at check st p h = rw h (survey_over e at check st (place_in (places_of at) st) (places_are at st))

-- too many components
pub seen_many : (e : List ℕ) (q : ℕ → ℕ → ℕ) (check : Bool) (st : State) → 16 < st.components → None ≡ found_over e q check st
unfolding found_over good_over
seen_many e q check st h = rw (lt-leb _ _ h)
