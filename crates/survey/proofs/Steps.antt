-- The steps of all resolutions on one axis: d c · 2^(k c r), for resolution r of component c. Within a component the smallest divides every other, so that
-- one number a component shows whether the smallest of all divides all. Assumes nothing.
use mathlib.Core.Path.{◌≡◌, refl, ◌∙◌}
use mathlib.Core.Logic.{⊎_elim}
use Prim.Native.Nat.{ℕ, zero, suc, ◌*◌, ◌%◌, ◌^◌, ◌≤◌, ◌<◌, min}
use native.Mathlib.Nat.{mul-pos, dvd_trans, dvd_of_mod-eq-zero, mod-eq-zero_of_dvd}
use native.Mathlib.Omega.{arith}
use lib.Dec.{eqb}
use lib.Pow.{pow_pos}
use borrow.Author.Tests.{eqb-true, eq-eqb, le-leb, lt-leb}
use Rattle.laws.specs.Cases.{le_or_lt}
use Rattle.laws.specs.Below.{all_below, all_none, all-at, min_below, min-start, min-at}
use Rattle.laws.specs.Least.{min-has, min-below}
use Rattle.laws.specs.Pointwise.{all_true, all-same, min-same}
use Rattle.laws.specs.Extremes.{same_tests, min_restart, shifted_multiple}
use Rattle.packets.specs.Tile.{res_of, fitting}
use Rattle.packets.specs.Grid.{everywhere, smallest_of, smallest}
use Rattle.types.specs.declared.state.State.{State}
use Rattle.survey.proofs.Over.{least_in}

-- a multiple of a multiple
multiple_of : (a b x : ℕ) → b % x ≡ 0 → a % b ≡ 0 → a % x ≡ 0
multiple_of a b x h k = mod-eq-zero_of_dvd x (dvd_trans x (dvd_of_mod-eq-zero x h) (dvd_of_mod-eq-zero b k))

module _ (st : State) (d : ℕ → ℕ) (k : ℕ → ℕ → ℕ) where
  abbrev pub step_of : ℕ → ℕ → ℕ
  step_of c r = d c * 2 ^ k c r

  -- the smallest of all
  abbrev pub least_of : ℕ
  least_of = min_below 4294967295 (least_in step_of st) st.components

  module _ (pos : (c : ℕ) → c < st.components → 1 ≤ d c) where
    pub least-above : 0 < least_of
    least-above =
        min-below 4294967295 (least_in step_of st) 0 st.components (omega arith)
        (λ c h. min-below 4294967295 (step_of c) 0 (res_of st c) (omega arith) (λ r l. mul-pos (pos c h) (pow_pos (k c r))))

    module _
        (some : (c : ℕ) → c < st.components → 1 ≤ res_of st c)
        (small : (c r : ℕ) → c < st.components → r < res_of st c → step_of c r ≤ 4294967295)
      where
        least_is : (c : ℕ) → c < st.components → smallest_of step_of st c ≡ least_in step_of st c
        least_is c h = min_restart (step_of c 0) 4294967295 (step_of c) (res_of st c) (some c h) (omega arith) (small c 0 h (some c h))

        smallest_is : 0 < st.components → smallest step_of st ≡ least_of
        smallest_is h =
            min-same (step_of 0 0) (smallest_of step_of st) (least_in step_of st) st.components least_is
            ∙ min_restart (step_of 0 0) 4294967295 (least_in step_of st) st.components h (min-at 4294967295 (step_of 0) (res_of st 0) 0 (some 0 h)) (small 0 0 h (some 0 h))

        -- a component's smallest divides each of its steps
        least_divides : (c : ℕ) → c < st.components → (r : ℕ) → r < res_of st c → step_of c r % least_in step_of st c ≡ 0
        least_divides c h r l =
            rw (← (least_is c h))
            (min-has (step_of c 0) (step_of c) (λ m. m ≤ step_of c r → step_of c r % m ≡ 0) (one 0) (res_of st c) (λ i j. one i)
            (min-at (step_of c 0) (step_of c) (res_of st c) r l))
          where
            one : (i : ℕ) → step_of c i ≤ step_of c r → step_of c r % step_of c i ≡ 0
            one i = shifted_multiple (d c) (k c i) (k c r) (pos c h)

        -- so a number divides all of them if it divides the smallest
        one_for_all : (x c : ℕ) → c < st.components → all_below (λ r. eqb (step_of c r % x) 0) (res_of st c) ≡ eqb (least_in step_of st c % x) 0
        one_for_all x c h =
            same_tests _ _
            (λ t.
            let each : (r : ℕ) → r < res_of st c → step_of c r % x ≡ 0 = λ r l. eqb-true _ 0 (all-at (λ r. eqb (step_of c r % x) 0) (res_of st c) t r l) in
            eq-eqb (least_in step_of st c % x) 0 (rw (← (least_is c h)) (min-has (step_of c 0) (step_of c) (λ m. m % x ≡ 0) (each 0 (some c h)) (res_of st c) each)))
            (λ t. all_true _ (res_of st c) (λ r l. eq-eqb _ 0 (multiple_of (step_of c r) (least_in step_of st c) x (eqb-true _ 0 t) (least_divides c h r l))))

        pub divide_is : (f : ℕ → ℕ) → ((c : ℕ) → c < st.components → f c ≡ least_in step_of st c)
            → everywhere st (λ c r. eqb (step_of c r % smallest step_of st) 0) ≡ all_below (λ c. eqb (f c % least_of) 0) st.components
        divide_is f h =
            ⊎_elim
            (λ (z : st.components ≤ 0). let e : st.components ≡ 0 = omega arith in rw (e, all_none, all_none))
            (λ (z : 0 < st.components).
            rw (smallest_is z)
            (all-same _ _ st.components (λ c l. one_for_all least_of c l ∙ rw (h c l))))
            (le_or_lt st.components 0)

-- the smallest that fits, from the smallest
fit-min : (m x : ℕ) → m ≤ 4294967295 → min (min 2147483647 m) (fitting x) ≡ min 2147483647 (min m x)
fit-min m x h =
    ⊎_elim
    (λ (l : x ≤ 4294967295). rw (le-leb _ _ l) (omega arith))
    (λ (l : 4294967295 < x). rw (lt-leb _ _ l) (omega arith))
    (le_or_lt x 4294967295)

clipped : (g : ℕ → ℕ) (n : ℕ) → min_below 2147483647 (λ i. fitting (g i)) n ≡ min 2147483647 (min_below 4294967295 g n)
unfolding min_below
clipped g zero = refl
clipped g (suc n) = rw (clipped g n) (fit-min (min_below 4294967295 g n) (g n) (min-start 4294967295 g n))

clips : (g : ℕ → ℕ) (n : ℕ) → min_below 2147483647 (λ i. min 2147483647 (g i)) n ≡ min 2147483647 (min_below 4294967295 g n)
unfolding min_below
clips g zero = refl
clips g (suc n) = rw (clips g n) (omega arith)

pub clip_is : (st : State) (f : ℕ → ℕ → ℕ)
    → min_below 2147483647 (λ c. min_below 2147483647 (λ r. fitting (f c r)) (res_of st c)) st.components
    ≡ min 2147483647 (min_below 4294967295 (least_in f st) st.components)
clip_is st f =
    min-same 2147483647 _ (λ c. min 2147483647 (least_in f st c)) st.components (λ c h. clipped (f c) (res_of st c)) ∙ clips (least_in f st) st.components
