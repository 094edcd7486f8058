-- The places of exponents as the code reaches them, component after component. Assumes nothing.
use mathlib.Core.Path.{◌≡◌, refl, fun_ext}
use Prim.Native.Nat.{ℕ, ◌+◌, ◌*◌, ◌≤◌}
use native.Mathlib.Nat.{mul-add, mul-one, mul-zero, mul-le-mul}
use native.Mathlib.Omega.{arith}
use Rattle.laws.specs.Below.{sum_none, sum_more}
use Rattle.packets.specs.Tile.{res_of, entries_before}
use Rattle.types.specs.declared.state.State.{State}
use Rattle.survey.specs.Survey.{place_of}
use Rattle.survey.specs.Passing.{places_of, places_after, exponents_at}
use Rattle.survey.specs.declared.Source.{Source}
use Rattle.survey.specs.declared.Source.TheVariants.{Records, Entries}
use Rattle.survey.specs.declared.places.Places.{Places}

-- where component c's exponents begin, its places, and where those of its resolution r stand
unfoldable pub base_in : Places → State → ℕ → ℕ
base_in p st c = p.first + p.between * c + p.apart * entries_before st c

abbrev pub places_at : Places → State → ℕ → Places
places_at p st c = record { first = base_in p st c; apart = p.apart; between = p.between; to = p.to + 4 * entries_before st c }

abbrev pub place_in : Places → State → ℕ → ℕ → ℕ
place_in p st c = exponents_at (places_at p st c)

-- those of a source
place_is : (at : Source) (st : State) (c r : ℕ) → place_of at st c r ≡ place_in (places_of at) st c r
unfolding base_in
place_is Records st c r = omega arith
place_is Entries st c r = omega arith

pub places_are : (at : Source) (st : State) → place_of at st ≡ place_in (places_of at) st
places_are at st = fun_ext (λ c. fun_ext (λ r. place_is at st c r))

module _ (p : Places) (st : State) where
  base_none : p.first ≡ base_in p st 0
  unfolding base_in entries_before
  base_none = rw (sum_none (res_of st)) (omega (arith, mul-zero p.between, mul-zero p.apart))

  pub places_none : p ≡ places_at p st 0
  unfolding entries_before
  places_none =
      let e : p.to ≡ p.to + 4 * entries_before st 0 = rw (sum_none (res_of st)) (omega arith) in
      λ i. record { first = base_none i; apart = p.apart; between = p.between; to = e i }

  base_more : (c : ℕ) → base_in p st c + (p.apart * res_of st c + p.between) ≡ base_in p st (c + 1)
  unfolding base_in entries_before
  base_more c =
      rw (sum_more (res_of st) c)
      (omega (arith, mul-add p.apart (entries_before st c) (res_of st c), mul-add p.between c 1, mul-one p.between))

  pub places_more : (c : ℕ) → places_after (places_at p st c) (res_of st c) ≡ places_at p st (c + 1)
  unfolding entries_before
  places_more c =
      let e : p.to + 4 * entries_before st c + 4 * res_of st c ≡ p.to + 4 * entries_before st (c + 1) = omega (arith, sum_more (res_of st) c) in
      λ i. record { first = base_more c i; apart = p.apart; between = p.between; to = e i }

-- they are small
pub record Small (p : Places) : Type 0 where
  pub first : p.first ≤ 68
  pub apart : p.apart ≤ 32
  pub between : p.between ≤ 32
  pub start : p.to ≡ 0

pub places_small : (at : Source) → Small (places_of at)
places_small Records = record { first = omega arith; apart = omega arith; between = omega arith; start = refl }
places_small Entries = record { first = omega arith; apart = omega arith; between = omega arith; start = refl }

pub apart-small : (p : Places) (n : ℕ) → Small p → n ≤ 33 → p.apart * n ≤ 32 * 33
apart-small p n s h = mul-le-mul s.apart h
