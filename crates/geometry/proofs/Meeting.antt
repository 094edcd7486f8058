-- The tests of a point, one after the other, are the standard's. Assumes nothing.
use Rattle.std.proofs.Common.{◌≡◌, ℕ, ◌%◌, ◌^◌, ◌<◌, ◌≤◌, true, false, not, eqb, sym, ◌∙◌, lt-ltb, eq-eqb, ne_eqb, le-leb}
use Rattle.geometry.specs.Line.{Line, bound_of, step, hit_at, meets_at}
use Rattle.geometry.proofs.Hits.{whole_law}

module _ (s : Line) (x : ℕ) (from : s.t0 ≤ x) (to : x < s.t1) where
  within : meets_at s x ≡ hit_at s x
  within = rw (le-leb _ _ from, lt-ltb _ _ to)

  pub on_step : eqb (x % step s) 0 ≡ true → true ≡ meets_at s x
  unfolding hit_at
  on_step e = sym (within ∙ rw e)

  module _ (off : eqb (x % step s) 0 ≡ false) where
    -- the tile's start, where it is inside a precinct
    pub on_start : x ≡ s.t0 → not (eqb (bound_of x s.d s.level % 2 ^ s.pd) 0) ≡ meets_at s x
    unfolding hit_at
    on_start e = sym (within ∙ rw (off, eq-eqb _ _ e, whole_law s, e))

    pub on_none : (x ≡ s.t0 → ⊥) → false ≡ meets_at s x
    unfolding hit_at
    on_none e = sym (within ∙ rw (off, ne_eqb _ _ e))
