-- What the range of a component's fields says. Assumes nothing.
use Rattle.std.specs.Prelude.{◌≡◌, true, ℕ, ◌≤◌, leb}
use Rattle.std.proofs.Common.{leb-true}
use Rattle.laws.specs.Cases.{and_true}
use Rattle.types.specs.Ranges.{within, component_range}

pub record Ranged (dx dy n : ℕ) : Type 0 where
  pub dx_low : 1 ≤ dx
  pub dx_high : dx ≤ 255
  pub dy_low : 1 ≤ dy
  pub dy_high : dy ≤ 255
  pub n_low : 1 ≤ n
  pub n_high : n ≤ 33

pub in_range_lem : (dx dy n : ℕ) → component_range dx dy n ≡ true → Ranged dx dy n
in_range_lem dx dy n h =
    let a = and_true (within 1 255 dx) _ h in
    let b = and_true (within 1 255 dy) (within 1 33 n) a.1 in
    let x = and_true (leb 1 dx) (leb dx 255) a.0 in
    let y = and_true (leb 1 dy) (leb dy 255) b.0 in
    let r = and_true (leb 1 n) (leb n 33) b.1 in
    record {
      dx_low = leb-true _ _ x.0;
      dx_high = leb-true _ _ x.1;
      dy_low = leb-true _ _ y.0;
      dy_high = leb-true _ _ y.1;
      n_low = leb-true _ _ r.0;
      n_high = leb-true _ _ r.1;
    }
