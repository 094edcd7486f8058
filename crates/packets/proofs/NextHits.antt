-- Which nexts pass over no hit (Strided): those that are at most the next multiple of every step, as strides that divide it. Assumes nothing.
use Rattle.std.specs.Prelude.{◌≡◌, true, ℕ, ◌*◌, ◌%◌, ◌≤◌, ◌<◌, ltb}
use Rattle.std.proofs.Common.{⊎_elim, le_refl, mul-pos, arith, pow_pos, ltb-true}
use Rattle.std.proofs.Math.Nat.{mod-eq-zero_of_dvd, dvd_of_mod-eq-zero, dvd_trans, div-zero}
use Rattle.laws.specs.Cases.{le_or_lt, and_true, cond_some}
use Rattle.laws.specs.Stride.{stride, stride_grows, stride_multiple, between}
use Rattle.laws.specs.NestOnce.{Within}
use Rattle.geometry.specs.Line.{Line, bound_of, low, high, count}
use Rattle.geometry.proofs.Hits.{count_none, factors, no_hit_between}
use Rattle.packets.specs.Tile.{Sheet, line_x, line_y, res_of, width, height, precincts}
use Rattle.types.specs.declared.order.Range.{Range}
use Rattle.packets.specs.Grid.{step_x, step_y}
use Rattle.packets.specs.Positions.{met}
use Rattle.packets.specs.Strided.{For, outer_loops, Hit, NextRow, NextColumn, PassesNoHit}
use Rattle.types.specs.declared.cursor.Position.{Position}
use Rattle.packets.specs.NextHits.{MetParts}

-- WHAT IS MET. An axis with precincts has a step
some_step : (l : Line) → 0 < count l → 1 ≤ l.d
unfolding bound_of
some_step l h =
    ⊎_elim (λ k. k)
    (λ k.
    let z : l.d ≡ 0 = omega arith in
    let e : high l ≤ low l = rw z (simp div-zero (le_refl _)) in
    omega (arith, count_none l e))
    (le_or_lt 1 l.d)

-- so it is with every position that is met
pub met-has : (s : Sheet) (q : Position) → met s q ≡ true → MetParts s q
unfolding met
met-has s q e =
    let a = and_true _ _ e in
    let b = and_true _ _ a.1 in
    record { has = ltb-true 0 _ a.0; hit_x = b.1; hit_y = b.0 }

-- a resolution with precincts is one that the component has, and each axis has a step
pub has-precincts : (s : Sheet) (c r : ℕ) → 0 < precincts s c r → (r < res_of s.st c) × (1 ≤ (line_x s c r).d) × (1 ≤ (line_y s c r).d)
has-precincts s c r h =
    let some = cond_some (ltb r (res_of s.st c)) (width s c r * height s c r) h in
    let f = factors (width s c r) (height s c r) some.1 in
    (ltb-true r _ some.0, some_step (line_x s c r) f.0, some_step (line_y s c r) f.1)

-- NEXTS BY STEPS. What is at most the next multiple of the step of each hit may be next
module _ (s : Sheet) (g : Range) (w : For) (p : Position) where
  pub column_by-steps : (x z : ℕ) → x < z → ((q : Position) → Hit s g w p q → q.y ≡ p.y → z ≤ stride (step_x s q.compno q.resno) x) → NextColumn s g w p x z
  column_by-steps x z h k =
      record {
        grows = h;
        no_hit = λ q i e a b.
            let m = met-has s q i.is_met in
            let d = has-precincts s q.compno q.resno m.has in
            omega (arith, k q i e, no_hit_between (line_x s q.compno q.resno) d.1 x q.x a b m.hit_x);
      }

  -- the same for rows
  pub row_by_steps : (y z : ℕ) → y < z → ((q : Position) → Hit s g w p q → z ≤ stride (step_y s q.compno q.resno) y) → NextRow s g w p y z
  row_by_steps y z h k =
      record {
        grows = h;
        no_hit = λ q i a b.
            let m = met-has s q i.is_met in
            let d = has-precincts s q.compno q.resno m.has in
            omega (arith, k q i, no_hit_between (line_y s q.compno q.resno) d.2 y q.y a b m.hit_y);
      }

-- a stride that divides another is at most it
stride_le : (m t : ℕ) → 1 ≤ m → 1 ≤ t → t % m ≡ 0 → (x : ℕ) → stride m x ≤ stride t x
stride_le m t p q e x =
    ⊎_elim (λ h. h)
    (λ h.
    absurd
    (between m p x (stride t x) (stride_grows t q x) h
    (mod-eq-zero_of_dvd m (dvd_trans m (dvd_of_mod-eq-zero m e) (dvd_of_mod-eq-zero t (stride_multiple t q x))))))
    (le_or_lt (stride m x) (stride t x))

-- so strides that divide the step of each hit pass over none
pub divisors_pass : (s : Sheet) (g : Range) (w : For) (mx my : Position → ℕ)
    → ((p : Position) → Within (outer_loops g w) p → (1 ≤ mx p) × (1 ≤ my p))
    → ((p q : Position) → Hit s g w p q → (step_x s q.compno q.resno % mx p ≡ 0) × (step_y s q.compno q.resno % my p ≡ 0))
    → PassesNoHit s g (λ p. stride (mx p)) (λ p. stride (my p)) w
divisors_pass s g w mx my h k =
    record {
      next_row = λ p i y.
          row_by_steps s g w p y (stride (my p) y) (stride_grows (my p) (h p i).1 y)
          (λ q j. stride_le (my p) (step_y s q.compno q.resno) (h p i).1 (hit-steps q j).1 (k p q j).1 y);
      next_column = λ p i x.
          column_by-steps s g w p x (stride (mx p) x) (stride_grows (mx p) (h p i).0 x)
          (λ q j e. stride_le (mx p) (step_x s q.compno q.resno) (h p i).0 (hit-steps q j).0 (k p q j).0 x);
    }
  where
    hit-steps : {p : Position} (q : Position) → Hit s g w p q → (1 ≤ step_x s q.compno q.resno) × (1 ≤ step_y s q.compno q.resno)
    hit-steps q j =
        let d = has-precincts s q.compno q.resno (met-has s q j.is_met).has in
        (mul-pos d.1 (pow_pos _), mul-pos d.2 (pow_pos _))
