-- The two axes of a tile together: the points of the tile row by row, which of them pass the standard's test, and that those are the precincts
-- 0, 1, .., w·h - 1 of the resolution in that order, each once. Assumes nothing.
use Rattle.std.specs.Prelude.{◌≡◌, ℕ, ◌*◌, ◌<◌, List, map}
use Rattle.std.proofs.Common.{ap, ◌∙◌, arith}
use Rattle.std.proofs.Math.Path.{fun_ext}
use Rattle.laws.specs.Gather.{gather, gather-map, gather-gather, map-gather, map-map, keep, pairs}
use Rattle.laws.specs.Axis.{span}
use Rattle.laws.specs.Spans.{grid}
use Rattle.laws.specs.Counter.{numbered_once}
use Rattle.geometry.specs.Line.{Line, hit_at, column_of, hits, count}
use Rattle.geometry.specs.Hits.{Ordered}
use Rattle.geometry.proofs.Hits.{hits-columns, proper, factors}
use Rattle.geometry.specs.Raster.{point, raster, passes, number, MetOnce}

-- the points that pass are those of a row and a column that pass
pub raster-hits : (X Y : Line) → keep (passes X Y) (raster X Y) ≡ gather (λ y. map (point y) (hits X)) (hits Y)
unfolding raster hits
raster-hits X Y =
    let xs : List ℕ = span X.t0 X.t1 in
    let ys : List ℕ = span Y.t0 Y.t1 in
    gather-gather _ (λ y. map (point y) xs) ys
    ∙ ap (λ r. gather r ys) (fun_ext (λ y. gather-map _ (point y) xs))
    ∙ pairs (hit_at Y) (hit_at X) point xs ys

module _ (X Y : Line) (a : Ordered X) (b : Ordered Y) (some : 0 < count X * count Y) where
  -- THEOREM. The points that pass, row by row, are the precincts 0, 1, .., w·h - 1.
  pub raster_numbers : map (number X Y) (keep (passes X Y) (raster X Y)) ≡ span 0 (count X * count Y)
  raster_numbers =
      let (w, h) = factors (count X) (count Y) some in
      rw (raster-hits X Y, map-gather (number X Y) (λ y. map (point y) (hits X)) (hits Y))
      (ap (λ r. gather r (hits Y)) (fun_ext (λ y. map-map (number X Y) (point y) (hits X)))
      ∙ grid (column_of X) (column_of Y) (hits X) (hits Y) (count X) (count Y) (hits-columns X (proper X a w)) (hits-columns Y (proper Y b h)))

  -- so each precinct is met exactly once
  pub raster-each : (n : ℕ) → n < count X * count Y → MetOnce X Y n
  raster-each n h = numbered_once (number X Y) n (count X * count Y) (keep (passes X Y) (raster X Y)) 0 raster_numbers (omega arith) h
