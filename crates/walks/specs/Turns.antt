-- A walk that is ready, at a point of its tile: what is in play, and that what is met is one of the sheet's. Assumes nothing.
use Rattle.std.proofs.Math.Path.{◌≡◌, refl}
use Rattle.std.specs.Prelude.{Bool, List, ℕ, ◌+◌, ◌≤◌, ◌<◌, Some, None}
use Rattle.std.proofs.Math.Bool.{true, false, cond}
use native.Mathlib.Omega.{arith}
use Rattle.packets.specs.Tile.{Sheet, precincts}
use Rattle.types.specs.declared.order.Range.{Range}
use Rattle.packets.specs.Positions.{met, number_at}
use Rattle.packets.specs.Met.{MetAt}
use Rattle.packets.proofs.MetOnce.{met-small, precincts_in}
use Rattle.packets.specs.Inside.{Inside}
use Rattle.types.specs.declared.cursor.Position.{Position}
use Rattle.walks.specs.Prepared.{Prep, InPlay, AtPoint, point_of, cell_of}
use Rattle.walks.specs.InRow.{AtRow}
use Rattle.walks.specs.Walk.{Ready}
use Rattle.walks.specs.declared.walk.Walk.{Walk}

-- what a cell says
module _ (s : Sheet) (r c x y : ℕ) where
  pub cell-met : (k : ℕ) → cell_of s r c x y ≡ Some k → (met s (point_of r c x y) ≡ true) × (k ≡ number_at s (point_of r c x y))
  unfolding cell_of
  cell-met k e = by (met s (point_of r c x y)) e
    where
      by : (t : Bool) → cond t (Some (number_at s (point_of r c x y))) None ≡ Some k → (t ≡ true) × (k ≡ number_at s (point_of r c x y))
      by true e = (refl, cc)
      by false e = absurd (let z : ◌≡◌ {A = ℕ} 0 1 = cc in let n : ⊥ = omega arith in n)

  pub cell_missed : cell_of s r c x y ≡ None → met s (point_of r c x y) ≡ false
  unfolding cell_of
  cell_missed e = by (met s (point_of r c x y)) e
    where
      by : (t : Bool) → cond t (Some (number_at s (point_of r c x y))) None ≡ None → t ≡ false
      by true e = absurd (let z : ◌≡◌ {A = ℕ} 0 1 = cc in let n : ⊥ = omega arith in n)
      by false e = refl

-- a part of what is prepared is prepared
pub play_part : (s : Sheet) (prep : Prep) (r0 r1 c0 c1 a b d e : ℕ) → InPlay s prep r0 r1 c0 c1 → r0 ≤ a → b ≤ r1 → c0 ≤ d → e ≤ c1 → InPlay s prep a b d e
play_part s prep r0 r1 c0 c1 a b d e t h i j k =
    let m = t.resolutions in
    let n = t.components in
    let o = t.known in
    record {
      good = t.good;
      resolutions = omega arith;
      components = omega arith;
      known = omega arith;
      entry = λ u v p q x y. t.entry u v (omega arith) (omega arith) (omega arith) (omega arith);
      few = λ u v p q x y. t.few u v (omega arith) (omega arith) (omega arith) (omega arith);
      ends_x = t.ends_x;
      ends_y = t.ends_y;
    }

-- A WALK THAT IS READY stands inside its ranges and the tile
pub record Stands (w : Walk) (r c x y : ℕ) : Type 0 where
  pub res_from : w.resno0 ≤ r
  pub res_to : r < w.resno1
  pub comp_from : w.compno0 ≤ c
  pub comp_to : c < w.compno1
  pub left : w.tx0 ≤ x
  pub right : x < w.tx1
  pub top : w.ty0 ≤ y
  pub bottom : y < w.ty1

module _ (s : Sheet) (g : Range) (prep : Prep) (w : Walk) (marks : List ℕ) (ready : Ready s g prep w marks) where
  -- what is in play for resolutions a to b of components d to e
  pub in_play_lem : (a b d e : ℕ) → w.resno0 ≤ a → b ≤ w.resno1 → w.compno0 ≤ d → e ≤ w.compno1 → InPlay s prep a b d e
  in_play_lem a b d e h i j k =
      let q = ready.ranged in
      play_part s prep g.resno0 g.resno1 g.compno0 g.compno1 a b d e ready.play
      (rw (← q.resno0) h) (rw (← q.resno1) i) (rw (← q.compno0) j) (rw (← q.compno1) k)

  -- a row of it, and a point
  pub at_row : (y : ℕ) → w.ty0 ≤ y → y < w.ty1 → AtRow s prep w.resno0 w.resno1 w.compno0 w.compno1 y
  at_row y top bottom =
      let q = ready.ranged in
      record {
        play = in_play_lem w.resno0 w.resno1 w.compno0 w.compno1 (omega arith) (omega arith) (omega arith) (omega arith);
        top = rw (← q.ty0) top;
        bottom = rw (← q.ty1) bottom;
      }

  pub at-point : (r c x y : ℕ) → Stands w r c x y → AtPoint s prep r c x y
  at-point r c x y t =
      let q = ready.ranged in
      record {
        play = in_play_lem r (r + 1) c (c + 1) t.res_from (omega (arith, t.res_to)) t.comp_from (omega (arith, t.comp_to));
        left = rw (← q.tx0) t.left;
        right = rw (← q.tx1) t.right;
        top = rw (← q.ty0) t.top;
        bottom = rw (← q.ty1) t.bottom;
      }

  -- a packet that is met is one of the sheet's
  module _ (l r c k x y : ℕ) (t : Stands w r c x y) (m : met s (point_of r c x y) ≡ true) (e : k ≡ number_at s (point_of r c x y)) where
    abbrev pub packet : Position
    packet = record { layno = l; resno = r; compno = c; precno = k; x = x; y = y }

    component : c < s.st.components
    component = omega (arith, ready.ranged.components, ready.ranged.compno1, t.comp_to)

    pub met-inside : Inside s packet
    unfolding met number_at
    met-inside =
        let a = at-point r c x y t in
        let meets : MetAt s packet = record { meets = m; number = e; left = a.left; right = a.right; top = a.top; bottom = a.bottom } in
        let small : k < precincts s c r = met-small s ready.play.good packet component meets in
        record { component = component; resolution = precincts_in s c r (omega arith); precinct = small }
