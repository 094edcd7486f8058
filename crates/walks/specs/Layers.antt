-- What is asked for where the layers of a precinct, a cell and a point are gone through. Assumes nothing.
use Rattle.std.specs.Prelude.{◌≡◌, Bool, List, [], ◌∷◌, ℕ, ◌+◌, ◌≤◌, ◌<◌, length, Option, Some, None}
use Rattle.std.proofs.Common.{sym, ◌∙◌}
use Rattle.laws.specs.Marks.{free_at}
use Rattle.packets.specs.Tile.{Sheet, index_of}
use Rattle.types.specs.declared.order.Range.{Range}
use Rattle.packets.specs.Good.{Good}
use Rattle.packets.specs.Inside.{Inside}
use Rattle.types.specs.declared.cursor.Position.{Position}
use Rattle.walks.specs.Prepared.{Prep, Firsts, first_in, cell_of}
use Rattle.walks.specs.InRow.{RowPoint, PointPlay}
use Rattle.walks.specs.RowLaws.{point_part}
use Rattle.walks.specs.Turns.{Stands, met-inside, cell-met, cell_missed}
use Rattle.walks.specs.Walk.{Ranged, Ready, ready_long}
use Rattle.walks.specs.Marks.{mark_by, same-mark, fits-mark, has-mark, reads_mark}
use Rattle.walks.specs.AtPoint.{packet_of, layers_from, cell_from, in_l, meets, misses}
use Rattle.walks.specs.Listing.{Asks}
use Rattle.walks.specs.declared.walk.Walk.{Walk}

-- precinct k of component c at resolution r is one of the sheet's
pub record Layered (s : Sheet) (g : Range) (w : Walk) (marks : List ℕ) (r c x y k : ℕ) : Type 0 where
  pub ranged : Ranged s g w marks
  pub good : Good s
  pub inside : Inside s (packet_of r c x y k 0)

-- .. as what a listing asks for
abbrev pub LayeredAt : Walk → Position → Asks
LayeredAt w p s g marks = Layered s g w marks p.resno p.compno p.x p.y p.precno

-- the mark of one of its layers
module _ (s : Sheet) (g : Range) (w : Walk) (marks : List ℕ) (r c x y k : ℕ) (d : Layered s g w marks r c x y k) (l : ℕ) (h : l < w.layno1) where
  inside : Inside s (packet_of r c x y k l)
  inside = let i = d.inside in record { component = i.component; resolution = i.resolution; precinct = i.precinct }

  pub layer_is : mark_by w (packet_of r c x y k l) ≡ index_of s.st (packet_of r c x y k l)
  layer_is = same-mark s g w marks d.ranged d.good (packet_of r c x y k l) inside h

  pub layer-fits : mark_by w (packet_of r c x y k l) < 65536
  layer-fits = fits-mark s g w marks d.ranged d.good (packet_of r c x y k l) inside h

  pub layer-there : mark_by w (packet_of r c x y k l) < length marks
  layer-there = has-mark s g w marks d.ranged d.good (packet_of r c x y k l) inside h

  -- it is the next, and what is read of its mark is what the sheet's index finds
  pub layer-read : (v i : ℕ) (f t : Bool) → i ≡ mark_by w (packet_of r c x y k l) → f ≡ free_at v marks i → f ≡ t
      → (layers_from r c x y k l s g ≡ packet_of r c x y k l ∷ layers_from r c x y k (l + 1) s g) × (free_at v marks (index_of s.st (packet_of r c x y k l)) ≡ t)
  layer-read v i f t a b e =
      (in_l s g r c x y k l (rw (← d.ranged.layno1) h), reads_mark s g w marks d.ranged d.good (packet_of r c x y k l) inside h v i f t a b e)

-- a walk that is ready stands at a point: a precinct is met, and it is one of the sheet's; or none is
module _
    (s : Sheet) (g : Range) (prep : Prep) (w : Walk) (marks : List ℕ) (h : Ready s g prep w marks) (r c x y : ℕ) (t : Stands w r c x y) (cell : Option ℕ)
    (e : cell ≡ cell_of s r c x y)
  where
    pub cell-layered : (k : ℕ) → cell ≡ Some k → Layered s g w marks r c x y k
    cell-layered k f =
        let m = cell-met s r c x y k (sym e ∙ f) in
        record { ranged = h.ranged; good = h.play.good; inside = met-inside s g prep w marks h 0 r c k x y t m.0 m.1 }

    pub cell-left : (k l : ℕ) → cell ≡ Some k → cell_from r c x y l s g ≡ layers_from r c x y k l s g
    cell-left k l f = let m = cell-met s r c x y k (sym e ∙ f) in meets s g r c x y k l m.0 m.1

    pub cell-passed : (l : ℕ) → cell ≡ None → cell_from r c x y l s g ≡ []
    cell-passed l f = misses s g r c x y l (cell_missed s r c x y (sym e ∙ f))

-- .. in a row that is noted
pub record Celled (s : Sheet) (g : Range) (prep : Prep) (first : Option ℕ) (w : Walk) (marks : List ℕ) (r c x y : ℕ) : Type 0 where
  pub ready : Ready s g prep w marks
  pub stands : Stands w r c x y
  pub point : RowPoint s prep first r c x y

abbrev pub CelledAt : Prep → Option ℕ → Walk → Position → Asks
CelledAt prep first w p s g marks = Celled s g prep first w marks p.resno p.compno p.x p.y

-- .. and so do all components and resolutions in range
pub record Pointed (s : Sheet) (g : Range) (prep : Prep) (row : Firsts) (w : Walk) (marks : List ℕ) (x y : ℕ) : Type 0 where
  pub ready : Ready s g prep w marks
  pub point : PointPlay s prep row w.resno0 w.resno1 w.compno0 w.compno1 x y

abbrev pub PointedAt : Prep → Firsts → Walk → ℕ → ℕ → Asks
PointedAt prep row w x y s g marks = Pointed s g prep row w marks x y

module _ (s : Sheet) (g : Range) (prep : Prep) (row : Firsts) (w : Walk) (marks : List ℕ) (x y : ℕ) (d : Pointed s g prep row w marks x y) where
  -- as many other marks do as well
  pub pointed_long : (other : List ℕ) → length other ≡ length marks → Pointed s g prep row w other x y
  pointed_long other e = record { ready = ready_long s g prep w marks other e d.ready; point = d.point }

  -- one of them
  pub pointed-cell : (first : Option ℕ) (r c : ℕ) → first ≡ first_in row r c → w.resno0 ≤ r → r < w.resno1 → w.compno0 ≤ c → c < w.compno1
      → Celled s g prep first w marks r c x y
  pointed-cell first r c e a b i j =
      let q = d.ready.ranged in
      let p = d.point in
      record {
        ready = d.ready;
        stands = record {
          res_from = a;
          res_to = b;
          comp_from = i;
          comp_to = j;
          left = rw q.tx0 p.left;
          right = rw q.tx1 p.right;
          top = rw q.ty0 p.at.top;
          bottom = rw q.ty1 p.at.bottom;
        };
        point = point_part s prep row _ _ _ _ x y first r c e p a b i j;
      }
