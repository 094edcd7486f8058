-- The mark of a packet inside the tile, by the walk's strides: where it stands, and what reading it says. Assumes nothing.
use Rattle.std.specs.Prelude.{◌≡◌, Bool, List, ℕ, ◌<◌, length}
use Rattle.std.proofs.Common.{sym, ap, ◌∙◌, arith}
use Rattle.laws.specs.Marks.{free_at}
use Rattle.packets.specs.Tile.{Sheet, needed, index_of}
use Rattle.types.specs.declared.order.Range.{Range}
use Rattle.packets.specs.Good.{Good}
use Rattle.packets.specs.Inside.{Inside}
use Rattle.packets.proofs.Once.{index_below}
use Rattle.types.specs.declared.cursor.Position.{Position}
use Rattle.walks.specs.Walk.{index_by, Ranged}
use Rattle.walks.specs.declared.walk.Walk.{Walk}

-- where the mark of a packet stands, by the walk
abbrev pub mark_by : Walk → Position → ℕ
mark_by w p = index_by w p.layno p.resno p.compno p.precno

module _ (s : Sheet) (g : Range) (w : Walk) (marks : List ℕ) (q : Ranged s g w marks) (good : Good s) (p : Position) (inside : Inside s p) (layer : p.layno < w.layno1) where
  pub same-mark : mark_by w p ≡ index_of s.st p
  unfolding index_by index_of
  same-mark = rw (q.stride_l_lem, q.stride-r, q.stride_c_lem)

  below-needed : mark_by w p < needed s.st
  below-needed = rw same-mark (index_below s good p inside (omega (arith, q.layers, q.layno1)))

  -- it is below the largest number of marks, and below the marks' number
  pub fits-mark : mark_by w p < 65536
  fits-mark = omega (arith, below-needed, q.few)

  pub has-mark : mark_by w p < length marks
  has-mark = omega (arith, below-needed, q.enough)

  -- what reading it says
  pub reads_mark : (v i : ℕ) (f t : Bool) → i ≡ mark_by w p → f ≡ free_at v marks i → f ≡ t → free_at v marks (index_of s.st p) ≡ t
  reads_mark v i f t a b d = ap (free_at v marks) (sym (a ∙ same-mark)) ∙ sym b ∙ d
