-- How a walk may go on along rows and columns: over any next that passes over no hit, clipped to the tile's end or not; and what the laws of resuming ask
-- of strided loops. Assumes nothing.
use Rattle.std.specs.Prelude.{◌≡◌, refl, List, ◌∷◌, ◌++◌, ℕ, ◌≤◌, ◌<◌, min}
use Rattle.std.proofs.Common.{◌∙◌, arith}
use Rattle.laws.specs.Nest.{Loop, nest, resumed, later, Fresh}
use Rattle.laws.specs.NestOnce.{Within}
use Rattle.laws.specs.NestStride.{with_next, nest-inner, nest-inside}
use Rattle.laws.specs.NestClip.{nest_same_next}
use Rattle.laws.specs.NestSkip.{turn_skip}
use Rattle.types.specs.State.{origin}
use Rattle.packets.specs.Tile.{Sheet}
use Rattle.types.specs.declared.order.Order.{Order}
use Rattle.types.specs.declared.order.Order.TheVariants.{Lrcp as lrcp, Rlcp as rlcp, Rpcl as rpcl, Pcrl as pcrl, Cprl as cprl, NoPositions as other}
use Rattle.types.specs.declared.order.Range.{Range}
use Rattle.packets.specs.Positions.{rows, columns}
use Rattle.packets.specs.Strided.{For, one_resolution, one_component, everything, points_for, outer_loops, inner_loops, packet_loops, point_loops, strided, NextRow, NextColumn, outer_within, row-free, row-passed, column_passed}
use Rattle.types.specs.declared.cursor.Position.{Position}

module _ (s : Sheet) (g : Range) where
  -- THE TURNS of the loops over every point: after a row or a column they go on at any that may be next, clipped to the end, with the inner loops fresh
  module _ (w : For) (p : Position) (i : Within (outer_loops g w) p) (r : Position → ℕ) (rs : List (Position → ℕ)) (o : List Position) where
    pub skip_rows : Fresh (columns s ∷ (inner_loops g w ++ packet_loops s g)) rs → (y z : ℕ) → s.st.ty0 ≤ y → NextRow s g w p y z → r p ≡ min z s.st.ty1
        → later (rows s) (columns s ∷ (inner_loops g w ++ packet_loops s g)) p y ++ o ≡ resumed (rows s ∷ columns s ∷ (inner_loops g w ++ packet_loops s g)) (r ∷ rs) p ++ o
    skip_rows f y z a n =
        turn_skip (rows s) (columns s ∷ (inner_loops g w ++ packet_loops s g)) p (λ x. refl) r rs o f y z n.grows (row-passed s g w p i y z a n)

    pub skip_columns : Fresh (inner_loops g w ++ packet_loops s g) rs → s.st.ty0 ≤ p.y → p.y < s.st.ty1
        → (x z : ℕ) → s.st.tx0 ≤ x → NextColumn s g w p x z → r p ≡ min z s.st.tx1
        → later (columns s) (inner_loops g w ++ packet_loops s g) p x ++ o ≡ resumed (columns s ∷ (inner_loops g w ++ packet_loops s g)) (r ∷ rs) p ++ o
    skip_columns f b c x z a n =
        turn_skip (columns s) (inner_loops g w ++ packet_loops s g) p (λ x. refl) r rs o f x z n.grows (column_passed s g w p i b c x z a n)

  -- THE END, for the nest around rows and columns
  framed_same : (nx ny mx my : Position → ℕ → ℕ) (w : For)
      → ((p : Position) → Within (outer_loops g w) p → (x : ℕ) → x < s.st.tx1 → min (nx p x) s.st.tx1 ≡ min (mx p x) s.st.tx1)
      → ((p : Position) → Within (outer_loops g w) p → (y : ℕ) → y < s.st.ty1 → min (ny p y) s.st.ty1 ≡ min (my p y) s.st.ty1)
      → nest (point_loops s g nx ny w) origin ≡ nest (point_loops s g mx my w) origin
  framed_same nx ny mx my w ex ey =
      let rest : List (Loop Position) = inner_loops g w ++ packet_loops s g in
      nest-inside (outer_loops g w) (with_next ny (rows s) ∷ with_next nx (columns s) ∷ rest) (with_next my (rows s) ∷ with_next mx (columns s) ∷ rest) origin
      (λ p h.
      let i = outer_within s g w origin p h in
      nest_same_next (rows s) (with_next nx (columns s) ∷ rest) ny my p (ey p i)
      ∙ nest-inner (with_next my (rows s)) (with_next nx (columns s) ∷ rest) (with_next mx (columns s) ∷ rest) p
      (λ y t. nest_same_next (columns s) rest nx mx ((rows s).put y p) (ex ((rows s).put y p) (row-free s g w p y i))))

  -- nexts that agree up to the tile's end list the same
  pub strided-same : (nx ny mx my : Position → ℕ → ℕ) (o : Order)
      → ((p : Position) → Within (outer_loops g (points_for o)) p → (x : ℕ) → x < s.st.tx1 → min (nx p x) s.st.tx1 ≡ min (mx p x) s.st.tx1)
      → ((p : Position) → Within (outer_loops g (points_for o)) p → (y : ℕ) → y < s.st.ty1 → min (ny p y) s.st.ty1 ≡ min (my p y) s.st.ty1)
      → nest (strided s g nx ny o) origin ≡ nest (strided s g mx my o) origin
  strided-same nx ny mx my lrcp ex ey = refl
  strided-same nx ny mx my rlcp ex ey = refl
  strided-same nx ny mx my rpcl ex ey = framed_same nx ny mx my one_resolution ex ey
  strided-same nx ny mx my pcrl ex ey = framed_same nx ny mx my everything ex ey
  strided-same nx ny mx my cprl ex ey = framed_same nx ny mx my one_component ex ey
  strided-same nx ny mx my other ex ey = refl

  -- so nexts may be clipped to it: an advance to 2^32 or more ends the axis
  pub strided_clip : (nx ny : Position → ℕ → ℕ) (o : Order)
      → nest (strided s g nx ny o) origin ≡ nest (strided s g (λ p x. min (nx p x) s.st.tx1) (λ p y. min (ny p y) s.st.ty1) o) origin
  strided_clip nx ny o = strided-same nx ny (λ p x. min (nx p x) s.st.tx1) (λ p y. min (ny p y) s.st.ty1) o (λ p i x h. omega arith) (λ p i y h. omega arith)
