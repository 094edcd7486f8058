-- What every loop of the three walks by points keeps, and what a turn makes of it: at a cell, from column to column, and from row to row. Assumes nothing.
use Rattle.std.specs.Prelude.{◌≡◌, Bool, true, false, List, ℕ, ◌+◌, ◌≤◌, ◌<◌, Option, Some, None}
use Rattle.laws.specs.Marks.{free_at}
use Rattle.laws.specs.Runs.{Packet, seek}
use Rattle.packets.specs.Tile.{Sheet, index_of}
use Rattle.packets.specs.InPlay.{next_before, play_x, play_y}
use Rattle.packets.specs.Grid.{step_x, step_y}
use Rattle.types.specs.declared.order.Range.{Range}
use Rattle.types.specs.declared.cursor.Position.{Position}
use Rattle.walks.specs.Prepared.{Prep, InPlay, AtPoint, cell_of, at_row as place_in_row, range_by}
use Rattle.walks.specs.InRow.{AtRow}
use Rattle.walks.specs.Walk.{Ready, SomeReady}
use Rattle.walks.specs.Marks.{mark_by}
use Rattle.walks.specs.Going.{Going, Rest, ◌then◌, turns, parts, leaves, passes, finds}
use Rattle.walks.specs.Turns.{Stands, at-point, at_row}
use Rattle.walks.specs.AtPoint.{packet_of, layers_from, cell_from, out_l}
use Rattle.walks.specs.Layers.{Layered, layer-fits, layer-read, cell-layered, cell-left, cell-passed}
use Rattle.walks.specs.Pcrl as pcrl
use Rattle.walks.specs.declared.walk.Walk.{Walk}

-- nothing is found yet, and the rest answers as the whole at entry
abbrev pub Kept : Prep → Walk → List ℕ → Rest → Option Position → Rest → Type 0
Kept prep w marks whole found rest = Going w.viewer (λ s g. Ready s g prep w marks) marks whole found rest

-- AT A CELL
module _
    (prep : Prep) (w : Walk) (marks : List ℕ) (r c x y : ℕ) (t : Stands w r c x y) (cell : Option ℕ)
    (said : (s : Sheet) → AtPoint s prep r c x y → cell ≡ cell_of s r c x y)
  where
    cell-is : (s : Sheet) (g : Range) → Ready s g prep w marks → cell ≡ cell_of s r c x y
    cell-is s g h = said s (at-point s g prep w marks h r c x y t)

    layered : (s : Sheet) (g : Range) → Ready s g prep w marks → (k : ℕ) → cell ≡ Some k → Layered s g w marks r c x y k
    layered s g h = cell-layered s g prep w marks h r c x y t cell (cell-is s g h)

    -- the mark of a layer of its precinct fits
    pub layer_fits : SomeReady prep w marks → (k : ℕ) → cell ≡ Some k → (l : ℕ) → l < w.layno1 → mark_by w (packet_of r c x y k l) < 65536
    layer_fits p k e l a = layer-fits p.0 p.1.0 w marks r c x y k (layered p.0 p.1.0 p.1.1 k e) l a

    module _ (whole later : Rest) {found : Option Position} (l : ℕ) where
      -- no precinct is met
      pub past_cell : cell ≡ None → Kept prep w marks whole found (cell_from r c x y l then later) → Kept prep w marks whole found later
      past_cell e i = leaves _ _ _ _ _ _ i (λ s g h. cell-passed s g prep w marks h r c x y t cell (cell-is s g h) l e)

      -- or one
      module _ (k : ℕ) (e : cell ≡ Some k) where
        pub into_l : Kept prep w marks whole found (cell_from r c x y l then later) → Kept prep w marks whole found (layers_from r c x y k l then later)
        into_l i = turns _ _ _ _ _ _ i _ (λ s g h. cell-left s g prep w marks h r c x y t cell (cell-is s g h) k l e)

        -- the mark of its next layer is read
        module _
            (a : l < w.layno1) (i : ℕ) (f : Bool) (at : i ≡ mark_by w (packet_of r c x y k l)) (read : f ≡ free_at w.viewer marks i)
            (kept : Kept prep w marks whole found (layers_from r c x y k l then later))
          where
            pub next_l : f ≡ false → Kept prep w marks whole found (layers_from r c x y k (l + 1) then later)
            next_l z = passes _ _ _ _ _ _ kept _ _ (λ s g h. layer-read s g w marks r c x y k (layered s g h k e) l a w.viewer i f false at read z)

            pub found_l : f ≡ true → (s : Sheet) (g : Range) → Ready s g prep w marks → Packet (packet_of r c x y k l) ≡ seek w.viewer (index_of s.st) marks (whole s g)
            found_l z = finds _ _ _ _ _ _ kept _ _ (λ s g h. layer-read s g w marks r c x y k (layered s g h k e) l a w.viewer i f true at read z)

-- no layer is left
pub past_l : (prep : Prep) (w : Walk) (marks : List ℕ) (whole later : Rest) {found : Option Position} (r c x y k l : ℕ) → w.layno1 ≤ l
    → Kept prep w marks whole found (layers_from r c x y k l then later) → Kept prep w marks whole found later
past_l prep w marks whole later r c x y k l a i = leaves _ _ _ _ _ _ i (λ s g h. out_l s g r c x y k l (rw h.ranged.layno1 at a))

-- FROM COLUMN TO COLUMN, AND FROM ROW TO ROW: z is the next column after x that meets something in play for a walk in row y, or the next such row
abbrev pub NextColumn : Prep → Walk → ℕ → ℕ → ℕ → Type 0
NextColumn prep v y x z =
    (s : Sheet) → AtRow s prep v.resno0 v.resno1 v.compno0 v.compno1 y
    → z ≡ next_before v.tx1 (range_by v.resno0 v.resno1 v.compno0 v.compno1) (play_x s (place_in_row y)) (step_x s) x

abbrev pub NextRow : Prep → Walk → ℕ → ℕ → Type 0
NextRow prep v y z =
    (s : Sheet) → InPlay s prep v.resno0 v.resno1 v.compno0 v.compno1 → z ≡ next_before v.ty1 (range_by v.resno0 v.resno1 v.compno0 v.compno1) (play_y s) (step_y s) y

-- what PCRL has left of a part of the range: of the whole of it, of one resolution, or of one component
module _
    (prep : Prep) (w : Walk) (marks : List ℕ) (part : Range → Range) (v : Walk)
    (ready : (s : Sheet) (g : Range) → Ready s g prep w marks → Ready s (part g) prep v marks) (y : ℕ)
  where
    abbrev pub within : Rest → Rest
    within rest s g = rest s (part g)

    -- no row is left
    pub past_y : (whole later : Rest) {found : Option Position} (x c r l : ℕ) → v.ty1 ≤ y
        → Kept prep w marks whole found (within (pcrl.entry y x c r l) then later) → Kept prep w marks whole found later
    past_y whole later x c r l a i = leaves _ _ _ _ _ _ i (λ s g h. pcrl.out_y s (part g) prep v marks (ready s g h) y x c r l a)

    -- or one
    module _ (top : v.ty0 ≤ y) (bottom : y < v.ty1) where
      -- which is prepared; the next column and the next row are farther
      module _ (some : SomeReady prep w marks) where
        abbrev one : Ready some.0 (part some.1.0) prep v marks
        one = ready some.0 some.1.0 some.1.1

        abbrev pub row-ready : (s : Sheet) × AtRow s prep v.resno0 v.resno1 v.compno0 v.compno1 y
        row-ready = (some.0, at_row some.0 (part some.1.0) prep v marks one y top bottom)

        pub farther_x : (x z : ℕ) → NextColumn prep v y x z → x < z
        farther_x x z said = (pcrl.column_is some.0 (part some.1.0) prep v marks one y x z (said some.0 row-ready.1)).1

        pub farther_y : (z : ℕ) → NextRow prep v y z → y < z
        farther_y z said = (pcrl.row_is some.0 (part some.1.0) prep v marks one y z (said some.0 row-ready.1.play)).1

      module _ (whole later : Rest) {found : Option Position} (x : ℕ) where
        -- from a column to the next
        pub next_x : (z : ℕ) → NextColumn prep v y x z
            → Kept prep w marks whole found (within (pcrl.after_x v y x) then later) → Kept prep w marks whole found (within (pcrl.left_x v y z v.compno0 v.resno0 0) then later)
        next_x z said i =
            turns _ _ _ _ _ _ i _ (λ s g h.
            let k = ready s g h in
            rw (pcrl.column_is s (part g) prep v marks k y x z (said s (at_row s (part g) prep v marks k y top bottom))).0)

        module _ (c r l : ℕ) where
          -- into a row, and into a column of it
          pub into_x : Kept prep w marks whole found (within (pcrl.entry y x c r l) then later) → Kept prep w marks whole found (within (pcrl.left_x v y x c r l) then later)
          into_x i = turns _ _ _ _ _ _ i _ (λ s g h. pcrl.in_y s (part g) prep v marks (ready s g h) y x c r l top bottom)

          pub into_c : v.tx0 ≤ x → x < v.tx1 → Kept prep w marks whole found (within (pcrl.left_x v y x c r l) then later)
              → Kept prep w marks whole found (within (pcrl.point y x c r l) then within (pcrl.after_x v y x) then later)
          into_c left right i = parts _ _ _ _ _ _ i _ _ (λ s g h. pcrl.in_x s (part g) prep v marks (ready s g h) y x c r l top bottom left right)

          -- where no column is left, to the next row
          pub next_y : (z : ℕ) → NextRow prep v y z → v.tx1 ≤ x
              → Kept prep w marks whole found (within (pcrl.left_x v y x c r l) then later) → Kept prep w marks whole found (within (pcrl.entry z v.tx0 v.compno0 v.resno0 0) then later)
          next_y z said a i =
              turns _ _ _ _ _ _ i _ (λ s g h.
              let k = ready s g h in
              rw (pcrl.row_is s (part g) prep v marks k y z (said s (at_row s (part g) prep v marks k y top bottom).play)).0
              (pcrl.out_x s (part g) prep v marks k y x c r l a))
