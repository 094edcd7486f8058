-- What is in play: the next row or column is the least next hit of the components and resolutions that can be met from here on.
use Rattle.std.specs.Prelude.{Bool, ◌&&◌, ltb}
use Rattle.std.proofs.Math.Bool.{cond}
use Prim.Native.Nat.{ℕ, ◌+◌, max}
use Rattle.laws.specs.Least.{least}
use Rattle.laws.specs.Stride.{stride}
use Rattle.geometry.specs.Line.{hit_at}
use Rattle.packets.specs.Tile.{Sheet, line_y, precincts}
use Rattle.types.specs.declared.order.Range.{Range}
use Rattle.packets.specs.Grid.{step_x, step_y}
use Rattle.packets.specs.Strided.{For, range_at}
use Rattle.types.specs.declared.cursor.Position.{Position}

-- the least next multiple of the steps in play, of a range; stop if that is less or none is in play
unfoldable pub next_in_play : Range → (ℕ → ℕ → Bool) → (ℕ → ℕ → ℕ) → ℕ → ℕ → ℕ
next_in_play g play f stop x =
    least stop (λ c. least stop (λ r. cond (play c r) (stride (f c r) x) stop) g.resno0 g.resno1) g.compno0 g.compno1

-- the same up to an end: the end if nothing in play is hit before it
abbrev pub next_before : ℕ → Range → (ℕ → ℕ → Bool) → (ℕ → ℕ → ℕ) → ℕ → ℕ
next_before end g play f x = next_in_play g play f (max end (x + 1)) x

-- for rows all with precincts are in play; for columns those that the row hits
abbrev pub play_y : Sheet → ℕ → ℕ → Bool
play_y s c r = ltb 0 (precincts s c r)

abbrev pub play_x : Sheet → Position → ℕ → ℕ → Bool
play_x s p c r = ltb 0 (precincts s c r) && hit_at (line_y s c r) p.y

-- the next column and the next row
abbrev pub next_x : Sheet → Range → For → Position → ℕ → ℕ
next_x s g w p = next_before s.st.tx1 (range_at g w p.compno p.resno) (play_x s p) (step_x s)

abbrev pub next_y : Sheet → Range → For → Position → ℕ → ℕ
next_y s g w p = next_before s.st.ty1 (range_at g w p.compno p.resno) (play_y s) (step_y s)
