-- The records that are written for sound numbers are good where they stand. Assumes nothing.
use Rattle.std.specs.Prelude.{◌≡◌, ◌⊎◌, List, ℕ, ◌+◌, ◌-◌, ◌^◌, ◌≤◌, ◌<◌, get_or, ℤ, pos, negsuc}
use Rattle.std.proofs.Math.Path.{refl, ap}
use Rattle.std.proofs.Common.{◌∙◌, inl, inr, arith}
use Rattle.std.proofs.Math.Bool.{true}
use Rattle.std.proofs.Math.Dec.{eqb}
use borrow.Author.Tests.{lt-ltb, le-ltb, le-leb}
use Rattle.laws.specs.Below.{all_below}
use Rattle.laws.specs.Pointwise.{all-same}
use Rattle.laws.specs.Means.{eqb-means, or-means}
use Rattle.types.specs.Ranges.{not-whole}
use Rattle.packets.specs.Sheet.{wd, unnamed, tile_verdict, component_verdict, resolution_verdict, progression_verdict, signed_of, progression_at}
use Rattle.packets.specs.Tile.{Sheet}
use Rattle.packets.specs.Meaning.{TileIn, ComponentIn, Volume, WholeTile, tile-means, component-means}
use Rattle.packets.specs.Written.{unsigned, tile_row, component_row, resolution_row, progression_row, Row}
use Rattle.types.specs.declared.state.Progression.{Progression}
use Rattle.types.specs.declared.state.State.{State}

-- a signed number of 32 bits
abbrev pub Signed : ℤ → Type 0
Signed (pos n) = n < 2 ^ 31
Signed (negsuc n) = n < 2 ^ 31

-- a signed number is read as it was written
pub signed-back : (z : ℤ) → Signed z → signed_of (unsigned z) ≡ z
signed-back (pos n) h = rw (lt-ltb n (2 ^ 31) h)
signed-back (negsuc n) h =
    let e : 2 ^ 32 - 1 - (2 ^ 32 - 1 - n) ≡ n = omega arith in
    rw (le-ltb (2 ^ 32 - 1 - n) (2 ^ 31) (omega arith), e)

-- and its word fits
pub unsigned-small : (z : ℤ) → Signed z → unsigned z < 2 ^ 32
unsigned-small (pos n) h = omega arith
unsigned-small (negsuc n) h = omega arith

module _ (b : List ℕ) (i : ℕ) where
  -- words not named are 0 if those of the row are
  none : (w : List ℕ) → Row b i w → (k : ℕ) → all_below (λ j. eqb (get_or w (k + j) 0) 0) (8 - k) ≡ true → unnamed b i k ≡ true
  none w row k e = all-same _ _ (8 - k) (λ j h. ap (λ (n : ℕ). eqb n 0) (row (k + j) (omega arith))) ∙ e

  -- each kind of record, as it was written, has no refusal
  pub tile-fine : (st : State) → Row b i (tile_row st) → TileIn st → tile_verdict b i ≡ 0
  tile-fine st row w =
      rw (row 0 (omega arith), row 1 (omega arith), row 2 (omega arith), row 3 (omega arith), row 4 (omega arith), row 5 (omega arith), row 6 (omega arith), row 7 (omega arith), (tile-means st).1 w)

  pub component-fine : (st : State) (c : ℕ) → Row b i (component_row st c) → ComponentIn st c → component_verdict b i ≡ 0
  unfolding all_below
  component-fine st c row w =
      rw (none (component_row st c) row 4 refl, row 0 (omega arith), row 1 (omega arith), row 2 (omega arith), row 3 (omega arith), (component-means st c).1 w)

  pub resolution_fine : (s : Sheet) (c r : ℕ) → Row b i (resolution_row s c r) → s.pdx c r ≤ 15 → s.pdy c r ≤ 15 → resolution_verdict b i ≡ 0
  unfolding all_below
  resolution_fine s c r row x y =
      rw (none (resolution_row s c r) row 3 refl, row 0 (omega arith), row 1 (omega arith), row 2 (omega arith), le-leb _ _ x, le-leb _ _ y)

  pub progression_fine : (st : State) (q : Progression) → Row b i (progression_row q) → Volume q ⊎ WholeTile st q → progression_verdict b st.progressions i ≡ 0
  unfolding all_below
  progression_fine st q row (inl v) =
      let volume = (or-means (eqb-means q.kind 4) (eqb-means q.kind 6)).1 v.kind in
      rw (none (progression_row q) row 7 refl, row 0 (omega arith), row 2 (omega arith), row 4 (omega arith), row 5 (omega arith), not-whole q.kind volume, volume, le-leb _ _ v.resno0, le-leb _ _ v.layno1, le-leb _ _ v.resno1)
  progression_fine st q row (inr v) =
      let n = v.blank in
      let blanks : all_below (λ j. eqb (get_or (progression_row q) (2 + j) 0) 0) 6 ≡ true = rw (n.resno0, n.compno0, n.layno1, n.resno1, n.compno1) in
      rw (none (progression_row q) row 2 blanks, row 0 (omega arith), v.kind, v.alone)

  -- a progression is read as it was written
  pub progression_back : (q : Progression) → Row b i (progression_row q) → Signed q.prg → progression_at b i ≡ q
  unfolding progression_at
  progression_back q row h =
      let p : signed_of (wd b i 1) ≡ q.prg = ap signed_of (row 1 (omega arith)) ∙ signed-back q.prg h in
      λ j.
      record {
        kind = row 0 (omega arith) j;
        prg = p j;
        resno0 = row 2 (omega arith) j;
        compno0 = row 3 (omega arith) j;
        layno1 = row 4 (omega arith) j;
        resno1 = row 5 (omega arith) j;
        compno1 = row 6 (omega arith) j;
      }
