-- A sheet written down: the words of its records in order, and where each is read again. Assumes nothing.
use Rattle.std.specs.Prelude.{◌≡◌, get_or, ℤ, pos, negsuc}
use Rattle.std.proofs.Math.Path.{refl}
use Rattle.std.proofs.Common.{◌∙◌}
use mathlib.Core.List.{List, [], ◌∷◌, ◌++◌, append-nil}
use Prim.Native.Nat.{ℕ, zero, suc, ◌+◌, ◌-◌, ◌*◌, ◌^◌, ◌≤◌, ◌<◌}
use native.Mathlib.Omega.{arith}
use Rattle.std.proofs.Math.ListN.{length, length-append, get_or-append}
use Rattle.std.proofs.Math.Seq.{get_or-append-add}
use Rattle.laws.specs.Gather.{gather}
use Rattle.laws.specs.Axis.{span}
use Rattle.laws.specs.Below.{sum_below, sum_part}
use Rattle.laws.specs.Bounded.{Bounded}
use Rattle.laws.specs.Indexing.{gather-length, gather-at, sum_times, sum-same, sum_constant}
use Rattle.words.specs.Words.{words_bytes}
use Rattle.words.specs.Laws.{word_of, bytes-length}
use Rattle.packets.specs.Sheet.{wd, component_record}
use Rattle.packets.specs.Tile.{Sheet, dx_of, dy_of, res_of}
use Rattle.packets.specs.Grid.{change_of}
use Rattle.types.specs.declared.state.Progression.{Progression}
use Rattle.types.specs.declared.state.State.{State}

-- 01: prg is read as signed (two's complement); written so
abbrev pub unsigned : ℤ → ℕ
unsigned (pos n) = n
unsigned (negsuc n) = 2 ^ 32 - 1 - n

-- the eight words of each record
abbrev pub tile_row : State → List ℕ
tile_row st = 1 ∷ st.tx0 ∷ st.ty0 ∷ st.tx1 ∷ st.ty1 ∷ st.layers ∷ st.components ∷ st.progressions ∷ []

abbrev pub component_row : State → ℕ → List ℕ
component_row st c = 2 ∷ dx_of st c ∷ dy_of st c ∷ res_of st c ∷ 0 ∷ 0 ∷ 0 ∷ 0 ∷ []

abbrev pub resolution_row : Sheet → ℕ → ℕ → List ℕ
resolution_row s c r = 3 ∷ s.pdx c r ∷ s.pdy c r ∷ 0 ∷ 0 ∷ 0 ∷ 0 ∷ 0 ∷ []

abbrev pub progression_row : Progression → List ℕ
progression_row q = q.kind ∷ unsigned q.prg ∷ q.resno0 ∷ q.compno0 ∷ q.layno1 ∷ q.resno1 ∷ q.compno1 ∷ 0 ∷ []

-- a component's resolutions, its record followed by these, all components so, and the progressions
abbrev pub resolution_rows : Sheet → ℕ → List ℕ
resolution_rows s c = gather (resolution_row s c) (span 0 (res_of s.st c))

abbrev pub component_rows : Sheet → ℕ → List ℕ
component_rows s c = component_row s.st c ++ resolution_rows s c

abbrev pub parts : Sheet → List ℕ
parts s = gather (component_rows s) (span 0 s.st.components)

abbrev pub lasts : Sheet → List ℕ
lasts s = gather (λ k. progression_row (change_of s.st k)) (span 0 s.st.progressions)

-- 01: the tile, each component followed by its resolutions, the progressions
unfoldable pub sheet_words : Sheet → List ℕ
sheet_words s = tile_row s.st ++ (parts s ++ lasts s)

-- the sheet's bytes
unfoldable pub written : Sheet → List ℕ
written s = words_bytes (sheet_words s)

-- records between the tile's and that of component c
unfoldable pub records_before : State → ℕ → ℕ
records_before st c = sum_below (λ i. 1 + res_of st i) c

-- record i of b has these words
abbrev pub Row : List ℕ → ℕ → List ℕ → Type 0
Row b i w = (k : ℕ) → k < 8 → wd b i k ≡ get_or w k 0

module _ (s : Sheet) where
  abbrev comps : ℕ
  comps = s.st.components

  -- how many words there are, and before those of component c
  part_length : (c : ℕ) → length (component_rows s c) ≡ 8 * (1 + res_of s.st c)
  part_length c =
      let n : length (resolution_rows s c) ≡ 8 * res_of s.st c
      = gather-length (resolution_row s c) (res_of s.st c) ∙ sum_constant 8 (res_of s.st c) in
      rw (length-append (component_row s.st c) (resolution_rows s c), n) (omega arith)

  words_before : (c : ℕ) → sum_below (λ i. length (component_rows s i)) c ≡ 8 * records_before s.st c
  unfolding records_before
  words_before c = sum-same _ (λ i. 8 * (1 + res_of s.st i)) c part_length ∙ sum_times 8 (λ i. 1 + res_of s.st i) c

  parts-length : length (parts s) ≡ 8 * records_before s.st comps
  parts-length = gather-length (component_rows s) comps ∙ words_before comps

  words_length : length (sheet_words s) ≡ 8 * (1 + records_before s.st comps + s.st.progressions)
  unfolding sheet_words
  words_length =
      let n : length (lasts s) ≡ 8 * s.st.progressions = gather-length _ s.st.progressions ∙ sum_constant 8 s.st.progressions in
      let m : length (parts s ++ lasts s) ≡ length (parts s) + length (lasts s) = length-append (parts s) (lasts s) in
      let e = parts-length in
      rw (length-append (tile_row s.st) (parts s ++ lasts s), m) (omega arith)

  -- eight words, of four bytes, for each record
  pub written-length : length (written s) ≡ 32 * (1 + records_before s.st comps + s.st.progressions)
  unfolding written
  written-length = rw (bytes-length (sheet_words s), words_length) (omega arith)

  -- a word of component c's records
  part_word : (c j : ℕ) → c < comps → j < 8 * (1 + res_of s.st c) → get_or (sheet_words s) (8 * (1 + records_before s.st c) + j) 0 ≡ get_or (component_rows s c) j 0
  unfolding sheet_words
  part_word c j h l =
      let e = words_before c in
      let n = part_length c in
      let at : 8 * (1 + records_before s.st c) + j ≡ length (tile_row s.st) + (sum_below (λ i. length (component_rows s i)) c + j) = rw e (omega arith) in
      let k : sum_below (λ i. length (component_rows s i)) c + length (component_rows s c) ≤ sum_below (λ i. length (component_rows s i)) comps
      = sum_part (λ i. length (component_rows s i)) comps c h in
      let m : sum_below (λ i. length (component_rows s i)) c + j < length (parts s) = rw (gather-length (component_rows s) comps) (omega arith) in
      rw (
        at,
        get_or-append-add (tile_row s.st) (parts s ++ lasts s) (sum_below (λ i. length (component_rows s i)) c + j) 0,
        get_or-append (parts s) (lasts s) 0 (sum_below (λ i. length (component_rows s i)) c + j) m,
      )
      (gather-at (component_rows s) comps c j 0 h (rw n l))

  -- a word of a progression's record
  last_word : (n k : ℕ) → n < s.st.progressions → k < 8
      → get_or (sheet_words s) (8 * (1 + records_before s.st comps + n) + k) 0 ≡ get_or (progression_row (change_of s.st n)) k 0
  unfolding sheet_words
  last_word n k h l =
      let e = parts-length in
      let at : 8 * (1 + records_before s.st comps + n) + k ≡ length (tile_row s.st) + (length (parts s) + (8 * n + k)) = omega arith in
      rw (at, get_or-append-add (tile_row s.st) (parts s ++ lasts s) (length (parts s) + (8 * n + k)) 0, get_or-append-add (parts s) (lasts s) (8 * n + k) 0, ← (sum_constant 8 n))
      (gather-at (λ i. progression_row (change_of s.st i)) s.st.progressions n k 0 h l)

  module _ (small : Bounded (2 ^ 32) (sheet_words s)) where
    -- a word of a record is read where it stands
    word_stands : (i k v : ℕ) → 8 * i + k < length (sheet_words s) → get_or (sheet_words s) (8 * i + k) 0 ≡ v → wd (written s) i k ≡ v
    unfolding written
    word_stands i k v h e =
        let at : 32 * i + 4 * k ≡ 4 * (8 * i + k) = omega arith in
        rw (at, ← (append-nil (words_bytes (sheet_words s)))) (word_of (sheet_words s) [] (8 * i + k) h (small (8 * i + k)) ∙ e)

    -- the words of each record are read where it stands: the tile's, a component's, a resolution's, a progression's
    pub tile-row : Row (written s) 0 (tile_row s.st)
    unfolding sheet_words
    tile-row k h =
        let e = words_length in
        let at : 8 * 0 + k ≡ k = omega arith in
        word_stands 0 k _ (omega arith) (rw at (get_or-append (tile_row s.st) (parts s ++ lasts s) 0 k h))

    module _ (c : ℕ) (h : c < comps) where
      within-length : (j : ℕ) → j < 8 * (1 + res_of s.st c) → 8 * (1 + records_before s.st c) + j < length (sheet_words s)
      unfolding records_before
      within-length j l =
          let e = words_length in
          let m = sum_part (λ i. 1 + res_of s.st i) comps c h in
          omega arith

      pub component-row : Row (written s) (1 + records_before s.st c) (component_row s.st c)
      component-row k l =
          word_stands (1 + records_before s.st c) k _ (within-length k (omega arith))
          (part_word c k h (omega arith) ∙ get_or-append (component_row s.st c) (resolution_rows s c) 0 k l)

      pub resolution_row_lem : (r : ℕ) → r < res_of s.st c → Row (written s) (1 + records_before s.st c + 1 + r) (resolution_row s c r)
      resolution_row_lem r b k l =
          let at : 8 * (1 + records_before s.st c + 1 + r) + k ≡ 8 * (1 + records_before s.st c) + (8 + (8 * r + k)) = omega arith in
          let inner : get_or (component_rows s c) (8 + (8 * r + k)) 0 ≡ get_or (resolution_row s c r) k 0
          = get_or-append-add (component_row s.st c) (resolution_rows s c) (8 * r + k) 0
          ∙ rw (← (sum_constant 8 r)) (gather-at (resolution_row s c) (res_of s.st c) r k 0 b l) in
          word_stands (1 + records_before s.st c + 1 + r) k _ (rw at (within-length (8 + (8 * r + k)) (omega arith)))
          (rw at (part_word c (8 + (8 * r + k)) h (omega arith) ∙ inner))

    pub progression_row_lem : (n : ℕ) → n < s.st.progressions → Row (written s) (1 + records_before s.st comps + n) (progression_row (change_of s.st n))
    progression_row_lem n h k l =
        let e = words_length in
        word_stands (1 + records_before s.st comps + n) k _ (omega arith) (last_word n k h l)

    -- component c's record stands where the reader looks for it
    pub record_at : (c : ℕ) → c ≤ comps → component_record (written s) c ≡ 1 + records_before s.st c
    unfolding component_record records_before sum_below
    record_at zero h = refl
    record_at (suc c) h = rw (record_at c (omega arith), component-row c (omega arith) 3 (omega arith)) (omega arith)
