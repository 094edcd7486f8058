-- The sheet written from a sound state and its table is read without a refusal. Assumes nothing.
use Rattle.std.specs.Prelude.{◌≡◌, List, ◌++◌, ℕ, ◌+◌, ◌*◌, ◌^◌, ◌≤◌, ◌<◌}
use native.Mathlib.Omega.{arith}
use Rattle.laws.specs.Below.{sum_below, sum_most}
use Rattle.laws.specs.Bounded.{Bounded, bounded-each, bounded-append, bounded-gather}
use Rattle.words.specs.Laws.{Bytes}
use Rattle.words.specs.Exact.{words_are_bytes}
use Rattle.packets.specs.Sheet.{wd, component_record, resolution_record, progression_record}
use Rattle.packets.specs.Tile.{Sheet, res_of}
use Rattle.packets.specs.Grid.{change_of}
use Rattle.packets.specs.Table.{sheet_at}
use Rattle.packets.specs.Reading.{Read}
use Rattle.packets.specs.Meaning.{Sound}
use Rattle.packets.specs.Written.{tile_row, component_row, resolution_row, progression_row, resolution_rows, component_rows, parts, lasts, sheet_words, written, records_before, Row, written-length, tile-row, component-row, resolution_row_lem, progression_row_lem, record_at}
use Rattle.packets.specs.Rows.{unsigned-small, tile-fine, component-fine, resolution_fine, progression_fine}
use Rattle.types.specs.declared.state.State.{State}
use Rattle.packets.specs.Rebuilt.{Formed}

-- the sheet s, and its bytes b
module _ (st : State) (table marks : List ℕ) (formed : Formed st) (sound : Sound st table marks) where
  abbrev pub s : Sheet
  s = sheet_at st table

  abbrev pub b : List ℕ
  b = written s

  -- every word of every record fits
  tile-small : Bounded (2 ^ 32) (tile_row st)
  tile-small = bounded-each (2 ^ 32) (tile_row st) (omega arith) (search arith depth 24)

  component-small : (c : ℕ) → Bounded (2 ^ 32) (component_row st c)
  component-small c =
      let f = formed.comps.1 c in
      bounded-each (2 ^ 32) (component_row st c) (omega arith) (search arith depth 24)

  resolution_small : (c r : ℕ) → c < st.components → r < res_of st c → Bounded (2 ^ 32) (resolution_row s c r)
  resolution_small c r h k =
      let e = sound.entry c h r k in
      bounded-each (2 ^ 32) (resolution_row s c r) (omega arith) (search arith depth 24)

  progression_small : (k : ℕ) → Bounded (2 ^ 32) (progression_row (change_of st k))
  progression_small k =
      let f = formed.changes.1 k in
      let u = unsigned-small (change_of st k).prg f.prg in
      bounded-each (2 ^ 32) (progression_row (change_of st k)) (omega arith) (search arith depth 24)

  small : Bounded (2 ^ 32) (sheet_words s)
  unfolding sheet_words
  small =
      bounded-append (2 ^ 32) (tile_row st) (parts s ++ lasts s) tile-small
      (bounded-append (2 ^ 32) (parts s) (lasts s)
      (bounded-gather (2 ^ 32) (component_rows s) st.components (omega arith)
      (λ c h.
      bounded-append (2 ^ 32) (component_row st c) (resolution_rows s c) (component-small c)
      (bounded-gather (2 ^ 32) (resolution_row s c) (res_of st c) (omega arith) (λ r k. resolution_small c r h k))))
      (bounded-gather (2 ^ 32) (λ k. progression_row (change_of st k)) st.progressions (omega arith) (λ k h. progression_small k)))

  -- every record is found where the reader looks for it
  pub tile_says : Row b 0 (tile_row st)
  tile_says = tile-row s small

  pub components_are : wd b 0 6 ≡ st.components
  components_are = tile_says 6 (omega arith)

  pub progressions_are : wd b 0 7 ≡ st.progressions
  progressions_are = tile_says 7 (omega arith)

  pub component_says : (c : ℕ) → c < st.components → Row b (component_record b c) (component_row st c)
  component_says c h = rw (record_at s small c (omega arith)) (component-row s small c h)

  pub resolution_says : (c r : ℕ) → c < st.components → r < res_of st c → Row b (resolution_record b c r) (resolution_row s c r)
  resolution_says c r h l = rw (record_at s small c (omega arith)) (resolution_row_lem s small c h r l)

  pub progression_says : (k : ℕ) → k < st.progressions → Row b (progression_record b k) (progression_row (change_of st k))
  progression_says k h = rw (components_are, record_at s small st.components (omega arith)) (progression_row_lem s small k h)

  -- 01: at most 577 records
  few_records : 1 + records_before st st.components + st.progressions ≤ 577
  unfolding records_before
  few_records =
      let t = sound.tile in
      let h : sum_below (λ i. 1 + res_of st i) st.components ≤ 34 * st.components
      = sum_most (λ i. 1 + res_of st i) 34 st.components (λ i l. omega (arith, (sound.component i l).resolutions.1)) in
      omega arith

  -- the sheet is read without a refusal
  pub reads : Read b
  reads =
      record {
        tile = tile-fine b 0 st tile_says sound.tile;
        component = λ c h. let l : c < st.components = rw components_are at h in component-fine b (component_record b c) st c (component_says c l) (sound.component c l);
        resolution =
            λ c r h k.
            let l : c < st.components = rw components_are at h in
            let m : r < res_of st c = rw (component_says c l 3 (omega arith)) at k in
            let e = sound.entry c l r m in
            resolution_fine b (resolution_record b c r) s c r (resolution_says c r l m) e.pdx e.pdy;
        progression =
            λ k h.
            let l : k < st.progressions = rw progressions_are at h in
            rw progressions_are (progression_fine b (progression_record b k) st (change_of st k) (progression_says k l) (sound.progression k l));
        size = rw (progressions_are, components_are, record_at s small st.components (omega arith)) (written-length s);
        short = rw (written-length s) (omega (arith, few_records));
      }

  -- its bytes are bytes
  pub bytes-fit : Bytes b
  unfolding written
  bytes-fit = words_are_bytes (sheet_words s) small
