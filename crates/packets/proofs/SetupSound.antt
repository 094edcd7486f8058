-- Setup's answer is sound: the state and the table that it writes describe the sheet that was read, and meet every test of soundness. Assumes nothing.
use Rattle.std.specs.Prelude.{◌≡◌, List, ℕ, ◌^◌, ◌≤◌, ◌<◌, get_or, leb}
use Rattle.std.proofs.Math.Path.{refl, ap}
use Rattle.std.proofs.Common.{sym, ◌∙◌, arith}
use Rattle.std.proofs.Math.Bool.{true}
use Rattle.std.proofs.Math.ListN.{length}
use borrow.Author.Tests.{leb-true, le-leb, eq-eqb}
use Rattle.laws.specs.Cases.{and_true, and_both}
use Rattle.laws.specs.Pointwise.{all_true}
use Rattle.words.specs.Words.{over}
use Rattle.words.specs.Laws.{Bytes, word_small, over-length}
use Rattle.geometry.specs.Line.{count}
use Rattle.geometry.specs.Hits.{Ordered}
use Rattle.geometry.proofs.Hits.{count-small}
use Rattle.types.specs.Ranges.{within}
use Rattle.packets.specs.Sheet.{wd, fields_of}
use Rattle.packets.specs.Tile.{Sheet, dx_of, dy_of, res_of, level_of, line_x, line_y, width, height, reported, needed, entries_before, table_bytes}
use Rattle.packets.specs.Grid.{grid_agreed}
use Rattle.packets.specs.Table.{entry, table_of, entry_word, sheet_at, sheet_in}
use Rattle.packets.specs.Sound.{tile_good, components_sound, progressions_sound, entry_sound, table_sound, reports_sound, sheet_sound, state_sound}
use Rattle.packets.specs.Readback.{table-length, table_word}
use Rattle.packets.specs.Reading.{Read}
use Rattle.packets.proofs.Fields.{tile-good, component-range, exponent_range_lem, components-sound, progressions-sound}
use Rattle.packets.specs.Alike.{Alike, max_prec-same, max_res-same, dx_min-same, dy_min-same, grid_same}
use Rattle.types.specs.declared.state.State.{State}

-- the sheet b was read without a refusal; the table is laid over `old`, which is long enough
module _ (b : List ℕ) (small : Bytes b) (good : Read b) (old : List ℕ) (room : table_bytes (fields_of b) ≤ length old) where
  abbrev s : Sheet
  s = sheet_in b

  abbrev state : State
  state = reported s

  abbrev table : List ℕ
  table = over (table_of s) old

  abbrev t : Sheet
  t = sheet_at state table

  exponents_small : (c r : ℕ) → c < wd b 0 6 → r < res_of (fields_of b) c → (s.pdx c r ≤ 15) × (s.pdy c r ≤ 15)
  exponents_small c r h k =
      let e = and_true (leb (s.pdx c r) 15) (leb (s.pdy c r) 15) (exponent_range_lem b good c r h k) in
      (leb-true _ _ e.0, leb-true _ _ e.1)

  tile_ranges : (wd b 0 1 ≤ wd b 0 3) × (wd b 0 2 ≤ wd b 0 4)
  unfolding fields_of
  tile_ranges =
      let a = and_true (leb (wd b 0 1) (wd b 0 3)) _ (tile-good b good) in
      (leb-true _ _ a.0, leb-true _ _ (and_true (leb (wd b 0 2) (wd b 0 4)) _ a.1).0)

  steps_ranges : (c : ℕ) → c < wd b 0 6 → (1 ≤ dx_of (fields_of b) c) × (1 ≤ dy_of (fields_of b) c) × (1 ≤ res_of (fields_of b) c)
  steps_ranges c h =
      let st : State = fields_of b in
      let a = and_true (within 1 255 (dx_of st c)) _ (component-range b good c h) in
      let d = and_true (within 1 255 (dy_of st c)) (within 1 33 (res_of st c)) a.1 in
      (leb-true 1 _ (and_true (leb 1 (dx_of st c)) _ a.0).0, leb-true 1 _ (and_true (leb 1 (dy_of st c)) _ d.0).0, leb-true 1 _ (and_true (leb 1 (res_of st c)) _ d.1).0)

  -- the words of an entry fit 32 bits
  width-small : (c r : ℕ) → c < wd b 0 6 → width s c r < 2 ^ 32
  unfolding fields_of
  width-small c r h =
      let o : Ordered (line_x s c r) = record { positive = (steps_ranges c h).0; upward = tile_ranges.0 } in
      omega (arith, count-small (line_x s c r) o, word_small b small 12)

  height-small : (c r : ℕ) → c < wd b 0 6 → height s c r < 2 ^ 32
  unfolding fields_of
  height-small c r h =
      let o : Ordered (line_y s c r) = record { positive = (steps_ranges c h).1; upward = tile_ranges.1 } in
      omega (arith, count-small (line_y s c r) o, word_small b small 16)

  -- an entry is read back, so that the table's resolutions see the sheet's axes
  module _ (c r : ℕ) (h : c < wd b 0 6) (k : r < res_of (fields_of b) c) where
    back : (w : ℕ) → w < 4 → get_or (entry s c r) w 0 < 2 ^ 32 → entry_word state table w c r ≡ get_or (entry s c r) w 0
    unfolding reported fields_of entries_before
    back w l e = table_word s c r w h k l old e

    same_pdx : entry_word state table 0 c r ≡ s.pdx c r
    same_pdx = back 0 (omega arith) (omega (arith, (exponents_small c r h k).0))

    same_pdy : entry_word state table 1 c r ≡ s.pdy c r
    same_pdy = back 1 (omega arith) (omega (arith, (exponents_small c r h k).1))

    same-line_x : line_x t c r ≡ line_x s c r
    unfolding reported fields_of
    same-line_x = λ i. record { t0 = wd b 0 1; t1 = wd b 0 3; d = dx_of (fields_of b) c; level = level_of (fields_of b) c r; pd = same_pdx i }

    same-line_y : line_y t c r ≡ line_y s c r
    unfolding reported fields_of
    same-line_y = λ i. record { t0 = wd b 0 2; t1 = wd b 0 4; d = dy_of (fields_of b) c; level = level_of (fields_of b) c r; pd = same_pdy i }

    entry-sound : entry_sound state table c r ≡ true
    unfolding entry_sound
    entry-sound =
        let wide : entry_word state table 2 c r ≡ width t c r = back 2 (omega arith) (width-small c r h) ∙ ap count (sym same-line_x) in
        let high : entry_word state table 3 c r ≡ height t c r = back 3 (omega arith) (height-small c r h) ∙ ap count (sym same-line_y) in
        let low_x : entry_word state table 0 c r ≤ 15 = rw same_pdx (exponents_small c r h k).0 in
        let low-y : entry_word state table 1 c r ≤ 15 = rw same_pdy (exponents_small c r h k).1 in
        and_both (and_both (le-leb _ _ low_x) (le-leb _ _ low-y))
        (and_both (eq-eqb _ _ wide) (eq-eqb _ _ high))

  pub setup-alike : Alike t s
  unfolding reported fields_of
  setup-alike = record { resolutions = refl; components = refl; same_x = same-line_x; same_y = same-line_y }

  table-sound : table_sound state table ≡ true
  unfolding table_sound reported fields_of entries_before
  table-sound =
      let long : length table ≡ length old = over-length (table_of s) old (rw (table-length s) room) in
      let enough : table_bytes (fields_of b) ≤ length table = rw long room in
      and_both (le-leb _ _ enough) (all_true _ (wd b 0 6) (λ c h. all_true (entry_sound state table c) (res_of (fields_of b) c) (λ r k. entry-sound c r h k)))

  reports_sound_lem : reports_sound t ≡ true
  unfolding reports_sound reported
  reports_sound_lem =
      and_both (eq-eqb _ _ (sym (max_prec-same t s setup-alike)))
      (and_both (eq-eqb _ _ (sym (max_res-same t s setup-alike)))
      (and_both (eq-eqb _ _ (sym (dx_min-same t s setup-alike))) (eq-eqb _ _ (sym (dy_min-same t s setup-alike)))))

  some_components : 0 < wd b 0 6
  unfolding fields_of
  some_components =
      let st : State = fields_of b in
      let a = (and_true (leb st.tx0 st.tx1) _ (tile-good b good)).1 in
      let d = (and_true (leb st.ty0 st.ty1) _ a).1 in
      let e = (and_true (within 1 65535 st.layers) _ d).1 in
      leb-true 1 _ (and_true (leb 1 st.components) _ (and_true (within 1 16 st.components) _ e).0).0

  grid_sound : grid_agreed s ≡ true → grid_agreed t ≡ true
  unfolding reported fields_of
  grid_sound g = grid_same t s setup-alike some_components (λ c h. (steps_ranges c h).2) refl refl ∙ g

  -- SETUP'S ANSWER IS SOUND, for any marks that suffice
  pub setup-sound : (marks : List ℕ) → grid_agreed s ≡ true → needed state ≤ 65536 → needed state ≤ length marks → state_sound state table marks ≡ true
  unfolding sheet_sound state_sound
  setup-sound marks g n m =
      and_both
      (and_both fine-tile
      (and_both fine-components (and_both fine-progressions (and_both table-sound (and_both reports_sound_lem (and_both (grid_sound g) (le-leb _ _ n)))))))
      (le-leb _ _ m)
    where
      fine-tile : tile_good state ≡ true
      fine-tile = unfold reported in tile-good b good

      fine-components : components_sound state ≡ true
      fine-components = unfold reported components_sound in components-sound b good

      fine-progressions : progressions_sound state ≡ true
      fine-progressions = unfold reported progressions_sound in progressions-sound b good
