-- What a survey is of a table and of a sheet: over entries it is of the sheet that a state and a table describe, over records of what the bytes of the sheet say.
-- Assumes nothing.
use Rattle.std.specs.Prelude.{◌≡◌, Bool, ◌&&◌, length, eqb}
use Rattle.std.proofs.Math.Path.{refl, fun_ext}
use Rattle.std.proofs.Common.{ap, ◌∙◌, le-mul_of_pos_right, mul_comm}
use Rattle.std.proofs.Math.Bool.{true, false, cond}
use Rattle.std.specs.Prelude.{Some}
use mathlib.Core.List.{List, [], ◌∷◌}
use Prim.Native.Nat.{ℕ, zero, suc, ◌+◌, ◌*◌, ◌≤◌, ◌<◌}
use native.Mathlib.Omega.{arith}
use Rattle.std.proofs.Math.Dec.{leb}
use borrow.Author.Tests.{leb-true, le-leb}
use Rattle.laws.specs.Cases.{and_true}
use Rattle.laws.specs.Below.{all_below, all-at, sum_below, sum_most}
use Rattle.laws.specs.Pointwise.{all_true, span-same}
use Rattle.words.specs.Words.{word_at, over}
use Rattle.geometry.specs.Line.{count}
use Rattle.types.specs.Ranges.{within, component_range, exponent_range}
use Rattle.packets.specs.Sheet.{wd, component_record, resolution_record, fields_of}
use Rattle.packets.specs.Tile.{Sheet, dx_of, dy_of, res_of, level_of, width, height, max_prec, max_res, dx_min, dy_min, reported, needed, entries_before}
use Rattle.packets.specs.Grid.{grid_agreed}
use Rattle.packets.specs.Table.{entry, table_words, entry_word, sheet_at, sheet_in}
use Rattle.packets.specs.Sound.{entry_sound}
use Rattle.packets.specs.Readback.{words_length}
use Rattle.packets.specs.Reading.{Read}
use Rattle.packets.proofs.Fields.{res_is, tile-good, component-range, exponent_range_lem}
use Rattle.packets.specs.Alike.{Alike, max_prec-same, dx_min-same, dy_min-same, grid_same}
use Rattle.types.specs.declared.state.State.{State}
use Rattle.survey.specs.declared.Source.{Source}
use Rattle.survey.specs.declared.Source.TheVariants.{Records, Entries}
use Rattle.survey.specs.Survey.{place_of, sheet_from, entry_good, survey_good, surveyed, survey_of, kept_of}
use Rattle.survey.specs.Capped.{capped, few_of}
use Rattle.survey.specs.Put.{put-over}
use Rattle.survey.specs.Ranges.{in_range_lem}

-- KEPT: a table has at most 528 entries, and with room for the words of so many all of its own are kept
module _ (e : List ℕ) (at : Source) (check : Bool) (st : State) (old : List ℕ) (good : survey_good e at check st ≡ true) (room : 2112 ≤ length old) where
  words_fit : length (table_words (sheet_from e at st)) ≤ length old
  unfolding survey_good entries_before
  words_fit =
      let few = and_true (leb st.components 16) _ good in
      let all = and_true (all_below (λ c. component_range (dx_of st c) (dy_of st c) (res_of st c)) st.components) _ few.1 in
      let each : (c : ℕ) → c < st.components → res_of st c ≤ 33 = λ c h. (in_range_lem (dx_of st c) (dy_of st c) (res_of st c) (all-at _ st.components all.0 c h)).n_high in
      omega (arith, words_length (sheet_from e at st) st.components, sum_most (res_of st) 33 st.components each, leb-true st.components 16 few.0)

  pub kept-over : kept_of e at check st old ≡ over (table_words (sheet_from e at st)) old
  unfolding kept_of
  kept-over = rw good (put-over (table_words (sheet_from e at st)) old words_fit)

-- ENTRIES: the first word of an entry
first_word : (e : List ℕ) (st : State) (c r : ℕ) → word_at e (place_of Entries st c r) ≡ entry_word st e 0 c r
first_word e st c r = ap (word_at e) (omega arith)

pub survey_entries : (e : List ℕ) (st : State) → sheet_from e Entries st ≡ sheet_at st e
survey_entries e st = λ i. record { st = st; pdx = fun_ext (λ c. fun_ext (first_word e st c)) i; pdy = entry_word st e 1 }

-- with their sizes checked they are sound
pub entries-sound : (e : List ℕ) (st : State) (c r : ℕ) → entry_good e Entries true st c r ≡ entry_sound st e c r
unfolding entry_sound
entries-sound e st c r =
    λ i.
    exponent_range (first_word e st c r i) (entry_word st e 1 c r)
    && (eqb (entry_word st e 2 c r) (width (survey_entries e st i) c r) && eqb (entry_word st e 3 c r) (height (survey_entries e st i) c r))

-- RECORDS: each component's record stands after those of the components before and of their resolutions
module _ (b : List ℕ) where
  record_is : (c : ℕ) → c ≤ wd b 0 6 → component_record b c ≡ 1 + c + entries_before (fields_of b) c
  unfolding component_record entries_before sum_below
  record_is zero h = refl
  record_is (suc c) h =
      let more : res_of (fields_of b) c ≡ wd b (component_record b c) 3 = res_is b c h in
      let before : component_record b c ≡ 1 + c + entries_before (fields_of b) c = record_is c (omega arith) in
      omega arith

  abbrev there : Sheet
  there = sheet_from b Records (fields_of b)

  record_place : (c r : ℕ) → c < wd b 0 6 → place_of Records (fields_of b) c r ≡ 32 * resolution_record b c r + 4
  record_place c r h = let e = record_is c (omega arith) in omega arith

  record_x : (c r : ℕ) → c < wd b 0 6 → there.pdx c r ≡ wd b (resolution_record b c r) 1
  record_x c r h = ap (word_at b) (record_place c r h)

  record_y : (c r : ℕ) → c < wd b 0 6 → there.pdy c r ≡ wd b (resolution_record b c r) 2
  record_y c r h = ap (word_at b) (let e = record_place c r h in omega arith)

  -- the exponents read are those of the sheet
  pub survey_records : Alike there (sheet_in b)
  unfolding fields_of
  survey_records =
      record {
        resolutions = refl;
        components = refl;
        same_x = λ c r h k. λ i. record { t0 = there.st.tx0; t1 = there.st.tx1; d = dx_of there.st c; level = level_of there.st c r; pd = record_x c r h i };
        same_y = λ c r h k. λ i. record { t0 = there.st.ty0; t1 = there.st.ty1; d = dy_of there.st c; level = level_of there.st c r; pd = record_y c r h i };
      }

  -- a sheet that is read has nothing out of range
  module _ (read : Read b) where
    counts : (1 ≤ wd b 0 6) × (wd b 0 6 ≤ 16)
    unfolding fields_of
    counts =
        let x = and_true (leb (wd b 0 1) (wd b 0 3)) _ (tile-good b read) in
        let y = and_true (leb (wd b 0 2) (wd b 0 4)) _ x.1 in
        let l = and_true (within 1 65535 (wd b 0 5)) _ y.1 in
        let c = and_true (within 1 16 (wd b 0 6)) _ l.1 in
        let w = and_true (leb 1 (wd b 0 6)) (leb (wd b 0 6) 16) c.0 in
        (leb-true _ _ w.0, leb-true _ _ w.1)

    pub records_good : survey_good b Records false (fields_of b) ≡ true
    unfolding survey_good fields_of
    records_good =
        let few : wd b 0 6 ≤ 16 = counts.1 in
        rw (le-leb (wd b 0 6) 16 few, all_true (λ c. component_range (dx_of (fields_of b) c) (dy_of (fields_of b) c) (res_of (fields_of b) c)) (wd b 0 6) (component-range b read))
        (all_true _ (wd b 0 6) (λ c h. all_true (entry_good b Records false (fields_of b) c) (res_of (fields_of b) c) (λ r l. fine c r h l)))
      where
        fine : (c r : ℕ) → c < wd b 0 6 → r < res_of (fields_of b) c → entry_good b Records false (fields_of b) c r ≡ true
        fine c r h l = rw (record_x c r h, record_y c r h, exponent_range_lem b read c r h l)

    res_above : (c : ℕ) → c < wd b 0 6 → 0 < res_of (fields_of b) c
    res_above c h = (in_range_lem (dx_of (fields_of b) c) (dy_of (fields_of b) c) (res_of (fields_of b) c) (component-range b read c h)).n_low

    -- so its survey finds what is found of the sheet
    pub records_survey : survey_of b Records false (fields_of b) ≡ Some (surveyed (sheet_in b))
    unfolding survey_of needed reported fields_of
    records_survey =
        let prec : max_prec there ≡ max_prec (sheet_in b) = max_prec-same there (sheet_in b) survey_records in
        let grid : grid_agreed there ≡ grid_agreed (sheet_in b) = grid_same there (sheet_in b) survey_records counts.0 res_above refl refl in
        let x : dx_min there ≡ dx_min (sheet_in b) = dx_min-same there (sheet_in b) survey_records in
        let y : dy_min there ≡ dy_min (sheet_in b) = dy_min-same there (sheet_in b) survey_records in
        let marks : ℕ → ℕ = λ p. (fields_of b).layers * (max_res (fields_of b) * ((fields_of b).components * p)) in
        rw records_good
        (λ i.
        Some
        (record {
          grid = grid i;
          needed = few_of (marks (prec i));
          reports = record { max_prec = cond (leb (marks (prec i)) 65536) (capped (prec i)) 0; max_res = max_res (fields_of b); dx_min = x i; dy_min = y i };
        }))

    -- and what it keeps is the sheet's table
    same-entry : (c r : ℕ) → c < wd b 0 6 → r < res_of (fields_of b) c → entry there c r ≡ entry (sheet_in b) c r
    unfolding fields_of
    same-entry c r h l =
        let x = survey_records.same_x c r h l in
        let y = survey_records.same_y c r h l in
        λ i. (x i).pd ∷ (y i).pd ∷ count (x i) ∷ count (y i) ∷ []

    same_words : table_words there ≡ table_words (sheet_in b)
    unfolding fields_of
    same_words = span-same _ _ (wd b 0 6) (λ c h. span-same (entry there c) (entry (sheet_in b) c) (res_of (fields_of b) c) (λ r l. same-entry c r h l))

    pub records_kept : (old : List ℕ) → 2112 ≤ length old → kept_of b Records false (fields_of b) old ≡ over (table_words (sheet_in b)) old
    records_kept old room = kept-over b Records false (fields_of b) old records_good room ∙ ap (λ (ws : List ℕ). over ws old) same_words

-- the largest precinct count is at most the marks needed, unless there are none of the other factors: so it is exact where these are few
pub prec_exact : (s : Sheet) → 1 ≤ s.st.layers → 1 ≤ max_res s.st → 1 ≤ s.st.components → leb (needed (reported s)) 65536 ≡ true
    → capped (max_prec s) ≡ max_prec s
unfolding needed reported
prec_exact s l r c few =
    omega (arith, leb-true (s.st.layers * (max_res s.st * (s.st.components * max_prec s))) 65536 few, grows s.st.components (max_prec s) c, grows (max_res s.st) (s.st.components * max_prec s) r, grows s.st.layers (max_res s.st * (s.st.components * max_prec s)) l)
  where
    grows : (a n : ℕ) → 1 ≤ a → n ≤ a * n
    grows a n h = rw (mul_comm a n) (le-mul_of_pos_right n h)
