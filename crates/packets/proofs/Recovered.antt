-- The sheet written from a sound state and its table says what they say: setup answers that state and writes that table. Assumes nothing.
use Rattle.std.specs.Prelude.{◌≡◌, true}
use Rattle.std.proofs.Math.Path.{sym, ap}
use Rattle.std.proofs.Common.{◌∙◌}
use mathlib.Core.List.{List, map}
use Prim.Native.Nat.{ℕ, zero, suc, ◌+◌, ◌-◌, ◌*◌, ◌<◌}
use native.Mathlib.Omega.{arith}
use Rattle.std.proofs.Math.ListN.{length, get_or, take}
use Rattle.laws.specs.Gather.{gather}
use Rattle.laws.specs.Axis.{span}
use Rattle.laws.specs.Below.{sum_below}
use Rattle.laws.specs.Indexing.{gather-length, sum_times, sum-same, sum_constant}
use Rattle.laws.specs.Bounded.{gather-all, filled_is}
use Rattle.words.specs.Words.{word_at, words_bytes}
use Rattle.words.specs.Laws.{Bytes}
use Rattle.words.specs.Exact.{words_from}
use Rattle.geometry.specs.Line.{count}
use Rattle.types.specs.State.{no_component, no_progression}
use Rattle.types.specs.declared.state.Component.{Component}
use Rattle.packets.specs.Sheet.{progression_record, fields_of}
use Rattle.packets.specs.Tile.{component_of, res_of, reported, entries_before, table_bytes}
use Rattle.packets.specs.Grid.{change_of, grid_agreed}
use Rattle.packets.specs.Table.{entry, table_of, entry_word, sheet_at, sheet_in}
use Rattle.packets.specs.Alike.{Alike, max_prec-same, max_res-same, dx_min-same, dy_min-same, grid_same}
use Rattle.packets.specs.Meaning.{Sound, grid_means}
use Rattle.packets.specs.Written.{tile_row, written, Row}
use Rattle.packets.specs.Rebuilt.{Formed}
use Rattle.packets.proofs.Rebuilt.{tile_says, component_says, resolution_says, progression_says}
use Rattle.packets.specs.Rows.{progression_back}
use Rattle.types.specs.declared.state.State.{State}

module _ (st : State) (table marks : List ℕ) (formed : Formed st) (sound : Sound st table marks) where
  abbrev pub b : List ℕ
  b = written (sheet_at st table)

  abbrev tile : Row b 0 (tile_row st)
  tile = tile_says st table marks formed sound

  -- the arrays
  comps_same : st.comps ≡ (fields_of b).comps
  unfolding fields_of
  comps_same =
      rw (tile 6 (omega arith))
      (sym
      (filled_is _ 16 st.components no_component st.comps formed.comps.0 sound.tile.components.1
      (λ c m.
      let says = component_says st table marks formed sound c m in
      let dx = says 1 (omega arith) in
      let dy = says 2 (omega arith) in
      let resolutions = says 3 (omega arith) in
      λ i. record { dx = dx i; dy = dy i; resolutions = resolutions i })
      (λ c l h.
      let n = sound.component_beyond c l h in
      λ i. record { dx = n.dx i; dy = n.dy i; resolutions = n.resolutions i })))

  -- what component c says
  of_component : {A : Type 0} (f : Component → A) (c : ℕ) → f (component_of st c) ≡ f (component_of (fields_of b) c)
  of_component f c = ap (λ (l : List Component). f (get_or l c no_component)) comps_same

  changes_same : st.changes ≡ (fields_of b).changes
  unfolding fields_of
  changes_same =
      rw (tile 7 (omega arith))
      (sym
      (filled_is _ 32 st.progressions no_progression st.changes formed.changes.0 sound.tile.progressions.1
      (λ k h. progression_back b (progression_record b k) (change_of st k) (progression_says st table marks formed sound k h) (formed.changes.1 k).prg)
      sound.progression_beyond))

  -- the resolutions see the axes that the table's see
  alike : Alike (sheet_at st table) (sheet_in b)
  unfolding fields_of
  alike =
      record {
        resolutions = ap (map (λ (t : Component). t.resolutions)) comps_same;
        components = sym (tile 6 (omega arith));
        same_x =
            λ c r h l.
            let t0 = sym (tile 1 (omega arith)) in
            let t1 = sym (tile 3 (omega arith)) in
            let pd = sym (resolution_says st table marks formed sound c r h l 1 (omega arith)) in
            λ i. record { t0 = t0 i; t1 = t1 i; d = of_component (λ (t : Component). t.dx) c i; level = of_component (λ (t : Component). t.resolutions) c i - 1 - r; pd = pd i };
        same_y =
            λ c r h l.
            let t0 = sym (tile 2 (omega arith)) in
            let t1 = sym (tile 4 (omega arith)) in
            let pd = sym (resolution_says st table marks formed sound c r h l 2 (omega arith)) in
            λ i. record { t0 = t0 i; t1 = t1 i; d = of_component (λ (t : Component). t.dy) c i; level = of_component (λ (t : Component). t.resolutions) c i - 1 - r; pd = pd i };
      }

  -- so the state is the sheet's, with what setup reports
  pub answers : st ≡ reported (sheet_in b)
  unfolding reported fields_of
  answers =
      let tx0 = sym (tile 1 (omega arith)) in
      let ty0 = sym (tile 2 (omega arith)) in
      let tx1 = sym (tile 3 (omega arith)) in
      let ty1 = sym (tile 4 (omega arith)) in
      let layers = sym (tile 5 (omega arith)) in
      let components = sym (tile 6 (omega arith)) in
      let progressions = sym (tile 7 (omega arith)) in
      let most = sound.most ∙ max_prec-same (sheet_at st table) (sheet_in b) alike in
      let deepest = sound.deepest ∙ max_res-same (sheet_at st table) (sheet_in b) alike in
      let least_x = sound.least_x ∙ dx_min-same (sheet_at st table) (sheet_in b) alike in
      let least_y = sound.least_y ∙ dy_min-same (sheet_at st table) (sheet_in b) alike in
      λ i.
      record {
        tx0 = tx0 i;
        ty0 = ty0 i;
        tx1 = tx1 i;
        ty1 = ty1 i;
        layers = layers i;
        components = components i;
        progressions = progressions i;
        comps = comps_same i;
        changes = changes_same i;
        reports = record { max_prec = most i; max_res = deepest i; dx_min = least_x i; dy_min = least_y i };
      }

  -- its grid is agreed
  pub agrees : grid_agreed (sheet_in b) ≡ true
  unfolding fields_of
  agrees =
      sym
      (grid_same (sheet_at st table) (sheet_in b) alike sound.tile.components.0 (λ c h. (sound.component c h).resolutions.0) changes_same (sym (tile 7 (omega arith))))
      ∙ (grid_means (sheet_at st table)).1 sound.grid

  -- and the table holds the words that setup writes
  entry-back : (c r k : ℕ) → c < st.components → r < res_of st c → k < 4 → entry_word st table k c r ≡ get_or (entry (sheet_in b) c r) k 0
  entry-back c r zero h l m = sym (resolution_says st table marks formed sound c r h l 1 (omega arith))
  entry-back c r (suc zero) h l m = sym (resolution_says st table marks formed sound c r h l 2 (omega arith))
  entry-back c r (suc (suc zero)) h l m = (sound.entry c h r l).wide ∙ ap count (alike.same_x c r h l)
  entry-back c r (suc (suc (suc zero))) h l m = (sound.entry c h r l).high ∙ ap count (alike.same_y c r h l)
  entry-back c r (suc (suc (suc (suc k)))) h l m = omega arith

  abbrev entries : ℕ → List ℕ
  entries c = gather (entry (sheet_in b) c) (span 0 (res_of st c))

  words_before : (c : ℕ) → sum_below (λ i. length (entries i)) c ≡ 4 * entries_before st c
  unfolding entries_before
  words_before c =
      sum-same _ (λ i. 4 * res_of st i) c (λ i. gather-length (entry (sheet_in b) i) (res_of st i) ∙ sum_constant 4 (res_of st i)) ∙ sum_times 4 (res_of st) c

  each_word : (i : ℕ) → i < length (gather entries (span 0 st.components)) → word_at table (0 + 4 * i) ≡ get_or (gather entries (span 0 st.components)) i 0
  each_word =
      gather-all entries 0 (λ i v. word_at table (0 + 4 * i) ≡ v) st.components
      (λ c j h l.
      gather-all (entry (sheet_in b) c) 0 (λ j v. word_at table (0 + 4 * (sum_below (λ i. length (entries i)) c + j)) ≡ v) (res_of st c)
      (λ r k m n.
      let x = words_before c in
      let y = sum_constant 4 r in
      let at : 0 + 4 * (sum_below (λ i. length (entries i)) c + (sum_below (λ i. 4) r + k)) ≡ 16 * (entries_before st c + r) + 4 * k = omega arith in
      rw at (entry-back c r k h m n))
      j l)

  pub table-back : Bytes table → take (table_bytes st) table ≡ table_of (sheet_in b)
  unfolding table_of fields_of
  table-back bytes =
      let ws : List ℕ = gather entries (span 0 st.components) in
      let n : length ws ≡ 4 * entries_before st st.components = gather-length entries st.components ∙ words_before st.components in
      let long = sound.table_long in
      let m : 0 + 4 * length ws ≡ table_bytes st = omega arith in
      let e : words_bytes ws ≡ take (0 + 4 * length ws) table = words_from table bytes ws 0 (omega arith) each_word in
      let components = sym (tile 6 (omega arith)) in
      ap (λ (k : ℕ). take k table) (sym m) ∙ sym e
      ∙ (λ i. words_bytes (gather (λ c. gather (entry (sheet_in b) c) (span 0 (of_component (λ (t : Component). t.resolutions) c i))) (span 0 (components i))))
