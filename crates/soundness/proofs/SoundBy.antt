-- What a survey of a table finds, with the fields of a state in range, is what soundness tests. Assumes nothing.
use Rattle.std.specs.Prelude.{Some, None}
use Rattle.std.proofs.lemmas.Option.{cond_some}
use mathlib.Core.Path.{◌≡◌, refl, sym, ap, ◌∙◌}
use mathlib.Core.Bool.{Bool, true, false, cond, ◌&&◌, true≢false}
use mathlib.Core.List.{List}
use Prim.Native.Nat.{ℕ, ◌*◌, ◌≤◌, ◌<◌, min}
use native.Mathlib.Omega.{arith}
use lib.ListN.{length}
use lib.Dec.{leb, eqb}
use borrow.Author.Tests.{le-leb, lt-leb, leb-true, eqb-true, eq-eqb}
use Rattle.laws.specs.Cases.{and_true, and_false, split}
use Rattle.laws.specs.Below.{all_below, all-at, sum_below, sum_most, max-at}
use Rattle.types.specs.Ranges.{within, component_range}
use Rattle.packets.specs.Tile.{Sheet, dx_of, dy_of, res_of, max_prec, max_res, reported, needed, entries_before}
use Rattle.packets.specs.Grid.{everywhere, grid_agreed}
use Rattle.packets.specs.Table.{sheet_at}
use Rattle.packets.specs.Sound.{tile_good, components_sound, progressions_sound, table_sound, reports_sound, sheet_sound}
use Rattle.types.specs.declared.state.State.{State}
use Rattle.types.specs.declared.state.Reports.{Reports}
use Rattle.survey.specs.declared.Findings.{Findings}
use Rattle.survey.specs.declared.Source.TheVariants.{Entries}
use Rattle.survey.proofs.Components.{cond_none}
use Rattle.survey.specs.Capped.{capped, few_of}
use Rattle.survey.specs.Survey.{survey_good, surveyed, survey_of}
use Rattle.survey.specs.Sources.{survey_entries, entries-sound, prec_exact}
use Rattle.soundness.specs.Needs.{judged_of}
use Rattle.soundness.proofs.InRange.{tile-counts, tile_some}

-- the tests of the state's own fields
abbrev pub fields_test : State → Bool
fields_test st = tile_good st && (components_sound st && progressions_sound st)

-- reports are compared number by number
abbrev same_reports : Reports → Reports → Bool
same_reports a b = eqb a.max_prec b.max_prec && (eqb a.max_res b.max_res && (eqb a.dx_min b.dx_min && eqb a.dy_min b.dy_min))

same_told : (a b : Reports) → same_reports a b ≡ true → a ≡ b
same_told a b e =
    let p = and_true (eqb a.max_prec b.max_prec) _ e in
    let r = and_true (eqb a.max_res b.max_res) _ p.1 in
    let d = and_true (eqb a.dx_min b.dx_min) (eqb a.dy_min b.dy_min) r.1 in
    λ i.
    record {
      max_prec = eqb-true a.max_prec b.max_prec p.0 i;
      max_res = eqb-true a.max_res b.max_res r.0 i;
      dx_min = eqb-true a.dx_min b.dx_min d.0 i;
      dy_min = eqb-true a.dy_min b.dy_min d.1 i;
    }

same_itself : (a : Reports) → same_reports a a ≡ true
same_itself a = rw (eq-eqb a.max_prec _ refl, eq-eqb a.max_res _ refl, eq-eqb a.dx_min _ refl, eq-eqb a.dy_min _ refl)

both_false : (a b c : Bool) → (a && c) ≡ false → (a && (b && c)) ≡ false
both_false true b c e = rw e (and_false b)
both_false false b c e = refl

regroup : (a b c r : Bool) → (a && (b && (c && r))) ≡ ((a && (b && c)) && r)
regroup true true c r = refl
regroup true false c r = refl
regroup false b c r = refl

-- the fields' counts and resolutions have room in the arrays
module _ (st : State) (fields : fields_test st ≡ true) where
  pub few-components : st.components ≤ 16
  few-components = (tile-counts st (and_true (tile_good st) _ fields).0).0

  components-range : all_below (λ c. component_range (dx_of st c) (dy_of st c) (res_of st c)) st.components ≡ true
  unfolding components_sound
  components-range = (and_true _ _ (and_true (components_sound st) (progressions_sound st) (and_true (tile_good st) _ fields).1).0).0

  level-range : (c : ℕ) → c < st.components → (leb 1 (res_of st c) ≡ true) × (leb (res_of st c) 33 ≡ true)
  level-range c h =
      let a = and_true (within 1 255 (dx_of st c)) _ (all-at _ st.components components-range c h) in
      let d = and_true (within 1 255 (dy_of st c)) (within 1 33 (res_of st c)) a.1 in
      and_true (leb 1 (res_of st c)) (leb (res_of st c) 33) d.1

  pub few_levels : (c : ℕ) → c < st.components → res_of st c ≤ 33
  few_levels c h = leb-true _ 33 (level-range c h).1

  -- so many entries has the table, and they are few
  pub entries_are : (n : ℕ) → n ≡ sum_below (res_of st) (min st.components 16) → (n ≡ sum_below (res_of st) st.components) × (n ≤ 528)
  entries_are n e =
      let k : min st.components 16 ≡ st.components = omega (arith, few-components) in
      let t : n ≡ sum_below (res_of st) st.components = e ∙ ap (sum_below (res_of st)) k in
      (t, omega (arith, t, few-components, sum_most (res_of st) 33 st.components few_levels))

  -- and there is a resolution
  pub some_levels : 1 ≤ max_res st
  unfolding max_res
  some_levels =
      let h : 0 < st.components = (tile_some st (and_true (tile_good st) _ fields).0).1 in
      omega (arith, leb-true 1 (res_of st 0) (level-range 0 h).0, max-at (res_of st) st.components 0 h)

module _ (st : State) (table : List ℕ) where
  abbrev s : Sheet
  s = sheet_at st table

  abbrev rest : Bool
  rest = reports_sound s && (grid_agreed s && leb (needed st) 65536)

  sheet_is : sheet_sound st table ≡ (fields_test st && (table_sound st table && rest))
  unfolding sheet_sound
  sheet_is = regroup (tile_good st) (components_sound st) (progressions_sound st) (table_sound st table && rest)

  -- a state whose fields are not all in range
  pub fields_fail : fields_test st ≡ false → None ≡ judged_of st table
  unfolding judged_of
  fields_fail e = rw (sheet_is, e)

  -- a table that is too short
  pub table_short : length table < 16 * sum_below (res_of st) st.components → None ≡ judged_of st table
  unfolding judged_of table_sound entries_before
  table_short h = rw (sheet_is, lt-leb _ _ h, and_false)

  -- FOUND OF A GOOD TABLE: the reports, the grid and the marks. With the reports right, the marks needed are those found
  needed-same : reports_sound s ≡ true → needed st ≡ needed (reported s)
  unfolding reports_sound needed reported
  needed-same e =
      let a = and_true (eqb st.reports.max_prec (max_prec s)) _ e in
      let d = and_true (eqb st.reports.max_res (max_res st)) _ a.1 in
      λ i. st.layers * (eqb-true st.reports.max_res (max_res st) d.0 i * (st.components * eqb-true st.reports.max_prec (max_prec s) a.0 i))

  -- what a survey says of the marks, where it has the reports of the state
  found_same : fields_test st ≡ true → (surveyed s).reports ≡ st.reports → few_of (needed (reported s)) ≡ cond (reports_sound s && leb (needed st) 65536) (Some (needed st)) None
  unfolding reports_sound reported
  found_same fields same =
      split (leb (needed (reported s)) 65536)
      (λ f.
      let t = tile_some st (and_true (tile_good st) _ fields).0 in
      let exact : capped (max_prec s) ≡ max_prec s = prec_exact s t.0 (some_levels st fields) t.1 f in
      let whole : (surveyed s).reports ≡ (reported s).reports = rw (f, exact) in
      let all : reports_sound s ≡ true = ap (same_reports st.reports) (sym whole ∙ same) ∙ same_itself st.reports in
      let n = needed-same all in
      rw (all, n, f))
      (λ f.
      split (reports_sound s)
      (λ e. let n = needed-same e in rw (e, n, f))
      (λ e. rw (e, f)))

  -- and that the reports are wrong, where it has others
  found_other : fields_test st ≡ true → ((surveyed s).reports ≡ st.reports → ⊥) → (reports_sound s && leb (needed st) 65536) ≡ false
  unfolding reports_sound reported
  found_other fields other =
      split (reports_sound s)
      (λ e.
      split (leb (needed (reported s)) 65536)
      (λ f.
      let t = tile_some st (and_true (tile_good st) _ fields).0 in
      let exact : capped (max_prec s) ≡ max_prec s = prec_exact s t.0 (some_levels st fields) t.1 f in
      absurd (other (rw (f, exact) (sym (same_told st.reports (reported s).reports e)))))
      (λ f. let n = needed-same e in rw (e, n, f)))
      (λ e. rw e)

  -- the survey's own test is the table's
  module _ (fields : fields_test st ≡ true) (room : 16 * sum_below (res_of st) st.components ≤ length table) where
    good_is : survey_good table Entries true st ≡ table_sound st table
    unfolding survey_good table_sound entries_before
    good_is =
        rw (le-leb _ _ (few-components st fields), components-range st fields, le-leb _ _ room)
        (λ i. everywhere st (λ c r. entries-sound table st c r i))

    found_is : survey_of table Entries true st ≡ cond (table_sound st table) (Some (surveyed s)) None
    unfolding survey_of
    found_is = rw good_is (ap (λ (t : Sheet). cond (table_sound st table) (Some (surveyed t)) None) (survey_entries table st))

    judged_is : judged_of st table ≡ cond (table_sound st table && rest) (Some (needed st)) None
    unfolding judged_of
    judged_is = rw (sheet_is, fields)

    -- nothing is found of a table that is not right
    pub judged_none : None ≡ survey_of table Entries true st → None ≡ judged_of st table
    judged_none h = rw (judged_is, cond_none (table_sound st table) _ (h ∙ found_is))

    module _ {f : Findings} (h : Some f ≡ survey_of table Entries true st) where
      told : (table_sound st table ≡ true) × (surveyed s ≡ f)
      told = cond_some (table_sound st table) _ _ (sym (h ∙ found_is))

      pub judged_grid : f.grid ≡ false → None ≡ judged_of st table
      judged_grid g = let n : grid_agreed s ≡ false = ap (λ (f : Findings). f.grid) told.1 ∙ g in rw (judged_is, told.0, n, and_false)

      pub judged_other : same_reports f.reports st.reports ≡ false → None ≡ judged_of st table
      judged_other n =
          let r = found_other fields (λ e. true≢false (sym (same_itself st.reports) ∙ rw (sym (ap (λ (f : Findings). f.reports) told.1) ∙ e) at n)) in
          rw (judged_is, told.0, both_false (reports_sound s) (grid_agreed s) (leb (needed st) 65536) r)

      pub judged-same : f.grid ≡ true → same_reports f.reports st.reports ≡ true → f.needed ≡ judged_of st table
      judged-same g r =
          let n : grid_agreed s ≡ true = ap (λ (f : Findings). f.grid) told.1 ∙ g in
          rw (judged_is, told.0, n) (sym (ap (λ (f : Findings). f.needed) told.1) ∙ found_same fields (ap (λ (f : Findings). f.reports) told.1 ∙ same_told f.reports st.reports r))
