-- Setup's verdict case by case, from what reading and a survey say; and what it answers and leaves with each. Assumes nothing.
use Rattle.std.proofs.lemmas.Option.{cond_some}
use Rattle.survey.proofs.Components.{cond_none}
use mathlib.Core.Path.{◌≡◌, refl, sym, ap, ◌∙◌}
use mathlib.Core.Bool.{true, false}
use Rattle.std.specs.Prelude.{Some, None, Result, Ok, Err, IsErrAnd}
use mathlib.Core.List.{List}
use Prim.Native.Nat.{ℕ, ◌*◌, ◌≤◌, ◌<◌}
use native.Mathlib.Omega.{arith}
use lib.ListN.{length, replicate}
use lib.Dec.{leb, eqb}
use lib.IntN.{ℤ, pos}
use borrow.Author.Tests.{le-leb, lt-leb, eq-eqb, ne_eqb, eqb-true}
use Rattle.laws.specs.Cases.{and_both, split}
use Rattle.laws.specs.Below.{sum_below}
use Rattle.words.specs.Words.{over}
use Rattle.types.specs.State.{empty_state}
use Rattle.packets.specs.Sheet.{read_verdict, fields_of}
use Rattle.packets.specs.Tile.{Sheet, res_of, max_prec, max_res, reported, needed, entries_before, table_bytes}
use Rattle.packets.specs.Grid.{grid_agreed}
use Rattle.packets.specs.Table.{sheet_in, table_of}
use Rattle.types.specs.Answers.{SetUpSaid, number_of, of_set_up}
use Rattle.packets.specs.Apart.{refusal-negative}
use Rattle.packets.specs.Calls.{refusal, setup_verdict}
use Rattle.packets.specs.Reading.{read-good}
use Rattle.packets.proofs.Fields.{tile-good, components-sound, progressions-sound}
use Rattle.types.specs.declared.state.State.{State}
use Rattle.types.specs.declared.answer.Refusal.{Refusal}
use Rattle.types.specs.declared.answer.Refusal.TheVariants as no
use Rattle.reader.specs.Reader.{read_of}
use Rattle.survey.specs.declared.Findings.{Findings}
use Rattle.survey.specs.declared.Source.TheVariants.{Records}
use Rattle.survey.specs.Capped.{capped}
use Rattle.survey.specs.Survey.{surveyed, survey_of}
use Rattle.survey.specs.Sources.{records_survey, prec_exact}
use Rattle.calls.specs.Room.{room_for, room_verdict, setup_in}
use Rattle.calls.specs.declared.output.Output.{Output}
use Rattle.soundness.proofs.InRange.{tile_some}
use Rattle.soundness.proofs.SoundBy.{fields_test, some_levels}

-- a refusal that is passed on
pub passed_on : {A : Type 0} (r : Result A Refusal) {e : Refusal} → IsErrAnd r (λ d. d ≡ e) → r ≡ Err e
passed_on (Ok x) h = absurd h
passed_on (Err d) h = ap Err h

-- READING: it is not refused just where the sheet has no refusal
module _ (b : List ℕ) where
  pub read-fine : {st : State} → of_set_up (Ok st) ≡ read_of b → read_verdict b ≡ 0
  unfolding read_of
  read-fine said =
      split (eqb (read_verdict b) 0)
      (λ t. eqb-true _ 0 t)
      (λ t. let none : ◌≡◌ {A = ℤ} (pos 0) (refusal (read_verdict b)) = ap (λ (s : SetUpSaid). s.number) said ∙ rw t refl in cc)

  pub read_bad : (e : Refusal) → of_set_up (Err e) ≡ read_of b → read_verdict b ≡ 0 → ⊥
  unfolding read_of
  read_bad e said h =
      let n = refusal-negative e in
      let z : number_of e ≡ pos 0 = ap (λ (s : SetUpSaid). s.number) said ∙ rw (eq-eqb _ 0 h) refl in
      cc

  pub read_fields : {st : State} → of_set_up (Ok st) ≡ read_of b → st ≡ fields_of b
  unfolding read_of
  read_fields said = ap (λ (s : SetUpSaid). s.state) said ∙ rw (eq-eqb _ 0 (read-fine said)) refl

module _ (b table marks : List ℕ) (room : Output) where
  -- what setup is to answer and to leave
  abbrev pub Left : Result State Refusal → List ℕ → List ℕ → Type 0
  Left r t m = (of_set_up r ≡ (setup_in b table marks room).said) × ((t ≡ (setup_in b table marks room).table) × (m ≡ (setup_in b table marks room).marks))

  -- the answer that refuses, and everything as it was
  abbrev pub Refuses : Refusal → Type 0
  Refuses e = Left (Err e) table marks

  turned_away_lem : (e : Refusal) (n : ℕ) → number_of e ≡ refusal n → (n ≡ 0 → ⊥) → setup_verdict b table marks ≡ n → Refuses e
  unfolding setup_in room_verdict
  turned_away_lem e n said k v = rw (v, ne_eqb n 0 k) (rw (ne_eqb n 0 k) ((λ i. record { number = said i; state = empty_state }), (refl, refl)))

  -- everything but the room is there
  no_room : setup_verdict b table marks ≡ 0 → room_for room (needed (reported (sheet_in b))) ≡ false → Refuses no.Output
  unfolding setup_in room_verdict
  no_room e h = rw (e, h) (refl, (refl, refl))

  pub refused_reading : (e : Refusal) → of_set_up (Err e) ≡ read_of b → Refuses e
  unfolding setup_verdict read_of
  refused_reading e said =
      let n = read_bad b e said in
      turned_away_lem e (read_verdict b) (ap (λ (s : SetUpSaid). s.number) said ∙ rw (ne_eqb _ 0 n) refl) n (rw (ne_eqb _ 0 n))

-- of a sheet that is read something is found
pub some_findings : (b : List ℕ) (st : State) → read_verdict b ≡ 0 → st ≡ fields_of b → survey_of b Records false st ≡ Some (surveyed (sheet_in b))
some_findings b st read fields = rw fields (records_survey b (read-good b read))

-- THE SHEET IS READ, st has its fields, and f is what a survey finds
pub record Seen (b : List ℕ) (st : State) (f : Findings) : Type 0 where
  pub read : read_verdict b ≡ 0
  pub fields : st ≡ fields_of b
  pub said : Some f ≡ survey_of b Records false st

module _ {b : List ℕ} {st : State} {f : Findings} (w : Seen b st f) (table marks : List ℕ) (room : Output) where
  abbrev s : Sheet
  s = sheet_in b

  found : f ≡ surveyed s
  found = let e : Some f ≡ Some (surveyed s) = w.said ∙ some_findings b st w.read w.fields in cc

  pub fields_good : fields_test st ≡ true
  fields_good = let r = read-good b w.read in rw w.fields (and_both (tile-good b r) (and_both (components-sound b r) (progressions-sound b r)))

  pub refused_grid : f.grid ≡ false → Refuses b table marks room no.Grid
  unfolding setup_verdict
  refused_grid h =
      let none : grid_agreed s ≡ false = sym (ap (λ (f : Findings). f.grid) found) ∙ h in
      turned_away_lem b table marks room no.Grid 4 refl (λ z. omega arith) (rw (eq-eqb _ 0 w.read, none))

  module _ (grid : f.grid ≡ true) where
    agreed : grid_agreed s ≡ true
    agreed = sym (ap (λ (f : Findings). f.grid) found) ∙ grid

    pub refused_many : f.needed ≡ None → Refuses b table marks room no.TooMany
    unfolding setup_verdict
    refused_many h =
        let many : leb (needed (reported s)) 65536 ≡ false
        = cond_none (leb (needed (reported s)) 65536) _ (sym h ∙ ap (λ (f : Findings). f.needed) found) in
        turned_away_lem b table marks room no.TooMany 5 refl (λ z. omega arith) (rw (eq-eqb _ 0 w.read, agreed, many))

    module _ {n : ℕ} (few : f.needed ≡ Some n) where
      told : (leb (needed (reported s)) 65536 ≡ true) × (needed (reported s) ≡ n)
      told = cond_some (leb (needed (reported s)) 65536) _ _ (sym (ap (λ (f : Findings). f.needed) found) ∙ few)

      below : leb (needed (reported s)) 65536 ≡ true
      below = told.0

      needed_is : n ≡ needed (reported s)
      needed_is = sym told.1

      -- the largest precinct count is exact
      prec_is : capped (max_prec s) ≡ max_prec s
      prec_is =
          let t = tile_some (fields_of b) (tile-good b (read-good b w.read)) in
          let l : 1 ≤ max_res (fields_of b) = rw (← w.fields) (some_levels st fields_good) in
          prec_exact s t.0 l t.1 below

      pub refused_marks : length marks < n → Refuses b table marks room no.Marks
      unfolding setup_verdict
      refused_marks h =
          let short : length marks < needed (reported s) = rw (← needed_is) h in
          turned_away_lem b table marks room no.Marks 6 refl (λ z. omega arith) (rw (eq-eqb _ 0 w.read, agreed, below, lt-leb _ _ short))

      module _ (held : n ≤ length marks) where
        enough : needed (reported s) ≤ length marks
        enough = rw (← needed_is) held

        table_is : table_bytes (reported s) ≡ 16 * sum_below (res_of st) st.components
        unfolding reported entries_before
        table_is = rw w.fields

        pub refused_table : length table < 16 * sum_below (res_of st) st.components → Refuses b table marks room no.Table
        unfolding setup_verdict
        refused_table h =
            let short : length table < table_bytes (reported s) = rw table_is h in
            turned_away_lem b table marks room no.Table 7 refl (λ z. omega arith) (rw (eq-eqb _ 0 w.read, agreed, below, le-leb _ _ enough, lt-leb _ _ short))

        passed : 16 * sum_below (res_of st) st.components ≤ length table → setup_verdict b table marks ≡ 0
        unfolding setup_verdict
        passed h =
            let long : table_bytes (reported s) ≤ length table = rw table_is h in
            rw (eq-eqb _ 0 w.read, agreed, below, le-leb _ _ enough, le-leb _ _ long)

        pub refused_room : 16 * sum_below (res_of st) st.components ≤ length table → room_for room n ≡ false → Refuses b table marks room no.Output
        refused_room h k = no_room b table marks room (passed h) (rw (← needed_is) k)

        state_is : record st { reports = f.reports } ≡ reported s
        unfolding reported
        state_is = (λ i. record (w.fields i) { reports = (found i).reports }) ∙ rw (below, prec_is) refl

        -- accepted
        pub accepted-left : 16 * sum_below (res_of st) st.components ≤ length table → room_for room n ≡ true
            → Left b table marks room (Ok (record st { reports = f.reports })) (over (table_of s) table) (over (replicate n 0) marks)
        unfolding setup_in room_verdict
        accepted-left h k =
            let wide : room_for room (needed (reported s)) ≡ true = rw (← needed_is) k in
            rw (passed h, wide) ((λ i. record { number = pos 0; state = state_is i }), (refl, λ i. over (replicate (needed_is i) 0) marks))
