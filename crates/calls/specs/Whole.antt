-- The whole run: a refused setup ends it; an accepted one leaves a sound state, clear marks and room, so that all the runs list what 01 says. Assumes nothing.
use Rattle.std.specs.Prelude.{◌≡◌, refl, List, ℕ, ◌*◌, ◌≤◌, ◌<◌, length, get_or, leb, eqb, ℤ, Ok, Err}
use Rattle.std.proofs.Common.{sym, ◌∙◌, subst, arith}
use Rattle.std.proofs.Math.Path.{ap}
use Rattle.std.proofs.Math.IntN.{pos}
use borrow.Author.Tests.{leb-true, eqb-true, eqb-false, eq-eqb}
use Rattle.laws.specs.Marks.{zero_free}
use Rattle.laws.specs.Cases.{split}
use Rattle.words.specs.Laws.{Bytes}
use Rattle.packets.specs.Tile.{reported, needed, index_of}
use Rattle.packets.specs.Table.{sheet_in}
use Rattle.types.specs.Answers.{number_of, of_set_up}
use Rattle.packets.specs.Apart.{refusal-negative}
use Rattle.packets.specs.Calls.{Setup, setup_verdict, accepted, turned_away, Run, run_verdict, ran_over, whole_run_of}
use Rattle.packets.specs.Meaning.{Sound, sound-means}
use Rattle.packets.specs.WholeRun.{Passed}
use Rattle.packets.proofs.WholeRun.{setup-passed, run-refuses, accepted-sound, accepted_clear}
use Rattle.types.specs.declared.state.State.{State}
use Rattle.types.specs.declared.answer.Refusal.{Refusal}
use Rattle.calls.specs.Room.{room_verdict, setup_in, SetUpLeft, done_is}
use Rattle.calls.specs.declared.output.Output.TheVariants.{Records}
use Rattle.walks.specs.Running.{Total, run_at, total_of}
use Rattle.walks.specs.RunAll.{from_on, all-listed, count-few}

module _ (sheet table marks output : List ℕ) where
  abbrev whole : Run
  whole = whole_run_of sheet table marks output

  abbrev verdict : ℕ
  verdict = run_verdict sheet table marks output

  -- what the whole run is to answer and to leave
  abbrev pub Left : ℤ → List ℕ → List ℕ → List ℕ → Type 0
  Left z t m o = (z ≡ whole.number) × ((t ≡ whole.table) × ((m ≡ whole.marks) × (o ≡ whole.output)))

  left : (r : Run) → r ≡ whole → Left r.number r.table r.marks r.output
  left r e = (ap (λ (r : Run). r.number) e, (ap (λ (r : Run). r.table) e, (ap (λ (r : Run). r.marks) e, ap (λ (r : Run). r.output) e)))

  -- setup with room, whose verdict is the whole run's
  abbrev pub setting : Setup
  setting = setup_in sheet table marks (Records (length output))

  setting-passes : verdict ≡ 0 → setting ≡ accepted sheet table marks
  unfolding setup_in room_verdict run_verdict
  setting-passes v = rw (eq-eqb _ _ v)

  setting-refuses : (verdict ≡ 0 → ⊥) → setting ≡ turned_away verdict table marks
  unfolding setup_in room_verdict run_verdict
  setting-refuses n = split (eqb verdict 0) (λ t. absurd (n (eqb-true _ _ t))) (λ t. rw t)

  -- REFUSED: everything as it was
  module _ {e : Refusal} {t m : List ℕ} (h : SetUpLeft sheet table marks (Records (length output)) (Err e) t m) where
    pub run_refused : Left (number_of e) t m output
    run_refused =
        left (record { number = number_of e; table = t; marks = m; output = output })
        (ap after (done_is h ∙ setting-refuses not-passed) ∙ sym (run-refuses sheet table marks output not-passed))
      where
        after : Setup → Run
        after u = record { number = u.said.number; table = u.table; marks = u.marks; output = output }

        not-passed : verdict ≡ 0 → ⊥
        not-passed v =
            let n = refusal-negative e in
            let z = ap (λ (u : Setup). u.said.number) (done_is h ∙ setting-passes v) in
            cc

  -- ACCEPTED
  module _ {st : State} {t m : List ℕ} (h : SetUpLeft sheet table marks (Records (length output)) (Ok st) t m) where
    pub run-passed : verdict ≡ 0
    run-passed =
        split (eqb verdict 0)
        (λ e. eqb-true _ _ e)
        (λ e. let none = ap (λ (u : Setup). u.said.number) (done_is h ∙ setting-refuses (eqb-false _ _ e)) in cc)

    set-up : setup_verdict sheet table marks ≡ 0
    unfolding run_verdict
    set-up = split (eqb (setup_verdict sheet table marks) 0) (λ e. eqb-true _ _ e) (λ e. absurd (eqb-false _ _ e (rw e at run-passed)))

    done-accepted : ◌≡◌ {A = Setup} (record { said = of_set_up (Ok st); table = t; marks = m }) (accepted sheet table marks)
    done-accepted = done_is h ∙ setting-passes run-passed

    room : 16 * needed (reported (sheet_in sheet)) ≤ length output
    unfolding run_verdict
    room =
        split (leb (16 * needed (reported (sheet_in sheet))) (length output))
        (λ e. leb-true _ _ e)
        (λ e. absurd (let n : ⊥ = omega (arith, rw (eq-eqb _ _ set-up, e) at run-passed) in n))

    done_room : 16 * needed st ≤ length output
    done_room = subst (λ (u : Setup). 16 * needed u.said.state ≤ length output) (sym done-accepted) room

    module _ (bytes : Bytes sheet) where
      passed : Passed sheet table marks
      passed = setup-passed sheet table marks set-up

      -- as setup left it: sound, its marks clear, and with room for its records
      pub done-sound : Sound st t m
      done-sound =
          subst (λ (u : Setup). Sound u.said.state u.table u.marks) (sym done-accepted)
          ((sound-means _ _ _).0 (accepted-sound sheet table marks bytes passed))

      done_clear : (i : ℕ) → i < needed st → get_or m i 0 ≡ 0
      done_clear =
          subst (λ (u : Setup). (i : ℕ) → i < needed u.said.state → get_or u.marks i 0 ≡ 0) (sym done-accepted)
          (accepted_clear sheet table marks bytes passed)

      -- all the runs list few packets
      pub run-few : {n : ℕ} {mx ox : List ℕ}
          → run_at n mx ox ≡ total_of (index_of st) (run_at 0 m output) (from_on st t 0) → n ≤ 65536
      run-few ran = let e = ap (λ (a : Total). a.count) ran in omega (arith, e, count-few st t m done-sound output)

      -- what all the runs leave is what the whole run is to leave
      pub run-left : {n : ℕ} {mx ox : List ℕ}
          → run_at n mx ox ≡ total_of (index_of st) (run_at 0 m output) (from_on st t 0)
          → Left (pos n) t mx ox
      unfolding ran_over whole_run_of
      run-left {n} {mx} {ox} ran =
          left (total (run_at n mx ox))
          (ap total (ran ∙ all-listed st t m output done-sound (λ i h. zero_free 0 m i (done_clear i h)) done_room)
          ∙ ap (λ (u : Setup). ran_over u output) done-accepted
          ∙ rw (eq-eqb _ _ run-passed) refl)
        where
          total : Total → Run
          total a = record { number = pos a.count; table = t; marks = a.marks; output = a.output }
