-- Setup for C, case by case: a setup with its reports laid over what is lent for them, or refused. Assumes nothing.
use mathlib.Core.Path.{◌≡◌, refl, sym, ap, ◌∙◌}
use mathlib.Core.Bool.{false}
use mathlib.Core.List.{List}
use Prim.Native.Nat.{ℕ, ◌≤◌}
use lib.ListN.{length}
use lib.Dec.{leb, eqb}
use lib.IntN.{ℤ, pos, negsuc}
use Rattle.std.specs.Prelude.{Result, Ok, Err}
use borrow.Author.Tests.{leb-true}
use Rattle.laws.specs.Cases.{split}
use Rattle.words.specs.Words.{words_bytes, over}
use Rattle.types.specs.Answers.{SetUpSaid, number_of, of_set_up}
use Rattle.packets.specs.Apart.{refusal-negative}
use Rattle.packets.specs.Calls.{refusal, Setup, setup_verdict, Run}
use Rattle.types.specs.Signed.{is_zero}
use Rattle.types.specs.declared.answer.Refusal.{Refusal}
use Rattle.types.specs.declared.state.State.{State}
use Rattle.calls.specs.Room.{room_verdict, setup_in, SetUpLeft, done_is}
use Rattle.calls.specs.declared.output.Output.TheVariants.{Reports}
use Rattle.host.specs.Setup.{report_words, reported_over, setup_for_c}

module _ (sheet table marks reports : List ℕ) where
  abbrev set : Setup
  set = setup_in sheet table marks (Reports (length reports))

  abbrev done : Run
  done = setup_for_c sheet table marks reports

  -- what the call is to answer and to leave
  abbrev pub Left : ℤ → List ℕ → List ℕ → List ℕ → Type 0
  Left z t m o = (z ≡ done.number) × ((t ≡ done.table) × ((m ≡ done.marks) × (o ≡ done.output)))

  left : (r : Run) → r ≡ done → Left r.number r.table r.marks r.output
  left r e = (ap (λ (r : Run). r.number) e, (ap (λ (r : Run). r.table) e, (ap (λ (r : Run). r.marks) e, ap (λ (r : Run). r.output) e)))

  -- a setup that is accepted has room for its reports
  roomy : set.said.number ≡ pos 0 → 16 ≤ length reports
  unfolding setup_in room_verdict
  roomy z =
      split (leb 16 (length reports))
      (λ t. leb-true 16 _ t)
      (λ t.
      split (eqb (setup_verdict sheet table marks) 0)
      (λ v. let n : ◌≡◌ {A = ℤ} (negsuc 7) (pos 0) = rw (v, t) at z in cc)
      (λ v. let n : ◌≡◌ {A = ℤ} (refusal (setup_verdict sheet table marks)) (pos 0) = rw (v, v) at z in cc))

  reported : {r : Result State Refusal} {t m : List ℕ} → SetUpLeft sheet table marks (Reports (length reports)) r t m
      → reported_over (record { said = of_set_up r; table = t; marks = m }) reports ≡ done
  unfolding setup_for_c
  reported h = ap (λ (u : Setup). reported_over u reports) (done_is h)

  -- the reports are written where it is accepted
  module _ {st : State} {t m : List ℕ} (h : SetUpLeft sheet table marks (Reports (length reports)) (Ok st) t m) where
    pub told : Left (pos 0) t m (over (words_bytes (report_words st.reports)) reports)
    told = left _ (reported h)

    pub told_room : 16 ≤ length reports
    told_room = roomy (ap (λ (s : SetUpSaid). s.number) (sym h.said))

  pub refused : {e : Refusal} {t m : List ℕ} → SetUpLeft sheet table marks (Reports (length reports)) (Err e) t m → Left (number_of e) t m reports
  refused {e} h =
      let l = left _ (reported h) in
      let n : is_zero (number_of e) ≡ false = rw (refusal-negative e) in
      (l.0, (l.1.0, (l.1.1.0, sym (rw n refl) ∙ l.1.1.1)))
