-- Setup for those who follow: what it is to answer and to leave, by what setup answered and left; and that the state is sound where it is accepted. Assumes nothing.
use Rattle.std.specs.Prelude.{◌≡◌, List, ℕ, ◌-◌, eqb, ℤ, pos, negsuc, Result, Ok, Err}
use Rattle.std.proofs.Math.Path.{refl, ap}
use Rattle.std.proofs.Common.{sym, ◌∙◌, subst}
use borrow.Author.Tests.{eqb-true}
use Rattle.laws.specs.Cases.{split}
use Rattle.laws.specs.Below.{sum_below}
use Rattle.words.specs.Laws.{Bytes}
use Rattle.types.specs.State.{empty_state}
use Rattle.types.specs.Totals.{started_with}
use Rattle.types.specs.Answers.{of_set_up, of_started}
use Rattle.packets.specs.Totals.{total}
use Rattle.packets.specs.Calls.{Setup, setup_verdict, setup_of, total_of, start_of}
use Rattle.packets.specs.Meaning.{Fit, sound-means}
use Rattle.packets.proofs.WholeRun.{setup-passed, setup-accepts, accepted-sound}
use Rattle.types.specs.declared.state.State.{State}
use Rattle.types.specs.declared.followed.Followed.{Followed}
use Rattle.types.specs.declared.answer.Refusal.{Refusal}
use Rattle.calls.specs.Room.{SetUpLeft, done_is, room_none}
use Rattle.calls.specs.declared.output.Output.TheVariants.{Nothing}

module _ (sheet table marks : List ℕ) where
  -- what is to be answered and left
  abbrev pub Starts : Result Followed Refusal → List ℕ → List ℕ → Type 0
  Starts r t m = ((of_started r).number ≡ (start_of sheet table marks).number)
      × (((of_started r).followed ≡ (start_of sheet table marks).followed) × ((t ≡ (start_of sheet table marks).table) × (m ≡ (start_of sheet table marks).marks)))

  set_up_is : {r : Result State Refusal} {t m : List ℕ} → SetUpLeft sheet table marks Nothing r t m
      → ◌≡◌ {A = Setup} (record { said = of_set_up r; table = t; marks = m }) (setup_of sheet table marks)
  set_up_is h = done_is h ∙ room_none sheet table marks

  -- REFUSED: the state is the empty one, in which there are none
  pub start_refused : {e : Refusal} {t m : List ℕ} → SetUpLeft sheet table marks Nothing (Err e) t m → Starts (Err e) t m
  unfolding start_of total sum_below
  start_refused {e} {t} {m} h =
      let none : 0 ≡ total_of empty_state t = refl in (
        ap (λ (u : Setup). u.said.number) (set_up_is h),
        (
          ap (started_with empty_state) none ∙ ap (λ (u : Setup). started_with u.said.state (total_of u.said.state u.table)) (set_up_is h),
          (ap (λ (u : Setup). u.table) (set_up_is h), ap (λ (u : Setup). u.marks) (set_up_is h)),
        ),
      )

  -- ACCEPTED
  module _ {st : State} {t m : List ℕ} (h : SetUpLeft sheet table marks Nothing (Ok st) t m) where
    -- with the number of packets that some progression admits
    pub start-left : (f : Followed) → f ≡ started_with st (total_of st t) → Starts (Ok f) t m
    unfolding start_of
    start-left f e = (
      ap (λ (u : Setup). u.said.number) (set_up_is h),
      (
        e ∙ ap (λ (u : Setup). started_with u.said.state (total_of u.said.state u.table)) (set_up_is h),
        (ap (λ (u : Setup). u.table) (set_up_is h), ap (λ (u : Setup). u.marks) (set_up_is h)),
      ),
    )

    passed : setup_verdict sheet table marks ≡ 0
    unfolding setup_of
    passed =
        split (eqb (setup_verdict sheet table marks) 0)
        (λ e. eqb-true _ 0 e)
        (λ e. let none : ◌≡◌ {A = ℤ} (pos 0) (negsuc (setup_verdict sheet table marks - 1)) = ap (λ (u : Setup). u.said.number) (set_up_is h) ∙ rw e refl in cc)

    -- the state is sound
    pub start-fit : Bytes sheet → Fit st t
    start-fit bytes =
        let e = set_up_is h ∙ setup-accepts sheet table marks passed in
        subst (λ (u : Setup). Fit u.said.state u.table) (sym e)
        (record { marks = _; sound = (sound-means _ _ _).0 (accepted-sound sheet table marks bytes (setup-passed sheet table marks passed)) })
