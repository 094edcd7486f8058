-- Setup for C: 01's setup, with what it reports (01, 'Geometry') as four words. 01 has no such call: the bench compares the reports through it.
use Rattle.std.specs.Prelude.{◌≡◌, refl, cond, List, [], ◌∷◌, ℕ, length, eqb, pos}
use Rattle.laws.specs.Cases.{split}
use Rattle.words.specs.Words.{words_bytes, over}
use Rattle.types.specs.Signed.{is_zero}
use Rattle.packets.specs.Calls.{Setup, Run}
use Rattle.types.specs.declared.state.Reports.{Reports}
use Rattle.calls.specs.Room.{room_verdict, setup_in}
use Rattle.calls.specs.declared.output.Output.TheVariants as output

-- 01: the largest precinct count, the largest number of resolutions, dx_min and dy_min
abbrev pub report_words : Reports → List ℕ
report_words r = r.max_prec ∷ r.max_res ∷ r.dx_min ∷ r.dy_min ∷ []

-- a setup, with its reports laid over the start of what is lent for them unless it is refused
abbrev pub reported_over : Setup → List ℕ → Run
reported_over u reports =
    record {
      number = u.said.number;
      table = u.table;
      marks = u.marks;
      output = cond (is_zero u.said.number) (over (words_bytes (report_words u.said.state.reports)) reports) reports;
    }

-- -1 to -7 as setup has them, then -8 for reports under 16 bytes
unfoldable pub setup_for_c : List ℕ → List ℕ → List ℕ → List ℕ → Run
setup_for_c sheet table marks reports = reported_over (setup_in sheet table marks (output.Reports (length reports))) reports

-- a refusal changes nothing
module _ (sheet table marks reports : List ℕ) where
  abbrev done : Run
  done = setup_for_c sheet table marks reports

  pub setup_for_C_refuses : (done.number ≡ pos 0 → ⊥) → done ≡ record { number = done.number; table = table; marks = marks; output = reports }
  unfolding setup_for_c setup_in
  setup_for_C_refuses n = split (eqb (room_verdict sheet table marks (output.Reports (length reports))) 0) (λ t. absurd (n (rw t refl))) (λ t. rw t refl)
