-- The table of a sound state can be gone through, and what is prepared from it serves the walks by points where its steps fit. Assumes nothing.
use Rattle.std.specs.Prelude.{ℕ, ◌≤◌, ◌<◌, ◌≡◌, List}
use Rattle.std.proofs.Common.{ap, ◌∙◌, ⊎_elim, arith, le-ltb}
use Rattle.laws.specs.Cases.{le_or_lt}
use Rattle.packets.specs.Tile.{res_of, level_of, precincts}
use Rattle.packets.specs.Table.{sheet_at}
use Rattle.packets.specs.Good.{Good}
use Rattle.packets.proofs.MetOnce.{precincts_in}
use Rattle.packets.specs.Meaning.{StepsFit, Sound, sound-means, sound-good}
use Rattle.packets.proofs.Entered.{few_before, entry_is, few-precincts}
use Rattle.types.specs.declared.state.State.{State}
use Rattle.walks.specs.ByResolution.{IsBlank}
use Rattle.walks.specs.Made.{AllEntries, InTable, MadeOf, entry_in}
use Rattle.walks.specs.Prepared.{Prep, InPlay, unprepared, kept}
use Rattle.walks.specs.Prepare.{Filled, sides_of, prepared_by}
use Rattle.walks.specs.Filling.{entry-count, entry-filled}

-- the numbers of a state's tile are prepared
pub record AllFilled (st : State) (table : List ℕ) (prep : Prep) : Type 0 where
  pub filled : (c r : ℕ) → c < st.components → Filled (sheet_at st table) prep r c
  pub ends_x : st.tx1 ≤ 4294967295
  pub ends_y : st.ty1 ≤ 4294967295

module _ (st : State) (table marks : List ℕ) (w : Sound st table marks) where
  good : Good (sheet_at st table)
  good = sound-good st table marks ((sound-means st table marks).1 w)

  -- ITS TABLE CAN BE GONE THROUGH
  pub sound-entries : AllEntries st table
  sound-entries =
      record {
        most = w.tile.components.1;
        levels = λ c h. (w.component c h).resolutions.1;
        near = λ c h. omega (arith, few_before st table marks w c h, w.tile.components.1);
        few = λ c r h. rw (entry_is st table marks w c r h.0 h.1, entry-count (sheet_at st table) c r h.1) (few-precincts st table marks w c r h.0);
      }

  -- what is made of it in a blank array is all that is needed
  pub sound-filled : (old prep : Prep) → MadeOf (InTable st) (λ c r. prepared_by (sides_of st c) (level_of st c r) (entry_in st table c r)) old prep
      → IsBlank unprepared old → st.tx1 ≤ 4294967295 → st.ty1 ≤ 4294967295 → AllFilled st table prep
  sound-filled old prep made blank x y =
      record {
        filled = λ c r h.
            ⊎_elim
            (λ p.
            let n : precincts (sheet_at st table) c r ≡ 0 = rw (le-ltb r (res_of st c) p) in
            λ f. rw n (ap kept (made.others unprepared c r (λ q. omega (arith, q.1)) ∙ blank r c)))
            (λ p. entry-filled (sheet_at st table) prep c r p (made.there unprepared c r (h, p) ∙ ap (prepared_by (sides_of st c) (level_of st c r)) (entry_is st table marks w c r h p)))
            (le_or_lt (res_of st c) r);
        ends_x = x;
        ends_y = y;
      }

  -- THEN A RANGE IS IN PLAY whose components' steps fit, as an agreed grid says; what is prepared of other components is never read
  pub sound_play : (prep : Prep) (r0 r1 c0 c1 : ℕ) → StepsFit (sheet_at st table) c0 c1 → AllFilled st table prep → r1 ≤ 33 → c1 ≤ st.components
      → InPlay (sheet_at st table) prep r0 r1 c0 c1
  sound_play prep r0 r1 c0 c1 fits p a b =
      record {
        good = good;
        resolutions = a;
        components = omega (arith, w.tile.components.1);
        known = b;
        entry = λ r c h k i j. p.filled c r (omega arith) (λ z. fits c (omega arith) (omega arith) r (precincts_in (sheet_at st table) c r z));
        few = λ r c h k i j. few-precincts st table marks w c r (omega arith);
        ends_x = p.ends_x;
        ends_y = p.ends_y;
      }
