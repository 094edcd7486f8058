-- What a survey keeps, by what the pass over the components finds. Assumes nothing.
use Rattle.std.specs.Prelude.{◌≡◌, Bool, true, false, List, ℕ, length, replicate, Option, Some, None, is_some}
use Rattle.std.proofs.Common.{sym}
use Rattle.std.proofs.lemmas.Option.{cond_some}
use Rattle.packets.specs.Table.{table_words}
use Rattle.types.specs.declared.state.State.{State}
use Rattle.survey.specs.Survey.{sheet_from, survey_good, survey_of, kept_of}
use Rattle.survey.specs.Kept.{Keeps}
use Rattle.survey.specs.declared.Source.{Source}
use Rattle.survey.specs.declared.Findings.{Findings}
use Rattle.survey.proofs.Components.{cond_none}

module _ (e : List ℕ) (at : Source) (check : Bool) (st : State) (old : List ℕ) where
  pub bad_kept : (o : Option Findings) → o ≡ survey_of e at check st → is_some o ≡ false → replicate (length old) 0 ≡ kept_of e at check st old
  unfolding kept_of survey_of
  bad_kept None h t = rw (cond_none (survey_good e at check st) _ h)
  bad_kept (Some f) h t = cc

  pub good-kept : (o : Option Findings) → o ≡ survey_of e at check st → is_some o ≡ true → {new : List ℕ}
      → Keeps old new 0 o (table_words (sheet_from e at st)) → new ≡ kept_of e at check st old
  unfolding kept_of survey_of
  good-kept None h t k = cc
  good-kept (Some f) h t k = rw (cond_some (survey_good e at check st) _ _ (sym h)).0 k
