-- The words of the table that the survey has kept after c components, and those of the next. Assumes nothing.
use mathlib.Core.Path.{◌≡◌, refl, sym, ap, ◌∙◌}
use mathlib.Core.List.{List}
use Prim.Native.Nat.{ℕ, ◌+◌}
use native.Mathlib.Omega.{arith}
use lib.ListN.{length}
use Rattle.laws.specs.Gather.{gather}
use Rattle.laws.specs.Spans.{span_end}
use Rattle.laws.specs.Indexing.{gather_last}
use Rattle.geometry.specs.Line.{bound_of, count}
use Rattle.geometry.specs.Axis.{columns_of}
use Rattle.packets.specs.Tile.{Sheet, dx_of, dy_of, res_of}
use Rattle.packets.specs.Table.{words_in, words_below, table_words}
use Rattle.packets.specs.Readback.{words_length}
use Rattle.types.specs.declared.state.State.{State}
use Rattle.survey.specs.Survey.{sheet_from}
use Rattle.survey.specs.Passing.{places_of, exponents_at}
use Rattle.survey.specs.Put.{put_numbers, put_more}
use Rattle.survey.specs.Kept.{resolution_words, component_words}
use Rattle.survey.specs.declared.Source.{Source}
use Rattle.survey.specs.declared.places.Places.{Places}
use Rattle.survey.proofs.Bases.{places_at, places_are}
use Rattle.survey.proofs.Over.{sheet_over, tile_of}
use Rattle.survey.proofs.Seen.{sheet_by}

-- after c components their words are written
abbrev pub KeptTo : List ℕ → Places → State → List ℕ → List ℕ → ℕ → Type 0
KeptTo e p st old kept c = kept ≡ put_numbers old 0 (words_below (sheet_by e p st) c)

module _ (e : List ℕ) (p : Places) (st : State) (old : List ℕ) where
  abbrev s : Sheet
  s = sheet_by e p st

  pub kept_none : KeptTo e p st old old 0
  unfolding put_numbers gather
  kept_none = rw (span_end 0 0 (omega arith)) refl

  -- what the pass over a component keeps is its part of the table
  part_is : (c : ℕ) (here : Places) → here ≡ places_at p st c
      → component_words e (exponents_at here) (tile_of st) (dx_of st c) (dy_of st c) (res_of st c) ≡ words_in s c
  unfolding resolution_words columns_of count bound_of
  part_is c here h = rw h refl

  pub kept_more : (c : ℕ) {here : Places} {kept new : List ℕ} → KeptTo e p st old kept c → here ≡ places_at p st c → p.to ≡ 0
      → new ≡ put_numbers kept here.to (component_words e (exponents_at here) (tile_of st) (dx_of st c) (dy_of st c) (res_of st c))
      → KeptTo e p st old new (c + 1)
  kept_more c {here} {kept} {new} k h start f =
      let at : here.to ≡ 0 + length (words_below s c) = omega (arith, ap (λ (q : Places). q.to) h, start, words_length s c) in
      let is = part_is c here h in
      f ∙ rw (is, k, at, gather_last (words_in s) c) (put_more (words_below s c) (words_in s c) old 0)

-- all of them, where they were read by their source
pub kept-all : (e : List ℕ) (at : Source) (p : Places) (st : State) (old : List ℕ) {c : ℕ} {kept : List ℕ} → p ≡ places_of at → c ≡ st.components
    → KeptTo e p st old kept c → kept ≡ put_numbers old 0 (table_words (sheet_from e at st))
kept-all e at p st old h n k =
    let same : sheet_by e p st ≡ sheet_from e at st = rw h (ap (λ (q : ℕ → ℕ → ℕ). sheet_over e q st) (sym (places_are at st))) in
    k ∙ rw (n, same) refl
