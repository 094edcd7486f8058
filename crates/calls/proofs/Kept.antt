-- The words of the table, as a survey keeps them in an array that has room for the largest. Assumes nothing.
use mathlib.Core.Path.{◌≡◌, ap, ◌∙◌}
use mathlib.Core.Bool.{false}
use mathlib.Core.List.{List}
use Prim.Native.Nat.{ℕ, ◌*◌, ◌≤◌}
use native.Mathlib.Omega.{arith}
use lib.ListN.{length, replicate, take, drop, length-replicate}
use lib.Seq.{take-append_seam}
use Rattle.laws.specs.Below.{sum_below}
use Rattle.words.specs.Words.{words_bytes, over}
use Rattle.packets.specs.Sheet.{fields_of}
use Rattle.packets.specs.Tile.{res_of, entries_before}
use Rattle.packets.specs.Table.{sheet_in, table_words, table_of}
use Rattle.packets.specs.Reading.{read-good}
use Rattle.packets.specs.Readback.{words_length}
use Rattle.types.specs.declared.state.State.{State}
use Rattle.survey.specs.declared.Findings.{Findings}
use Rattle.survey.specs.declared.Source.TheVariants.{Records}
use Rattle.survey.specs.Survey.{kept_of}
use Rattle.survey.specs.Sources.{records_kept}
use Rattle.calls.proofs.SetUps.{Seen}

pub kept-length : length (replicate {A = ℕ} 2112 0) ≡ 2112
kept-length = length-replicate {A = ℕ} 2112 0

pub kept_roomy : 2112 ≤ length (replicate {A = ℕ} 2112 0)
kept_roomy = rw kept-length (omega arith)

-- those of a sheet that is read, as many as it has, are its table
pub kept-table : {b : List ℕ} {st : State} {f : Findings} → Seen b st f → {kept : List ℕ} → kept ≡ kept_of b Records false st (replicate 2112 0)
    → {n : ℕ} → n ≡ sum_below (res_of st) st.components → (table : List ℕ) → over (words_bytes (take (4 * n) kept)) table ≡ over (table_of (sheet_in b)) table
unfolding table_of entries_before fields_of
kept-table {b} {st} {f} w {kept} k {n} e table =
    let ws : List ℕ = table_words (sheet_in b) in
    let zeros : List ℕ = replicate 2112 0 in
    let is : kept ≡ over ws zeros = k ∙ rw w.fields (records_kept b (read-good b w.read) zeros kept_roomy) in
    let many : 4 * n ≡ length ws = omega (arith, e, words_length (sheet_in b) (fields_of b).components, ap (λ (t : State). sum_below (res_of t) t.components) w.fields) in
    ap (λ (l : List ℕ). over (words_bytes l) table) (rw (many, is) (take-append_seam ws (drop (length ws) zeros)))
