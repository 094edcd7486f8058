-- Counting the precincts: what is counted is what the sheet of a sound state has. Assumes nothing.
use Rattle.std.specs.Prelude.{ℕ, ◌<◌, ◌≡◌, List}
use Rattle.std.proofs.Common.{sym, ◌∙◌, ⊎_elim, arith, le-ltb}
use Rattle.laws.specs.Cases.{le_or_lt}
use Rattle.packets.specs.Tile.{res_of, precincts}
use Rattle.packets.specs.Table.{sheet_at}
use Rattle.packets.specs.Meaning.{Sound}
use Rattle.packets.proofs.Entered.{entry_is}
use Rattle.types.specs.declared.state.State.{State}
use Rattle.walks.specs.ByResolution.{IsBlank}
use Rattle.walks.specs.Made.{product, InTable, MadeOf, entry_in}
use Rattle.walks.specs.Prepared.{Counts, number_in}
use Rattle.walks.specs.Filling.{entry-count}

-- the counts are those of a sheet
abbrev pub AllCounted : State → List ℕ → Counts → Type 0
AllCounted st table counts = (c r : ℕ) → c < st.components → number_in counts r c ≡ precincts (sheet_at st table) c r

-- of a sound state, in a blank array
pub sound-counts : (st : State) (table marks : List ℕ) (old counts : Counts) → Sound st table marks
    → MadeOf (InTable st) (λ c r. product (entry_in st table c r)) old counts → IsBlank 0 old → AllCounted st table counts
sound-counts st table marks old counts w a blank c r h =
    ⊎_elim
    (λ p.
    let n : precincts (sheet_at st table) c r ≡ 0 = rw (le-ltb r (res_of st c) p) in
    a.others 0 c r (λ q. omega (arith, q.1)) ∙ blank r c ∙ sym n)
    (λ p. a.there 0 c r (h, p) ∙ rw (entry_is st table marks w c r h p) (entry-count (sheet_at st table) c r p))
    (le_or_lt (res_of st c) r)
