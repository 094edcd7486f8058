-- The table (01, 'The table is lent bytes'): what setup writes, and the sheet that a state and a table describe.
use Rattle.std.specs.Prelude.{ℕ, ◌+◌, ◌*◌, List, [], ◌∷◌}
use Rattle.laws.specs.Gather.{gather}
use Rattle.laws.specs.Axis.{span}
use Rattle.words.specs.Words.{word_at, words_bytes}
use Rattle.packets.specs.Sheet.{wd, resolution_record, fields_of}
use Rattle.packets.specs.Tile.{Sheet, res_of, width, height, entries_before}
use Rattle.types.specs.declared.state.State.{State}
use Rattle.types.specs.declared.table.Entry.{Entry}

-- 01: four words for each resolution (pdx, pdy, width, height), component after component
abbrev pub entry : Sheet → ℕ → ℕ → List ℕ
entry s c r = s.pdx c r ∷ s.pdy c r ∷ width s c r ∷ height s c r ∷ []

-- the same as one value
abbrev pub entry_of : Sheet → ℕ → ℕ → Entry
entry_of s c r = record { pdx = s.pdx c r; pdy = s.pdy c r; width = width s c r; height = height s c r }

abbrev pub words_in : Sheet → ℕ → List ℕ
words_in s c = gather (entry s c) (span 0 (res_of s.st c))

abbrev pub words_below : Sheet → ℕ → List ℕ
words_below s k = gather (words_in s) (span 0 k)

abbrev pub table_words : Sheet → List ℕ
table_words s = words_below s s.st.components

unfoldable pub table_of : Sheet → List ℕ
table_of s = words_bytes (table_words s)

-- word k of the entry of resolution r of component c
abbrev pub entry_word : State → List ℕ → ℕ → ℕ → ℕ → ℕ
entry_word st table k c r = word_at table (16 * (entries_before st c + r) + 4 * k)

-- what a state and a table say together
abbrev pub sheet_at : State → List ℕ → Sheet
sheet_at st table = record { st = st; pdx = entry_word st table 0; pdy = entry_word st table 1 }

-- what the bytes of a sheet say
abbrev pub sheet_in : List ℕ → Sheet
sheet_in s = record { st = fields_of s; pdx = λ c r. wd s (resolution_record s c r) 1; pdy = λ c r. wd s (resolution_record s c r) 2 }
