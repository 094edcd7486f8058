-- An entry of the table (01, 'The table is lent bytes').
use Rattle.std.specs.Prelude.{ℕ, ◌+◌, ◌*◌, cond, List, ltb}
use Rattle.words.specs.Words.{word_at}
use Rattle.types.specs.declared.table.Entry.{Entry}

-- entry i of a table as the code reads it: a table has at most 528, and what is not there reads as 0
unfoldable pub entry_at : List ℕ → ℕ → Entry
entry_at table i =
    cond (ltb i 528)
    (record { pdx = word_at table (16 * i); pdy = word_at table (16 * i + 4); width = word_at table (16 * i + 8); height = word_at table (16 * i + 12) })
    (record { pdx = 0; pdy = 0; width = 0; height = 0 })
