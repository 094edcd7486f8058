-- What the listing program prints (01, 'Listing program and its sheets').
use Rattle.std.specs.Prelude.{ℕ, zero, suc, ◌+◌, ◌/◌, ◌%◌, cond, List, [], ◌∷◌, ◌++◌, length, replicate, ltb, eqb}
use Rattle.laws.specs.Gather.{gather}
use Rattle.packets.specs.Tile.{reported, table_bytes}
use Rattle.packets.specs.Table.{sheet_in}
use Rattle.packets.specs.Calls.{accepted, setup_verdict, listed}
use Rattle.types.specs.declared.cursor.Position.{Position}

-- the decimal digits of n, at most as many as the first argument says
unfoldable pub digits_up_to : ℕ → ℕ → List ℕ
digits_up_to zero n = []
digits_up_to (suc k) n =
    let front = digits_up_to k (n / 10) in
    let last = (48 + n % 10) ∷ [] in
    cond (ltb n 10) last (front ++ last)

-- a 32-bit number has at most ten
abbrev pub decimal : ℕ → List ℕ
decimal n = digits_up_to 10 n

-- 01: a line for each packet: layer, resolution, component, precinct
abbrev pub line_of : Position → List ℕ
line_of p = decimal p.layno ++ 32 ∷ decimal p.resno ++ 32 ∷ decimal p.compno ++ 32 ∷ decimal p.precno ++ 10 ∷ []

-- .. and then the count
abbrev pub lines_of : List Position → List ℕ
lines_of ps = gather line_of ps ++ decimal (length ps) ++ 10 ∷ []

-- `refused -n`
abbrev pub refused_line : ℕ → List ℕ
refused_line n = 114 ∷ 101 ∷ 102 ∷ 117 ∷ 115 ∷ 101 ∷ 100 ∷ 32 ∷ 45 ∷ decimal n ++ 10 ∷ []

-- 01: the program lends 2,048 marks, with table and output large enough for any sheet that needs no more
unfoldable pub text_of : List ℕ → List ℕ
text_of sheet =
    let table : List ℕ = replicate (table_bytes (reported (sheet_in sheet))) 0 in
    let marks : List ℕ = replicate 2048 0 in
    let v = setup_verdict sheet table marks in
    let u = accepted sheet table marks in
    let lines = lines_of (listed u.said.state u.table) in
    cond (eqb v 0) lines (refused_line v)
