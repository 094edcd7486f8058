-- The lines of the output's records are those of the packets written there. Assumes nothing.
use Rattle.std.specs.Prelude.{◌≡◌, refl, List, [], ◌∷◌, ◌++◌, ℕ, zero, suc, ◌+◌, ◌/◌, ◌^◌, ◌<◌, length, drop}
use Rattle.std.proofs.Common.{sym, ap, subst, ◌∙◌, append_assoc, add_assoc, arith, get_or-append-add}
use Rattle.laws.specs.Gather.{gather}
use Rattle.words.specs.Words.{words_bytes, over}
use Rattle.words.specs.Laws.{Bytes, word_of, word_behind}
use Rattle.packets.specs.Calls.{packet_words, records_of}
use Rattle.packets.specs.Text.{decimal, line_of, lines_of}
use Rattle.types.specs.declared.cursor.Position.{Position}
use Rattle.listing.specs.Lines.{line_at, lines_at}

-- after other bytes
line-behind : (xs ys : List ℕ) (at : ℕ) → line_at (xs ++ ys) (length xs + at) ≡ line_at ys at
line-behind xs ys at =
    rw (add_assoc (length xs) at 4, add_assoc (length xs) at 8, add_assoc (length xs) at 12, word_behind xs ys at, word_behind xs ys (at + 4), word_behind xs ys (at + 8), word_behind xs ys (at + 12))

lines-behind : (xs ys : List ℕ) (at n : ℕ) → lines_at (xs ++ ys) (length xs + at) n ≡ lines_at ys at n
unfolding lines_at
lines-behind xs ys at zero = refl
lines-behind xs ys at (suc n) = rw (line-behind xs ys at, add_assoc (length xs) at 16, lines-behind xs ys (at + 16) n)

-- a packet's record
record_of : Position → List ℕ
record_of p = words_bytes (packet_words p)

record_first : (p : Position) (ps : List Position) → records_of (p ∷ ps) ≡ record_of p ++ records_of ps
unfolding record_of records_of words_bytes gather
record_first p ps = refl

-- a number whose first byte is a byte fits 32 bits
fits : (w : ℕ) → w / 2 ^ 24 < 256 → w < 2 ^ 32
fits w h = omega arith

record_line : (p : Position) (rest : List ℕ) → Bytes (record_of p ++ rest) → line_at (record_of p ++ rest) 0 ≡ line_of p
unfolding record_of words_bytes gather
record_line p rest b =
    let l = word_of (packet_words p) rest 0 (omega arith) (fits p.layno (b 0)) in
    let r = word_of (packet_words p) rest 1 (omega arith) (fits p.resno (b 4)) in
    let c = word_of (packet_words p) rest 2 (omega arith) (fits p.compno (b 8)) in
    let k = word_of (packet_words p) rest 3 (omega arith) (fits p.precno (b 12)) in
    rw (l, r, c, k)

record_long : (p : Position) → 16 ≡ length (record_of p) + 0
unfolding record_of words_bytes gather
record_long p = refl

pub record_lines : (ps : List Position) (rest : List ℕ) → Bytes (records_of ps ++ rest) → lines_at (records_of ps ++ rest) 0 (length ps) ≡ gather line_of ps
unfolding lines_at gather
record_lines [] rest b = refl
record_lines (p ∷ ps) rest b =
    let e : records_of (p ∷ ps) ++ rest ≡ record_of p ++ (records_of ps ++ rest) = ap (λ (l : List ℕ). l ++ rest) (record_first p ps) ∙ append_assoc (record_of p) (records_of ps) rest in
    let whole : Bytes (record_of p ++ (records_of ps ++ rest)) = subst Bytes e b in
    let left : Bytes (records_of ps ++ rest) = λ i. rw (get_or-append-add (record_of p) (records_of ps ++ rest) i 0) at (whole (length (record_of p) + i)) in
    let behind : lines_at (record_of p ++ (records_of ps ++ rest)) 16 (length ps) ≡ lines_at (records_of ps ++ rest) 0 (length ps)
    = ap (λ (n : ℕ). lines_at (record_of p ++ (records_of ps ++ rest)) n (length ps)) (record_long p) ∙ lines-behind (record_of p) (records_of ps ++ rest) 0 (length ps) in
    ap (λ (l : List ℕ). lines_at l 0 (suc (length ps))) e ∙ rw (record_line p (records_of ps ++ rest) whole, behind, record_lines ps rest left)

-- so the lines of what the whole run has written, and the count, are 01's
pub output-lines : (ps : List Position) (old : List ℕ) → Bytes (over (records_of ps) old)
    → lines_at (over (records_of ps) old) 0 (length ps) ++ (decimal (length ps) ++ 10 ∷ []) ≡ lines_of ps
output-lines ps old b = rw (record_lines ps (drop (length (records_of ps)) old) b) (sym (append_assoc (gather line_of ps) (decimal (length ps)) (10 ∷ [])))
