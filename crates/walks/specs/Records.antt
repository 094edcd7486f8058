-- The output of a run: records written one after the other, from record n on (01: 16-byte records, big-endian). Assumes nothing.
use Rattle.std.specs.Prelude.{◌≡◌, refl, List, [], ◌∷◌, ◌++◌, ℕ, ◌+◌, ◌*◌, ◌≤◌, length}
use Rattle.std.proofs.Common.{sym, ap, ◌∙◌, append_assoc, append-nil, arith, length-append}
use Rattle.laws.specs.Gather.{gather, gather-append}
use Rattle.words.specs.Words.{put_four, over}
use Rattle.words.specs.Laws.{over_four}
use Rattle.packets.specs.Calls.{packet_words, records_of}
use Rattle.types.specs.declared.cursor.Position.{Position}

-- the four words of a packet, from byte at on; nothing where there is no room for all of them
abbrev pub put_packet : List ℕ → ℕ → Position → List ℕ
put_packet o at p = put_four o at p.layno p.resno p.compno p.precno

-- packets from record n on
unfoldable pub put_packets : List ℕ → ℕ → List Position → List ℕ
put_packets o n [] = o
put_packets o n (p ∷ ps) = put_packets (put_packet o (16 * n) p) (n + 1) ps

-- the words of some packets
abbrev words_of : List Position → List ℕ
words_of = gather packet_words

words_length : (ps : List Position) → length (words_of ps) ≡ 4 * length ps
unfolding gather
words_length [] = refl
words_length (p ∷ ps) = let e = words_length ps in omega arith

-- one packet more laid over a buffer
over-packet : (ps : List Position) (old : List ℕ) (p : Position) → 16 * length ps + 16 ≤ length old
    → put_packet (over (records_of ps) old) (16 * length ps) p ≡ over (records_of (ps ++ (p ∷ []))) old
unfolding records_of gather
over-packet ps old p h =
    let n : length (words_of ps) ≡ 4 * length ps = words_length ps in
    let at : 16 * length ps ≡ 4 * length (words_of ps) = omega arith in
    let all : words_of ps ++ packet_words p ≡ words_of (ps ++ (p ∷ [])) = simp gather-append in
    rw (at, over_four (words_of ps) old p.layno p.resno p.compno p.precno (omega arith), all)

-- records laid over a buffer, and more after them
pub over-packets : (ps qs : List Position) (old : List ℕ) → 16 * (length ps + length qs) ≤ length old
    → put_packets (over (records_of ps) old) (length ps) qs ≡ over (records_of (ps ++ qs)) old
unfolding put_packets
over-packets ps [] old h = ap (λ (l : List Position). over (records_of l) old) (sym (append-nil ps))
over-packets ps (q ∷ qs) old h =
    let n : length (ps ++ (q ∷ [])) ≡ length ps + 1 = length-append ps (q ∷ []) in
    let next : put_packets (over (records_of (ps ++ (q ∷ []))) old) (length (ps ++ (q ∷ []))) qs ≡ over (records_of ((ps ++ (q ∷ [])) ++ qs)) old
    = over-packets (ps ++ (q ∷ [])) qs old (omega arith) in
    rw (over-packet ps old q (omega arith), ← n) (next ∙ ap (λ (l : List Position). over (records_of l) old) (append_assoc ps (q ∷ []) qs))
