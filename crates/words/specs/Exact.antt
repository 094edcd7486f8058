-- Bytes and words say the same: the bytes of small words are bytes, and the words that are read give the bytes back. Assumes nothing.
use Rattle.std.specs.Prelude.{◌≡◌, List, [], ◌∷◌, ◌++◌, ℕ, suc, ◌+◌, ◌*◌, ◌/◌, ◌%◌, ◌^◌, ◌≤◌, ◌<◌, length, get_or, take}
use Rattle.std.proofs.Common.{sym, ap, ◌∙◌, append_assoc, append-nil, arith}
use Rattle.std.proofs.lemmas.List.{take_more}
use Rattle.laws.specs.Gather.{gather}
use Rattle.laws.specs.Bounded.{Bounded, bounded-each, bounded-append}
use Rattle.words.specs.Words.{word_at, bytes_of, words_bytes}
use Rattle.words.specs.Laws.{Bytes, word_room}

bytes-of_word : (w : ℕ) → w < 2 ^ 32 → Bytes (bytes_of w)
bytes-of_word w h = bounded-each 256 (bytes_of w) (omega arith) (search arith depth 8)

-- the bytes of words below 2^32 are below 256
pub words_are_bytes : (ws : List ℕ) → Bounded (2 ^ 32) ws → Bytes (words_bytes ws)
unfolding words_bytes gather
words_are_bytes [] b i = omega arith
words_are_bytes (w ∷ ws) b i = bounded-append 256 (bytes_of w) (words_bytes ws) (bytes-of_word w (b 0)) (words_are_bytes ws (λ j. b (suc j))) i

-- four bytes make a word, whose bytes they are
bytes-back : (a b c d : ℕ) → a < 256 → b < 256 → c < 256 → d < 256 → bytes_of (a * 2 ^ 24 + b * 2 ^ 16 + c * 2 ^ 8 + d) ≡ a ∷ b ∷ c ∷ d ∷ []
bytes-back a b c d ha hb hc hd =
    let w : ℕ = a * 2 ^ 24 + b * 2 ^ 16 + c * 2 ^ 8 + d in
    let e0 : w / 2 ^ 24 ≡ a = omega arith in
    let e1 : w / 2 ^ 16 % 2 ^ 8 ≡ b = omega arith in
    let e2 : w / 2 ^ 8 % 2 ^ 8 ≡ c = omega arith in
    let e3 : w % 2 ^ 8 ≡ d = omega arith in
    λ i. e0 i ∷ e1 i ∷ e2 i ∷ e3 i ∷ []

-- bytes taken up to a word, and that word's: the bytes taken up to its end
pub take_word : (s : List ℕ) → Bytes s → (at : ℕ) → at + 4 ≤ length s → take at s ++ bytes_of (word_at s at) ≡ take (at + 4) s
take_word s small at h =
    let word : bytes_of (word_at s at) ≡ get_or s at 0 ∷ get_or s (at + 1) 0 ∷ get_or s (at + 2) 0 ∷ get_or s (at + 3) 0 ∷ []
    = ap bytes_of (word_room s at h) ∙ bytes-back _ _ _ _ (small at) (small (at + 1)) (small (at + 2)) (small (at + 3)) in
    let a : at + 4 ≡ at + 3 + 1 = omega arith in
    let b : at + 3 ≡ at + 2 + 1 = omega arith in
    let c : at + 2 ≡ at + 1 + 1 = omega arith in
    let t3 : take (at + 4) s ≡ take (at + 3) s ++ (get_or s (at + 3) 0 ∷ []) = rw a (take_more s (at + 3) 0 (omega arith)) in
    let t2 : take (at + 3) s ≡ take (at + 2) s ++ (get_or s (at + 2) 0 ∷ []) = rw b (take_more s (at + 2) 0 (omega arith)) in
    let t1 : take (at + 2) s ≡ take (at + 1) s ++ (get_or s (at + 1) 0 ∷ []) = rw c (take_more s (at + 1) 0 (omega arith)) in
    let t0 : take (at + 1) s ≡ take at s ++ (get_or s at 0 ∷ []) = take_more s at 0 (omega arith) in
    rw (word, t3, t2, t1, t0) (simp append_assoc)

-- words that are read one after the other from a place on are the bytes from there
pub words_from : (s : List ℕ) → Bytes s → (ws : List ℕ) (at : ℕ) → at + 4 * length ws ≤ length s → ((i : ℕ) → i < length ws → word_at s (at + 4 * i) ≡ get_or ws i 0)
    → take at s ++ words_bytes ws ≡ take (at + 4 * length ws) s
unfolding words_bytes gather
words_from s small [] at h e = let z : at + 4 * 0 ≡ at = omega arith in rw (append-nil (take at s), z)
words_from s small (w ∷ ws) at h e =
    let z : at + 4 * 0 ≡ at = omega arith in
    let first : take at s ++ bytes_of w ≡ take (at + 4) s = ap (λ (n : ℕ). take at s ++ bytes_of n) (sym (rw z at (e 0 (omega arith)))) ∙ take_word s small at (omega arith) in
    let more : at + 4 * suc (length ws) ≡ at + 4 + 4 * length ws = omega arith in
    let rest : take (at + 4) s ++ words_bytes ws ≡ take (at + 4 + 4 * length ws) s
    = words_from s small ws (at + 4) (omega arith) (λ i l. let y : at + 4 * suc i ≡ at + 4 + 4 * i = omega arith in rw y at (e (suc i) (omega arith))) in
    sym (append_assoc (take at s) (bytes_of w) (words_bytes ws)) ∙ ap (λ (x : List ℕ). x ++ words_bytes ws) first ∙ rest ∙ ap (λ (n : ℕ). take n s) (sym more)
