-- Laws of big-endian words: what was written is read, one word more laid over a buffer, and what stands beyond. Assumes nothing.
use Rattle.std.specs.Prelude.{◌≡◌, refl, List, [], ◌∷◌, ◌++◌, ℕ, zero, suc, ◌+◌, ◌-◌, ◌*◌, ◌/◌, ◌%◌, ◌^◌, ◌≤◌, ◌<◌, length, get_or, set, take, drop, leb}
use Rattle.std.proofs.Common.{sym, ◌∙◌, ⊎_elim, append_assoc, add_assoc, arith, length-append, length-take, length-drop, get_or-append-add, get_or-take, get_or-drop, le-leb}
use Rattle.std.proofs.lemmas.Bool.{lt-leb}
use Rattle.std.proofs.lemmas.List.{take-append-drop, drop_more, set-append_right}
use Rattle.laws.specs.Cases.{le_or_lt, split}
use Rattle.laws.specs.Gather.{gather, gather-append}
use Rattle.words.specs.Words.{word_at, four_at, put_word, put_four, bytes_of, words_bytes, over}

-- with room, and without
module _ (s : List ℕ) (at : ℕ) where
  pub word_room : at + 4 ≤ length s
      → word_at s at ≡ get_or s at 0 * 2 ^ 24 + get_or s (at + 1) 0 * 2 ^ 16 + get_or s (at + 2) 0 * 2 ^ 8 + get_or s (at + 3) 0
  unfolding word_at
  word_room h = rw (le-leb _ _ h)

  pub word_none : length s < at + 4 → word_at s at ≡ 0
  unfolding word_at
  word_none h = rw (lt-leb _ _ h)

  module _ (w : ℕ) where
    pub put_room : at + 4 ≤ length s
        → put_word s at w ≡ set (set (set (set s at (w / 2 ^ 24)) (at + 1) (w / 2 ^ 16 % 2 ^ 8)) (at + 2) (w / 2 ^ 8 % 2 ^ 8)) (at + 3) (w % 2 ^ 8)
    unfolding put_word
    put_room h = rw (le-leb _ _ h)

    pub put_none : length s < at + 4 → put_word s at w ≡ s
    unfolding put_word
    put_none h = rw (lt-leb _ _ h)

-- a word of a part of some bytes, m of them from place at on: one of those that are all there, or any where the part goes to the end
pub word_part : (s : List ℕ) (at m k : ℕ) → at + m ≤ length s → (m < k + 4 → at + m ≡ length s) → word_at (take m (drop at s)) k ≡ word_at s (at + k)
word_part s at m k h end =
    let long : length (take m (drop at s)) ≡ m = simp (length-take, length-drop) (omega arith) in
    let there : (i : ℕ) → i < m → get_or (take m (drop at s)) i 0 ≡ get_or s (at + i) 0 = λ i l. rw (get_or-take, get_or-drop) in
    ⊎_elim
    (λ (l : k + 4 ≤ m).
    rw (word_room (take m (drop at s)) k (omega arith), word_room s (at + k) (omega arith), there k (omega arith), there (k + 1) (omega arith), there (k + 2) (omega arith), there (k + 3) (omega arith), add_assoc at k 1, add_assoc at k 2, add_assoc at k 3))
    (λ (l : m < k + 4). rw (word_none (take m (drop at s)) k (omega arith), word_none s (at + k) (omega (arith, end l))))
    (le_or_lt (k + 4) m)

-- four words of a part with 16 bytes, or to the end; and four beyond the end
pub four_part : (s : List ℕ) (at m : ℕ) → at + m ≤ length s → (m < 16 → at + m ≡ length s) → four_at (take m (drop at s)) 0 ≡ four_at s at
four_part s at m h end =
    let word : (k : ℕ) → k ≤ 12 → word_at (take m (drop at s)) k ≡ word_at s (at + k) = λ k l. word_part s at m k h (λ j. end (omega arith)) in
    let first : at + 0 ≡ at = omega arith in
    rw (word 0 (omega arith), word 4 (omega arith), word 8 (omega arith), word 12 (omega arith), first)

pub four_beyond : (s : List ℕ) (at : ℕ) → length s < at → four_at s at ≡ record { a = 0; b = 0; c = 0; d = 0 }
four_beyond s at h = rw (word_none s at (omega arith), word_none s (at + 4) (omega arith), word_none s (at + 8) (omega arith), word_none s (at + 12) (omega arith))

-- the bytes of a word make it again
pub bytes_word : (w : ℕ) (rest : List ℕ) → w < 2 ^ 32 → word_at (bytes_of w ++ rest) 0 ≡ w
unfolding word_at
bytes_word w rest h =
    let room : 0 + 4 ≤ length (bytes_of w ++ rest) = omega arith in
    rw (le-leb _ _ room) (omega arith)

-- room after the first bytes
room_behind : (xs ys : List ℕ) (at : ℕ) → leb (length xs + at + 4) (length (xs ++ ys)) ≡ leb (at + 4) (length ys)
room_behind xs ys at =
    ⊎_elim
    (λ (h : at + 4 ≤ length ys).
    let k : length xs + at + 4 ≤ length (xs ++ ys) = rw (length-append xs ys) (omega arith) in
    rw (le-leb _ _ h, le-leb _ _ k))
    (λ (h : length ys < at + 4).
    let k : length (xs ++ ys) < length xs + at + 4 = rw (length-append xs ys) (omega arith) in
    rw (lt-leb _ _ h, lt-leb _ _ k))
    (le_or_lt (at + 4) (length ys))

-- a word after the first bytes
pub word_behind : (xs ys : List ℕ) (at : ℕ) → word_at (xs ++ ys) (length xs + at) ≡ word_at ys at
unfolding word_at
word_behind xs ys at =
    rw (room_behind xs ys at, add_assoc (length xs) at 1, add_assoc (length xs) at 2, add_assoc (length xs) at 3, get_or-append-add xs ys at 0, get_or-append-add xs ys (at + 1) 0, get_or-append-add xs ys (at + 2) 0, get_or-append-add xs ys (at + 3) 0)

set-behind : (xs ys : List ℕ) (n v : ℕ) → set (xs ++ ys) (length xs + n) v ≡ xs ++ set ys n v
set-behind xs ys n v =
    let back : length xs + n - length xs ≡ n = omega arith in
    rw back at (set-append_right xs ys (length xs) (length xs + n) v refl (omega arith))

-- a word written after the first bytes
pub put-behind : (xs ys : List ℕ) (at w : ℕ) → put_word (xs ++ ys) (length xs + at) w ≡ xs ++ put_word ys at w
unfolding put_word
put-behind xs ys at w =
    split (leb (at + 4) (length ys))
    (λ t.
    let k = room_behind xs ys at ∙ t in
    rw (k, t, add_assoc (length xs) at 1, add_assoc (length xs) at 2, add_assoc (length xs) at 3)
    (simp set-behind))
    (λ t. let k = room_behind xs ys at ∙ t in rw (k, t))

-- four bytes for each word
pub bytes-length : (ws : List ℕ) → length (words_bytes ws) ≡ 4 * length ws
unfolding words_bytes gather
bytes-length [] = refl
bytes-length (w ∷ ws) = let e = bytes-length ws in omega arith

-- word i of some words, whatever follows them
pub word_of : (ws rest : List ℕ) (i : ℕ) → i < length ws → get_or ws i 0 < 2 ^ 32 → word_at (words_bytes ws ++ rest) (4 * i) ≡ get_or ws i 0
unfolding words_bytes gather
word_of [] rest i h k = omega arith
word_of (w ∷ ws) rest zero h k = rw (append_assoc (bytes_of w) (words_bytes ws) rest) (bytes_word w (words_bytes ws ++ rest) k)
word_of (w ∷ ws) rest (suc i) h k =
    let e : 4 * suc i ≡ length (bytes_of w) + 4 * i = omega arith in
    rw (append_assoc (bytes_of w) (words_bytes ws) rest, e, word_behind (bytes_of w) (words_bytes ws ++ rest) (4 * i)) (word_of ws rest i (omega arith) k)

pub over-length : (new old : List ℕ) → length new ≤ length old → length (over new old) ≡ length old
over-length new old h = simp (length-append, length-drop) (omega arith)

-- what is left, one element after the other
four : (l : List ℕ) (n : ℕ) → n + 4 ≤ length l → drop n l ≡ get_or l n 0 ∷ get_or l (n + 1) 0 ∷ get_or l (n + 2) 0 ∷ get_or l (n + 3) 0 ∷ drop (n + 4) l
four l n h =
    let two : n + 1 + 1 ≡ n + 2 = omega arith in
    let three : n + 2 + 1 ≡ n + 3 = omega arith in
    let last : n + 3 + 1 ≡ n + 4 = omega arith in
    rw (drop_more l n 0 (omega arith), drop_more l (n + 1) 0 (omega arith), two, drop_more l (n + 2) 0 (omega arith), three, drop_more l (n + 3) 0 (omega arith), last)

-- a word written where four bytes stand
put-first : (a b c d : ℕ) (rest : List ℕ) (w : ℕ) → put_word (a ∷ b ∷ c ∷ d ∷ rest) 0 w ≡ bytes_of w ++ rest
unfolding put_word
put-first a b c d rest w =
    let room : 0 + 4 ≤ length (a ∷ b ∷ c ∷ d ∷ rest) = omega arith in
    rw (le-leb _ _ room)

-- a word written at a place: its bytes stand there in the place of four
pub put_between : (s : List ℕ) (at w : ℕ) → at + 4 ≤ length s → put_word s at w ≡ take at s ++ (bytes_of w ++ drop (at + 4) s)
put_between s at w h =
    let behind : length (take at s) + 0 ≡ at = simp length-take (omega arith) in
    let whole : put_word (take at s ++ drop at s) (length (take at s) + 0) w ≡ put_word s at w = rw (take-append-drop at s, behind) in
    sym whole ∙ put-behind (take at s) (drop at s) 0 w ∙ rw (four s at h, put-first)

pub words_more : (ws : List ℕ) (w : ℕ) → words_bytes (ws ++ (w ∷ [])) ≡ words_bytes ws ++ bytes_of w
unfolding words_bytes gather
words_more ws w = gather-append bytes_of ws (w ∷ [])

-- laying one word more over a buffer is writing it after those laid
pub over_more : (ws old : List ℕ) (w : ℕ) → 4 * length ws + 4 ≤ length old
    → put_word (over (words_bytes ws) old) (4 * length ws) w ≡ over (words_bytes (ws ++ (w ∷ []))) old
over_more ws old w h =
    let new : List ℕ = words_bytes ws in
    let n : length new ≡ 4 * length ws = bytes-length ws in
    let at : 4 * length ws ≡ length new + 0 = omega arith in
    let room : length new + 4 ≤ length old = omega arith in
    let laid : length (new ++ bytes_of w) ≡ length new + 4 = rw (length-append new (bytes_of w)) refl in
    rw (words_more ws w, at, put-behind new (drop (length new) old) 0 w, four old (length new) room, put-first, laid, append_assoc new (bytes_of w) (drop (length new + 4) old))

-- and so are four
pub over_four : (ws old : List ℕ) (a b c d : ℕ) → 4 * length ws + 16 ≤ length old
    → put_four (over (words_bytes ws) old) (4 * length ws) a b c d ≡ over (words_bytes (ws ++ (a ∷ b ∷ c ∷ d ∷ []))) old
unfolding put_four
over_four ws old a b c d h =
    let one : List ℕ = ws ++ (a ∷ []) in
    let two : List ℕ = one ++ (b ∷ []) in
    let three : List ℕ = two ++ (c ∷ []) in
    let n1 : length one ≡ length ws + 1 = length-append ws (a ∷ []) in
    let n2 : length two ≡ length one + 1 = length-append one (b ∷ []) in
    let n3 : length three ≡ length two + 1 = length-append two (c ∷ []) in
    let a1 : 4 * length ws + 4 ≡ 4 * length one = omega arith in
    let a2 : 4 * length ws + 8 ≡ 4 * length two = omega arith in
    let a3 : 4 * length ws + 12 ≡ 4 * length three = omega arith in
    let all : three ++ (d ∷ []) ≡ ws ++ (a ∷ b ∷ c ∷ d ∷ []) = simp append_assoc in
    let long : length (over (words_bytes ws) old) ≡ length old = over-length (words_bytes ws) old (omega (arith, bytes-length ws)) in
    let room : 4 * length ws + 16 ≤ length (over (words_bytes ws) old) = omega arith in
    rw (le-leb _ _ room, a1, a2, a3, over_more ws old a (omega arith), over_more one old b (omega arith), over_more two old c (omega arith), over_more three old d (omega arith), all)

-- four words written one after the other, where there is room, and else nothing
module _ (s : List ℕ) (at a b c d : ℕ) where
  pub four_put : {s₁ s₂ s₃ s₄ : List ℕ} → at + 16 ≤ length s → s₁ ≡ put_word s at a → s₂ ≡ put_word s₁ (at + 4) b → s₃ ≡ put_word s₂ (at + 8) c → s₄ ≡ put_word s₃ (at + 12) d
      → s₄ ≡ put_four s at a b c d
  unfolding put_four
  four_put room e₁ e₂ e₃ e₄ = rw (le-leb _ _ room, e₄, e₃, e₂, e₁)

  pub four_none : length s < at + 16 → s ≡ put_four s at a b c d
  unfolding put_four
  four_none short = rw (lt-leb _ _ short)

-- bytes are below 256
abbrev pub Bytes : List ℕ → Type 0
Bytes s = (i : ℕ) → get_or s i 0 < 256

-- so a word is below 2^32
pub word_small : (s : List ℕ) → Bytes s → (at : ℕ) → word_at s at < 2 ^ 32
word_small s small at =
    ⊎_elim
    (λ (h : at + 4 ≤ length s). rw (word_room s at h) (omega (arith, small at, small (at + 1), small (at + 2), small (at + 3))))
    (λ (h : length s < at + 4). rw (word_none s at h) (omega arith))
    (le_or_lt (at + 4) (length s))
