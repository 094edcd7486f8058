-- Big-endian 32-bit words in bytes (01, 'The sheet', 'Geometry'), and bytes laid over the start of a buffer.
use Rattle.std.specs.Prelude.{ℕ, ◌+◌, ◌*◌, ◌/◌, ◌%◌, ◌^◌, cond, List, [], ◌∷◌, ◌++◌, length, get_or, set, drop, leb}
use Rattle.laws.specs.Gather.{gather}
use Rattle.words.specs.declared.Four.{Four}

-- the word whose first byte stands at place at; 0 where the four bytes are not all there
unfoldable pub word_at : List ℕ → ℕ → ℕ
word_at s at =
    cond (leb (at + 4) (length s))
    (get_or s at 0 * 2 ^ 24 + get_or s (at + 1) 0 * 2 ^ 16 + get_or s (at + 2) 0 * 2 ^ 8 + get_or s (at + 3) 0)
    0

-- the four words from place at on
abbrev pub four_at : List ℕ → ℕ → Four
four_at s at = record { a = word_at s at; b = word_at s (at + 4); c = word_at s (at + 8); d = word_at s (at + 12) }

-- s with w's four bytes from place at on; s itself where there is no room for them
unfoldable pub put_word : List ℕ → ℕ → ℕ → List ℕ
put_word s at w =
    cond (leb (at + 4) (length s))
    (set (set (set (set s at (w / 2 ^ 24)) (at + 1) (w / 2 ^ 16 % 2 ^ 8)) (at + 2) (w / 2 ^ 8 % 2 ^ 8)) (at + 3) (w % 2 ^ 8))
    s

-- s with four words from place at on; s itself where there is no room for all of them
unfoldable pub put_four : List ℕ → ℕ → ℕ → ℕ → ℕ → ℕ → List ℕ
put_four s at a b c d = cond (leb (at + 16) (length s)) (put_word (put_word (put_word (put_word s at a) (at + 4) b) (at + 8) c) (at + 12) d) s

-- the four bytes of a word
abbrev pub bytes_of : ℕ → List ℕ
bytes_of w = w / 2 ^ 24 ∷ w / 2 ^ 16 % 2 ^ 8 ∷ w / 2 ^ 8 % 2 ^ 8 ∷ w % 2 ^ 8 ∷ []

-- the bytes of some words, one after the other
unfoldable pub words_bytes : List ℕ → List ℕ
words_bytes ws = gather bytes_of ws

-- a buffer whose start was written: what stands beyond is unchanged
abbrev pub over : List ℕ → List ℕ → List ℕ
over new old = new ++ drop (length new) old
