-- The table that setup writes is read back word by word, and what stands beyond is as before. Assumes nothing.
use Rattle.std.specs.Prelude.{◌≡◌, get_or, drop}
use Rattle.std.proofs.Common.{◌∙◌}
use mathlib.Core.List.{List}
use Prim.Native.Nat.{ℕ, ◌+◌, ◌*◌, ◌^◌, ◌≤◌, ◌<◌}
use native.Mathlib.Omega.{arith}
use Rattle.std.proofs.Math.ListN.{length}
use Rattle.laws.specs.Below.{sum_below, sum_part}
use Rattle.laws.specs.Indexing.{gather-length, gather-at, sum_times, sum-same, sum_constant}
use Rattle.words.specs.Words.{words_bytes, over}
use Rattle.words.specs.Laws.{word_of, bytes-length}
use Rattle.packets.specs.Tile.{Sheet, res_of, entries_before, table_bytes}
use Rattle.packets.specs.Table.{entry, words_in, words_below, table_words, table_of, entry_word}

module _ (s : Sheet) where
  -- the table has four words for each resolution
  component-length : (c : ℕ) → length (words_in s c) ≡ 4 * res_of s.st c
  component-length c = gather-length (entry s c) (res_of s.st c) ∙ sum_constant 4 (res_of s.st c)

  words_before : (c : ℕ) → sum_below (λ i. length (words_in s i)) c ≡ 4 * entries_before s.st c
  unfolding entries_before
  words_before c = sum-same _ (λ i. 4 * res_of s.st i) c component-length ∙ sum_times 4 (res_of s.st) c

  pub words_length : (k : ℕ) → length (words_below s k) ≡ 4 * entries_before s.st k
  words_length k = gather-length (words_in s) k ∙ words_before k

  pub table-length : length (table_of s) ≡ table_bytes s.st
  unfolding table_of
  table-length = rw (bytes-length (table_words s)) (omega (arith, words_length s.st.components))

  module _ (c r k : ℕ) (hc : c < s.st.components) (hr : r < res_of s.st c) (hk : k < 4) where
    word_stands : get_or (table_words s) (4 * (entries_before s.st c + r) + k) 0 ≡ get_or (entry s c r) k 0
    word_stands =
        let inner : get_or (words_in s c) (4 * r + k) 0 ≡ get_or (entry s c r) k 0
        = rw (← (sum_constant 4 r)) (gather-at (entry s c) (res_of s.st c) r k 0 hr hk) in
        let here : 4 * r + k < length (words_in s c) = rw (component-length c) (omega arith) in
        let at : 4 * (entries_before s.st c + r) + k ≡ sum_below (λ i. length (words_in s i)) c + (4 * r + k) = rw (words_before c) (omega arith) in
        rw at (gather-at (words_in s) s.st.components c (4 * r + k) 0 hc here ∙ inner)

    -- what was written is read
    pub table_word : (table : List ℕ) → get_or (entry s c r) k 0 < 2 ^ 32 → entry_word s.st (over (table_of s) table) k c r ≡ get_or (entry s c r) k 0
    unfolding table_of entries_before
    table_word table small =
        let ws : List ℕ = table_words s in
        let i : ℕ = 4 * (entries_before s.st c + r) + k in
        let at : 16 * (entries_before s.st c + r) + 4 * k ≡ 4 * i = omega arith in
        let part : entries_before s.st c + res_of s.st c ≤ entries_before s.st s.st.components = sum_part (res_of s.st) s.st.components c hc in
        let n : length ws ≡ 4 * entries_before s.st s.st.components = words_length s.st.components in
        rw at (word_of ws (drop (length (words_bytes ws)) table) i (omega arith) (rw word_stands small) ∙ word_stands)
