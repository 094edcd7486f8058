-- Zeros after the table say nothing: what is listed is the same. Assumes nothing.
use Rattle.std.specs.Prelude.{◌≡◌, refl, List, ◌++◌, map, ℕ, zero, suc, ◌+◌, ◌-◌, ◌*◌, ◌≤◌, ◌<◌, length, get_or, drop, replicate}
use Rattle.std.proofs.Math.Path.{sym, ap, fun_ext}
use Rattle.std.proofs.Common.{◌∙◌, ⊎_elim, arith, length-append, get_or-drop}
use Rattle.std.proofs.Math.ListN.{get_or-append}
use Rattle.laws.specs.Cases.{le_or_lt}
use Rattle.laws.specs.Axis.{span}
use Rattle.laws.specs.AllRuns.{joined, dedupe}
use Rattle.words.specs.Words.{word_at, over}
use Rattle.words.specs.Laws.{word_room, word_none, word_behind}
use Rattle.packets.specs.Tile.{Sheet, index_of, entries_before, table_bytes}
use Rattle.packets.specs.Grid.{change_of}
use Rattle.packets.specs.Positions.{positions_of}
use Rattle.packets.specs.Table.{sheet_at, table_of, entry_word}
use Rattle.packets.specs.Readback.{table-length}
use Rattle.packets.specs.Calls.{listed}
use Rattle.types.specs.declared.state.State.{State}
use Rattle.types.specs.declared.cursor.Position.{Position}

abbrev Zeros : List ℕ → Type 0
Zeros l = (i : ℕ) → get_or l i 0 ≡ 0

repeated : (n : ℕ) → Zeros (replicate n 0)
repeated zero i = refl
repeated (suc n) zero = refl
repeated (suc n) (suc i) = repeated n i

dropped : (n k : ℕ) → Zeros (drop k (replicate n 0))
dropped n k i = get_or-drop k (replicate n 0) i 0 ∙ repeated n (k + i)

zero_word : (l : List ℕ) → Zeros l → (at : ℕ) → word_at l at ≡ 0
zero_word l z at =
    ⊎_elim
    (λ h. word_room l at h ∙ rw (z at, z (at + 1), z (at + 2), z (at + 3)))
    (λ h. word_none l at h)
    (le_or_lt (at + 4) (length l))

-- a word of whole words, with zeros after them
padded_word : (xs zs : List ℕ) (m : ℕ) → length xs ≡ 4 * m → Zeros zs → (i : ℕ) → word_at (xs ++ zs) (4 * i) ≡ word_at xs (4 * i)
padded_word xs zs m e z i =
    ⊎_elim
    (λ (h : 4 * i + 4 ≤ length xs).
    let room : 4 * i + 4 ≤ length (xs ++ zs) = rw (length-append xs zs) (omega arith) in
    rw (word_room (xs ++ zs) (4 * i) room, word_room xs (4 * i) h, get_or-append xs zs 0 (4 * i) (omega arith), get_or-append xs zs 0 (4 * i + 1) (omega arith), get_or-append xs zs 0 (4 * i + 2) (omega arith), get_or-append xs zs 0 (4 * i + 3) (omega arith)))
    (λ (h : length xs < 4 * i + 4).
    let far : 4 * i ≡ length xs + 4 * (i - m) = omega arith in
    ap (word_at (xs ++ zs)) far ∙ word_behind xs zs (4 * (i - m)) ∙ zero_word zs z (4 * (i - m)) ∙ sym (word_none xs (4 * i) h))
    (le_or_lt (4 * i + 4) (length xs))

-- what a state and a table say, where the table is written over zeros
module _ (s : Sheet) (st : State) where
  abbrev padded : ℕ → Sheet
  padded n = sheet_at st (over (table_of s) (replicate n 0))

  padded-entry : (n k c r : ℕ) → entry_word st (over (table_of s) (replicate n 0)) k c r ≡ entry_word st (table_of s) k c r
  padded-entry n k c r =
      let at : 16 * (entries_before st c + r) + 4 * k ≡ 4 * (4 * (entries_before st c + r) + k) = omega arith in
      let long : length (table_of s) ≡ 4 * (4 * entries_before s.st s.st.components) = table-length s ∙ (let q : table_bytes s.st ≡ 4 * (4 * entries_before s.st s.st.components) = omega arith in q) in
      rw at (padded_word (table_of s) (drop (length (table_of s)) (replicate n 0)) (4 * entries_before s.st s.st.components) long (dropped n (length (table_of s))) (4 * (entries_before st c + r) + k))

  padded-same : (n : ℕ) → padded n ≡ sheet_at st (table_of s)
  padded-same n = λ i. record { st = st; pdx = fun_ext (λ c. fun_ext (λ r. padded-entry n 0 c r)) i; pdy = fun_ext (λ c. fun_ext (λ r. padded-entry n 1 c r)) i }

  abbrev listed_in : Sheet → List Position
  listed_in t = dedupe (index_of st) (joined (map (λ k. positions_of t (change_of st k)) (span 0 st.progressions)))

  pub padded-listed : (m n : ℕ) → listed st (over (table_of s) (replicate m 0)) ≡ listed st (over (table_of s) (replicate n 0))
  unfolding listed
  padded-listed m n = ap listed_in (padded-same m ∙ sym (padded-same n))
