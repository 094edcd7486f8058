-- A sheet's records: each by itself is read as it is where it stands; a good one leads to the next, a bad one decides, and after the last nothing may be missing. Assumes nothing.
use Rattle.std.proofs.Common.{◌≡◌, refl, ap, ◌∙◌, ℕ, zero, suc, ◌+◌, ◌-◌, ◌*◌, ◌/◌, ◌%◌, ◌≤◌, ◌<◌, true, false, List, [], length, take, drop, get_or, ltb, eqb, nat_abs, negsuc, arith, lt-ltb, le-leb, eq-eqb, ne_eqb, ltb-true, leb-true, eqb-true}
use lib.Seq.{drop-drop}
use Rattle.std.proofs.lemmas.List.{get_or-take, get_or-drop}
use Rattle.std.specs.Simd.{first_chunks}
use Rattle.laws.specs.Below.{not-below}
use Rattle.laws.specs.Cases.{and_true, split}
use Rattle.laws.specs.Pointwise.{all-same}
use Rattle.words.specs.Laws.{word_part}
use Rattle.types.specs.Answers.{number_of}
use Rattle.types.specs.declared.answer.Refusal.{Refusal}
use Rattle.types.specs.declared.answer.Refusal.TheVariants as kind
use Rattle.packets.specs.Calls.{refusal}
use Rattle.packets.specs.Sheet.{wd, unnamed, tile_verdict, component_verdict, resolution_verdict, progression_verdict, component_at, progression_at, Due, due, record_verdict, due_after, complete, read_from, length_good, read_verdict}

-- the bytes of record i, as a sheet of one record, have its words
pub record IsRecord (b s : List ℕ) (i : ℕ) : Type 0 where
  pub word : (k : ℕ) → k < 8 → wd b 0 k ≡ wd s i k

record_part : (s : List ℕ) (i : ℕ) → 32 * i + 32 ≤ length s → IsRecord (take 32 (drop (32 * i) s)) s i
record_part s i h =
    record {
      word = λ k l. let e : 32 * 0 + 4 * k ≡ 4 * k = omega arith in rw e (word_part s (32 * i) 32 (4 * k) h (λ g. omega arith));
    }

-- chunk i of n
chunk : (s d : List ℕ) (n i : ℕ) → i < n → get_or (first_chunks 32 n s) i d ≡ take 32 (drop (32 * i) s)
chunk s d zero i h = not-below i h
chunk s d (suc n) zero h = refl
chunk s d (suc n) (suc i) h =
    let e : 32 + 32 * i ≡ 32 * suc i = omega arith in
    chunk (drop 32 s) d n i (omega arith) ∙ ap (take 32) (drop-drop (32 * i) 32 s ∙ ap (λ (n : ℕ). drop n s) e)

-- a sheet cut into its records: each where it stands, and those after the tile's
module _ (s : List ℕ) (records : List (List ℕ)) (cut : records ≡ first_chunks 32 (length s / 32) s) where
  pub record-at : (i : ℕ) → i < length s / 32 → IsRecord (get_or records i []) s i
  record-at i h = rw (cut, chunk s [] (length s / 32) i h) (record_part s i (omega arith))

  pub record_behind : (n i : ℕ) → i < n → n < length s / 32 → IsRecord (get_or (take n (drop 1 records)) i []) s (i + 1)
  record_behind n i h l =
      let e : 1 + i ≡ i + 1 = omega arith in
      rw (get_or-take n (drop 1 records) i [] h, get_or-drop 1 records i [], e) (record-at (i + 1) (omega arith))

module _ {b s : List ℕ} {i : ℕ} (is : IsRecord b s i) where
  unnamed-same : (k : ℕ) → unnamed b 0 k ≡ unnamed s i k
  unnamed-same k = all-same _ _ (8 - k) (λ j h. ap (λ (w : ℕ). eqb w 0) (is.word (k + j) (omega arith)))

  pub tile-same : tile_verdict b 0 ≡ tile_verdict s i
  tile-same = rw (is.word 0 (omega arith), is.word 1 (omega arith), is.word 2 (omega arith), is.word 3 (omega arith), is.word 4 (omega arith), is.word 5 (omega arith), is.word 6 (omega arith), is.word 7 (omega arith))

  component-same : component_verdict b 0 ≡ component_verdict s i
  component-same = rw (unnamed-same 4, is.word 0 (omega arith), is.word 1 (omega arith), is.word 2 (omega arith), is.word 3 (omega arith))

  resolution-same : resolution_verdict b 0 ≡ resolution_verdict s i
  resolution-same = rw (unnamed-same 3, is.word 0 (omega arith), is.word 1 (omega arith), is.word 2 (omega arith))

  progression-same : (count : ℕ) → progression_verdict b count 0 ≡ progression_verdict s count i
  progression-same count = rw (unnamed-same 2, unnamed-same 7, is.word 0 (omega arith), is.word 2 (omega arith), is.word 4 (omega arith), is.word 5 (omega arith))

  pub record-same : (count : ℕ) (d : Due) → record_verdict b count 0 d ≡ record_verdict s count i d
  unfolding record_verdict
  record-same count d = rw (component-same, resolution-same, progression-same count)

  pub due-same : (d : Due) → due_after b 0 d ≡ due_after s i d
  unfolding due_after
  due-same d = rw (is.word 3 (omega arith))

  pub component_fields-same : component_at b 0 ≡ component_at s i
  component_fields-same = rw (is.word 1 (omega arith), is.word 2 (omega arith), is.word 3 (omega arith))

  pub fields-same : progression_at b 0 ≡ progression_at s i
  unfolding progression_at
  fields-same = rw (is.word 0 (omega arith), is.word 1 (omega arith), is.word 2 (omega arith), is.word 3 (omega arith), is.word 4 (omega arith), is.word 5 (omega arith), is.word 6 (omega arith))

module _ (s : List ℕ) (count n i : ℕ) (d : Due) where
  pub read_more : i < n → record_verdict s count i d ≡ 0 → read_from s count (n - i) i d ≡ read_from s count (n - (i + 1)) (i + 1) (due_after s i d)
  unfolding read_from
  read_more h g = let e : n - i ≡ suc (n - (i + 1)) = omega arith in rw (e, g)

  pub read_stop : i < n → eqb (record_verdict s count i d) 0 ≡ false → read_from s count (n - i) i d ≡ record_verdict s count i d
  unfolding read_from
  read_stop h g = let e : n - i ≡ suc (n - (i + 1)) = omega arith in rw (e, g)

  module _ (h : n ≤ i) where
    pub read-whole : complete d ≡ true → read_from s count (n - i) i d ≡ 0
    unfolding read_from
    read-whole g = let e : n - i ≡ 0 = omega arith in rw (e, g)

    pub read_missing : complete d ≡ false → read_from s count (n - i) i d ≡ 2
    unfolding read_from
    read_missing g = let e : n - i ≡ 0 = omega arith in rw (e, g)

-- the whole sheet: its length, then the tile's record, then the records after it
module _ (s : List ℕ) where
  pub good-length : 0 < length s → length s % 32 ≡ 0 → length s ≤ 32 * 577 → length_good s ≡ true
  good-length a b c = rw (lt-ltb 0 (length s) a, eq-eqb (length s % 32) 0 b, le-leb (length s) (32 * 577) c)

  pub refused_length : (0 < length s → length s % 32 ≡ 0 → length s ≤ 32 * 577 → ⊥) → 1 ≡ read_verdict s
  unfolding read_verdict
  refused_length f =
      split (length_good s)
      (λ t.
      let a = and_true (ltb 0 (length s)) _ t in
      let b = and_true (eqb (length s % 32) 0) _ a.1 in
      absurd (f (ltb-true _ _ a.0) (eqb-true _ _ b.0) (leb-true _ _ b.1)))
      (λ t. rw t)

  module _ (good : length_good s ≡ true) where
    pub refused_tile : eqb (tile_verdict s 0) 0 ≡ false → tile_verdict s 0 ≡ read_verdict s
    unfolding read_verdict
    refused_tile e = rw (good, e)

    pub read-behind : tile_verdict s 0 ≡ 0 → read_from s (wd s 0 7) (length s / 32 - 1) 1 (due 0 (wd s 0 6) (wd s 0 7)) ≡ read_verdict s
    unfolding read_verdict
    read-behind e = rw (good, e)

-- a refusal's number is negative
refused : (e : Refusal) → (n : ℕ) × (number_of e ≡ negsuc n)
refused kind.Length = (0, refl)
refused kind.Shape = (1, refl)
refused kind.Range = (2, refl)
refused kind.Grid = (3, refl)
refused kind.TooMany = (4, refl)
refused kind.Marks = (5, refl)
refused kind.Table = (6, refl)
refused kind.Output = (7, refl)

pub bad : {v : ℕ} (e : Refusal) → nat_abs (number_of e) ≡ v → eqb v 0 ≡ false
bad e h = let r = refused e in rw (← h, r.1) (ne_eqb (suc r.0) 0 (omega arith))

pub said : {v : ℕ} (e : Refusal) → nat_abs (number_of e) ≡ v → number_of e ≡ refusal v
said e h = let r = refused e in rw (← h, r.1) (ap negsuc (omega arith))
