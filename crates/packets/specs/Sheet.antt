-- The sheet (01, 'The sheet'): its records read in order, the first refusal -1, -2, -3, and the fields of a sheet that has none.
use Rattle.std.specs.Prelude.{ℕ, zero, suc, ◌+◌, ◌-◌, ◌*◌, ◌/◌, ◌%◌, ◌^◌, Bool, true, cond, ◌&&◌, List, ◌++◌, map, length, replicate, ltb, leb, eqb, ℤ, pos, negsuc}
use Rattle.laws.specs.Axis.{span}
use Rattle.laws.specs.Below.{all_below}
use Rattle.words.specs.Words.{word_at}
use Rattle.types.specs.Ranges.{tile_range, component_range, exponent_range, is_volume, progression_range}
use Rattle.types.specs.State.{no_component, no_progression, no_reports}
use Rattle.types.specs.declared.state.Component.{Component}
use Rattle.types.specs.declared.state.Progression.{Progression}
use Rattle.types.specs.declared.state.State.{State}

-- 01: records of 32 bytes, eight words each; word k of record i, from 0
abbrev pub wd : List ℕ → ℕ → ℕ → ℕ
wd s i k = word_at s (32 * i + 4 * k)

-- 01: words not named are 0; here those of record i from word k on
abbrev pub unnamed : List ℕ → ℕ → ℕ → Bool
unnamed s i k = all_below (λ j. eqb (wd s i (k + j)) 0) (8 - k)

-- 01: within a record kind and unnamed words come before ranges. A verdict is the number that a refusal carries, or 0
abbrev pub judged : Bool → Bool → ℕ
judged shape range = cond shape (cond range 0 3) 2

-- 01, the table of kinds: record i as a tile, a component, a resolution, and a progression of kind 4 or 6 (02, P6), or of kind 5, which wants a progression count of 1
abbrev pub tile_verdict : List ℕ → ℕ → ℕ
tile_verdict s i = judged (eqb (wd s i 0) 1) (tile_range (wd s i 1) (wd s i 2) (wd s i 3) (wd s i 4) (wd s i 5) (wd s i 6) (wd s i 7))

abbrev pub component_verdict : List ℕ → ℕ → ℕ
component_verdict s i = judged (eqb (wd s i 0) 2 && unnamed s i 4) (component_range (wd s i 1) (wd s i 2) (wd s i 3))

abbrev pub resolution_verdict : List ℕ → ℕ → ℕ
resolution_verdict s i = judged (eqb (wd s i 0) 3 && unnamed s i 3) (exponent_range (wd s i 1) (wd s i 2))

abbrev pub volume_verdict : List ℕ → ℕ → ℕ
volume_verdict s i = judged (is_volume (wd s i 0) && unnamed s i 7) (progression_range (wd s i 2) (wd s i 4) (wd s i 5))

abbrev pub whole_tile_verdict : List ℕ → ℕ → ℕ → ℕ
whole_tile_verdict s count i = judged (eqb (wd s i 0) 5 && (unnamed s i 2 && eqb count 1)) true

abbrev pub progression_verdict : List ℕ → ℕ → ℕ → ℕ
progression_verdict s count i = cond (eqb (wd s i 0) 5) (whole_tile_verdict s count i) (volume_verdict s i)

-- what is still due: resolutions of the component at hand, components, progressions
pub record Due : Type 0 where
  pub resolutions : ℕ
  pub components : ℕ
  pub progressions : ℕ

abbrev pub due : ℕ → ℕ → ℕ → Due
due r c p = record { resolutions = r; components = c; progressions = p }

-- 01: each component record is followed by its resolutions; after the last component stand the progressions; a record left over is -2
unfoldable pub record_verdict : List ℕ → ℕ → ℕ → Due → ℕ
record_verdict s count i d =
    cond (ltb 0 d.resolutions) (resolution_verdict s i)
    (cond (ltb 0 d.components) (component_verdict s i) (cond (ltb 0 d.progressions) (progression_verdict s count i) 2))

-- what is due after record i
unfoldable pub due_after : List ℕ → ℕ → Due → Due
due_after s i d =
    cond (ltb 0 d.resolutions) (due (d.resolutions - 1) d.components d.progressions)
    (cond (ltb 0 d.components) (due (wd s i 3) (d.components - 1) d.progressions) (due 0 0 (d.progressions - 1)))

-- 01: a record missing is -2
abbrev pub complete : Due → Bool
complete d = eqb d.resolutions 0 && (eqb d.components 0 && eqb d.progressions 0)

-- n records from record i on, in order; the first bad one decides
unfoldable pub read_from : List ℕ → ℕ → ℕ → ℕ → Due → ℕ
read_from s count zero i d = cond (complete d) 0 2
read_from s count (suc n) i d =
    let rest = read_from s count n (i + 1) (due_after s i d) in
    let v = record_verdict s count i d in
    cond (eqb v 0) rest v

-- 01: -1 for a sheet that is empty, not a multiple of 32 bytes, or over 577 records
abbrev pub length_good : List ℕ → Bool
length_good s = ltb 0 (length s) && (eqb (length s % 32) 0 && leb (length s) (32 * 577))

-- the first refusal of a sheet: 1, 2 or 3, or 0 if it has none
unfoldable pub read_verdict : List ℕ → ℕ
read_verdict s =
    let rest = read_from s (wd s 0 7) (length s / 32 - 1) 1 (due 0 (wd s 0 6) (wd s 0 7)) in
    let v = tile_verdict s 0 in
    cond (length_good s) (cond (eqb v 0) rest v) 1

-- THE FIELDS, by where their records stand. The record of component c, and of its resolution r
unfoldable pub component_record : List ℕ → ℕ → ℕ
component_record s zero = 1
component_record s (suc c) = component_record s c + 1 + wd s (component_record s c) 3

abbrev pub resolution_record : List ℕ → ℕ → ℕ → ℕ
resolution_record s c r = component_record s c + 1 + r

-- the record of progression k
abbrev pub progression_record : List ℕ → ℕ → ℕ
progression_record s k = component_record s (wd s 0 6) + k

abbrev pub component_at : List ℕ → ℕ → Component
component_at s i = record { dx = wd s i 1; dy = wd s i 2; resolutions = wd s i 3 }

-- 01: prg is read as signed (two's complement)
abbrev pub signed_of : ℕ → ℤ
signed_of w = cond (ltb w (2 ^ 31)) (pos w) (negsuc (2 ^ 32 - 1 - w))

unfoldable pub progression_at : List ℕ → ℕ → Progression
progression_at s i =
    record { kind = wd s i 0; prg = signed_of (wd s i 1); resno0 = wd s i 2; compno0 = wd s i 3; layno1 = wd s i 4; resno1 = wd s i 5; compno1 = wd s i 6 }

-- an array of m: f 0, f 1, .. f (n - 1), and then blanks
abbrev pub array_of : {A : Type 0} → ℕ → A → (ℕ → A) → ℕ → List A
array_of m blank f n = map f (span 0 n) ++ replicate (m - n) blank

-- the sheet's fields; what setup reports is still 0
unfoldable pub fields_of : List ℕ → State
fields_of s =
    record {
      tx0 = wd s 0 1;
      ty0 = wd s 0 2;
      tx1 = wd s 0 3;
      ty1 = wd s 0 4;
      layers = wd s 0 5;
      components = wd s 0 6;
      progressions = wd s 0 7;
      comps = array_of 16 no_component (λ c. component_at s (component_record s c)) (wd s 0 6);
      changes = array_of 32 no_progression (λ k. progression_at s (progression_record s k)) (wd s 0 7);
      reports = no_reports;
    }
