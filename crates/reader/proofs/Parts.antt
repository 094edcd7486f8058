-- The fields of a sheet, read part by part: the state with the first c components and the first k progressions; and how far its records reach. Assumes nothing.
use Rattle.std.proofs.Common.{◌≡◌, refl, ap, ◌∙◌, List, ⊎_elim, ℕ, zero, suc, ◌+◌, ◌/◌, ◌≤◌, ◌<◌, add-one, arith, set, length, leb, leb-true}
use Rattle.laws.specs.Cases.{le_or_lt, and_true}
use Rattle.laws.specs.Filled.{filled_none, filled_more}
use Rattle.types.specs.State.{no_component, no_progression, no_reports, empty_state}
use Rattle.types.specs.Ranges.{within}
use Rattle.packets.specs.Sheet.{wd, component_record, progression_record, component_at, progression_at, array_of, fields_of, read_verdict}
use Rattle.packets.proofs.Fields.{tile-good}
use Rattle.packets.specs.Reading.{read-good}
use Rattle.types.specs.declared.state.Component.{Component}
use Rattle.types.specs.declared.state.Progression.{Progression}
use Rattle.types.specs.declared.state.State.{State}

-- a state by the tile's words of s and its arrays
abbrev with_arrays : List ℕ → List Component → List Progression → State
with_arrays s comps changes =
    record {
      tx0 = wd s 0 1;
      ty0 = wd s 0 2;
      tx1 = wd s 0 3;
      ty1 = wd s 0 4;
      layers = wd s 0 5;
      components = wd s 0 6;
      progressions = wd s 0 7;
      comps = comps;
      changes = changes;
      reports = no_reports;
    }

-- what is written: a component, a progression
abbrev put_component : State → ℕ → Component → State
put_component st c one = record st { comps = set st.comps c one }

abbrev put_change : State → ℕ → Progression → State
put_change st k one = record st { changes = set st.changes k one }

module _ (s : List ℕ) where
  -- the first components, and the first progressions
  abbrev comps_of : ℕ → List Component
  comps_of c = array_of 16 no_component (λ j. component_at s (component_record s j)) c

  abbrev changes_of : ℕ → List Progression
  changes_of k = array_of 32 no_progression (λ j. progression_at s (progression_record s j)) k

  -- the first c components and k progressions
  unfoldable pub part_of : ℕ → ℕ → State
  part_of c k = with_arrays s (comps_of c) (changes_of k)

  part_none : with_arrays s empty_state.comps empty_state.changes ≡ part_of 0 0
  unfolding part_of
  part_none =
      rw (filled_none 16 no_component (λ j. component_at s (component_record s j)), filled_none 32 no_progression (λ j. progression_at s (progression_record s j)))

  -- one more
  comps_more : (c : ℕ) → c < 16 → set (comps_of c) c (component_at s (component_record s c)) ≡ comps_of (c + 1)
  comps_more c h = filled_more 16 no_component (λ j. component_at s (component_record s j)) c h

  changes_more : (k : ℕ) → k < 32 → set (changes_of k) k (progression_at s (progression_record s k)) ≡ changes_of (k + 1)
  changes_more k h = filled_more 32 no_progression (λ j. progression_at s (progression_record s j)) k h

  part_all : part_of (wd s 0 6) (wd s 0 7) ≡ fields_of s
  unfolding part_of fields_of
  part_all = refl

  -- the record of the next component
  record_next : (c : ℕ) → component_record s (c + 1) ≡ component_record s c + 1 + wd s (component_record s c) 3
  unfolding component_record
  record_next c = rw (add-one c)

  record_later : (n c : ℕ) → c ≤ n → component_record s c ≤ component_record s n
  unfolding component_record
  record_later zero c h = let e : c ≡ 0 = omega arith in rw e (omega arith)
  record_later (suc n) c h =
      ⊎_elim
      (λ (l : c ≤ n). omega (arith, record_later n c l))
      (λ (l : n < c). let e : c ≡ suc n = omega arith in rw e (omega arith))
      (le_or_lt c n)

-- a sheet with no refusal: how many components and progressions it has, and how far its records reach
record Reach (s : List ℕ) : Type 0 where
  components : wd s 0 6 ≤ 16
  progressions : wd s 0 7 ≤ 32
  records : (c : ℕ) → c ≤ wd s 0 6 → component_record s c + wd s 0 7 ≤ length s / 32
  short : length s / 32 ≤ 577

reach : (s : List ℕ) → read_verdict s ≡ 0 → Reach s
unfolding fields_of
reach s e =
    let r = read-good s e in
    let a = and_true (leb (wd s 0 1) (wd s 0 3)) _ (tile-good s r) in
    let b = and_true (leb (wd s 0 2) (wd s 0 4)) _ a.1 in
    let d = and_true (within 1 65535 (wd s 0 5)) _ b.1 in
    let f = and_true (within 1 16 (wd s 0 6)) (within 1 32 (wd s 0 7)) d.1 in
    record {
      components = leb-true (wd s 0 6) 16 (and_true (leb 1 (wd s 0 6)) (leb (wd s 0 6) 16) f.0).1;
      progressions = leb-true (wd s 0 7) 32 (and_true (leb 1 (wd s 0 7)) (leb (wd s 0 7) 32) f.1).1;
      records = λ c h. omega (arith, record_later s (wd s 0 6) c h, r.size);
      short = omega (arith, r.short);
    }

-- THE LOOPS. The first c components are read and the next record is number `at`; then k progressions after them
pub record Components (s : List ℕ) (components at c : ℕ) (out : State) : Type 0 where
  pub all : components ≡ wd s 0 6
  pub few : components ≤ 16
  pub short : length s / 32 ≤ 577
  pub there : c < components → at < length s / 32
  pub here : at ≡ component_record s c
  pub part : out ≡ part_of s c 0

pub record Progressions (s : List ℕ) (progressions at k : ℕ) (out : State) : Type 0 where
  pub all : progressions ≡ wd s 0 7
  pub few : progressions ≤ 32
  pub short : length s / 32 ≤ 577
  pub there : at + progressions ≤ length s / 32
  pub here : at ≡ component_record s (wd s 0 6)
  pub part : out ≡ part_of s (wd s 0 6) k

module _ (s : List ℕ) where
  -- it has a record
  pub reach_tile : read_verdict s ≡ 0 → 0 < length s / 32
  unfolding component_record
  reach_tile e = omega (arith, (reach s e).records 0 (omega arith))

  module _ (read : read_verdict s ≡ 0) where
    components-at : (components c at : ℕ) (out : State) → components ≡ wd s 0 6 → c ≤ components → at ≡ component_record s c → out ≡ part_of s c 0 → Components s components at c out
    components-at components c at out all h here part =
        let r = reach s read in
        record {
          all = all;
          few = omega (arith, r.components);
          short = r.short;
          there = λ (l : c < components). omega (arith, r.records (c + 1) (omega arith), record_next s c);
          here = here;
          part = part;
        }

    pub components-start : (components : ℕ) (out : State) → components ≡ wd s 0 6
        → out ≡ with_arrays s empty_state.comps empty_state.changes
        → Components s components 1 0 out
    unfolding component_record
    components-start components out all e = components-at components 0 1 out all (omega arith) refl (e ∙ part_none s)

    pub components-next : (components at c : ℕ) (out : State) (one : Component) → Components s components at c out
        → c < components
        → one ≡ component_at s at
        → Components s components (at + (1 + one.resolutions)) (c + 1) (put_component out c one)
    unfolding part_of
    components-next components at c out one i l e =
        let few = i.few in
        let r : one.resolutions ≡ wd s (component_record s c) 3 = rw i.here at (ap (λ (t : Component). t.resolutions) e) in
        let here : at + (1 + one.resolutions) ≡ component_record s (c + 1) = omega (arith, i.here, record_next s c, r) in
        components-at components (c + 1) _ _ i.all (omega arith) here (rw (i.part, e, i.here, comps_more s c (omega arith)))

    pub progressions-start : (components progressions at c : ℕ) (out : State) → progressions ≡ wd s 0 7
        → Components s components at c out
        → c ≤ components
        → components ≤ c
        → Progressions s progressions at 0 out
    progressions-start components progressions at c out all i g h =
        let r = reach s read in
        let last : c ≡ wd s 0 6 = omega (arith, i.all) in
        let here : at ≡ component_record s (wd s 0 6) = rw (← last) i.here in
        record {
          all = all;
          few = omega (arith, r.progressions);
          short = r.short;
          there = omega (arith, r.records (wd s 0 6) (omega arith));
          here = here;
          part = rw (← last) i.part;
        }

  pub progressions-next : (progressions at k : ℕ) (out : State) (one : Progression) → Progressions s progressions at k out
      → k < progressions
      → one ≡ progression_at s (at + k)
      → Progressions s progressions at (k + 1) (put_change out k one)
  unfolding part_of
  progressions-next progressions at k out one i l e =
      let few = i.few in
      record {
        all = i.all;
        few = few;
        short = i.short;
        there = i.there;
        here = i.here;
        part = rw (i.part, e, i.here, changes_more s k (omega arith));
      }

  pub progressions_end : (progressions at k : ℕ) (out : State) → Progressions s progressions at k out → k ≤ progressions → progressions ≤ k → out ≡ fields_of s
  progressions_end progressions at k out i g h =
      let last : k ≡ wd s 0 7 = omega (arith, i.all) in
      i.part ∙ rw last (part_all s)
