-- The runs of all progressions in turn: what a loop over them keeps, and that no more than 65536 packets are listed. Assumes nothing.
use Rattle.std.specs.Prelude.{◌≡◌, ℕ, ◌+◌, ◌*◌, ◌≤◌, ◌<◌, length, true}
use Rattle.std.proofs.Common.{◌∙◌, subst, arith}
use Rattle.std.proofs.Math.Path.{ap}
use mathlib.Core.List.Memᴰ.{of_map as in_of_map}
use mathlib.Core.List.{List, [], ◌++◌, map, Memᴰ as In}
use Rattle.laws.specs.Axis.{span}
use Rattle.laws.specs.Spans.{span_head, span_end}
use Rattle.laws.specs.Gather.{gather, gather-map}
use Rattle.laws.specs.Gathered.{gathered_all}
use Rattle.laws.specs.Runs.{unlisted, marked}
use Rattle.laws.specs.AllRuns.{joined, unlisted-dedupe}
use Rattle.laws.specs.Marks.{free_at}
use Rattle.laws.specs.Frees.{frees_most, unlisted-few}
use Rattle.words.specs.Words.{words_bytes, over}
use Rattle.packets.specs.Tile.{index_of, stride_r, stride_l, needed}
use Rattle.packets.specs.Grid.{change_of}
use Rattle.packets.specs.Sound.{positions_for}
use Rattle.packets.specs.Calls.{listed, records_of}
use Rattle.packets.specs.Meaning.{Sound, sound-means}
use Rattle.packets.proofs.Steps.{sound-length}
use Rattle.packets.proofs.Turns.{mark-needed}
use Rattle.types.specs.declared.state.State.{State}
use Rattle.types.specs.declared.cursor.Position.{Position}
use Rattle.walks.specs.Prepared.{Counts}
use Rattle.walks.specs.Counting.{AllCounted}
use Rattle.walks.specs.Records.{put_packets, over-packets}
use Rattle.walks.specs.Plan.{walk_for, goes_over, order_in, Planned, planned_walk}
use Rattle.walks.specs.Taking.{strides_small}
use Rattle.walks.specs.Running.{run_at, total, total_of, Ran, Few, Kept, CountedIn, SomeRun, part_listed, run_ends, still_long, few_still, few_part}
use Rattle.walks.specs.declared.plan.Plan.{Plan}
use Rattle.walks.specs.declared.list.Run.{Run}

-- the positions of the progressions from number k on, in turn
abbrev pub from_on : State → List ℕ → ℕ → List Position
from_on st table k = joined (map (positions_for st table) (span k st.progressions))

from_gathers : (st : State) (table : List ℕ) (k : ℕ) → from_on st table k ≡ gather (positions_for st table) (span k st.progressions)
from_gathers st table k = gather-map (λ ps. ps) (positions_for st table) (span k st.progressions)

from_end : (st : State) (table : List ℕ) (k : ℕ) → st.progressions ≤ k → from_on st table k ≡ []
unfolding gather
from_end st table k h = rw (span_end k st.progressions h)

from_head : (st : State) (table : List ℕ) (k : ℕ) → k < st.progressions → from_on st table k ≡ positions_for st table k ++ from_on st table (k + 1)
unfolding gather
from_head st table k h = rw (span_head k st.progressions h)

module _ (st : State) (table marks : List ℕ) (d : Sound st table marks) where
  -- other marks, as many
  sound-marked : (m : List ℕ) → length m ≡ length marks → Sound st table m
  sound-marked m e = (sound-means st table m).0 (sound-length st table m marks e ∙ (sound-means st table marks).1 d)

  -- the marks of the positions are among those needed
  marks-needed : (k : ℕ) (p : Position) → In p (from_on st table k) → index_of st p < needed st
  marks-needed k p i =
      gathered_all (λ p. index_of st p < needed st) (positions_for st table) (span k st.progressions) (mark-needed st table marks d) p
      (subst (λ (l : List Position). In p l) (from_gathers st table k) i)

  -- so that the packets are few
  all-few : length (unlisted 0 (index_of st) marks (from_on st table 0)) ≤ needed st
  all-few =
      let h = unlisted-few 0 (index_of st) (needed st) marks (from_on st table 0)
      (λ p i. let s = marks-needed 0 p i in (s, omega (arith, s, d.marks_long))) in
      omega (arith, h, frees_most 0 (needed st) marks)

  pub count-few : (output : List ℕ) → (total_of (index_of st) (run_at 0 marks output) (from_on st table 0)).count ≤ 65536
  unfolding total_of
  count-few output = omega (arith, all-few, d.few)

  -- what planning a progression asks for
  pub plan_asks : (k : ℕ) → k < st.progressions → (k < 32) × (stride_r st ≤ 65536) × (stride_l st ≤ 65536)
  plan_asks k h = let w = strides_small st table marks d in (omega (arith, h, d.tile.progressions.1), w.0, w.1)

-- a sound state, its precincts counted, and a run over its progressions from number k on, with few packets
pub record RestIn (st : State) (table : List ℕ) (counts : Counts) (run : Run) (k : ℕ) : Type 0 where
  pub sound : Sound st table run.marks.now
  pub counted : AllCounted st table counts
  pub few : Few (index_of st) run (from_on st table k)

-- all of them
pub all_in : (st : State) (table : List ℕ) (counts : Counts) (run : Run)
    → run.count ≡ 0 → Sound st table run.marks.now → AllCounted st table counts → RestIn st table counts run 0
all_in st table counts run e d f = record { sound = d; counted = f; few = omega (arith, e, all-few st table run.marks.now d, d.few) }

-- what a loop over the progressions keeps: the run's end from what is still to be listed is that from what was to be listed at entry
abbrev pub KeptAll : State → List ℕ → Run → ℕ → Run → ℕ → Type 0
KeptAll st table a j b k = Kept (index_of st) a (from_on st table j) b (from_on st table k)

module _ (st : State) (table : List ℕ) {a b : Run} (j k : ℕ) (w : KeptAll st table a j b k) where
  -- what is left is in range still
  pub rest_in : {counts : Counts} → RestIn st table counts a j → RestIn st table counts b k
  rest_in d = record { sound = sound-marked st table a.marks.now d.sound b.marks.now (still_long w); counted = d.counted; few = few_still w d.few }

  -- nothing is left
  pub all-ended : st.progressions ≤ k → Ran a b (total_of (index_of st) (total a) (from_on st table j))
  all-ended h = run_ends w (from_end st table k h)

  module _ (less : k < st.progressions) where
    -- what is left is a progression, and what comes after it; that one is listed
    pub all-next : {c : Run} → Ran b c (total_of (index_of st) (total b) (positions_for st table k)) → KeptAll st table a j c (k + 1)
    all-next r = part_listed w (positions_for st table k) (from_on st table (k + 1)) (from_head st table k less) r

    module _ {counts : Counts} (d : RestIn st table counts a j) {plan : Plan}
        {v : ℕ} (made : (plan.order ≡ order_in st (change_of st k)) × (plan.walk ≡ walk_for st (goes_over st (change_of st k)) v)) where
      pub plans : Planned st table k plan b.marks.now
      plans = record { sound = (rest_in d).sound; known = less; order = made.0; walk = planned_walk st (goes_over st (change_of st k)) plan.walk v made.1 }

      pub run-few : Few (index_of st) b (positions_for st table k)
      run-few = few_part w (positions_for st table k) (from_on st table (k + 1)) (from_head st table k less) d.few

      pub all-run : SomeRun (CountedIn counts) plan b
      all-run = (st, (table, (k, plans, (rest_in d).counted, run-few)))

-- WHAT ALL THE RUNS LEAVE, from marks that are free for viewer 0 where they are needed and an output with room: the whole run's list, its marks and its records
pub all-listed : (st : State) (table marks output : List ℕ) → Sound st table marks → ((i : ℕ) → i < needed st → free_at 0 marks i ≡ true) → 16 * needed st ≤ length output
    → total_of (index_of st) (run_at 0 marks output) (from_on st table 0)
    ≡ run_at (length (listed st table)) (marked 0 (index_of st) marks (listed st table)) (over (records_of (listed st table)) output)
unfolding total_of listed records_of words_bytes gather
all-listed st table marks output d clear room =
    let ps : List Position = from_on st table 0 in
    let u : List Position = unlisted 0 (index_of st) marks ps in
    let few = all-few st table marks d in
    let e : u ≡ listed st table
    = unlisted-dedupe 0 (index_of st) (needed st) marks ps d.marks_long clear
    (λ i q. let r = in_of_map (index_of st) ps q in let h = marks-needed st table marks d 0 r.0 r.1 in rw r.2 at h) in
    let n : 0 + length u ≡ length u = omega arith in
    let w : put_packets output 0 u ≡ over (records_of u) output = over-packets [] u output (omega (arith, few)) in
    (λ i. run_at (n i) (marked 0 (index_of st) marks u) (w i))
    ∙ ap (λ (l : List Position). run_at (length l) (marked 0 (index_of st) marks l) (over (records_of l) output)) e
