-- What a listing asks for, what it promises, and what its loops keep, for every sheet and range that it is ready for. Assumes nothing.
use Rattle.std.specs.Prelude.{◌≡◌, true, false, cond, ℕ, ◌+◌, ◌*◌}
use Rattle.std.proofs.Common.{◌∙◌}
use Rattle.std.proofs.Math.Path.{ap}
use mathlib.Core.List.{List, ◌∷◌}
use native.Mathlib.Omega.{arith}
use Rattle.std.proofs.Math.ListN.{length}
use Rattle.laws.specs.Marks.{free_at, mark_at}
use Rattle.laws.specs.Cases.{split}
use Rattle.laws.specs.Runs.{mark, marked, unlisted, unlisted-free, unlisted-taken}
use Rattle.packets.specs.Tile.{Sheet, index_of}
use Rattle.types.specs.declared.order.Range.{Range}
use Rattle.types.specs.declared.cursor.Position.{Position}
use Rattle.walks.specs.Records.{put_packet, put_packets}
use Rattle.walks.specs.Marks.{mark_by}
use Rattle.walks.specs.Going.{Rest}
use Rattle.walks.specs.Prepared.{Prep, Counts}
use Rattle.walks.specs.Walk.{Ready, Counted}
use Rattle.walks.specs.Running.{Total, run_at, total, total_of, Ran, Few, Kept, then_ran}
use Rattle.walks.specs.declared.walk.Walk.{Walk}
use Rattle.walks.specs.declared.list.Run.{Run}

-- a packet is marked and written as the next record, unless it is marked
unfoldable pub listed_one : Walk → Position → Total → Total
listed_one w p t =
    cond (free_at 0 t.marks (mark_by w p))
    (run_at (t.count + 1) (mark_at 0 t.marks (mark_by w p)) (put_packet t.output (16 * t.count) p))
    t

module _ (w : Walk) (p : Position) (t : Total) where
  pub listed-free : free_at 0 t.marks (mark_by w p) ≡ true
      → run_at (t.count + 1) (mark_at 0 t.marks (mark_by w p)) (put_packet t.output (16 * t.count) p) ≡ listed_one w p t
  unfolding listed_one
  listed-free e = rw e

  pub listed-taken : free_at 0 t.marks (mark_by w p) ≡ false → t ≡ listed_one w p t
  unfolding listed_one
  listed-taken e = rw e

  -- the run goes on after it
  pub total-one : (ix : Position → ℕ) → mark_by w p ≡ ix p → (ps : List Position) → total_of ix t (p ∷ ps) ≡ total_of ix (listed_one w p t) ps
  unfolding listed_one total_of marked put_packets
  total-one ix e ps =
      split (free_at 0 t.marks (ix p))
      (λ f.
      let u : List Position = unlisted 0 ix (mark 0 ix t.marks p) ps in
      let c : t.count + length (p ∷ u) ≡ t.count + 1 + length u = omega arith in
      let o = put_packets (put_packet t.output (16 * t.count) p) (t.count + 1) u in
      rw (e, f, unlisted-free 0 ix t.marks p ps f) (ap (λ (k : ℕ). run_at k (marked 0 ix (mark 0 ix t.marks p) u) o) c))
      (λ f. rw (e, f, unlisted-taken 0 ix t.marks p ps f))

-- the packet that is next was listed
pub one_listed : {ix : Position → ℕ} {a b c : Run} {entry rest next : List Position} → Kept ix a entry b rest
    → (w : Walk) (p : Position) → (rest ≡ p ∷ next) × (mark_by w p ≡ ix p) → Ran b c (listed_one w p (total b)) → Kept ix a entry c next
one_listed {ix = ix} {b = b} {next = next} k w p e r = then_ran k (ap (total_of ix (total b)) e.0 ∙ total-one w p (total b) ix e.1 next) r

-- what a listing asks of a sheet, a range and the marks
abbrev pub Asks : Type 1
Asks = Sheet → Range → List ℕ → Type 0

-- a run is ready to list `entry` of some sheet and range, and its packets are few
abbrev pub SomeListing : Asks → Rest → Run → Type 0
SomeListing A entry a = (s : Sheet) × ((g : Range) × A s g a.marks.now × Few (index_of s.st) a (entry s g))

-- run b is run a once `entry` is listed
abbrev pub Lists : Asks → Rest → Run → Run → Type 0
Lists A entry a b = (s : Sheet) (g : Range) → A s g a.marks.now → Ran a b (total_of (index_of s.st) (total a) (entry s g))

-- what every loop of a listing keeps: the run's end from what is still to be listed is that from what was to be listed at entry
abbrev pub Listing : Asks → Run → Rest → Run → Rest → Type 0
Listing A a entry b rest = (s : Sheet) (g : Range) → A s g a.marks.now → Kept (index_of s.st) a (entry s g) b (rest s g)

-- what the listings by counts ask for, and those by points
abbrev pub CountedBy : Counts → Walk → Asks
CountedBy counts w s g marks = Counted s g counts w marks

abbrev pub ReadyBy : Prep → Walk → Asks
ReadyBy prep w s g marks = Ready s g prep w marks
