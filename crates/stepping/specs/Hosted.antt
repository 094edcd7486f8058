-- Of a sound state, what the calls of all progressions leave is what all its listings leave (walks, RunAll.antt), which is the whole run. Assumes nothing.
use Rattle.std.specs.Prelude.{◌≡◌, List, ℕ, ◌≤◌, pos, length, Ok}
use Rattle.std.proofs.Math.Path.{refl, ap}
use Rattle.std.proofs.Common.{◌∙◌, zero-le, arith, le-leb}
use Rattle.laws.specs.AllRuns.{Listing, listing}
use Rattle.words.specs.Laws.{Bytes}
use Rattle.packets.specs.Tile.{needed, index_of}
use Rattle.laws.specs.Cases.{and_both}
use Rattle.types.specs.Totals.{total_for}
use Rattle.packets.specs.Sound.{followed_sound}
use Rattle.packets.specs.Meaning.{Sound, sound-means}
use Rattle.packets.specs.Host.{most_steps, Hosted, call_runs}
use Rattle.packets.specs.Run.{listing_of}
use Rattle.packets.proofs.Run.{all, run-unlisted}
use Rattle.types.specs.declared.state.State.{State}
use Rattle.types.specs.declared.cursor.Position.{Position}
use Rattle.walks.specs.Running.{Total, run_at, total_of}
use Rattle.walks.specs.RunAll.{from_on, count-few}
use Rattle.calls.specs.Room.{SetUpLeft}
use Rattle.calls.specs.Whole.{Left, run-left, done-sound}
use Rattle.calls.specs.declared.output.Output.TheVariants.{Records}
use Rattle.stepping.specs.Stepped.{uncounted, written, hosted_of}

module _ (st : State) (table marks output : List ℕ) (d : Sound st table marks) where
  abbrev made : Hosted
  made = call_runs most_steps st.progressions (uncounted st) table marks 0 0

  -- the calls list what has no mark when it is reached
  lists : listing_of made ≡ listing 0 (index_of st) (all st table 0 refl) marks
  unfolding followed_sound total_for
  lists =
      let few = d.few in
      run-unlisted st table 0 refl (uncounted st).totals marks (omega arith) (and_both ((sound-means st table marks).1 d) (le-leb 0 (needed st) zero-le)) most_steps (omega arith)

  hosted-total : hosted_of st.progressions st table marks 0 output 0 ≡ total_of (index_of st) (run_at 0 marks output) (from_on st table 0)
  unfolding hosted_of total_of
  hosted-total = ap (λ (r : Listing Position). written output 0 r.packets r.marks) lists

  hosted-few : (hosted_of st.progressions st table marks 0 output 0).count ≤ 65536
  hosted-few = let e = ap (λ (t : Total). t.count) hosted-total in omega (arith, e, count-few st table marks d output)

-- a setup that is accepted: the calls over what it left list few packets, and leave what the whole run leaves
module _ (sheet table marks output : List ℕ) {st : State} {t m : List ℕ} (h : SetUpLeft sheet table marks (Records (length output)) (Ok st) t m) (bytes : Bytes sheet) where
  pub passed-few : (hosted_of st.progressions st t m 0 output 0).count ≤ 65536
  passed-few = hosted-few st t m output (done-sound sheet table marks output h bytes)

  pub passed-left : {n : ℕ} {mx ox : List ℕ}
      → run_at n mx ox ≡ hosted_of st.progressions st t m 0 output 0
      → Left sheet table marks output (pos n) t mx ox
  passed-left ran = run-left sheet table marks output h bytes (ran ∙ hosted-total st t m output (done-sound sheet table marks output h bytes))
