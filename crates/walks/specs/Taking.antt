-- What a step takes: from a sound state to a planned progression, and from what was found to what is marked. Assumes nothing.
use Rattle.std.specs.Prelude.{◌≡◌, ℕ, zero, suc, ◌*◌, ◌≤◌, ◌<◌, Option, Some, None}
use Rattle.std.proofs.Common.{sym, ◌∙◌, arith}
use Rattle.std.proofs.Math.Path.{ap}
use mathlib.Core.List.{List, Memᴰ as In}
use Rattle.laws.specs.Below.{max-at}
use Rattle.laws.specs.Runs.{seek, mark, found_in}
use Rattle.packets.specs.Tile.{res_of, max_res, stride_r, stride_l, needed, index_of}
use Rattle.packets.specs.Sound.{positions_for}
use Rattle.packets.specs.Calls.{after}
use Rattle.packets.specs.Meaning.{Sound}
use Rattle.packets.specs.Steps.{as_cursor}
use Rattle.packets.proofs.Steps.{after_as}
use Rattle.packets.proofs.Turns.{mark-needed}
use Rattle.packets.specs.Same.{same}
use Rattle.types.specs.declared.state.State.{State}
use Rattle.types.specs.declared.cursor.Position.{Position}
use Rattle.types.specs.declared.cursor.Place.{Place}
use Rattle.walks.specs.Walk.{answer_of, index_by}
use Rattle.walks.specs.Marks.{mark_by}
use Rattle.walks.specs.Plan.{Planned}
use Rattle.walks.specs.declared.plan.Plan.{Plan}

grows : (b a : ℕ) → 1 ≤ b → a ≤ b * a
grows zero a h = omega arith
grows (suc b) a h = omega arith

module _ (st : State) (table marks : List ℕ) (d : Sound st table marks) where
  deepest_some : 1 ≤ st.reports.max_res
  unfolding max_res
  deepest_some =
      let a = (d.component 0 (omega (arith, d.tile.components.0))).resolutions.0 in
      omega (arith, d.deepest, max-at (res_of st) st.components 0 (omega (arith, d.tile.components.0)))

  -- the strides of a sound state are small
  pub strides_small : (stride_r st ≤ 65536) × (stride_l st ≤ 65536)
  unfolding needed
  strides_small =
      let l = grows st.layers (stride_l st) d.tile.layers.0 in
      let r = grows st.reports.max_res (stride_r st) deepest_some in
      (omega (arith, d.few), omega (arith, d.few))

-- the marks that are left: what was found is marked for viewer v
abbrev pub marked_by : ℕ → State → List ℕ → Option Position → List ℕ
marked_by v st marks (Some p) = mark v (index_of st) marks p
marked_by v st marks None = marks

-- a planned progression whose search found p: its mark stands where the walk says, and is one of those needed
module _ (st : State) (table marks : List ℕ) (k : ℕ) (plan : Plan) (d : Planned st table k plan marks) (q : Place) where
  pub mark-at : (v : ℕ) (f : Option Position) (p : Position) → f ≡ Some p → answer_of f ≡ seek v (index_of st) marks (after q (positions_for st table k))
      → (mark_by plan.walk p ≡ index_of st p) × (index_of st p < needed st)
  unfolding index_by index_of
  mark-at v f p e h =
      let i : In p (positions_for st table k)
      = found_in same v (index_of st) (positions_for st table k) marks (as_cursor q) p (sym (sym (ap answer_of e) ∙ h ∙ ap (seek v (index_of st) marks) (after_as q (positions_for st table k)))) in
      (rw d.walk, mark-needed st table marks d.sound k p i)
