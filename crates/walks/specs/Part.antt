-- A part of a range: some resolutions of some components, and the walk over it. Assumes nothing.
use Rattle.std.specs.Prelude.{ℕ, ◌≤◌, ◌≡◌, List}
use Rattle.packets.specs.Tile.{Sheet}
use Rattle.types.specs.declared.order.Range.{Range}
use Rattle.walks.specs.Prepared.{Prep}
use Rattle.walks.specs.Walk.{Ready}
use Rattle.walks.specs.Turns.{in_play_lem}
use Rattle.walks.specs.declared.walk.Walk.{Walk}
use Rattle.std.proofs.Common.{arith}

-- resolutions r0 to r1 of components c0 to c1
abbrev pub part_of : Range → ℕ → ℕ → ℕ → ℕ → Range
part_of g r0 r1 c0 c1 = record { layno1 = g.layno1; resno0 = r0; resno1 = r1; compno0 = c0; compno1 = c1 }

-- the walk over them
abbrev pub part_by : Walk → ℕ → ℕ → ℕ → ℕ → Walk
part_by w r0 r1 c0 c1 =
    record {
      viewer = w.viewer;
      layno1 = w.layno1;
      resno0 = r0;
      resno1 = r1;
      compno0 = c0;
      compno1 = c1;
      tx0 = w.tx0;
      ty0 = w.ty0;
      tx1 = w.tx1;
      ty1 = w.ty1;
      stride_l = w.stride_l;
      stride_r = w.stride_r;
      stride_c = w.stride_c;
    }

-- a walk that is ready for a range is ready for its parts
pub ready_part : (s : Sheet) (g : Range) (prep : Prep) (w : Walk) (marks : List ℕ) → Ready s g prep w marks
    → (r0 r1 c0 c1 : ℕ) → w.resno0 ≤ r0 → r1 ≤ w.resno1 → w.compno0 ≤ c0 → c1 ≤ w.compno1
    → (a b d e : ℕ) → r0 ≡ a → r1 ≡ b → c0 ≡ d → c1 ≡ e
    → Ready s (part_of g a b d e) prep (part_by w r0 r1 c0 c1) marks
ready_part s g prep w marks h r0 r1 c0 c1 i j k l a b d e ka kb kd ke =
    let q = h.ranged in
    record {
      ranged = record {
        layno1 = q.layno1;
        resno0 = ka;
        resno1 = kb;
        compno0 = kd;
        compno1 = ke;
        tx0 = q.tx0;
        ty0 = q.ty0;
        tx1 = q.tx1;
        ty1 = q.ty1;
        stride_l_lem = q.stride_l_lem;
        stride-r = q.stride-r;
        stride_c_lem = q.stride_c_lem;
        layers = q.layers;
        components = omega (arith, l, ke, q.compno1, q.components);
        few = q.few;
        enough = q.enough;
      };
      play = rw (← ka, ← kb, ← kd, ← ke) (in_play_lem s g prep w marks h r0 r1 c0 c1 i j k l);
    }
