-- What a walk goes over, and what it answers.
use Rattle.std.specs.Prelude.{ℕ, ◌+◌, ◌*◌, ◌≤◌, ◌<◌, ◌≡◌, List, length, Option, Some, None}
use Rattle.laws.specs.Runs.{Answer, Packet, Ended}
use Rattle.packets.specs.Tile.{Sheet, stride_c, stride_r, stride_l, needed, precincts}
use Rattle.types.specs.declared.order.Range.{Range}
use Rattle.packets.specs.Good.{Good}
use Rattle.types.specs.declared.cursor.Position.{Position}
use Rattle.walks.specs.Prepared.{Prep, Counts, InPlay, number_in}
use Rattle.walks.specs.declared.walk.Walk.{Walk}

-- where the mark of a packet stands, by the walk's strides
unfoldable pub index_by : Walk → ℕ → ℕ → ℕ → ℕ → ℕ
index_by w l r c k = l * w.stride_l + r * w.stride_r + c * w.stride_c + k

-- what a walk found, in the words of the laws of runs
abbrev pub answer_of : Option Position → Answer Position
answer_of (Some p) = Packet p
answer_of None = Ended

-- the walk's numbers are those of the sheet and the range, and the marks suffice
pub record Ranged (s : Sheet) (g : Range) (w : Walk) (marks : List ℕ) : Type 0 where
  pub layno1 : w.layno1 ≡ g.layno1
  pub resno0 : w.resno0 ≡ g.resno0
  pub resno1 : w.resno1 ≡ g.resno1
  pub compno0 : w.compno0 ≡ g.compno0
  pub compno1 : w.compno1 ≡ g.compno1
  pub tx0 : w.tx0 ≡ s.st.tx0
  pub ty0 : w.ty0 ≡ s.st.ty0
  pub tx1 : w.tx1 ≡ s.st.tx1
  pub ty1 : w.ty1 ≡ s.st.ty1
  pub stride_l_lem : w.stride_l ≡ stride_l s.st
  pub stride-r : w.stride_r ≡ stride_r s.st
  pub stride_c_lem : w.stride_c ≡ stride_c s.st
  pub layers : g.layno1 ≤ s.st.layers
  pub components : g.compno1 ≤ s.st.components
  pub few : needed s.st ≤ 65536
  pub enough : needed s.st ≤ length marks

-- as many other marks do as well
pub ranged_long : (s : Sheet) (g : Range) (w : Walk) (marks other : List ℕ) → length other ≡ length marks → Ranged s g w marks → Ranged s g w other
ranged_long s g w marks other e q =
    record {
      layno1 = q.layno1;
      resno0 = q.resno0;
      resno1 = q.resno1;
      compno0 = q.compno0;
      compno1 = q.compno1;
      tx0 = q.tx0;
      ty0 = q.ty0;
      tx1 = q.tx1;
      ty1 = q.ty1;
      stride_l_lem = q.stride_l_lem;
      stride-r = q.stride-r;
      stride_c_lem = q.stride_c_lem;
      layers = q.layers;
      components = q.components;
      few = q.few;
      enough = rw e q.enough;
    }

-- a walk by points: its ranges are prepared too
pub record Ready (s : Sheet) (g : Range) (prep : Prep) (w : Walk) (marks : List ℕ) : Type 0 where
  pub ranged : Ranged s g w marks
  pub play : InPlay s prep g.resno0 g.resno1 g.compno0 g.compno1

pub ready_long : (s : Sheet) (g : Range) (prep : Prep) (w : Walk) (marks other : List ℕ) → length other ≡ length marks → Ready s g prep w marks → Ready s g prep w other
ready_long s g prep w marks other e q = record { ranged = ranged_long s g w marks other e q.ranged; play = q.play }

abbrev pub SomeReady : Prep → Walk → List ℕ → Type 0
SomeReady prep w marks = (s : Sheet) × ((g : Range) × Ready s g prep w marks)

-- a walk by precinct numbers: its precincts are counted too (that the sheet has the components is said by `ranged`)
pub record Counted (s : Sheet) (g : Range) (counts : Counts) (w : Walk) (marks : List ℕ) : Type 0 where
  pub ranged : Ranged s g w marks
  pub good : Good s
  pub resolutions : g.resno1 ≤ 33
  pub components : g.compno1 ≤ 16
  pub number : (r c : ℕ) → g.resno0 ≤ r → r < g.resno1 → g.compno0 ≤ c → c < g.compno1 → number_in counts r c ≡ precincts s c r

pub counted_long : (s : Sheet) (g : Range) (counts : Counts) (w : Walk) (marks other : List ℕ) → length other ≡ length marks → Counted s g counts w marks → Counted s g counts w other
counted_long s g counts w marks other e q =
    record { ranged = ranged_long s g w marks other e q.ranged; good = q.good; resolutions = q.resolutions; components = q.components; number = q.number }

abbrev pub SomeCounted : Counts → Walk → List ℕ → Type 0
SomeCounted counts w marks = (s : Sheet) × ((g : Range) × Counted s g counts w marks)
