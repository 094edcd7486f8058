-- The own bits and the own total of a viewer (02, P4): what two worlds have alike for him.
use Rattle.std.specs.Prelude.{◌≡◌, length}
use Prim.Native.Nat.{ℕ}
use Rattle.laws.specs.Marks.{free_at}
use Rattle.types.specs.Totals.{total_for}
use Rattle.packets.specs.Traces.{World}

-- THE OWN BITS AND THE OWN TOTAL: the same state, as many marks, the same of them free for viewer v, and the same total of v's
pub record SameFor (v : ℕ) (a b : World) : Type 0 where
  pub state : a.followed.state ≡ b.followed.state
  pub places : length a.followed.totals ≡ length b.followed.totals
  pub total : total_for a.followed v ≡ total_for b.followed v
  pub long : length a.marks ≡ length b.marks
  pub own : (i : ℕ) → free_at v a.marks i ≡ free_at v b.marks i
