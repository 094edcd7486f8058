-- `list_packet`: a packet whose mark is free is marked and written; any other is left. Assumes nothing.
use mathlib.Core.Path.{refl, sym, ap, ◌∙◌}
use Prim.Native.Nat.{◌+◌}
use Rattle.laws.specs.Marks.{free_at, mark_at}
use Rattle.types.specs.Viewers.{set-marks}
use Rattle.walks.specs.Running.{run_at, total}
use Rattle.walks.specs.Listing.{listed-free, listed-taken}
use Rattle.walks.proofs.list.Run.list_packet.Goals as goal

pub returns-then-is_free : goal.returns-then-is_free
returns-then-is_free c =
    let a = c.args in
    let m = a.self.now.marks.now in
    let i = c.index-i.ensures in
    record {
      same_marks = refl;
      same_output = refl;
      comes_to =
          (λ j. run_at (a.self.now.count + 1) ((c.set.ensures ∙ set-marks 0 m _ refl ∙ ap (mark_at 0 m) i) j) (c.put_packet.ensures j))
          ∙ listed-free a.w a.p (total a.self.now) (ap (free_at 0 m) (sym i) ∙ sym c.is_free.ensures ∙ c.if-is_free.true);
    }

pub returns-else-is_free : goal.returns-else-is_free
returns-else-is_free c =
    let a = c.args in
    record {
      same_marks = refl;
      same_output = refl;
      comes_to =
          listed-taken a.w a.p (total a.self.now) (ap (free_at 0 a.self.now.marks.now) (sym c.index-i.ensures) ∙ sym c.is_free.ensures ∙ c.if-is_free.false);
    }
