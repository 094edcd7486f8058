-- `turn`: a cursor that the opening answers is stepped on; where it answers none nothing is done. Assumes nothing.
use Rattle.std.specs.Prelude.{Result}
use mathlib.Core.Path.{sym, ap, subst, ◌∙◌}
use Prim.Native.Nat.{◌≤◌}
use Rattle.types.specs.Answers.{of_opened}
use Rattle.types.specs.declared.answer.NotOpened.{NotOpened}
use Rattle.types.specs.declared.cursor.Cursor.{Cursor}
use Rattle.walks.specs.Running.{Total}
use Rattle.stepping.specs.Stepped.{turn_opened, turn_refused}
use Rattle.stepping.proofs.turn.Goals as goal

pub step_on-requires : goal.step_on-requires
step_on-requires c = subst (λ (t : Total). t.count ≤ 65536) (turn_opened _ _ _ _ _ _ c.«open».result c.«open».ensures _ c.in-Ok.is) c.requires

pub returns-in-Ok : goal.returns-in-Ok
returns-in-Ok c = c.step_on.ensures ∙ sym (turn_opened _ _ _ _ _ _ c.«open».result c.«open».ensures _ c.in-Ok.is)

pub returns-in-Err : goal.returns-in-Err
returns-in-Err c = sym (turn_refused _ _ _ _ _ _ c.«open».result c.«open».ensures (ap (λ (r : Result Cursor NotOpened). (of_opened r).cursor) c.in-Err.is))
