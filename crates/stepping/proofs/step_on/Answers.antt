-- `step_on`: the steps that are left lead to the end that was to be reached at entry (`KeptSteps`). Assumes nothing.
use mathlib.Core.Path.{◌≡◌, ap}
use Prim.Native.Nat.{◌+◌, ◌-◌, ◌<◌}
use native.Mathlib.Omega.{arith}
use mathlib.Core.Logic.{⊎_elim}
use mathlib.Core.Option.{Option, none}
use Rattle.types.specs.Answers.{of_stepped}
use Rattle.types.specs.declared.cursor.Position.{Position}
use Rattle.types.specs.declared.answer.Stepped.{Stepped}
use Rattle.stepping.specs.Kept.{steps-first, steps_spent, steps-over, steps-next, steps-few}
use Rattle.stepping.proofs.step_on.Goals as goal
use Rattle.stepping.proofs.step_on.Goals.{In-Packet}

pub loop-init : goal.loop-init
loop-init c = steps-first

-- fewer packets before this one than at the end
few : (c : In-Packet) → c.loop.count < 65536
few c = steps-few c.loop.invariant c.step.result (omega (arith, c.loop-test.true)) c.step.ensures.says c.step.ensures.marked c.in-Packet.is c.requires

pub overflow_cast-count : goal.overflow_cast-count
overflow_cast-count c = omega (arith, few (goal.at.overflow_cast-count c).In-Packet)

pub overflow_mul-count : goal.overflow_mul-count
overflow_mul-count c = omega (arith, few (goal.at.overflow_mul-count c).In-Packet)

pub overflow_add-count : goal.overflow_add-count
overflow_add-count c = omega (arith, few (goal.at.overflow_add-count c).In-Packet)

pub loop-preserved : goal.loop-preserved
loop-preserved c =
    let e : 65537 - c.loop.counter - 1 ≡ 65537 - (c.loop.counter + 1) = omega arith in
    rw e at (steps-next c.loop.invariant c.step.result (omega (arith, c.loop-test.true)) c.step.ensures.says c.step.ensures.marked c.in-Packet.is c.step.auto.marks c.put_four.auto.s c.put_four.ensures)

pub returns-in-Ended : goal.returns-in-Ended
returns-in-Ended c =
    let packet : Stepped → Option Position = λ r. (of_stepped r).packet in
    let over : packet c.step.result ≡ none = ⊎_elim (λ p. ap packet p.1) (λ p. ap packet p.1) c.in-Ended.is in
    steps-over c.loop.invariant c.step.result (omega (arith, c.loop-test.true)) c.step.ensures.says c.step.ensures.marked over

pub returns : goal.returns
returns c = steps_spent c.loop.invariant (omega (arith, c.loop-test.false))
