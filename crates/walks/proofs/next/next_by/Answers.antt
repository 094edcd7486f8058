-- `next_by`: z + best is the least next multiple of what the two loops have passed, for all that the steps may stand for; at their end of all. Assumes nothing.
use Rattle.std.proofs.Common.{◌∙◌, ap, arith}
use Rattle.walks.specs.Nexts.{nearer_by, nearer_less, nearest_first, nearest_enter, nearest_turn, nearest_leave, nearest_all}
use Rattle.walks.proofs.next.next_by.Goals as goal

pub loop-c-init : goal.loop-c-init
loop-c-init g c = (omega arith, nearest_first _ _ _ _ _ _ _ _ _ (omega arith))

pub loop-r-init : goal.loop-r-init
loop-r-init g c = (omega arith, nearest_enter c.loop-c.invariant.1)

pub loop-r-preserved : goal.loop-r-preserved
loop-r-preserved g c =
    let i = c.loop-r in
    let e = c.nearer-best.ensures in (
      omega arith,
      nearest_turn _ i.invariant.1 (omega arith) (omega (arith, e, nearer_less c.step.result c.args.z i.best))
          (λ s h. e ∙ ap (λ o. nearer_by o c.args.z i.best) (h _ _ _ (record { res_from = omega arith; res_to = omega arith; comp_from = omega arith; comp_to = omega arith }) c.step.ensures)),
    )

pub loop-c-preserved : goal.loop-c-preserved
loop-c-preserved g c = (omega arith, nearest_leave c.loop-r.invariant.1 (omega arith) (omega arith) (omega arith) (omega arith))

pub returns : goal.returns
returns g c = λ s h. nearest_all c.loop-c.invariant.1 c.requires.before (omega arith) (omega arith) (omega arith) s h
