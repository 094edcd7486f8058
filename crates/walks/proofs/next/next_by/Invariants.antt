-- `next_by`: z + best is the least next multiple of what the two loops have passed, for all that the steps may stand for; at their end of all. Assumes nothing.
use Rattle.std.proofs.Common.{◌≤◌, max}
use Rattle.walks.specs.Nexts.{Plays, AnswersBy, NearestBefore, NearestSeen}
use Rattle.walks.proofs.next.next_by.Given as goal

abbrev pub invariant-loop-r : goal.invariant-loop-r
invariant-loop-r g l =
    (l.r ≤ max l.w.resno0 l.w.resno1)
    × NearestSeen (AnswersBy l.w (goal.F-post g l.step)) (λ (s : Plays). s.play) (λ s. s.step) l.end l.z l.w.resno0 l.w.resno1 l.w.compno0 l.c l.r l.best

abbrev pub invariant-loop-c : goal.invariant-loop-c
invariant-loop-c g l =
    (l.c ≤ max l.w.compno0 l.w.compno1)
    × NearestBefore (AnswersBy l.w (goal.F-post g l.step)) (λ (s : Plays). s.play) (λ s. s.step) l.end l.z l.w.resno0 l.w.resno1 l.w.compno0 l.c l.best
