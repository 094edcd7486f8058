-- `passed`: after each component the survey has seen what the definitions say of it (`Seen`), and kept its words (`KeptTo`). Assumes nothing.
use Rattle.survey.proofs.Seen.{Seen}
use Rattle.survey.proofs.Tables.{KeptTo}
use Rattle.survey.proofs.passed.Given as goal

abbrev pub invariant-loop-c : goal.invariant-loop-c
invariant-loop-c l =
    record {
      seen : Seen l.read.bytes.now l.initial.places l.read.check l.fn.st l.places l.all l.max_res l.parts l.c;
      kept : KeptTo l.read.bytes.now l.initial.places l.fn.st l.initial.kept l.kept l.c;
    }
