-- `Findings::of`: by what its callees promise. Assumes nothing.
use Rattle.std.proofs.Common.{rules}
use Rattle.survey.specs.Passing.{findings_of}
use Rattle.survey.proofs.Findings.of.Goals as goal

pub returns : goal.returns
unfolding findings_of
returns c = search rules
