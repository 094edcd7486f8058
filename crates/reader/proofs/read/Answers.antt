-- `read`: no refusal gives the fields; a refusal its number, and the empty state. Assumes nothing.
use Rattle.std.proofs.Common.{sym}
use Rattle.std.proofs.lemmas.Result.{err_from_is_err_and}
use Rattle.reader.specs.Reader.{read_of}
use Rattle.reader.proofs.Records.{bad, said}
use Rattle.reader.proofs.read.Goals as goal

pub returns-in_err-judge : goal.returns-in_err-judge
unfolding read_of
returns-in_err-judge c =
    let p = err_from_is_err_and c.from_residual.result c.from_residual.ensures.1 in
    let at = c.in_err-judge in
    rw (p.1, p.2, bad at.field-0.0 at.ensures, said at.field-0.0 at.ensures)

pub returns : goal.returns
unfolding read_of
returns c = rw (sym c.in_ok-judge.ensures, c.fields.ensures)
