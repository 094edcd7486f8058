-- `column`: a ceiling of a ceiling is one ceiling. Assumes nothing.
use Rattle.geometry.specs.Line.{column_of}
use Rattle.geometry.specs.Axis.{columns_of}
use Rattle.geometry.proofs.Hits.{bound_law}
use Rattle.geometry.proofs.axis.Line.column.Goals as goal

pub returns : goal.returns
unfolding column_of columns_of
returns c =
    let a = c.args in
    rw (← (bound_law a.x a.self.d a.self.level), c.saturating_sub.ensures, c.floored.ensures, c.sample.ensures, c.columns-columns.ensures, c.resolution.ensures)
