-- `row_at`: what is prepared answers for a row as the sheet does (RowLaws); one sheet that it stands for shows that no step is 0 and that nothing wraps.
-- Assumes nothing.
use mathlib.Core.Path.{◌≡◌, sym, ap, ◌∙◌}
use mathlib.Core.Bool.{true}
use native.Mathlib.Omega.{arith}
use Rattle.std.specs.Prelude.{Some}
use Rattle.walks.specs.Prepared.{unprepared, kept, kept_in, hit_by}
use Rattle.walks.specs.RowLaws.{row_none, row_missed, row-met, row-step, row_from, row-small}
use Rattle.walks.proofs.cell.row_at.Goals as goal
use Rattle.walks.proofs.cell.row_at.Goals.{In_ok-p, Else-not-hits}

-- something is kept, and the row meets a precinct
keeps : (c : In_ok-p) → (let a = c.args in kept_in a.prep.now a.r a.c ≡ Some c.in_ok-p.p)
keeps c = sym (c.kept.ensures ∙ ap kept (c.at.ensures unprepared)) ∙ c.in_ok-p.was

meets : (c : Else-not-hits) → hit_by c.in_ok-p.p.y c.args.y ≡ true
meets c = sym c.hits.ensures ∙ c.if-not-hits.false

pub returns-in_err-p : goal.returns-in_err-p
returns-in_err-p c = λ s h. c.from_residual.ensures ∙ row_none s _ _ _ _ h (sym (c.kept.ensures ∙ ap kept (c.at.ensures unprepared)) ∙ c.in_err-p.was)

pub hits-requires : goal.hits-requires
hits-requires c = let w = c.requires in row-step w.0 _ _ _ _ w.1 _ (keeps (goal.at.hits-requires c).In_ok-p)

pub returns-then-not-hits : goal.returns-then-not-hits
returns-then-not-hits c = λ s h. row_missed s _ _ _ _ h _ (keeps (goal.at.returns-then-not-hits c).In_ok-p) (sym c.hits.ensures ∙ c.if-not-hits.true)

pub column-requires : goal.column-requires
column-requires c =
    let w = c.requires in
    let k = keeps (goal.at.column-requires c).In_ok-p in
    (row-step w.0 _ _ _ _ w.1 _ k, row_from w.0 _ _ _ _ w.1 _ k (meets (goal.at.column-requires c).Else-not-hits))

pub overflow_mul-result : goal.overflow_mul-result
overflow_mul-result c =
    let w = c.requires in
    let small = row-small w.0 _ _ _ _ w.1 _ (keeps (goal.at.overflow_mul-result c).In_ok-p) (meets (goal.at.overflow_mul-result c).Else-not-hits) in
    rw c.column.ensures (omega (arith, small))

pub returns : goal.returns
returns c = λ s h. rw c.column.ensures (row-met s _ _ _ _ h _ (keeps (goal.at.returns c).In_ok-p) (meets (goal.at.returns c).Else-not-hits))
