-- `cell_from`: what is noted of the row and what is prepared answer at a point as the sheet does (RowLaws); one sheet and row that they stand for show that no
-- step is 0 and that nothing wraps. Assumes nothing.
use mathlib.Core.Path.{◌≡◌, sym, ap, ◌∙◌}
use mathlib.Core.Bool.{true}
use native.Mathlib.Omega.{arith}
use Rattle.std.specs.Prelude.{Some}
use Rattle.walks.specs.Prepared.{unprepared, kept, kept_in, hit_by}
use Rattle.walks.specs.RowLaws.{noted-step, noted_none, noted_empty, noted_missed, noted-met, noted_from, noted-small}
use Rattle.walks.proofs.cell.cell_from.Goals as goal
use Rattle.walks.proofs.cell.cell_from.Goals.{In_ok-p, Else-not-hits}

-- something is kept, and the column meets a precinct
keeps : (c : In_ok-p) → (let a = c.args in kept_in a.prep.now a.r a.c ≡ Some c.in_ok-p.p)
keeps c = sym (c.kept.ensures ∙ ap kept (c.at.ensures unprepared)) ∙ c.in_ok-p.was

meets : (c : Else-not-hits) → hit_by c.in_ok-p.p.x c.args.x ≡ true
meets c = sym c.hits.ensures ∙ c.if-not-hits.false

pub returns-in_err-start : goal.returns-in_err-start
returns-in_err-start c = λ s y h. c.from_residual.ensures ∙ noted_none s _ _ _ _ _ y h c.in_err-start.was

pub returns-in_err-p : goal.returns-in_err-p
returns-in_err-p c = λ s y h. c.from_residual-in_err-p.ensures ∙ noted_empty s _ _ _ _ _ y h (sym (c.kept.ensures ∙ ap kept (c.at.ensures unprepared)) ∙ c.in_err-p.was)

pub hits-requires : goal.hits-requires
hits-requires c = let w = c.requires in noted-step w.0 _ _ _ _ _ _ w.1.1 _ c.in_ok-start.was _ (keeps (goal.at.hits-requires c).In_ok-p)

pub returns-then-not-hits : goal.returns-then-not-hits
returns-then-not-hits c =
    λ s y h. noted_missed s _ _ _ _ _ y h _ c.in_ok-start.was _ (keeps (goal.at.returns-then-not-hits c).In_ok-p) (sym c.hits.ensures ∙ c.if-not-hits.true)

pub column-requires : goal.column-requires
column-requires c =
    let w = c.requires in
    let n = c.in_ok-start.was in
    let k = keeps (goal.at.column-requires c).In_ok-p in
    (noted-step w.0 _ _ _ _ _ _ w.1.1 _ n _ k, noted_from w.0 _ _ _ _ _ _ w.1.1 _ n _ k (meets (goal.at.column-requires c).Else-not-hits))

pub overflow_add-result : goal.overflow_add-result
overflow_add-result c =
    let w = c.requires in
    let small = noted-small w.0 _ _ _ _ _ _ w.1.1 _ c.in_ok-start.was _ (keeps (goal.at.overflow_add-result c).In_ok-p) (meets (goal.at.overflow_add-result c).Else-not-hits) in
    rw c.column.ensures (omega (arith, small))

pub returns : goal.returns
returns c =
    λ s y h. rw c.column.ensures (noted-met s _ _ _ _ _ y h _ c.in_ok-start.was _ (keeps (goal.at.returns c).In_ok-p) (meets (goal.at.returns c).Else-not-hits))
