-- `judge`: length, then the tile, then the records after it, as in the definition. Assumes nothing.
use Rattle.std.proofs.Common.{sym, ◌∙◌, ◌+◌, ◌/◌, length, arith, eqb-true, ⊎_elim}
use Rattle.std.proofs.lemmas.Bool.{eqb-false}
use Rattle.std.proofs.lemmas.Result.{err_from_is_err_and}
use Rattle.laws.specs.Cases.{not_true, not_false}
use Rattle.reader.specs.Due.{due_of}
use Rattle.reader.proofs.Records.{record-at, record_behind, tile-same, record-same, due-same, read_more, read_stop, read-whole, read_missing, good-length, refused_length, refused_tile, read-behind, bad}
use Rattle.reader.proofs.judge.judge.Goals as goal

pub returns-in_default : goal.returns-in_default
returns-in_default c = refused_length c.args.sheet.now (λ some whole short. omega arith)

pub returns-then-not-is_empty : goal.returns-then-not-is_empty
returns-then-not-is_empty c =
    let empty = c.is_empty.ensures in
    refused_length c.args.sheet.now
    (λ some whole short.
    ⊎_elim (λ e. let k = eqb-false _ 0 (sym empty ∙ e) in omega arith) (λ e. omega arith) c.then-not-is_empty.either)

pub returns-in_err-check_tile : goal.returns-in_err-check_tile
returns-in_err-check_tile c =
    let s = c.args.sheet.now in
    let p = err_from_is_err_and c.from_residual.result c.from_residual.ensures.1 in
    let whole = eqb-true _ 0 (sym c.is_empty.ensures ∙ c.if-not-is_empty.false) in
    let good = good-length s (omega arith) (omega arith) (omega arith) in
    let at = c.in_err-check_tile in
    let v = at.ensures ∙ tile-same (record-at s _ c.as_chunks.ensures.front 0 (omega arith)) in
    rw (p.1, p.2) (v ∙ refused_tile s good (bad at.field-0.0 v))

pub loop-bytes-init : goal.loop-bytes-init
loop-bytes-init c =
    let s = c.args.sheet.now in
    let tile = record-at s _ c.as_chunks.ensures.front 0 (omega arith) in
    let whole = eqb-true _ 0 (sym c.is_empty.ensures ∙ c.if-not-is_empty.false) in
    let good = good-length s (omega arith) (omega arith) (omega arith) in
    let v = c.in_ok-check_tile.ensures ∙ tile-same tile in
    rw (c.word.ensures, c.word-progressions.ensures, tile.word 6 (omega arith), tile.word 7 (omega arith))
    (read-behind s good (sym v))

pub returns-in_err-due : goal.returns-in_err-due
returns-in_err-due c =
    let s = c.args.sheet.now in
    let p = err_from_is_err_and c.from_residual-in_err-due.result c.from_residual-in_err-due.ensures.1 in
    let at = c.in_err-due in
    let i = c.loop-bytes.bytes-index in
    let v = at.ensures.verdict ∙ record-same (record_behind s _ c.as_chunks.ensures.front _ i (omega arith) (omega arith)) _ _ in
    rw (p.1, p.2) (v ∙ sym (read_stop s c.word-progressions.result (length s / 32) (i + 1) (due_of c.loop-bytes.due) (omega arith) (bad at.field-0.0 v)) ∙ c.loop-bytes.invariant)

pub loop-bytes-preserved : goal.loop-bytes-preserved
loop-bytes-preserved c =
    let s = c.args.sheet.now in
    let i = c.loop-bytes.bytes-index in
    let is = record_behind s _ c.as_chunks.ensures.front _ i (omega arith) (omega arith) in
    let v = c.in_ok-due.ensures.verdict ∙ record-same is _ _ in
    rw (c.in_ok-due.ensures.next ∙ due-same is _)
    (sym (read_more s c.word-progressions.result (length s / 32) (i + 1) (due_of c.loop-bytes.due) (omega arith) (sym v)) ∙ c.loop-bytes.invariant)

pub returns-then-ne : goal.returns-then-ne
returns-then-ne c =
    let s = c.args.sheet.now in
    let i = c.loop-bytes.bytes-index in
    sym (read_missing s c.word-progressions.result (length s / 32) (i + 1) (due_of c.loop-bytes.due) (omega arith) (not_true _ (sym c.if-ne.ensures))) ∙ c.loop-bytes.invariant

pub returns : goal.returns
returns c =
    let s = c.args.sheet.now in
    let i = c.loop-bytes.bytes-index in
    sym (read-whole s c.word-progressions.result (length s / 32) (i + 1) (due_of c.loop-bytes.due) (omega arith) (not_false _ (sym c.if-ne.ensures))) ∙ c.loop-bytes.invariant
