-- `fields`: after c components the state has those c and the next record is the one at hand; so with the progressions, and after the last the fields are whole. Assumes nothing.
use Rattle.std.proofs.Common.{ℕ, ◌+◌, ◌<◌, ◌∙◌, length, rules, arith}
use Rattle.reader.proofs.Records.{record-at, component_fields-same, fields-same}
use Rattle.reader.proofs.Parts.{reach_tile, components-start, components-next, progressions-start, progressions-next, progressions_end}
use Rattle.reader.proofs.fields.fields.Goals as goal

pub bounds-records-0 : goal.bounds-records-0
bounds-records-0 c =
    let some : 0 < length c.as_chunks.result.0.now = omega (arith, reach_tile c.args.sheet.now c.requires) in
    search rules

pub loop-c-init : goal.loop-c-init
loop-c-init c =
    let s = c.args.sheet.now in
    let tile = record-at s _ c.as_chunks.ensures.front 0 (omega (arith, reach_tile s c.requires)) in
    let word = λ (k : ℕ) (h : k < 8). tile.word k h in
    components-start s c.requires c.word-components.result _ (c.word-components.ensures ∙ word 6 (omega arith))
    (rw (c.word.ensures, c.word-2.ensures, c.word-3.ensures, c.word-4.ensures, c.word-5.ensures, c.word-components.ensures, c.word-progressions.ensures, c.empty.ensures)
    (rw (word 1 (omega arith), word 2 (omega arith), word 3 (omega arith), word 4 (omega arith), word 5 (omega arith), word 6 (omega arith), word 7 (omega arith))))

pub loop-c-preserved : goal.loop-c-preserved
loop-c-preserved c =
    let s = c.args.sheet.now in
    let i = c.loop-c in
    let one = record-at s _ c.as_chunks.ensures.front i.at (omega arith) in
    components-next s c.requires _ i.at i.c i.out _ i.invariant c.loop-c-test.true (c.component-component.ensures ∙ component_fields-same one)

pub loop-k-init : goal.loop-k-init
loop-k-init c =
    let s = c.args.sheet.now in
    let i = c.loop-c in
    let tile = record-at s _ c.as_chunks.ensures.front 0 (omega (arith, reach_tile s c.requires)) in
    progressions-start s c.requires _ _ i.at i.c i.out (c.word-progressions.ensures ∙ tile.word 7 (omega arith)) i.invariant (omega arith) c.loop-c-test.false

pub loop-k-preserved : goal.loop-k-preserved
loop-k-preserved c =
    let s = c.args.sheet.now in
    let i = c.loop-k in
    let one = record-at s _ c.as_chunks.ensures.front (c.loop-c.at + i.k) (omega arith) in
    progressions-next s _ c.loop-c.at i.k i.out _ i.invariant c.loop-k-test.true (c.progression.ensures ∙ fields-same one)

pub returns : goal.returns
returns c = let i = c.loop-k in progressions_end c.args.sheet.now _ c.loop-c.at i.k i.out i.invariant (omega arith) c.loop-k-test.false
