-- `resolutions`: what is gathered so far is of the resolutions passed, all of them good, and their words are kept. Assumes nothing.
use Rattle.std.specs.Prelude.{◌≡◌}
use Rattle.std.proofs.Common.{arith, sym, ◌∙◌}
use Rattle.survey.proofs.Components.{Stepped, ranged_entry, taken_none, taken_more, taken_bad, taken-all, words_taken}
use Rattle.survey.proofs.Keeping.{words_none}
use Rattle.survey.specs.Passing.{exponents_at}
use Rattle.survey.proofs.component.resolutions.Goals as goal

pub loop-r-init : goal.loop-r-init
loop-r-init c =
    let a = c.args in
    record {
      taken = rw c.start-all.ensures (taken_none a.read.bytes.now a.places a.read.check a.axes a.n);
      words = sym (words_none a.read.bytes.now (exponents_at a.places) a.axes a.n a.kept.now a.places.to);
    }

pub returns-in_err-entry-clause-sums : goal.returns-in_err-entry-clause-sums
returns-in_err-entry-clause-sums c = c.from_residual.ensures ∙ taken_bad c.loop-r.invariant.taken c.loop-r-test.true c.in_err-entry.ensures

pub with-all-requires : goal.with-all-requires
with-all-requires c =
    let r = ranged_entry _ _ _ _ _ _ c.in_ok-entry.ensures in
    (omega arith, r.0, r.1)

pub loop-r-preserved : goal.loop-r-preserved
loop-r-preserved c =
    let a = c.args in
    let l = c.loop-r in
    record {
      taken = rw c.with-all.ensures (taken_more l.invariant.taken c.in_ok-entry.ensures);
      words = c.keep.ensures ∙ words_taken l.invariant.taken c.in_ok-entry.ensures a.kept.now a.places.to l.invariant.words;
    }

pub returns-clause-sums : goal.returns-clause-sums
returns-clause-sums c =
    let end : c.loop-r.r ≡ c.args.n = omega arith in
    let stepped : Stepped c.args.axes
    = record { x_above = c.requires.2; x_fits = omega (arith, c.well_formed); y_above = c.requires.3; y_fits = omega (arith, c.well_formed) } in
    rw c.sums.ensures (taken-all c.loop-r.invariant.taken stepped end)
