-- `resolutions`: what is gathered so far is of the resolutions passed, all of them good, and their words are kept. Assumes nothing.
use Rattle.std.specs.Prelude.{◌≡◌}
use Rattle.survey.specs.Passing.{exponents_at}
use Rattle.survey.specs.Put.{put_numbers}
use Rattle.survey.specs.Kept.{resolution_words}
use Rattle.survey.proofs.Components.{Taken}
use Rattle.survey.proofs.component.resolutions.Given as goal

abbrev pub invariant-loop-r : goal.invariant-loop-r
invariant-loop-r l =
    record {
      taken : Taken l.read.bytes.now l.places l.read.check l.axes l.n l.at l.all l.r;
      words : l.kept ≡ put_numbers l.initial.kept l.places.to (resolution_words l.read.bytes.now (exponents_at l.places) l.axes l.n l.r);
    }
