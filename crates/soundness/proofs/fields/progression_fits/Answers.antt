-- `progression_fits`: the tests are those of the definition; the kind says which of the two forms is tested. Assumes nothing.
use Rattle.soundness.proofs.InRange.{fits-volume, fits-whole, fits_none}
use mathlib.Core.Path.{sym, ◌∙◌}
use Rattle.soundness.proofs.fields.progression_fits.Goals as goal

pub returns-then-not-there : goal.returns-then-not-there
returns-then-not-there c = let a = c.args in rw (c.eq.ensures, c.none.ensures) (fits_none a.there a.alone a.q c.if-not-there.true)

pub returns-then-is_volume : goal.returns-then-is_volume
returns-then-is_volume c =
    let a = c.args in
    c.in_range.ensures ∙ fits-volume a.there a.alone a.q c.if-not-there.false (sym c.is_volume.ensures ∙ c.if-is_volume.true)

pub returns : goal.returns
returns c =
    let a = c.args in
    rw c.no_range.ensures (fits-whole a.there a.alone a.q c.if-not-there.false (sym c.is_volume.ensures ∙ c.if-is_volume.false))
