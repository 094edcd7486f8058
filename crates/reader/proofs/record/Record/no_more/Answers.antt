-- `no_more`: what is known of the words up to the one at hand. Assumes nothing.
use Rattle.std.proofs.Common.{◌≡◌, ◌+◌, ◌-◌, arith, sym}
use Rattle.laws.specs.Below.{all_none, all-next}
use Rattle.reader.proofs.record.Record.no_more.Goals as goal

pub loop-j-init : goal.loop-j-init
loop-j-init c =
    let e : c.args.k - c.args.k ≡ 0 = omega arith in
    rw e (sym (all_none _))

pub loop-j-preserved : goal.loop-j-preserved
loop-j-preserved c =
    let k = c.args.k in
    let j = c.loop-j.j in
    let e : j + 1 - k ≡ j - k + 1 = omega arith in
    let f : k + (j - k) ≡ j = omega arith in
    rw (e, all-next, f, c.loop-j.invariant, c.word.ensures)
