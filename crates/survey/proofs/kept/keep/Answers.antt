-- `keep`: four numbers, one after the other. Assumes nothing.
use mathlib.Core.Path.{◌≡◌}
use Prim.Native.Nat.{◌+◌}
use native.Mathlib.Omega.{arith}
use Rattle.survey.specs.Put.{put_numbers}
use Rattle.survey.proofs.kept.keep.Goals as goal

pub returns : goal.returns
unfolding put_numbers
returns c =
    let to = c.args.to in
    let second : to + 1 + 1 ≡ to + 2 = omega arith in
    let third : to + 2 + 1 ≡ to + 3 = omega arith in
    rw (c.put-4.ensures, c.put-3.ensures, c.put-2.ensures, c.put.ensures, second, third)
