-- `Side::along`: the three numbers are those of the definition. Assumes nothing.
use mathlib.Core.Path.{◌≡◌, ap}
use Prim.Native.Nat.{◌/◌, ◌^◌}
use Rattle.laws.specs.Ceiling.{ceil_div}
use Rattle.geometry.specs.Axis.{columns_of}
use Rattle.geometry.specs.declared.axis.Columns.{Columns}
use Rattle.geometry.specs.declared.axis.Resolution.{Resolution}
use Rattle.walks.specs.Prepare.{along_by}
use Rattle.walks.proofs.prepare.Side.along.Goals as goal

pub returns : goal.returns
unfolding along_by columns_of
returns c =
    let low : c.at-r.result.r0 ≡ ceil_div c.args.self.axis.c0 (2 ^ c.args.level) = ap (λ (r : Resolution). r.r0) c.at-r.ensures in
    let first : c.columns-columns.result.first ≡ c.at-r.result.r0 / 2 ^ c.args.pd = ap (λ (k : Columns). k.first) c.columns-columns.ensures in
    rw (c.start.ensures, c.step.ensures, first, low)
