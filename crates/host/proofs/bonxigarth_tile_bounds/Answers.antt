-- `bonxigarth_tile_bounds`: -10, else -8, else the bounds written. Assumes nothing.
use mathlib.Core.Path.{◌∙◌}
use native.Mathlib.Omega.{arith}
use Prim.Native.Nat.{◌≤◌}
use lib.ListN.{length}
use Rattle.host.proofs.Bounding.{four_over, outside, short, told-all}
use Rattle.host.proofs.bonxigarth_tile_bounds.Goals as goal

pub returns-then-output-lt16 : goal.returns-then-output-lt16
returns-then-output-lt16 c = let r = c.tile_bounds in let t = short _ _ _ _ r.result r.ensures _ c.in-Some.is (omega (arith, c.if-output-lt16.true)) in record { says = t.0; written = t.1 }

pub returns-else-output-lt16 : goal.returns-else-output-lt16
returns-else-output-lt16 c = let r = c.tile_bounds in let o = c.args.output.now in let room : 16 ≤ length o = omega (arith, c.if-output-lt16.false) in let t = told-all _ _ _ o r.result r.ensures _ c.in-Some.is room in record { says = t.0; written = c.put_four.ensures ∙ four_over o _ _ _ _ room ∙ t.1 }

pub returns-in-None : goal.returns-in-None
returns-in-None c = let r = c.tile_bounds in let t = outside _ _ _ c.args.output.now r.result r.ensures c.in-None.is in record { says = t.0; written = t.1 }
