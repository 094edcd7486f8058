-- `no_more`: what is known of the words up to the one at hand. Assumes nothing.
use Rattle.std.proofs.Common.{◌≡◌, ◌+◌, ◌-◌, eqb}
use Rattle.laws.specs.Below.{all_below}
use Rattle.packets.specs.Sheet.{wd}
use Rattle.reader.proofs.record.Record.no_more.Given as goal

abbrev pub invariant-loop-j : goal.invariant-loop-j
invariant-loop-j l = l.clear ≡ all_below (λ m. eqb (wd l.self.bytes.now 0 (l.k + m)) 0) (l.j - l.k)
