-- `count_precincts`: what is made of the table of a sound state counts its precincts. Assumes nothing.
use Rattle.std.proofs.Common.{arith}
use Rattle.walks.specs.FromSound.{sound-entries}
use Rattle.walks.specs.Counting.{sound-counts}
use Rattle.walks.proofs.count.count_precincts.Goals as goal

pub make_all-requires : goal.make_all-requires
make_all-requires c = (omega arith, sound-entries _ _ _ c.requires.sound.1)

pub returns : goal.returns
returns c = sound-counts _ _ _ _ _ c.requires.sound.1 c.make_all.ensures c.requires.blank
