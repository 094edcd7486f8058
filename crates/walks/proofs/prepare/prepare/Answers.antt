-- `prepare`: what is made of the table of a sound state is what the walks by points need. Assumes nothing.
use Rattle.std.proofs.Common.{arith}
use Rattle.walks.specs.FromSound.{sound-entries, sound-filled}
use Rattle.walks.proofs.prepare.prepare.Goals as goal

pub make_all-requires : goal.make_all-requires
make_all-requires c = (omega arith, sound-entries _ _ _ c.requires.sound.1)

pub returns : goal.returns
returns c = sound-filled _ _ _ c.requires.sound.1 _ _ c.make_all.ensures c.requires.blank (omega arith) (omega arith)
