-- Each public contract of this crate allows one answer only. Assumes nothing.
use Rattle.laws.specs.Determined.{determined_by, OneAnswer}
use Rattle.types.specs.Answers.{of_set_up}
use Rattle.packets.specs.Apart.{setup-apart}
use Rattle.reader.proofs.read.Kinds as read_kinds
use Rattle.reader.proofs.read.Reads as read

pub read-determined : OneAnswer read_kinds.ps read_kinds.r read.Post
read-determined κs a r s e f = determined_by of_set_up setup-apart _ r s
