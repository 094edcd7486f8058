-- `with_total`: the viewer's place is written; beyond the last nothing is. Assumes nothing.
use borrow.Author.Tests.{lt-ltb, le-ltb}
use Rattle.types.proofs.followed.Followed.with_total.Goals as goal

pub returns-then-viewer-lt-VIEWERS : goal.returns-then-viewer-lt-VIEWERS
returns-then-viewer-lt-VIEWERS c = rw (lt-ltb _ 8 c.if-viewer-lt-VIEWERS.true)

pub returns-else-viewer-lt-VIEWERS : goal.returns-else-viewer-lt-VIEWERS
returns-else-viewer-lt-VIEWERS c = rw (le-ltb _ 8 c.if-viewer-lt-VIEWERS.false)
