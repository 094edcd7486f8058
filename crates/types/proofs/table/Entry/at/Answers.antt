-- `Entry::at`: four words, or none beyond the largest table. Assumes nothing.
use borrow.Author.Tests.{le-ltb, lt-ltb}
use Rattle.types.specs.Entries.{entry_at}
use Rattle.types.proofs.table.Entry.at.Goals as goal

pub returns-then-i-ge-MAX_ENTRIES : goal.returns-then-i-ge-MAX_ENTRIES
unfolding entry_at
returns-then-i-ge-MAX_ENTRIES c = rw (le-ltb _ _ c.if-i-ge-MAX_ENTRIES.true) (let e = c.default.ensures in λ i. record { pdx = e.0 i; pdy = e.1.0 i; width = e.1.1.0 i; height = e.1.1.1 i })

pub returns : goal.returns
unfolding entry_at
returns c = rw (lt-ltb _ _ c.if-i-ge-MAX_ENTRIES.false, c.four_at-w.ensures)
