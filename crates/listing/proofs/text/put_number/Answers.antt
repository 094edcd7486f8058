-- `put_number`: the digits that are printed, and the byte after them. Assumes nothing.
use Rattle.std.proofs.Common.{arith, append_assoc, ◌∙◌}
use Rattle.listing.specs.Decimals.{printed_decimal}
use Rattle.listing.proofs.text.put_number.Goals as goal

pub returns-clause-puts : goal.returns-clause-puts
returns-clause-puts c =
    let digits = c.format.ensures.text ∙ printed_decimal c.args.n (omega arith) in
    c.push.ensures.ascii c.requires.one_byte ∙ rw (c.push_str.ensures.bytes, digits) (append_assoc c.args.text.now.bytes _ _)
