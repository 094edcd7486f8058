-- `listing`: a refusal is told by its number; else the lines of the records that the whole run has left are 01's text. Assumes nothing.
use Rattle.std.proofs.Common.{sym, ap, ◌∙◌, ◌-◌, add-one, arith, rules, nat_abs, unsigned_abs, to_z-of_z}
use Rattle.std.specs.Int.{w32}
use Rattle.types.specs.Answers.{number_of}
use Rattle.packets.specs.Apart.{refusal-negative}
use Rattle.packets.specs.Text.{refused_line}
use Rattle.listing.specs.Printed.{Lists, lists_text, printed_lists, printed_refused}
use Rattle.listing.proofs.text.listing.Goals as goal
use Rattle.listing.proofs.text.listing.Goals.{In-Ok}

-- what the whole run has listed
lists : (c : In-Ok) → Lists c.args.sheet.now (λ i. omega (arith, c.type_inv.sheet i)) c.in-Ok.count c.whole_run.new.output
lists c = printed_lists c.args.sheet.now (λ i. omega (arith, c.type_inv.sheet i)) _ _ c.in-Ok.ensures.says c.in-Ok.ensures.listed

pub put_packets-requires-clause-few : goal.put_packets-requires-clause-few
put_packets-requires-clause-few c = (lists (goal.at.put_packets-requires-clause-few c).In-Ok).few

pub returns-in-Ok : goal.returns-in-Ok
returns-in-Ok c = c.put_packets.ensures.puts ∙ lists_text c.args.sheet.now _ (lists (goal.at.returns-in-Ok c).In-Ok) c.put_packets.ensures.bytes

pub returns-in-Err : goal.returns-in-Err
returns-in-Err c =
    let e = c.in-Err.refusal in
    let below = refusal-negative e in
    let told = printed_refused c.args.sheet.now (λ i. omega (arith, c.type_inv.sheet i)) (nat_abs (number_of e) - 1) (sym below ∙ c.in-Err.ensures.says) in
    c.put_refusal.ensures
    ∙ ap refused_line (c.unsigned_abs.ensures.value ∙ ap unsigned_abs (to_z-of_z {w = w32} {z = c.from.result} (search rules) ∙ c.from.ensures ∙ below) ∙ sym (add-one _))
    ∙ sym told
