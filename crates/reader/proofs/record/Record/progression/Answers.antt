-- `progression`: each field is a word of the record, its order read as signed. Assumes nothing.
use Rattle.std.proofs.Common.{ℕ, ◌≡◌, ◌^◌, ap, rules, arith, w32, FitsSigned, to_z, negsuc, ltb}
use Rattle.std.proofs.lemmas.Int.{to_z-of_z}
use Rattle.laws.specs.Cases.{split}
use Rattle.packets.specs.Sheet.{signed_of, progression_at}
use Rattle.reader.proofs.record.Record.progression.Goals as goal

-- two's complement
signed-is : (n : ℕ) → to_z w32 n ≡ signed_of n
signed-is n = split (ltb n (2 ^ 31)) (λ t. rw t) (λ t. rw t (ap negsuc (omega arith)))

pub returns : goal.returns
unfolding progression_at
returns c =
    let p = c.cast_signed in
    let k : FitsSigned w32 p.result = search rules in
    rw (to_z-of_z w32 p.result k, p.ensures, signed-is) (cc)
