-- `ByResolution::blank`: every place is blank, and where there is none blank is answered too. Assumes nothing.
use Rattle.std.proofs.Common.{◌≡◌, ℕ, [], get_or, ⊎_elim}
use Rattle.std.proofs.Math.ListN.{replicate, get_or-eq_default}
use Rattle.std.proofs.lemmas.List.{get_or-replicate, length-replicate}
use Rattle.std.proofs.lemmas.Bool.{cases_lt}
use Rattle.walks.proofs.by_resolution.ByResolution.blank.Goals as goal

one_row : {T : Type 0} (v : T) (n c : ℕ) → get_or (replicate n v) c v ≡ v
one_row v n c =
    ⊎_elim (λ h. get_or-replicate n c v v h) (λ h. get_or-eq_default (replicate n v) v {n = c} (rw (length-replicate n v) h)) (cases_lt c n)

all_rows : {T : Type 0} (v blank : T) → v ≡ blank → (m n r c : ℕ) → get_or (get_or (replicate m (replicate n v)) r []) c blank ≡ blank
all_rows v blank e m n r c =
    rw e (⊎_elim
    (λ h. rw (get_or-replicate m r (replicate n blank) [] h) (one_row blank n c))
    (λ h. rw (get_or-eq_default (replicate m (replicate n blank)) [] {n = r} (rw (length-replicate m (replicate n blank)) h)))
    (cases_lt r m))

pub returns : goal.returns
returns g c = λ r k. all_rows c.BLANK.result g.T.Blank.BLANK c.BLANK.ensures 33 16 r k
