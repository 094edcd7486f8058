-- A tile that viewers follow (02, P8): a total for each of the eight beside its state.
use Rattle.std.specs.Prelude.{◌≡◌, refl, true, cond, List, ℕ, ◌≤◌, ◌<◌, length, get_or, set, replicate}
use Rattle.std.proofs.Common.{sym, ap, ◌∙◌, ⊎_elim, zero-le, arith, length-set, get_or-set_same, set-set}
use Rattle.std.proofs.Math.ListN.{get_or-eq_default}
use Rattle.std.proofs.Math.Seq.{get_or-set_other, set_out}
use Rattle.std.proofs.lemmas.List.{set-get_or}
use Rattle.laws.specs.Cases.{split, le_or_lt}
use Rattle.types.specs.Viewers.{is_viewer}
use Rattle.types.specs.declared.state.State.{State}
use Rattle.types.specs.declared.followed.Followed.{Followed}

-- a state with these totals; every viewer at its start
abbrev pub following : State → List ℕ → Followed
following st ts = record { state = st; totals = ts }

abbrev pub started_with : State → ℕ → Followed
started_with st n = following st (replicate 8 n)

-- a viewer's total; 0 for one that there is not
unfoldable pub total_for : Followed → ℕ → ℕ
total_for f v = cond (is_viewer v) (get_or f.totals v 0) 0

-- the same with another total of a viewer; of one that there is not nothing changes
abbrev pub with_total : Followed → ℕ → ℕ → Followed
with_total f v n = record { state = f.state; totals = cond (is_viewer v) (set f.totals v n) f.totals }

-- what is written is read, and no other viewer's changes
module _ (f : Followed) (v n : ℕ) where
  pub total_with : is_viewer v ≡ true → v < length f.totals → total_for (with_total f v n) v ≡ n
  unfolding total_for
  total_with e h = rw e (get_or-set_same f.totals v n 0 h)

  pub total_most : total_for (with_total f v n) v ≤ n
  unfolding total_for
  total_most =
      split (is_viewer v)
      (λ e. rw e (⊎_elim (λ h. rw (set_out f.totals v n h, get_or-eq_default f.totals 0 h) zero-le) (λ h. rw (get_or-set_same f.totals v n 0 h) (omega arith)) (le_or_lt (length f.totals) v)))
      (λ e. rw e zero-le)

  pub total_other : (w : ℕ) → (w ≡ v → ⊥) → total_for (with_total f v n) w ≡ total_for f w
  unfolding total_for
  total_other w k =
      split (is_viewer v)
      (λ e. rw (e, get_or-set_other f.totals v w n 0 k))
      (λ e. rw e)

  pub totals_long : length (with_total f v n).totals ≡ length f.totals
  totals_long = split (is_viewer v) (λ e. rw (e, length-set f.totals v n)) (λ e. rw e)

  -- written twice, and written as it is
  pub with_again : (k : ℕ) → with_total (with_total f v n) v k ≡ with_total f v k
  with_again k = split (is_viewer v) (λ e. rw e (ap (following f.state) (set-set f.totals v n k))) (λ e. rw e refl)

-- what is read after writing goes by the number of places alone
pub total-alike : (f g : Followed) (v n : ℕ) → length f.totals ≡ length g.totals → total_for (with_total f v n) v ≡ total_for (with_total g v n) v
unfolding total_for
total-alike f g v n e =
    split (is_viewer v)
    (λ t.
    rw t
    (⊎_elim
    (λ h. rw (set_out f.totals v n h, set_out g.totals v n (rw e at h), get_or-eq_default f.totals 0 h, get_or-eq_default g.totals 0 (rw e at h)) refl)
    (λ h. get_or-set_same f.totals v n 0 h ∙ sym (get_or-set_same g.totals v n 0 (rw e at h)))
    (le_or_lt (length f.totals) v)))
    (λ t. rw t refl)

pub with_same : (f : Followed) (v : ℕ) → with_total f v (total_for f v) ≡ f
unfolding total_for
with_same f v = split (is_viewer v) (λ e. rw e (ap (following f.state) (set-get_or f.totals v 0))) (λ e. rw e refl)
