-- How many marks a state needs that is sound with its table, and with its marks and a viewer's total.
use Rattle.std.specs.Prelude.{cond, true, false, ◌≡◌, refl, List, ℕ, Option, Some, None}
use Rattle.std.proofs.Common.{sym, subst, ◌∙◌}
use Rattle.laws.specs.Cases.{split}
use Rattle.types.specs.declared.followed.Followed.{Followed}
use Rattle.types.specs.declared.state.State.{State}
use Rattle.packets.specs.Tile.{needed}
use Rattle.packets.specs.Sound.{sheet_sound, followed_sound}

unfoldable pub judged_of : State → List ℕ → Option ℕ
judged_of st table = cond (sheet_sound st table) (Some (needed st)) None

unfoldable pub needs_of : Followed → List ℕ → List ℕ → ℕ → Option ℕ
needs_of f table marks v = cond (followed_sound f table marks v) (Some (needed f.state)) None

-- what an answer tells of them
module _ (f : Followed) (table marks : List ℕ) (v : ℕ) where
  abbrev pub Told : Option ℕ → Type 0
  Told (Some n) = (followed_sound f table marks v ≡ true) × (n ≡ needed f.state)
  Told None = followed_sound f table marks v ≡ false

  sound_or_not : Told (needs_of f table marks v)
  unfolding needs_of
  sound_or_not = split (followed_sound f table marks v) (λ e. rw e (e, refl)) (λ e. rw e e)

  pub needs_told : {x y : Option ℕ} → x ≡ needs_of f table marks v → x ≡ y → Told y
  needs_told e g = subst Told (sym e ∙ g) sound_or_not
