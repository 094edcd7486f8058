-- What every loop of a walk for viewer v keeps, for every sheet and range that the walk is ready for: nothing is found yet, and what is still to be searched answers as what
-- was to be searched at entry. What is left is a part in front and then a rest; a turn takes the part apart, passes it, or finds a packet in it. Assumes nothing.
use Rattle.std.specs.Prelude.{◌≡◌, refl, true, false, ℕ, Option, None}
use Rattle.std.proofs.Math.Path.{sym, ap}
use Rattle.std.proofs.Common.{◌∙◌}
use mathlib.Core.List.{List, [], ◌∷◌, ◌++◌, append_assoc}
use Rattle.laws.specs.Marks.{free_at}
use Rattle.laws.specs.Runs.{Packet, seek, seek-free, seek-taken}
use Rattle.packets.specs.Tile.{Sheet, index_of}
use Rattle.types.specs.declared.order.Range.{Range}
use Rattle.types.specs.declared.cursor.Position.{Position}
use Rattle.walks.specs.Walk.{answer_of}

-- the walk is ready for a sheet and a range
abbrev pub Readiness : Type 1
Readiness = Sheet → Range → Type 0

-- what is to be searched, of a sheet and a range
abbrev pub Rest : Type 0
Rest = Sheet → Range → List Position

-- one part, and then another
infixr 5 ◌then◌
unfoldable pub ◌then◌ : Rest → Rest → Rest
◌then◌ a b s g = a s g ++ b s g

abbrev pub nothing : Rest
nothing s g = []

module _ (v : ℕ) (Ready : Readiness) (marks : List ℕ) (entry : Rest) where
  pub record Going (f : Option Position) (rest : Rest) : Type 0 where
    pub not_yet : f ≡ None
    pub same : (s : Sheet) (g : Range) → Ready s g → seek v (index_of s.st) marks (entry s g) ≡ seek v (index_of s.st) marks (rest s g)

  pub starts : Going None entry
  starts = record { not_yet = refl; same = λ s g h. refl }

  module _ {f : Option Position} (a : Rest) (w : Going f a) where
    -- what is left, written in another way
    pub onward : (b : Rest) → ((s : Sheet) (g : Range) → Ready s g → a s g ≡ b s g) → Going f b
    onward b e = record { not_yet = w.not_yet; same = λ s g h. w.same s g h ∙ ap (seek v (index_of s.st) marks) (e s g h) }

    -- it is two parts
    pub splits : (b d : Rest) → ((s : Sheet) (g : Range) → Ready s g → a s g ≡ b s g ++ d s g) → Going f (b then d)
    unfolding ◌then◌
    splits b d e = onward (b then d) e

    -- nothing is left: nothing is found
    pub ends : ((s : Sheet) (g : Range) → Ready s g → a s g ≡ []) → (s : Sheet) (g : Range) → Ready s g
        → answer_of f ≡ seek v (index_of s.st) marks (entry s g)
    unfolding seek
    ends e s g h = rw w.not_yet (sym (w.same s g h ∙ ap (seek v (index_of s.st) marks) (e s g h)))

  -- THE PART IN FRONT
  module _ {f : Option Position} (a o : Rest) (w : Going f (a then o)) where
    -- written in another way
    pub turns : (b : Rest) → ((s : Sheet) (g : Range) → Ready s g → a s g ≡ b s g) → Going f (b then o)
    unfolding ◌then◌
    turns b e = onward (a then o) w (b then o) (λ s g h. ap (λ (t : List Position). t ++ o s g) (e s g h))

    -- two parts
    pub parts : (b d : Rest) → ((s : Sheet) (g : Range) → Ready s g → a s g ≡ b s g ++ d s g) → Going f (b then (d then o))
    unfolding ◌then◌
    parts b d e =
        onward (a then o) w (b then (d then o)) (λ s g h. ap (λ (t : List Position). t ++ o s g) (e s g h) ∙ append_assoc (b s g) (d s g) (o s g))

    -- nothing
    pub leaves : ((s : Sheet) (g : Range) → Ready s g → a s g ≡ []) → Going f o
    unfolding ◌then◌
    leaves e = onward (a then o) w o (λ s g h. ap (λ (t : List Position). t ++ o s g) (e s g h))

    -- its first position has a mark, and the search goes on after it; or it has none, and is found
    module _ (b : Rest) (p : Position) where
      pub passes : ((s : Sheet) (g : Range) → Ready s g → (a s g ≡ p ∷ b s g) × (free_at v marks (index_of s.st p) ≡ false)) → Going f (b then o)
      unfolding ◌then◌
      passes e =
          record { not_yet = w.not_yet; same = λ s g h. w.same s g h ∙ rw (e s g h).0 (seek-taken v (index_of s.st) marks p (b s g ++ o s g) (e s g h).1) }

      pub finds : ((s : Sheet) (g : Range) → Ready s g → (a s g ≡ p ∷ b s g) × (free_at v marks (index_of s.st p) ≡ true))
          → (s : Sheet) (g : Range) → Ready s g → Packet p ≡ seek v (index_of s.st) marks (entry s g)
      unfolding ◌then◌
      finds e s g h = sym (w.same s g h ∙ rw (e s g h).0 (seek-free v (index_of s.st) marks p (b s g ++ o s g) (e s g h).1))
