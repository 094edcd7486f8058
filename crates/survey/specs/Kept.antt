-- What the functions of the survey keep while they pass over components and resolutions: the words of the table's entries.
use Rattle.std.specs.Prelude.{ℕ, ◌-◌, ◌≡◌, Option, IfSome, List, [], ◌∷◌}
use Rattle.laws.specs.Gather.{gather}
use Rattle.laws.specs.Axis.{span}
use Rattle.geometry.specs.declared.tile.Area.{Area}
use Rattle.types.specs.declared.table.Entry.{Entry}
use Rattle.survey.specs.declared.axes.Axes.{Axes}
use Rattle.survey.specs.Passing.{axes_of, entry_from}
use Rattle.survey.specs.Put.{put_numbers}

-- 01: pdx, pdy, width and height of a resolution
abbrev pub words_of : Entry → List ℕ
words_of entry = entry.pdx ∷ entry.pdy ∷ entry.width ∷ entry.height ∷ []

-- of the first k of n resolutions, whose exponents stand at q 0, q 1, ..; and of a component
unfoldable pub resolution_words : List ℕ → (ℕ → ℕ) → Axes → ℕ → ℕ → List ℕ
resolution_words e q a n k = gather (λ r. words_of (entry_from e (q r) a (n - 1 - r))) (span 0 k)

abbrev pub component_words : List ℕ → (ℕ → ℕ) → Area → ℕ → ℕ → ℕ → List ℕ
component_words e q tile dx dy n = resolution_words e q (axes_of tile dx dy) n n

-- they were written from place `to` on, if what they are of is good, so that something is found
abbrev pub Keeps : {A : Type 0} → List ℕ → List ℕ → ℕ → Option A → List ℕ → Type 0
Keeps old new to found words = IfSome found (λ x. new ≡ put_numbers old to words)
