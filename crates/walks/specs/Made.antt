-- What is made of the table's entries, one for each resolution of each component, and what a state and a table must be for it. Assumes nothing.
use Rattle.std.specs.Prelude.{ℕ, ◌+◌, ◌*◌, ◌≤◌, ◌<◌, ◌≡◌, refl, ◌⊎◌, List}
use Rattle.std.proofs.Common.{◌∙◌, inl, inr, ⊎_elim, arith}
use Rattle.laws.specs.Cases.{le_or_lt}
use Rattle.packets.specs.Tile.{res_of, entries_before}
use Rattle.types.specs.Entries.{entry_at}
use Rattle.types.specs.declared.state.State.{State}
use Rattle.types.specs.declared.table.Entry.{Entry}
use Rattle.walks.specs.declared.by_resolution.ByResolution.{ByResolution}
use Rattle.walks.specs.ByResolution.{place}

-- the entry of resolution r of component c: the entries of each component stand after those of the ones before
abbrev pub entry_in : State → List ℕ → ℕ → ℕ → Entry
entry_in st table c r = entry_at table (entries_before st c + r)

-- its precincts
abbrev pub product : Entry → ℕ
product e = e.width * e.height

-- the resolutions of the first k components, and with them the first m of component k
abbrev pub Before : State → ℕ → ℕ → ℕ → Type 0
Before st k c r = (c < k) × (r < res_of st c)

abbrev pub Seen : State → ℕ → ℕ → ℕ → ℕ → Type 0
Seen st k m c r = Before st k c r ⊎ ((c ≡ k) × (r < m))

-- those of all components
abbrev pub InTable : State → ℕ → ℕ → Type 0
InTable st = Before st st.components

-- a state's numbers are in range, and the precincts of each entry few
pub record AllEntries (st : State) (table : List ℕ) : Type 0 where
  pub most : st.components ≤ 16
  pub levels : (c : ℕ) → c < st.components → res_of st c ≤ 33
  pub near : (c : ℕ) → c < st.components → entries_before st c ≤ 495
  pub few : (c r : ℕ) → InTable st c r → product (entry_in st table c r) ≤ 65536

-- these resolutions have what is made of them, and nothing else was written
pub record MadeOf {T : Type 0} (In : ℕ → ℕ → Type 0) (made : ℕ → ℕ → T) (old new : ByResolution T) : Type 0 where
  pub there : (d : T) (c r : ℕ) → In c r → place d new r c ≡ made c r
  pub others : (d : T) (c r : ℕ) → (In c r → ⊥) → place d new r c ≡ place d old r c

-- here, or elsewhere
same_place : (k m c r : ℕ) → ((c ≡ k) × (r ≡ m)) ⊎ (r ≡ m → c ≡ k → ⊥)
same_place k m c r =
    ⊎_elim
    (λ a. ⊎_elim
    (λ b. ⊎_elim
    (λ d. ⊎_elim (λ e. inl (omega arith, omega arith)) (λ e. inr (λ x y. omega arith)) (le_or_lt r m))
    (λ d. inr (λ x y. omega arith))
    (le_or_lt m r))
    (λ b. inr (λ x y. omega arith))
    (le_or_lt c k))
    (λ a. inr (λ x y. omega arith))
    (le_or_lt k c)

module _ {T : Type 0} (st : State) (made : ℕ → ℕ → T) (old : ByResolution T) where
  -- nothing yet
  pub made_none : MadeOf (Before st 0) made old old
  made_none = record { there = λ d c r p. absurd (let z : ⊥ = omega arith in z); others = λ d c r n. refl }

  module _ (k : ℕ) (new : ByResolution T) where
    -- a component begins
    pub made_enter : MadeOf (Before st k) made old new → MadeOf (Seen st k 0) made old new
    made_enter h =
        record { there = λ d c r p. ⊎_elim (λ b. h.there d c r b) (λ b. absurd (let z : ⊥ = omega arith in z)) p; others = λ d c r n. h.others d c r (λ b. n (inl b)) }

    -- and ends
    pub made_leave : MadeOf (Seen st k (res_of st k)) made old new → MadeOf (Before st (k + 1)) made old new
    made_leave h =
        record {
          there = λ d c r p. h.there d c r (⊎_elim (λ a. inl (a, p.1)) (λ a. let e : c ≡ k = omega arith in inr (e, rw (← e) p.1)) (below c p.0));
          others = λ d c r n. h.others d c r (λ b. ⊎_elim (λ a. n (omega arith, a.1)) (λ a. n (omega (arith, a.0), rw a.0 a.1)) b);
        }
      where
        below : (c : ℕ) → c < k + 1 → (c < k) ⊎ (k ≤ c)
        below c h = ⊎_elim inr inl (le_or_lt k c)

  -- one more
  pub made_more : (k m : ℕ) (mid new : ByResolution T) (v : T) → v ≡ made k m → ((d : T) → place d new m k ≡ v)
      → ((d : T) (r c : ℕ) → (r ≡ m → c ≡ k → ⊥) → place d new r c ≡ place d mid r c)
      → MadeOf (Seen st k m) made old mid → MadeOf (Seen st k (m + 1)) made old new
  made_more k m mid new v e put rest h =
      record {
        there = λ d c r p.
            ⊎_elim
            (λ a. rw (a.0, a.1) (put d ∙ e))
            (λ n. rest d r c n ∙ h.there d c r (⊎_elim inl (λ b. inr (b.0, less r c n b.0 b.1)) p))
            (same_place k m c r);
        others = λ d c r n.
            rest d r c (λ x y. n (inr (y, omega arith)))
            ∙ h.others d c r (λ b. n (⊎_elim inl (λ a. inr (a.0, omega (arith, a.1))) b));
      }
    where
      less : (r c : ℕ) → (r ≡ m → c ≡ k → ⊥) → c ≡ k → r < m + 1 → r < m
      less r c n e p = ⊎_elim (λ z. absurd (n (omega arith) e)) (λ z. z) (le_or_lt m r)
