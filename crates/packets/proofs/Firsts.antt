-- Two positions of a tile are one packet exactly if they have one mark: to leave out by packet is to leave out by index. Assumes nothing.
use Rattle.std.specs.Prelude.{◌≡◌, Bool, ◌||◌, eqb}
use Rattle.std.proofs.Math.Path.{refl, sym, ap}
use Rattle.std.proofs.Common.{◌∙◌, eq-eqb, ne_eqb, eqb-true}
use Rattle.std.proofs.Math.Bool.{true, false, cond, false≢true}
use mathlib.Core.List.Memᴰ.{cases_cons as in_cons}
use mathlib.Core.List.Memᴰ.{head as here}
use mathlib.Core.List.Memᴰ.{not-nil as not_in_nil}
use mathlib.Core.List.Memᴰ.{tail as there}
use mathlib.Core.List.{List, [], ◌∷◌, ◌++◌, map, Memᴰ as In}
use Rattle.std.proofs.Math.Logic.{⊎_elim}
use Prim.Native.Nat.{ℕ, suc}
use Rattle.std.proofs.Math.ListN.{length}
use Rattle.laws.specs.Cases.{and_true, and_both, split}
use Rattle.laws.specs.Gather.{gather, only, keep}
use Rattle.laws.specs.AllRuns.{has, unseen, dedupe, count}
use Rattle.packets.specs.Tile.{Sheet, index_of}
use Rattle.packets.specs.Good.{Good}
use Rattle.packets.specs.Inside.{Inside}
use Rattle.packets.proofs.Once.{index_apart}
use Rattle.packets.specs.Wanted.{same_packet, has_packet, firsts_after, firsts}
use Rattle.types.specs.declared.cursor.Position.{Position}

-- the test of two packets
packet_numbers : (p q : Position) → same_packet p q ≡ true → (p.layno ≡ q.layno) × (p.resno ≡ q.resno) × (p.compno ≡ q.compno) × (p.precno ≡ q.precno)
packet_numbers p q h =
    let a = and_true _ _ h in
    let b = and_true _ _ a.1 in
    let c = and_true _ _ b.1 in
    (eqb-true _ _ a.0, eqb-true _ _ b.0, eqb-true _ _ c.0, eqb-true _ _ c.1)

module _ (s : Sheet) (good : Good s) where
  abbrev ix : Position → ℕ
  ix = index_of s.st

  -- all of these are packets of the tile
  abbrev pub AllInside : List Position → Type 0
  AllInside ps = (p : Position) → In p ps → Inside s p

  pub packet_index : (p q : Position) → Inside s p → Inside s q → same_packet p q ≡ eqb (ix p) (ix q)
  unfolding index_of
  packet_index p q i j =
      split (same_packet p q)
      (λ t. let n = packet_numbers p q t in t ∙ sym (eq-eqb (ix p) (ix q) (rw (n.0, n.1, n.2, n.3))))
      (λ t. t ∙ sym (ne_eqb (ix p) (ix q) (λ e. false≢true (sym t ∙ by (index_apart s good p q i j e)))))
    where
      by : (p.layno ≡ q.layno) × (p.resno ≡ q.resno) × (p.compno ≡ q.compno) × (p.precno ≡ q.precno) → same_packet p q ≡ true
      by n = and_both (eq-eqb _ _ n.0) (and_both (eq-eqb _ _ n.1) (and_both (eq-eqb _ _ n.2) (eq-eqb _ _ n.3)))

  has-packet : (p : Position) (seen : List Position) → Inside s p → AllInside seen → has (ix p) (map ix seen) ≡ has_packet p seen
  unfolding has has_packet
  has-packet p [] i h = refl
  has-packet p (q ∷ seen) i h =
      rw (packet_index p q i (h q (here refl)), ← (has-packet p seen i (λ r k. h r (there k)))) (by (eqb (ix p) (ix q)))
    where
      by : (t : Bool) → elim t [ true ↦ true | false ↦ has (ix p) (map ix seen) ] ≡ (t || has (ix p) (map ix seen))
      by true = refl
      by false = refl

  unseen-firsts : (seen ps : List Position) → AllInside seen → AllInside ps → unseen ix (map ix seen) ps ≡ firsts_after seen ps
  unfolding unseen firsts_after
  unseen-firsts seen [] g h = refl
  unseen-firsts seen (p ∷ ps) g h =
      let old = unseen-firsts seen ps g (λ r k. h r (there k)) in
      let new = unseen-firsts (p ∷ seen) ps (λ r k. ⊎_elim (λ e. rw e (h p (here refl))) (g r) (in_cons k)) (λ r k. h r (there k)) in
      ap (λ (t : Bool). elim t [ true ↦ unseen ix (map ix seen) ps | false ↦ p ∷ unseen ix (ix p ∷ map ix seen) ps ]) (has-packet p seen (h p (here refl)) g)
      ∙ by (has_packet p seen) old new
    where
      by : (t : Bool) → unseen ix (map ix seen) ps ≡ firsts_after seen ps → unseen ix (ix p ∷ map ix seen) ps ≡ firsts_after (p ∷ seen) ps
          → elim t [ true ↦ unseen ix (map ix seen) ps | false ↦ p ∷ unseen ix (ix p ∷ map ix seen) ps ] ≡ cond t (firsts_after seen ps) (p ∷ firsts_after (p ∷ seen) ps)
      by true e f = e
      by false e f = ap (λ (l : List Position). p ∷ l) f

  -- one already listed left out: by index, and by packet
  pub dedupe-firsts : (ps : List Position) → AllInside ps → dedupe ix ps ≡ firsts ps
  dedupe-firsts ps h = unseen-firsts [] ps (λ p i. absurd (not_in_nil i)) h

  -- how often a packet occurs: by index, and by packet
  pub count-packets : (p : Position) (ps : List Position) → Inside s p → AllInside ps → count (ix p) (map ix ps) ≡ length (keep (same_packet p) ps)
  unfolding count gather
  count-packets p [] i h = refl
  count-packets p (q ∷ ps) i h =
      rw (packet_index p q i (h q (here refl))) (by (eqb (ix p) (ix q)) (count-packets p ps i (λ r k. h r (there k))))
    where
      by : (t : Bool) → count (ix p) (map ix ps) ≡ length (keep (same_packet p) ps)
          → elim t [ true ↦ suc (count (ix p) (map ix ps)) | false ↦ count (ix p) (map ix ps) ] ≡ length (only t q ++ keep (same_packet p) ps)
      by true e = ap suc e
      by false e = e
