-- Resuming: what is after a position of a progression is what its loops have left when they start from that position's numbers, the innermost from the next.
-- Assumes nothing.
use Rattle.std.specs.Prelude.{◌≡◌, true, ℕ, ◌+◌}
use Rattle.std.proofs.Math.Path.{refl, sym}
use Rattle.std.proofs.Common.{ap, ◌∙◌, true≢false}
use mathlib.Core.List.{List, [], ◌∷◌, Memᴰ as In}
use Rattle.laws.specs.Lists.{behind}
use Rattle.laws.specs.Nest.{nest, resumed, Fresh, resumed-fresh}
use Rattle.laws.specs.NestResume.{Resumes, behind-nest}
use Rattle.types.specs.State.{origin}
use Rattle.packets.specs.Tile.{Sheet}
use Rattle.types.specs.declared.order.Order.{Order}
use Rattle.types.specs.declared.order.Order.TheVariants.{Lrcp as lrcp, Rlcp as rlcp, Rpcl as rpcl, Pcrl as pcrl, Cprl as cprl, NoPositions as other}
use Rattle.types.specs.declared.order.Range.{Range}
use Rattle.packets.specs.Positions.{loops_of, has_positions, positions_in, number_at}
use Rattle.packets.specs.Same.{same}
use Rattle.packets.specs.Loops.{loops_apart}
use Rattle.packets.specs.Inside.{positions_nest, in_positions, in_met}
use Rattle.types.specs.declared.cursor.Position.{Position}

-- where the loops of an order start for a fresh cursor
abbrev pub fresh_starts : Sheet → Range → Order → List (Position → ℕ)
fresh_starts s g lrcp = (λ p. 0) ∷ (λ p. g.resno0) ∷ (λ p. g.compno0) ∷ (λ p. 0) ∷ []
fresh_starts s g rlcp = (λ p. g.resno0) ∷ (λ p. 0) ∷ (λ p. g.compno0) ∷ (λ p. 0) ∷ []
fresh_starts s g rpcl = (λ p. g.resno0) ∷ (λ p. s.st.ty0) ∷ (λ p. s.st.tx0) ∷ (λ p. g.compno0) ∷ number_at s ∷ (λ p. 0) ∷ []
fresh_starts s g pcrl = (λ p. s.st.ty0) ∷ (λ p. s.st.tx0) ∷ (λ p. g.compno0) ∷ (λ p. g.resno0) ∷ number_at s ∷ (λ p. 0) ∷ []
fresh_starts s g cprl = (λ p. g.compno0) ∷ (λ p. s.st.ty0) ∷ (λ p. s.st.tx0) ∷ (λ p. g.resno0) ∷ number_at s ∷ (λ p. 0) ∷ []
fresh_starts s g other = []

-- .. and for a cursor at q
abbrev pub starts_at : Sheet → Order → Position → List (Position → ℕ)
starts_at s lrcp q = (λ p. q.layno) ∷ (λ p. q.resno) ∷ (λ p. q.compno) ∷ (λ p. q.precno + 1) ∷ []
starts_at s rlcp q = (λ p. q.resno) ∷ (λ p. q.layno) ∷ (λ p. q.compno) ∷ (λ p. q.precno + 1) ∷ []
starts_at s rpcl q = (λ p. q.resno) ∷ (λ p. q.y) ∷ (λ p. q.x) ∷ (λ p. q.compno) ∷ number_at s ∷ (λ p. q.layno + 1) ∷ []
starts_at s pcrl q = (λ p. q.y) ∷ (λ p. q.x) ∷ (λ p. q.compno) ∷ (λ p. q.resno) ∷ number_at s ∷ (λ p. q.layno + 1) ∷ []
starts_at s cprl q = (λ p. q.compno) ∷ (λ p. q.y) ∷ (λ p. q.x) ∷ (λ p. q.resno) ∷ number_at s ∷ (λ p. q.layno + 1) ∷ []
starts_at s other q = []

module _ (s : Sheet) (g : Range) where
  fresh-starts : (o : Order) → Fresh (loops_of s g o) (fresh_starts s g o)
  fresh-starts lrcp = search refl depth 24
  fresh-starts rlcp = search refl depth 24
  fresh-starts rpcl = search refl depth 24
  fresh-starts pcrl = search refl depth 24
  fresh-starts cprl = search refl depth 24
  fresh-starts other = tt

  -- a fresh cursor leaves every position
  pub resume_fresh : (o : Order) → has_positions s g o ≡ true → positions_in s g o ≡ resumed (loops_of s g o) (fresh_starts s g o) origin
  resume_fresh o h = positions_nest s g o h ∙ sym (resumed-fresh (loops_of s g o) (fresh_starts s g o) (fresh-starts o) origin)

  resumes : (o : Order) (q : Position) → In q (positions_in s g o) → Resumes (loops_of s g o) (starts_at s o q) origin q
  unfolding number_at
  resumes lrcp q i = search refl depth 24
  resumes rlcp q i = search refl depth 24
  resumes rpcl q i = let e = sym (in_met s g rpcl refl q i).number in (refl, (refl, (refl, (refl, (e, refl)))))
  resumes pcrl q i = let e = sym (in_met s g pcrl refl q i).number in (refl, (refl, (refl, (refl, (e, refl)))))
  resumes cprl q i = let e = sym (in_met s g cprl refl q i).number in (refl, (refl, (refl, (refl, (e, refl)))))
  resumes other q i = absurd (true≢false (sym ((in_positions s g other q).0 i).0))

  -- a cursor at q leaves what is after q
  pub resume_behind : (o : Order) (q : Position) → In q (positions_in s g o) → behind same q (positions_in s g o) ≡ resumed (loops_of s g o) (starts_at s o q) origin
  resume_behind o q i =
      let n : positions_in s g o ≡ nest (loops_of s g o) origin = positions_nest s g o ((in_positions s g o q).0 i).0 in
      ap (behind same q) n ∙ behind-nest same (loops_of s g o) (starts_at s o q) (loops_apart s g o) origin (rw n at i) (resumes o q i)
