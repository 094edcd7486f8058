-- A range may end at the largest number of resolutions: what lies beyond is no component's, so the positions are the same. Assumes nothing.
use Rattle.std.specs.Prelude.{◌≡◌, refl, true, [], ◌∷◌, ℕ, ◌≤◌, ◌<◌}
use Rattle.std.proofs.Common.{◌∙◌, arith}
use Rattle.std.proofs.lemmas.Bool.{false≢true}
use Rattle.std.proofs.Math.Dec.{ltb}
use borrow.Author.Tests.{lt-ltb}
use Rattle.laws.specs.Cases.{split}
use Rattle.laws.specs.Gather.{keep}
use Rattle.laws.specs.Members.{keep-all}
use Rattle.laws.specs.Nest.{nest}
use Rattle.laws.specs.NestCut.{cut_nest}
use Rattle.types.specs.State.{origin}
use Rattle.packets.specs.Tile.{Sheet, res_of}
use Rattle.types.specs.declared.order.Order.{Order}
use Rattle.types.specs.declared.order.Order.TheVariants.{Lrcp as lrcp, Rlcp as rlcp, Rpcl as rpcl, Pcrl as pcrl, Cprl as cprl, NoPositions as other}
use Rattle.types.specs.declared.order.Range.{Range}
use Rattle.packets.specs.Positions.{layers, resolutions, components, rows, columns, every_precinct, the_precinct, loops_of, has_positions, positions_in}
use Rattle.packets.specs.Good.{Good}
use Rattle.packets.proofs.Inside.{inside}
use Rattle.packets.specs.Ended.{ended_at}

module _ (s : Sheet) (g : Range) (e : ℕ) where
  has-same : (o : Order) → has_positions s (ended_at e g) o ≡ has_positions s g o
  has-same lrcp = refl
  has-same rlcp = refl
  has-same rpcl = refl
  has-same pcrl = refl
  has-same cprl = refl
  has-same other = refl

  -- its loops list those of the range whose resolution is below e
  nest-ended : (o : Order) → has_positions s g o ≡ true → nest (loops_of s (ended_at e g) o) origin ≡ keep (λ q. ltb q.resno e) (nest (loops_of s g o) origin)
  nest-ended lrcp h = cut_nest (resolutions g) e (components g ∷ every_precinct s ∷ []) (λ i p. refl) (search refl) (λ p. refl) (layers g ∷ []) origin
  nest-ended rlcp h = cut_nest (resolutions g) e (layers g ∷ components g ∷ every_precinct s ∷ []) (λ i p. refl) (search refl) (λ p. refl) [] origin
  nest-ended rpcl h = cut_nest (resolutions g) e (rows s ∷ columns s ∷ components g ∷ the_precinct s ∷ layers g ∷ []) (λ i p. refl) (search refl) (λ p. refl) [] origin
  nest-ended pcrl h = cut_nest (resolutions g) e (the_precinct s ∷ layers g ∷ []) (λ i p. refl) (search refl) (λ p. refl) (rows s ∷ columns s ∷ components g ∷ []) origin
  nest-ended cprl h = cut_nest (resolutions g) e (the_precinct s ∷ layers g ∷ []) (λ i p. refl) (search refl) (λ p. refl) (components g ∷ rows s ∷ columns s ∷ []) origin
  nest-ended other h = absurd (false≢true h)

  pub positions_ended : Good s → ((c : ℕ) → c < s.st.components → res_of s.st c ≤ e) → (o : Order) → positions_in s (ended_at e g) o ≡ positions_in s g o
  unfolding positions_in
  positions_ended good most o =
      split (has_positions s g o)
      (λ t.
      rw (has-same o, t)
      (nest-ended o t
      ∙ keep-all (λ q. ltb q.resno e) (nest (loops_of s g o) origin)
      (λ q m.
      let i = inside s g good o q (rw t m) in
      lt-ltb q.resno e (omega (arith, i.resolution, most q.compno i.component)))))
      (λ t. rw (has-same o, t) refl)
