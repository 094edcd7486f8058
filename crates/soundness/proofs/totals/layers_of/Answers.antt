-- `layers_of`: the layers of the range are counted if the order is one of the five and the components are good. Assumes nothing.
use Rattle.std.specs.Prelude.{◌≡◌, true, not}
use Rattle.std.proofs.Common.{rules, sym, ap, ◌∙◌, refl}
use Rattle.types.specs.Orders.{order_of}
use Rattle.types.specs.Signed.{by_bits}
use Rattle.types.specs.declared.order.Order.{Order}
use Rattle.types.specs.declared.order.Order.TheVariants.{Lrcp, Rlcp, Rpcl, Pcrl, Cprl, NoPositions}
use Rattle.soundness.specs.Totals.{is_order, layers_for}
use Rattle.soundness.proofs.totals.layers_of.Goals as goal
use Rattle.soundness.proofs.totals.layers_of.Goals.{Joined-matches, in-NoPositions, in_default}
use Rattle.soundness.proofs.totals.layers_of.Goals.{else-not-matches-via-then-not-matches+else-components_good, else-not-matches-via-else-not-matches}

-- any other order than none is one of the five
one_of_five : (o : Order) → (o ≡ NoPositions → ⊥) → is_order o ≡ true
one_of_five Lrcp h = refl
one_of_five Rlcp h = refl
one_of_five Rpcl h = refl
one_of_five Pcrl h = refl
one_of_five Cprl h = refl
one_of_five NoPositions h = absurd (h refl)

-- the test is of the progression's order
order_is : (c : Joined-matches) → is_order (order_of c.args.q.prg) ≡ not c.match-matches.matches
order_is c =
    sym (ap is_order (by_bits order_of c.args.q.prg (search rules) c.of.ensures))
    ∙ elim c.match-matches.branch [
      | in-NoPositions w ↦ rw (w.matches-is, w.in-NoPositions.is)
      | in_default w ↦ rw w.matches-is (one_of_five _ w.in_default.not-NoPositions)
    ]

pub returns-then-components_good : goal.returns-then-components_good
unfolding layers_for
returns-then-components_good c =
    rw (order_is (goal.at.returns-then-components_good c).Joined-matches, c.if-not-matches.true, ← c.components_good.ensures, c.if-components_good.true)

pub returns : goal.returns
unfolding layers_for
returns c =
    let o = order_is (goal.at.returns c).Joined-matches in
    elim c.else-not-matches.branch [
      | else-not-matches-via-then-not-matches+else-components_good w ↦ rw (o, w.if-not-matches.true, ← w.components_good.ensures, w.if-components_good.false)
      | else-not-matches-via-else-not-matches w ↦ rw (o, w.if-not-matches.false)
    ]
