-- `listed`: the components, the ranges, the resolution and then the position itself are tested, each as the positions have it. Assumes nothing.
use Rattle.std.specs.Prelude.{◌≡◌, ◌<◌, true}
use Rattle.std.proofs.Common.{rules, arith, sym, ap, ◌∙◌}
use Rattle.packets.specs.Table.{sheet_at}
use Rattle.packets.specs.Meaning.{fit-good}
use Rattle.types.specs.Orders.{order_of, range_of, components_good}
use Rattle.types.specs.Signed.{by_bits}
use Rattle.types.specs.declared.order.Range.{Range}
use Rattle.soundness.specs.Points.{in_range}
use Rattle.soundness.proofs.Listed.{no_components, out_of_range, component-there, no_resolution, in_test}
use Rattle.soundness.proofs.place.listed.Goals as goal
use Rattle.soundness.proofs.place.listed.Goals.{Then-in_range}
use Rattle.soundness.proofs.place.listed.Goals.{else-components_good-via-then-components_good+then-in_range+else-p-comps, else-components_good-via-then-components_good+else-in_range, else-components_good-via-else-components_good}

-- the components are good, and the position is in range
good : (c : Then-in_range) → components_good c.args.st (range_of c.args.st c.args.q) ≡ true
good c = ap (components_good c.args.st) (sym c.of-g.ensures) ∙ sym c.components_good.ensures ∙ c.if-components_good.true

ranged : (c : Then-in_range) → in_range (range_of c.args.st c.args.q) c.args.p ≡ true
ranged c = ap (λ (g : Range). in_range g c.args.p) (sym c.of-g.ensures) ∙ sym c.in_range.ensures ∙ c.if-in_range.true

-- so its component is there
there : (c : Then-in_range) → c.args.p.compno < c.args.st.components
there c = component-there (sheet_at c.args.st c.args.table.now) (range_of c.args.st c.args.q) c.args.p (good c) (ranged c)

pub bounds-comps-p : goal.bounds-comps-p
bounds-comps-p c = omega (arith, there (goal.at.bounds-comps-p c).Then-in_range, c.requires.sound.tile.components.1)

pub of_resolution-requires : goal.of_resolution-requires
of_resolution-requires c =
    record { fit = c.requires; component = there (goal.at.of_resolution-requires c).Then-in_range; resolution = c.if-p-comps.true }

pub returns-then-p-comps : goal.returns-then-p-comps
returns-then-p-comps c =
    let a = c.args in
    let t = (goal.at.returns-then-p-comps c).Then-in_range in
    rw (c.of_resolution.ensures, by_bits order_of a.q.prg (search rules) c.of.ensures)
    (in_test a.st a.table.now (range_of a.st a.q) a.p (record { fit = c.requires; component = there t; resolution = c.if-p-comps.true })
    (order_of a.q.prg) (good t) (ranged t))

pub returns : goal.returns
returns c =
    let a = c.args in
    let s = sheet_at a.st a.table.now in
    let g = range_of a.st a.q in
    elim c.else-components_good.branch [
      | else-components_good-via-then-components_good+then-in_range+else-p-comps w ↦
          no_resolution s g a.p (fit-good _ _ c.requires) (order_of a.q.prg) w.if-p-comps.false
      | else-components_good-via-then-components_good+else-in_range w ↦
          out_of_range s g a.p (order_of a.q.prg) (ap (λ (g : Range). in_range g a.p) (sym c.of-g.ensures) ∙ sym w.in_range.ensures ∙ w.if-in_range.false)
      | else-components_good-via-else-components_good w ↦
          no_components s g a.p (order_of a.q.prg) (ap (components_good a.st) (sym c.of-g.ensures) ∙ sym c.components_good.ensures ∙ w.if-components_good.false)
    ]
