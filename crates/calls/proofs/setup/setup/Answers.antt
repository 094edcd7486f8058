-- `setup`: for no output, and with the totals. Assumes nothing.
use native.Mathlib.Omega.{arith}
use mathlib.Core.Path.{ap, ◌∙◌}
use Rattle.types.specs.Totals.{started_with}
use Rattle.calls.proofs.SetUps.{passed_on}
use Rattle.calls.specs.Start.{start-left, start_refused, start-fit}
use Rattle.calls.proofs.setup.setup.Goals as goal

pub returns-in_err-st : goal.returns-in_err-st
returns-in_err-st c =
    let e = c.in_err-st.ensures in
    let l = start_refused _ _ _ (record { said = e.says; table_is = e.written; marks_is = e.cleared }) in
    rw (passed_on c.from_residual.result c.from_residual.ensures.1) record { says = l.0; counts = l.1.0; written = l.1.1.0; cleared = l.1.1.1 }

pub total-requires : goal.total-requires
total-requires c =
    let e = c.in_ok-st.ensures in
    start-fit _ _ _ (record { said = e.says; table_is = e.written; marks_is = e.cleared }) (λ i. omega (arith, c.type_inv.sheet i))

pub returns : goal.returns
returns c =
    let e = c.in_ok-st.ensures in
    let l = start-left _ _ _ (record { said = e.says; table_is = e.written; marks_is = e.cleared }) c.started.result (c.started.ensures ∙ ap (started_with _) c.total.ensures) in
    record { says = l.0; counts = l.1.0; written = l.1.1.0; cleared = l.1.1.1 }
