-- `bonxigarth_setup`: the reports are written where setup is accepted, and then there is room for them. Assumes nothing.
use Rattle.std.proofs.Common.{rules, to_z-of_z}
use Rattle.std.specs.Int.{w32}
use mathlib.Core.Path.{◌∙◌}
use Rattle.host.proofs.Bounding.{four_over}
use Rattle.host.proofs.Reporting.{told, told_room, refused}
use Rattle.host.proofs.bonxigarth_setup.Goals as goal

pub returns : goal.returns
returns c =
    let e = c.in-Ok.ensures in
    let l = told _ _ _ c.args.reports.now (record { said = e.says; table_is = e.written; marks_is = e.cleared }) in
    let room = told_room _ _ _ c.args.reports.now (record { said = e.says; table_is = e.written; marks_is = e.cleared }) in
    record { says = l.0; written = l.1.0; cleared = l.1.1.0; told = c.put_four.ensures ∙ four_over c.args.reports.now _ _ _ _ room ∙ l.1.1.1 }

pub returns-in-Err : goal.returns-in-Err
returns-in-Err c =
    let e = c.in-Err.ensures in
    let l = refused _ _ _ c.args.reports.now (record { said = e.says; table_is = e.written; marks_is = e.cleared }) in
    rw (to_z-of_z {w = w32} {z = c.from.result} (search rules), c.from.ensures) record { says = l.0; written = l.1.0; cleared = l.1.1.0; told = l.1.1.1 }
