-- `bonxigarth_stepped_run`: a refused setup ends it; else the calls over what it left leave what the whole run leaves. Assumes nothing.
use Rattle.std.proofs.Common.{ap, arith, rules, to_z-of_z}
use Rattle.std.specs.Int.{w32}
use Prim.Native.Nat.{◌≤◌}
use Rattle.walks.specs.Running.{Total}
use Rattle.calls.specs.Whole.{run_refused}
use Rattle.stepping.specs.Stepped.{hosted_of}
use Rattle.stepping.specs.Hosted.{passed-few, passed-left}
use Rattle.stepping.proofs.bonxigarth_stepped_run.Goals as goal
use Rattle.stepping.proofs.bonxigarth_stepped_run.Goals.{In-Ok}

-- few packets are listed
few : (c : In-Ok) → (hosted_of c.in-Ok.st.progressions c.in-Ok.st c.setup_for.new.table c.setup_for.new.marks 0 c.args.output.now 0).count ≤ 65536
few c =
    let e = c.in-Ok.ensures in
    passed-few _ _ _ _ (record { said = e.says; table_is = e.written; marks_is = e.cleared }) (λ i. omega (arith, c.type_inv.sheet i))

pub all_turns-requires : goal.all_turns-requires
all_turns-requires c = few (goal.at.all_turns-requires c).In-Ok

pub overflow_cast-result : goal.overflow_cast-result
overflow_cast-result c =
    let e = ap (λ (t : Total). t.count) c.all_turns.ensures in
    record { sfits = omega (arith, few (goal.at.overflow_cast-result c).In-Ok, e) }

pub returns-in-Ok : goal.returns-in-Ok
returns-in-Ok c =
    let e = c.in-Ok.ensures in
    let l = passed-left _ _ _ _ (record { said = e.says; table_is = e.written; marks_is = e.cleared }) (λ i. omega (arith, c.type_inv.sheet i)) c.all_turns.ensures in
    rw (to_z-of_z (overflow_cast-result c)) record { says = l.0; written = l.1.0; marked = l.1.1.0; listed = l.1.1.1 }

pub returns-in-Err : goal.returns-in-Err
returns-in-Err c =
    let e = c.in-Err.ensures in
    let l = run_refused _ _ _ _ (record { said = e.says; table_is = e.written; marks_is = e.cleared }) in
    rw (to_z-of_z {w = w32} {z = c.from.result} (search rules), c.from.ensures) record { says = l.0; written = l.1.0; marked = l.1.1.0; listed = l.1.1.1 }
