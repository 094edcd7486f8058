-- The values that the calls pass around, at their starts.
use Rattle.std.specs.Prelude.{ℕ, replicate, pos}
use Rattle.types.specs.declared.state.Component.{Component}
use Rattle.types.specs.declared.state.Progression.{Progression}
use Rattle.types.specs.declared.state.Reports.{Reports}
use Rattle.types.specs.declared.state.State.{State}
use Rattle.types.specs.declared.cursor.Position.{Position}
use Rattle.types.specs.declared.cursor.Cursor.{Cursor}
use Rattle.types.specs.declared.cursor.Place.TheVariants.{Fresh, Ended}

-- a component with every number 0
abbrev pub no_component : Component
no_component = record { dx = 0; dy = 0; resolutions = 0 }

-- a progression with every number 0
abbrev pub no_progression : Progression
no_progression = record { kind = 0; prg = pos 0; resno0 = 0; compno0 = 0; layno1 = 0; resno1 = 0; compno1 = 0 }

-- reports with every number 0
abbrev pub no_reports : Reports
no_reports = record { max_prec = 0; max_res = 0; dx_min = 0; dy_min = 0 }

-- a state with every number 0, which comes with a refusal
abbrev pub empty_state : State
empty_state =
    record {
      tx0 = 0;
      ty0 = 0;
      tx1 = 0;
      ty1 = 0;
      layers = 0;
      components = 0;
      progressions = 0;
      comps = replicate 16 no_component;
      changes = replicate 32 no_progression;
      reports = no_reports;
    }

-- 01, 'A cursor names its progression and is fresh, ended, or stands at a position'; 02, P4: and it names its viewer
abbrev pub fresh_cursor : ℕ → ℕ → Cursor
fresh_cursor v k = record { viewer = v; progression = k; place = Fresh }

abbrev pub ended_cursor : ℕ → ℕ → Cursor
ended_cursor v k = record { viewer = v; progression = k; place = Ended }

-- the position whose numbers are all 0: where a nest of loops starts
abbrev pub origin : Position
origin = record { layno = 0; resno = 0; compno = 0; precno = 0; x = 0; y = 0 }
