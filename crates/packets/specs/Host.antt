-- What a host does with a tile for one viewer: it opens each progression in turn and steps until the answer is no packet, over the same table and marks.
-- Every number that comes back is kept.
use Rattle.std.specs.Prelude.{ℕ, zero, suc, ◌+◌, List, [], ◌∷◌, ℤ}
use Rattle.std.proofs.Math.Option.{Option, some, none}
use Rattle.laws.specs.Gather.{gather}
use Rattle.types.specs.Answers.{OpenSaid}
use Rattle.packets.specs.Calls.{Step, open_of, step_of}
use Rattle.types.specs.declared.followed.Followed.{Followed}
use Rattle.types.specs.declared.cursor.Position.{Position}
use Rattle.types.specs.declared.cursor.Cursor.{Cursor}

-- steps: the number of each, the packets, the cursor, the totals and the marks that they left
pub record Called : Type 0 where
  pub numbers : List ℤ
  pub packets : List Position
  pub cursor : Cursor
  pub followed : Followed
  pub marks : List ℕ

-- a step whose answer is a packet is followed by the rest; any other ends the calls
abbrev pub then_rest : Step → Called → Called
then_rest u rest =
    elim u.said.packet [
      | some p ↦ record { numbers = u.said.number ∷ rest.numbers; packets = p ∷ rest.packets; cursor = rest.cursor; followed = rest.followed; marks = rest.marks }
      | none ↦ record { numbers = u.said.number ∷ []; packets = []; cursor = u.said.cursor; followed = u.followed; marks = u.marks }
    ]

-- at most n steps, each given what the one before has answered and left, until one answers no packet
unfoldable pub call_steps : ℕ → Followed → List ℕ → List ℕ → Cursor → Called
call_steps zero f table marks c = record { numbers = []; packets = []; cursor = c; followed = f; marks = marks }
call_steps (suc n) f table marks c =
    let u : Step = step_of f table marks c in
    then_rest u (call_steps n u.followed table u.marks u.said.cursor)

-- the calls of one progression: the number of its opening, those of its steps, the packets, the cursor, the totals and the marks that they left
pub record Turn : Type 0 where
  pub opening : ℤ
  pub steps : List ℤ
  pub packets : List Position
  pub cursor : Option Cursor
  pub followed : Followed
  pub marks : List ℕ

-- steps follow where a cursor was answered; none where none was
abbrev pub turn_by : (Cursor → Called) → Followed → List ℕ → ℤ → Option Cursor → Turn
turn_by go f marks z (some c) =
    let r = go c in
    record { opening = z; steps = r.numbers; packets = r.packets; cursor = some r.cursor; followed = r.followed; marks = r.marks }
turn_by go f marks z none = record { opening = z; steps = []; packets = []; cursor = none; followed = f; marks = marks }

-- progression k, opened by viewer v over the marks as they are, with at most n steps
unfoldable pub call_turn : ℕ → Followed → List ℕ → List ℕ → ℕ → ℕ → Turn
call_turn n f table marks v k = let o : OpenSaid = open_of f table marks v k in turn_by (call_steps n f table marks) f marks o.number o.cursor

-- the calls of some progressions, and the totals and the marks that they left
pub record Hosted : Type 0 where
  pub turns : List Turn
  pub followed : Followed
  pub marks : List ℕ

-- j progressions from number k on, with at most n steps each
unfoldable pub call_runs : ℕ → ℕ → Followed → List ℕ → List ℕ → ℕ → ℕ → Hosted
call_runs n zero f table marks v k = record { turns = []; followed = f; marks = marks }
call_runs n (suc j) f table marks v k =
    let t : Turn = call_turn n f table marks v k in
    let rest = call_runs n j t.followed table t.marks v (k + 1) in
    record { turns = t ∷ rest.turns; followed = rest.followed; marks = rest.marks }

-- 01: at most 65,536 marks are needed, so that many packets at most are found, and one step more ends a progression
abbrev pub most_steps : ℕ
most_steps = 65537

-- every progression of a tile, for viewer v
unfoldable pub host_calls : Followed → List ℕ → List ℕ → ℕ → Hosted
host_calls f table marks v = call_runs most_steps f.state.progressions f table marks v 0

-- the packets answered, in order
abbrev pub answered : Hosted → List Position
answered h = gather (λ t. t.packets) h.turns
