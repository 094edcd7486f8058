-- What any number of hosts do after setup (02, P4 and P8): calls one after the other, each over the table that setup gave, the state that the last one answered and the marks as
-- they are then; and demand 3's run of one viewer among them.
use Rattle.std.specs.Prelude.{◌≡◌, Bool, false, List, [], ◌∷◌, ◌++◌, ℕ, ◌+◌, ◌≤◌, ◌<◌, eqb, ℤ, pos}
use Rattle.std.proofs.Math.Option.{some, none}
use Rattle.laws.specs.Gather.{keep}
use Rattle.types.specs.Answers.{OpenSaid, StepSaid}
use Rattle.types.specs.State.{fresh_cursor, ended_cursor}
use Rattle.packets.specs.Calls.{Join, join_of, open_of, Step, step_of}
use Rattle.types.specs.declared.state.State.{State}
use Rattle.types.specs.declared.followed.Followed.{Followed}
use Rattle.types.specs.declared.cursor.Position.{Position}
use Rattle.types.specs.declared.cursor.Place.{Place}
use Rattle.types.specs.declared.cursor.Place.TheVariants as place
use Rattle.types.specs.declared.cursor.Cursor.{Cursor}

-- A CALL of some viewer: joining, opening a progression, a step from a cursor that its host holds
pub data Call : Type 0 where
  joins : ℕ → Call
  opens : ℕ → ℕ → Call
  steps : Cursor → Call

abbrev pub viewer_of : Call → ℕ
viewer_of (joins v) = v
viewer_of (opens v k) = v
viewer_of (steps c) = c.viewer

-- what it is answered
pub data Reply : Type 0 where
  joined : ℤ → Reply
  opened : OpenSaid → Reply
  stepped : StepSaid → Reply

-- what calls go by and change: the state with its totals, and the marks
pub record World : Type 0 where
  pub followed : Followed
  pub marks : List ℕ

-- one call: what it is answered, and the world after it
pub record Made : Type 0 where
  pub reply : Reply
  pub world : World

abbrev pub made : List ℕ → World → Call → Made
made table w (joins v) =
    let r : Join = join_of w.followed table w.marks v in
    record { reply = joined r.number; world = record { followed = r.followed; marks = r.marks } }
made table w (opens v k) = record { reply = opened (open_of w.followed table w.marks v k); world = w }
made table w (steps c) =
    let r : Step = step_of w.followed table w.marks c in
    record { reply = stepped r.said; world = record { followed = r.followed; marks = r.marks } }

-- a trace: every call with its reply, in order, and the world that is left
pub record Trace : Type 0 where
  pub dealt : List (Call × Reply)
  pub world : World

unfoldable pub traced : List ℕ → World → List Call → Trace
traced table w [] = record { dealt = []; world = w }
traced table w (c ∷ cs) =
    let r : Made = made table w c in
    let rest : Trace = traced table r.world cs in
    record { dealt = (c, r.reply) ∷ rest.dealt; world = rest.world }

-- some of its calls, with their replies
abbrev pub dealt_where : (Call → Bool) → List (Call × Reply) → List (Call × Reply)
dealt_where f = keep (λ (d : Call × Reply). f d.0)

-- viewer v's
abbrev pub is_own : ℕ → Call → Bool
is_own v c = eqb (viewer_of c) v

-- and those by which viewer v's bits may be written: joining, and steps
abbrev pub writes : ℕ → Call → Bool
writes v (joins w) = eqb w v
writes v (opens w k) = false
writes v (steps c) = eqb c.viewer v

-- DEMAND 3's RUN, as a host makes it: with a packet it goes on from the cursor answered, with none from a fresh one of the next progression
abbrev pub goes_on : Cursor → Reply → Cursor
goes_on c (joined z) = c
goes_on c (opened o) = c
goes_on c (stepped s) = elim s.packet [ some p ↦ s.cursor | none ↦ fresh_cursor c.viewer (c.progression + 1) ]

-- these are the calls of a run from cursor c on, until the last progression has ended
unfoldable pub Running : State → Cursor → List (Call × Reply) → Type 0
Running st c [] = st.progressions ≤ c.progression
Running st c (d ∷ ds) = (c.progression < st.progressions) × (d.0 ≡ steps c) × Running st (goes_on c d.1) ds

-- the steps of progression k from a place on that list these: for each 1, the packet and the cursor at it; then 0, the cursor ended
unfoldable pub told_steps : ℕ → ℕ → Place → List Position → List (Call × Reply)
told_steps v k p [] =
    (steps (record { viewer = v; progression = k; place = p }), stepped (record { number = pos 0; packet = none; cursor = ended_cursor v k })) ∷ []
told_steps v k p (q ∷ l) = (
  steps (record { viewer = v; progression = k; place = p }),
  stepped (record { number = pos 1; packet = some q; cursor = record { viewer = v; progression = k; place = place.At q } }),
)
    ∷ told_steps v k (place.At q) l

-- those of each progression from number k on, which lists its own of these
unfoldable pub told_run : ℕ → ℕ → List (List Position) → List (Call × Reply)
told_run v k [] = []
told_run v k (l ∷ ls) = told_steps v k place.Fresh l ++ told_run v (k + 1) ls
