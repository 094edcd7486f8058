-- What the demands say, in the words of T.800 and of 02: the demands themselves are the theorems of proofs/Demands.
use Rattle.std.specs.Prelude.{◌≡◌, true, false, cond, ℕ, ◌-◌, ◌/◌, ◌^◌, ◌≤◌, ◌<◌, length, get_or, replicate, ltb, pos}
use mathlib.Core.List.{List, [], ◌∷◌, ◌++◌, map, Memᴰ as In}
use Rattle.std.proofs.Math.Option.{some, none}
use Rattle.laws.specs.Ceiling.{ceil_div}
use Rattle.laws.specs.Gather.{keep}
use Rattle.laws.specs.Axis.{span}
use Rattle.laws.specs.Marks.{free_at}
use Rattle.laws.specs.AllRuns.{joined}
use Rattle.types.specs.State.{fresh_cursor, ended_cursor}
use Rattle.types.specs.Totals.{total_for}
use Rattle.packets.specs.Tile.{needed, index_of}
use Rattle.packets.specs.Sound.{sound}
use Rattle.packets.specs.Calls.{Start, open_of, step_of}
use Rattle.packets.specs.Host.{Turn, Hosted, answered}
use Rattle.packets.specs.Traces.{opens, Reply, opened, World, Trace, dealt_where, writes, told_run}
use Rattle.packets.specs.Wanted.{sheet_of, standard_of, standard_all, same_packet, firsts}
use Rattle.types.specs.declared.state.State.{State}
use Rattle.types.specs.declared.cursor.Position.{Position}
use Rattle.types.specs.declared.cursor.Cursor.{Cursor}

-- B.3: tcx0 = ⌈tx0 / XRsiz⌉; B.5: trx0 = ⌈tcx0 / 2^(N_L - r)⌉; the other bounds alike
abbrev pub tr_of : ℕ → ℕ → ℕ → ℕ → ℕ
tr_of t siz nL r = ceil_div (ceil_div t siz) (2 ^ (nL - r))

-- B.6: numprecinctswide = ⌈trx1 / 2^PPx⌉ - ⌊trx0 / 2^PPx⌋ if trx1 > trx0, else 0; numprecinctshigh alike
abbrev pub numprecincts : ℕ → ℕ → ℕ → ℕ
numprecincts tr0 tr1 pp = cond (ltb tr0 tr1) (ceil_div tr1 (2 ^ pp) - tr0 / 2 ^ pp) 0

-- DEMAND 3, over every trace t of calls by any viewers after setup (its state st, its table, and the marks lent to it), in which of all calls that may write
-- viewer v's bits (joining, steps) there are only those of v's run: other viewers join, open and step as they like, between any two
pub record Demand3 (sheet lent : List ℕ) (st : State) (table : List ℕ) (v : ℕ) (t : Trace) : Type 0 where
  -- the state is what the sheet's bytes say, with setup's reports, and stays so
  pub state : st ≡ (sheet_of sheet).st
  pub state_stays : t.world.followed.state ≡ st
  -- every opening of v's answers 0 and a fresh cursor
  pub openings : (k : ℕ) → k < st.progressions → (r : Reply) → In (opens v k, r) t.dealt → r ≡ opened (record { number = pos 0; cursor = some (fresh_cursor v k) })
  -- each progression has a list of packets, and v's steps answer those lists in turn: 1 for each packet, and 0 at the end of each list
  pub lists : List (List Position)
  pub every : length lists ≡ st.progressions
  pub answers : dealt_where (writes v) t.dealt ≡ told_run v 0 lists
  -- the packets answered are those of T.800's loops, progression after progression, in that order, one already listed left out
  pub order : joined lists ≡ firsts (standard_all sheet)
  -- each that some progression admits occurs exactly once
  pub once : (k : ℕ) → k < st.progressions → (p : Position) → In p (standard_of sheet k) → length (keep (same_packet p) (joined lists)) ≡ 1
  -- and no other occurs
  pub only : (p : Position) → In p (joined lists) → (k : ℕ) × (k < st.progressions) × In p (standard_of sheet k)
  -- of the marks needed those of the packets answered alone have v's bit set
  pub set-marks : (p : Position) → In p (joined lists) → free_at v t.world.marks (index_of st p) ≡ false
  pub clear_marks : (i : ℕ) → i < needed st → ((p : Position) → In p (joined lists) → index_of st p ≡ i → ⊥) → free_at v t.world.marks i ≡ true
  -- and in the marks from there on v's bits are as lent
  pub other_marks : (i : ℕ) → needed st ≤ i → free_at v t.world.marks i ≡ free_at v lent i
  pub as_many_marks : length t.world.marks ≡ length lent
  -- no packet is to come for v
  pub none_to_come : total_for t.world.followed v ≡ 0
  -- a further step of an ended cursor answers 0 and changes nothing
  pub ended_again : (k : ℕ) → k < st.progressions
      → step_of t.world.followed table t.world.marks (ended_cursor v k)
      ≡ record { said = record { number = pos 0; packet = none; cursor = ended_cursor v k }; followed = t.world.followed; marks = t.world.marks }
  -- a progression opened again answers 0 and a fresh cursor, whose step answers 0, ends it and changes nothing
  pub opened_again : (k : ℕ) → k < st.progressions → open_of t.world.followed table t.world.marks v k ≡ record { number = pos 0; cursor = some (fresh_cursor v k) }
  pub stepped_again : (k : ℕ) → k < st.progressions
      → step_of t.world.followed table t.world.marks (fresh_cursor v k)
      ≡ record { said = record { number = pos 0; packet = none; cursor = ended_cursor v k }; followed = t.world.followed; marks = t.world.marks }
  -- and so does a step of any cursor of v's that is not refused
  pub nothing_more : (c : Cursor) → c.viewer ≡ v → sound t.world.followed table t.world.marks c ≡ true
      → step_of t.world.followed table t.world.marks c
      ≡ record { said = record { number = pos 0; packet = none; cursor = ended_cursor v c.progression }; followed = t.world.followed; marks = t.world.marks }

-- what hosts find after setup
abbrev pub world_of : Start → World
world_of u = record { followed = u.followed; marks = u.marks }

-- THE RUN ALONE: the calls of a host for viewer v while nobody else calls, r
pub record Alone (sheet lent : List ℕ) (st : State) (v : ℕ) (r : Hosted) : Type 0 where
  -- every opening answers 0
  pub openings : (t : Turn) → In t r.turns → t.opening ≡ pos 0
  -- of the steps of a progression each that finds a packet answers 1, and the last, which ends it, 0
  pub steps : (t : Turn) → In t r.turns → t.steps ≡ replicate (length t.packets) (pos 1) ++ (pos 0 ∷ [])
  -- every progression has its turn, in order, and its cursor is left ended
  pub cursors : map (λ (t : Turn). t.cursor) r.turns ≡ map (λ k. some (ended_cursor v k)) (span 0 st.progressions)
  -- the packets answered
  pub order : answered r ≡ firsts (standard_all sheet)
  -- the mark of each has this viewer's bit set, and no other; every other mark that is needed is 0; the marks from there on are as lent
  pub set-marks : (p : Position) → In p (answered r) → get_or r.marks (index_of st p) 0 ≡ 2 ^ v
  pub clear_marks : (i : ℕ) → i < needed st → ((p : Position) → In p (answered r) → index_of st p ≡ i → ⊥) → get_or r.marks i 0 ≡ 0
  pub other_marks : (i : ℕ) → needed st ≤ i → get_or r.marks i 0 ≡ get_or lent i 0
  pub as_many_marks : length r.marks ≡ length lent
