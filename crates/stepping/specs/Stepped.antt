-- What a host's calls leave (packets, Host.antt) when each packet is written as the next record: how many there are then, the marks and the output; call by call,
-- as the code makes them. Assumes nothing.
use Rattle.std.specs.Prelude.{◌≡◌, List, [], ◌∷◌, ◌++◌, Result, Ok}
use Rattle.std.proofs.Math.Path.{refl, sym, ap}
use Rattle.std.proofs.Common.{◌∙◌, ltb-true}
use Rattle.std.proofs.Math.Option.{Option, some, none}
use Prim.Native.Nat.{ℕ, zero, suc, ◌+◌, ◌-◌, ◌*◌}
use native.Mathlib.Omega.{arith}
use Rattle.std.proofs.Math.ListN.{length}
use Rattle.std.proofs.lemmas.List.{get_or-replicate}
use Rattle.laws.specs.Cases.{split}
use Rattle.laws.specs.Gather.{gather}
use Rattle.laws.specs.Runs.{Answer, Packet, Ended, seek}
use Rattle.types.specs.Answers.{OpenSaid, StepSaid, of_opened, of_stepped}
use Rattle.types.specs.Viewers.{is_viewer}
use Rattle.types.specs.Totals.{started_with, total_for, with_total, with_same}
use Rattle.packets.specs.Tile.{index_of}
use Rattle.packets.specs.Sound.{positions_for, sound}
use Rattle.packets.specs.Calls.{after, Step, open_of, step_by, step_of}
use Rattle.packets.proofs.Steps.{step_searches, step_refused}
use Rattle.packets.specs.Host.{Called, then_rest, call_steps, Turn, turn_by, call_turn, Hosted, call_runs, most_steps, answered}
use Rattle.types.specs.declared.state.State.{State}
use Rattle.types.specs.declared.followed.Followed.{Followed}
use Rattle.types.specs.declared.cursor.Position.{Position}
use Rattle.types.specs.declared.cursor.Cursor.{Cursor}
use Rattle.types.specs.declared.answer.NotOpened.{NotOpened}
use Rattle.types.specs.declared.answer.Stepped.{Stepped}
use Rattle.types.specs.declared.answer.Stepped.TheVariants as stepped
use Rattle.walks.specs.Records.{put_packet, put_packets}
use Rattle.walks.specs.Running.{Total}

-- packets written from record n on, with the marks that were left
abbrev pub written : List ℕ → ℕ → List Position → List ℕ → Total
written output n packets marks = record { count = n + length packets; marks = marks; output = put_packets output n packets }

-- totals of 0, which stay so
abbrev pub uncounted : State → Followed
uncounted st = started_with st 0

-- at most so many steps
unfoldable pub stepped_of : ℕ → State → List ℕ → List ℕ → Cursor → List ℕ → ℕ → Total
stepped_of most st table marks c output n = let r : Called = call_steps most (uncounted st) table marks c in written output n r.packets r.marks

-- progression k, of viewer 0 as in a whole run
unfoldable pub turned_of : State → List ℕ → List ℕ → ℕ → List ℕ → ℕ → Total
turned_of st table marks k output n = let t : Turn = call_turn most_steps (uncounted st) table marks 0 k in written output n t.packets t.marks

-- j progressions from number k on
unfoldable pub hosted_of : ℕ → State → List ℕ → List ℕ → ℕ → List ℕ → ℕ → Total
hosted_of j st table marks k output n = let h : Hosted = call_runs most_steps j (uncounted st) table marks 0 k in written output n (answered h) h.marks

module _ (output : List ℕ) (n : ℕ) where
  -- no packet
  written_none : (marks : List ℕ) → written output n [] marks ≡ record { count = n; marks = marks; output = output }
  unfolding put_packets
  written_none marks = let e : n + 0 ≡ n = omega arith in ap (λ (c : ℕ). record { count = c; marks = marks; output = output }) e

  -- one, and then the others
  written_more : (p : Position) (ps : List Position) (marks : List ℕ) → written output n (p ∷ ps) marks ≡ written (put_packet output (16 * n) p) (n + 1) ps marks
  unfolding put_packets
  written_more p ps marks =
      let e : n + suc (length ps) ≡ n + 1 + length ps = omega arith in
      ap (λ (c : ℕ). record { count = c; marks = marks; output = put_packets (put_packet output (16 * n) p) (n + 1) ps }) e

-- some, and then others
written-append : (output : List ℕ) (n : ℕ) (u v : List Position) (marks : List ℕ)
    → written output n (u ++ v) marks ≡ written (put_packets output n u) (n + length u) v marks
unfolding put_packets
written-append output n [] v marks = let e : n ≡ n + 0 = omega arith in ap (λ (c : ℕ). written output c v marks) e
written-append output n (p ∷ u) v marks =
    let e : n + 1 + length u ≡ n + length (p ∷ u) = omega arith in
    written_more output n p (u ++ v) marks
    ∙ written-append (put_packet output (16 * n) p) (n + 1) u v marks
    ∙ ap (λ (c : ℕ). written (put_packets (put_packet output (16 * n) p) (n + 1) u) c v marks) e

-- whoever steps, nothing is taken from a total of 0
uncounted-total : (st : State) (v : ℕ) → total_for (uncounted st) v ≡ 0
unfolding total_for
uncounted-total st v = split (is_viewer v) (λ e. rw e (get_or-replicate 8 v 0 0 (ltb-true v 8 e))) (λ e. rw e)

uncounted_less : (st : State) (v : ℕ) → with_total (uncounted st) v (total_for (uncounted st) v - 1) ≡ uncounted st
uncounted_less st v = let e = uncounted-total st v in ap (with_total (uncounted st) v) (let d : total_for (uncounted st) v - 1 ≡ total_for (uncounted st) v = omega arith in d) ∙ with_same (uncounted st) v

pub uncounted_stays : (st : State) (table marks : List ℕ) (c : Cursor) → (step_of (uncounted st) table marks c).followed ≡ uncounted st
uncounted_stays st table marks c =
    split (sound (uncounted st) table marks c)
    (λ h. ap (λ (u : Step). u.followed) (step_searches (uncounted st) table marks c h) ∙ by (seek c.viewer (index_of st) marks (after c.place (positions_for st table c.progression))))
    (λ h. ap (λ (u : Step). u.followed) (step_refused (uncounted st) table marks c h))
  where
    by : (a : Answer Position) → (step_by (uncounted st) marks c.viewer c.progression a).followed ≡ uncounted st
    by (Packet p) = uncounted_less st c.viewer
    by Ended = refl

module _ (st : State) (table : List ℕ) where
  uncounted-steps : (i : ℕ) (marks : List ℕ) (c : Cursor) → (call_steps i (uncounted st) table marks c).followed ≡ uncounted st
  unfolding call_steps
  uncounted-steps zero marks c = refl
  uncounted-steps (suc i) marks c =
      let u : Step = step_of (uncounted st) table marks c in
      by u (uncounted_stays st table marks c) (ap (λ (f : Followed). (call_steps i f table u.marks u.said.cursor).followed) (uncounted_stays st table marks c) ∙ uncounted-steps i u.marks u.said.cursor) u.said.packet
    where
      by : (u : Step) → u.followed ≡ uncounted st → (call_steps i u.followed table u.marks u.said.cursor).followed ≡ uncounted st → (o : Option Position)
          → (then_rest (record { said = record { number = u.said.number; packet = o; cursor = u.said.cursor }; followed = u.followed; marks = u.marks }) (call_steps i u.followed table u.marks u.said.cursor)).followed
          ≡ uncounted st
      by u e rest (some p) = rest
      by u e rest none = e

  uncounted-turn : (i : ℕ) (marks : List ℕ) (v k : ℕ) → (call_turn i (uncounted st) table marks v k).followed ≡ uncounted st
  unfolding call_turn
  uncounted-turn i marks v k = by (open_of (uncounted st) table marks v k).cursor
    where
      by : (o : Option Cursor) → (turn_by (call_steps i (uncounted st) table marks) (uncounted st) marks (open_of (uncounted st) table marks v k).number o).followed ≡ uncounted st
      by (some c) = uncounted-steps i marks c
      by none = refl

module _ (st : State) (table marks : List ℕ) where
  module _ (c : Cursor) (output : List ℕ) (n : ℕ) where
    -- no step
    pub steps_none : stepped_of 0 st table marks c output n ≡ record { count = n; marks = marks; output = output }
    unfolding stepped_of call_steps
    steps_none = written_none output n marks

    -- a step, and what follows
    module _ (most : ℕ) (r : Stepped) (m : List ℕ) (said : of_stepped r ≡ (step_of (uncounted st) table marks c).said) (left : m ≡ (step_of (uncounted st) table marks c).marks) where
      abbrev after_one : Step → Total
      after_one u = let s : Called = then_rest u (call_steps most u.followed table u.marks u.said.cursor) in written output n s.packets s.marks

      abbrev step_for : StepSaid → Step
      step_for s = record { said = s; followed = uncounted st; marks = m }

      one-step : stepped_of (suc most) st table marks c output n ≡ after_one (step_for (of_stepped r))
      unfolding stepped_of call_steps
      one-step = ap after_one (λ i. record { said = sym said i; followed = uncounted_stays st table marks c i; marks = sym left i })

      -- a packet is written, and the steps go on from its cursor
      pub steps-packet : (p : Position) (d : Cursor) → r ≡ stepped.Packet p d
          → stepped_of (suc most) st table marks c output n ≡ stepped_of most st table m d (put_packet output (16 * n) p) (n + 1)
      unfolding stepped_of
      steps-packet p d e =
          let s : Called = call_steps most (uncounted st) table m d in
          one-step ∙ ap (λ (r : Stepped). after_one (step_for (of_stepped r))) e ∙ written_more output n p s.packets s.marks

      -- no packet ends them
      pub steps-ended : (of_stepped r).packet ≡ none → stepped_of (suc most) st table marks c output n ≡ record { count = n; marks = m; output = output }
      steps-ended e =
          one-step
          ∙ ap (λ (o : Option Position). after_one (step_for (record { number = (of_stepped r).number; packet = o; cursor = (of_stepped r).cursor }))) e
          ∙ written_none output n m

  module _ (k : ℕ) (output : List ℕ) (n : ℕ) where
    module _ (r : Result Cursor NotOpened) (said : of_opened r ≡ open_of (uncounted st) table marks 0 k) where
      abbrev after_opened : OpenSaid → Total
      after_opened o = let t : Turn = turn_by (call_steps most_steps (uncounted st) table marks) (uncounted st) marks o.number o.cursor in written output n t.packets t.marks

      opens : turned_of st table marks k output n ≡ after_opened (of_opened r)
      unfolding turned_of call_turn
      opens = ap after_opened (sym said)

      -- a cursor is stepped on
      pub turn_opened : (c : Cursor) → r ≡ Ok c → turned_of st table marks k output n ≡ stepped_of most_steps st table marks c output n
      unfolding stepped_of
      turn_opened c e = opens ∙ ap (λ (r : Result Cursor NotOpened). after_opened (of_opened r)) e

      -- none ends the turn
      pub turn_refused : (of_opened r).cursor ≡ none → turned_of st table marks k output n ≡ record { count = n; marks = marks; output = output }
      turn_refused e =
          opens
          ∙ ap (λ (o : Option Cursor). after_opened (record { number = (of_opened r).number; cursor = o })) e
          ∙ written_none output n marks

    -- no progression
    pub hosted_none : hosted_of 0 st table marks k output n ≡ record { count = n; marks = marks; output = output }
    unfolding hosted_of call_runs gather
    hosted_none = written_none output n marks

    -- one, and then the others
    pub hosted-next : (j : ℕ) → hosted_of (suc j) st table marks k output n
        ≡ (let w = turned_of st table marks k output n in hosted_of j st table w.marks (k + 1) w.output w.count)
    unfolding hosted_of turned_of call_runs gather
    hosted-next j =
        let f : Followed = uncounted st in
        let t : Turn = call_turn most_steps f table marks 0 k in
        let h : Hosted = call_runs most_steps j f table t.marks 0 (k + 1) in
        ap (λ (g : Followed). let r = call_runs most_steps j g table t.marks 0 (k + 1) in written output n (t.packets ++ answered r) r.marks) (uncounted-turn st table most_steps marks 0 k)
        ∙ written-append output n t.packets (answered h) h.marks
