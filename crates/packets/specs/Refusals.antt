-- Every call answers a number of 0 or more, or else keeps all that was lent and answers only its refusal. Assumes nothing.
use Rattle.std.specs.Prelude.{◌≡◌, refl, Bool, true, false, ◌&&◌, List, ℕ, length, leb, eqb, ℤ, negsuc}
use Rattle.std.proofs.Common.{sym, ap, ◌∙◌, arith}
use Rattle.std.proofs.Math.Bool.{cond}
use Rattle.std.proofs.Math.Option.{some, none}
use Rattle.std.proofs.Math.Dec.{ltb}
use Rattle.std.proofs.Math.IntN.{pos}
use Rattle.laws.specs.Runs.{Answer, Packet, Ended, seek}
use Rattle.geometry.specs.Tile.{tile_bounds_of}
use Rattle.geometry.specs.declared.tile.Area.{Area}
use Rattle.geometry.specs.declared.tile.Grid.{Grid}
use Rattle.words.specs.Words.{words_bytes, over}
use Rattle.types.specs.State.{empty_state, fresh_cursor}
use Rattle.types.specs.Viewers.{is_viewer}
use Rattle.types.specs.Totals.{started_with, with_total}
use Rattle.laws.specs.Marks.{cleared_to}
use Rattle.laws.specs.Below.{sum_below}
use Rattle.packets.specs.Tile.{precincts, rectangle, needed, index_of}
use Rattle.packets.specs.Table.{sheet_at}
use Rattle.packets.specs.Sound.{sheet_sound, followed_sound, positions_for, sound}
use Rattle.packets.specs.Totals.{total}
use Rattle.types.specs.Answers.{OpenSaid, RectangleSaid}
use Rattle.packets.specs.Calls.{refusal, Setup, setup_verdict, accepted, setup_of, Start, total_of, start_of, Join, join_of, open_of, rectangle_of, after, Step, step_by, step_of, Run, run_verdict, listed, ran_over, whole_run_of}
use Rattle.packets.specs.Bounds.{Bounds, written_by, bounds_of}
use Rattle.types.specs.declared.state.State.{State}
use Rattle.types.specs.declared.followed.Followed.{Followed}
use Rattle.types.specs.declared.cursor.Position.{Position}
use Rattle.types.specs.declared.cursor.Cursor.{Cursor}

-- the number of an outcome, and the outcome that keeps all with a number of its own
module _ {A : Type 0} (number : A → ℤ) (kept : ℤ → A) where
  -- where the number is below 0, all is kept
  abbrev pub Keeps : A → Type 0
  Keeps x = (n : ℕ) → number x ≡ negsuc n → x ≡ kept (negsuc n)

  found : (x : A) (m : ℕ) → number x ≡ pos m → Keeps x
  found x m e n f =
      let same : pos m ≡ negsuc n = sym e ∙ f in
      let z : ◌≡◌ {A = ℕ} 0 1 = cc in
      absurd (let no : ⊥ = omega arith in no)

  refused : ((z : ℤ) → number (kept z) ≡ z) → (z : ℤ) → Keeps (kept z)
  refused own z n f = ap kept (sym (own z) ∙ f)

  either : (t : Bool) (x y : A) → Keeps x → Keeps y → Keeps (cond t x y)
  either true x y k l = k
  either false x y k l = l

  -- one that is found, or else a refusal
  or_refused : ((z : ℤ) → number (kept z) ≡ z) → (t : Bool) (x : A) (z : ℤ) → Keeps x → Keeps (cond t x (kept z))
  or_refused own t x z k = either t x (kept z) k (refused own z)

-- the number of each call
abbrev setup_number : Setup → ℤ
setup_number u = u.said.number

abbrev start_number : Start → ℤ
start_number u = u.number

abbrev join_number : Join → ℤ
join_number o = o.number

abbrev open_number : OpenSaid → ℤ
open_number o = o.number

abbrev step_number : Step → ℤ
step_number u = u.said.number

abbrev rectangle_number : RectangleSaid → ℤ
rectangle_number q = q.number

abbrev run_number : Run → ℤ
run_number r = r.number

abbrev bounds_number : Bounds → ℤ
bounds_number b = b.number

module _ (sheet table marks : List ℕ) where
  abbrev setup_kept : ℤ → Setup
  setup_kept z = record { said = record { number = z; state = empty_state }; table = table; marks = marks }

  pub setup-keeps : Keeps setup_number setup_kept (setup_of sheet table marks)
  unfolding setup_of
  setup-keeps =
      let v = setup_verdict sheet table marks in
      or_refused setup_number setup_kept (λ z. refl) (eqb v 0) (accepted sheet table marks) (refusal v) (found setup_number setup_kept (accepted sheet table marks) 0 refl)

  -- and so does setup for those who follow: with a refusal all totals are 0
  abbrev start_kept : ℤ → Start
  start_kept z = record { number = z; followed = started_with empty_state 0; table = table; marks = marks }

  pub start-keeps : Keeps start_number start_kept (start_of sheet table marks)
  unfolding start_of total sum_below
  start-keeps n e = rw (setup-keeps n e)

  module _ (output : List ℕ) where
    abbrev run_kept : ℤ → Run
    run_kept z = record { number = z; table = table; marks = marks; output = output }

    pub run-keeps : Keeps run_number run_kept (whole_run_of sheet table marks output)
    unfolding whole_run_of ran_over
    run-keeps =
        let v = run_verdict sheet table marks output in
        let u : Setup = accepted sheet table marks in
        let r : Run = ran_over u output in
        or_refused run_number run_kept (λ z. refl) (eqb v 0) r (refusal v) (found run_number run_kept r (length (listed u.said.state u.table)) refl)

module _ (f : Followed) (table marks : List ℕ) where
  abbrev open_kept : ℤ → OpenSaid
  open_kept z = record { number = z; cursor = none }

  pub open_keeps : (v k : ℕ) → Keeps open_number open_kept (open_of f table marks v k)
  unfolding open_of
  open_keeps v k =
      let fresh : OpenSaid = record { number = pos 0; cursor = some (fresh_cursor v k) } in
      let there : OpenSaid = cond (ltb k f.state.progressions) fresh (open_kept (refusal 11)) in
      or_refused open_number open_kept (λ z. refl) (followed_sound f table marks v) (cond (is_viewer v) there (open_kept (refusal 15))) (refusal 9)
      (or_refused open_number open_kept (λ z. refl) (is_viewer v) there (refusal 15)
      (or_refused open_number open_kept (λ z. refl) (ltb k f.state.progressions) fresh (refusal 11) (found open_number open_kept fresh 0 refl)))

  abbrev join_kept : ℤ → Join
  join_kept z = record { number = z; followed = f; marks = marks }

  pub join-keeps : (v : ℕ) → Keeps join_number join_kept (join_of f table marks v)
  unfolding join_of
  join-keeps v =
      let done : Join = record { number = pos 0; followed = with_total f v (total_of f.state table); marks = cleared_to v (needed f.state) marks } in
      or_refused join_number join_kept (λ z. refl) (followed_sound f table marks v) (cond (is_viewer v) done (join_kept (refusal 15))) (refusal 9)
      (or_refused join_number join_kept (λ z. refl) (is_viewer v) done (refusal 15) (found join_number join_kept done 0 refl))

  module _ (c : Cursor) where
    abbrev step_kept : ℤ → Step
    step_kept z = record { said = record { number = z; packet = none; cursor = c }; followed = f; marks = marks }

    step-found : (a : Answer Position) → Keeps step_number step_kept (step_by f marks c.viewer c.progression a)
    step-found (Packet p) = found step_number step_kept (step_by f marks c.viewer c.progression (Packet p)) 1 refl
    step-found Ended = found step_number step_kept (step_by f marks c.viewer c.progression Ended) 0 refl

    pub step-keeps : Keeps step_number step_kept (step_of f table marks c)
    unfolding step_of
    step-keeps =
        let a : Answer Position = seek c.viewer (index_of f.state) marks (after c.place (positions_for f.state table c.progression)) in
        or_refused step_number step_kept (λ z. refl) (sound f table marks c) (step_by f marks c.viewer c.progression a) (refusal 9) (step-found a)

module _ (st : State) (table : List ℕ) where
  abbrev rectangle_kept : ℤ → RectangleSaid
  rectangle_kept z = record { number = z; area = none }

  pub rectangle-keeps : (c r k : ℕ) → Keeps rectangle_number rectangle_kept (rectangle_of st table c r k)
  unfolding rectangle_of
  rectangle-keeps c r k =
      let there = ltb c st.components && ltb k (precincts (sheet_at st table) c r) in
      let a : RectangleSaid = record { number = pos 0; area = some (rectangle (sheet_at st table) c r k) } in
      or_refused rectangle_number rectangle_kept (λ z. refl) (sheet_sound st table) (cond there a (rectangle_kept (refusal 14))) (refusal 9)
      (or_refused rectangle_number rectangle_kept (λ z. refl) there a (refusal 14) (found rectangle_number rectangle_kept a 0 refl))

module _ (output : List ℕ) where
  abbrev bounds_kept : ℤ → Bounds
  bounds_kept z = record { number = z; output = output }

  written-keeps : (z : ℤ) (words : List ℕ) → Keeps bounds_number bounds_kept (written_by z words output)
  written-keeps (pos m) words =
      let done : Bounds = record { number = pos 0; output = over (words_bytes words) output } in
      or_refused bounds_number bounds_kept (λ z. refl) (leb 16 (length output)) done (refusal 8) (found bounds_number bounds_kept done 0 refl)
  written-keeps (negsuc m) words = refused bounds_number bounds_kept (λ z. refl) (negsuc m)

  pub bounds-keeps : (image : Area) (g : Grid) (tileno : ℕ) → Keeps bounds_number bounds_kept (bounds_of image g tileno output)
  unfolding bounds_of
  bounds-keeps image g tileno = written-keeps (tile_bounds_of image g tileno).number (tile_bounds_of image g tileno).values
