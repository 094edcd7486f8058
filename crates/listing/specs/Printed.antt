-- What the program lends is enough for 01's text (packets/specs/Text.antt): the whole run over it is refused as 01 says, or lists what 01 says. Assumes nothing.
use Rattle.std.proofs.Math.Path.{◌≡◌, ap}
use Rattle.std.specs.Prelude.{refl, Bool, true, false, List, [], ◌∷◌, ◌++◌, replicate, leb, eqb}
use Rattle.std.proofs.Common.{sym, subst, ◌∙◌}
use Rattle.std.proofs.Math.Bool.{cond}
use Prim.Native.Nat.{ℕ, zero, suc, ◌+◌, ◌-◌, ◌*◌, ◌≤◌}
use native.Mathlib.Omega.{arith}
use Rattle.std.proofs.Math.ListN.{length}
use Rattle.std.proofs.lemmas.List.{length-replicate}
use Rattle.std.proofs.Math.IntN.{pos, negsuc}
use borrow.Author.Tests.{le-leb, eq-eqb, eqb-true, eqb-false}
use Rattle.laws.specs.Cases.{split}
use Rattle.laws.specs.Below.{sum_below, sum_most}
use Rattle.words.specs.Words.{over}
use Rattle.words.specs.Laws.{Bytes}
use Rattle.packets.specs.Sheet.{read_verdict}
use Rattle.packets.specs.Tile.{res_of, reported, needed, entries_before, table_bytes}
use Rattle.packets.specs.Grid.{grid_agreed}
use Rattle.packets.specs.Table.{sheet_in, table_of}
use Rattle.packets.specs.Calls.{refusal, accepted, setup_verdict, listed, records_of, Run, run_verdict, ran_over, whole_run_of}
use Rattle.packets.specs.Meaning.{Sound, sound-means}
use Rattle.packets.specs.Text.{decimal, lines_of, refused_line, text_of}
use Rattle.packets.specs.WholeRun.{Passed}
use Rattle.packets.proofs.WholeRun.{setup-passed, accepted-sound, run-refuses}
use Rattle.types.specs.declared.state.State.{State}
use Rattle.types.specs.declared.cursor.Position.{Position}
use Rattle.listing.specs.Lines.{lines_at}
use Rattle.listing.specs.Records.{output-lines}
use Rattle.listing.specs.Padded.{padded-listed}
use Rattle.packets.proofs.Admitted.{listed-few}

-- where a verdict is one before the table's, the table does not matter
tested : (read grid many enough room : Bool) (v : ℕ) → (cond read (cond grid (cond many (cond enough 0 6) 5) 4) v ≡ 0 → ⊥)
    → cond read (cond grid (cond many (cond enough (cond room 0 7) 6) 5) 4) v ≡ cond read (cond grid (cond many (cond enough 0 6) 5) 4) v
tested true true true true room v n = absurd (n refl)
tested true true true false room v n = refl
tested true true false enough room v n = refl
tested true false many enough room v n = refl
tested false grid many enough room v n = refl

module _ (sheet : List ℕ) (bytes : Bytes sheet) where
  abbrev st : State
  st = reported (sheet_in sheet)

  -- what the program lends; 01's text is over a table of its own
  abbrev pub table : List ℕ
  table = replicate 8448 0

  abbrev pub marks : List ℕ
  marks = replicate 2048 0

  abbrev pub output : List ℕ
  output = replicate 32768 0

  abbrev own : List ℕ
  own = replicate (table_bytes st) 0

  abbrev verdict : ℕ
  verdict = setup_verdict sheet own marks

  abbrev whole : Run
  whole = whole_run_of sheet table marks output

  long : (n : ℕ) → length (replicate {A = ℕ} n 0) ≡ n
  long n = let z : ℕ = 0 in length-replicate n z

  own_room : table_bytes st ≤ length own
  own_room = rw (long (table_bytes st)) (omega arith)

  module _ (v : verdict ≡ 0) where
    passed : Passed sheet own marks
    passed = setup-passed sheet own marks v

    sound : Sound st (accepted sheet own marks).table (accepted sheet own marks).marks
    sound = (sound-means _ _ _).0 (accepted-sound sheet own marks bytes passed)

    room : table_bytes st ≤ length table
    unfolding entries_before
    room =
        let most : sum_below (res_of st) st.components ≤ 33 * st.components = sum_most (res_of st) 33 st.components (λ i l. (sound.component i l).resolutions.1) in
        rw (long 8448) (omega (arith, most, sound.tile.components.1))

    space : 16 * needed st ≤ length output
    space = let few : needed st ≤ 2048 = rw (long 2048) at passed.enough in rw (long 32768) (omega arith)

  -- the program's table makes no difference to the verdict
  same-setup : setup_verdict sheet table marks ≡ verdict
  unfolding setup_verdict
  same-setup =
      split (eqb verdict 0)
      (λ t. rw (le-leb _ _ (room (eqb-true _ _ t)), le-leb _ _ own_room))
      (λ t.
      let n : cond (eqb (read_verdict sheet) 0) (cond (grid_agreed (sheet_in sheet)) (cond (leb (needed st) 65536) (cond (leb (needed st) (length marks)) 0 6) 5) 4) (read_verdict sheet) ≡ 0 → ⊥
      = λ e. eqb-false verdict 0 t (rw (le-leb _ _ own_room) e) in
      rw (le-leb _ _ own_room) (tested (eqb (read_verdict sheet) 0) (grid_agreed (sheet_in sheet)) (leb (needed st) 65536) (leb (needed st) (length marks)) (leb (table_bytes st) (length table)) (read_verdict sheet) n))

  same-run : run_verdict sheet table marks output ≡ verdict
  unfolding run_verdict
  same-run =
      rw same-setup
      (split (eqb verdict 0)
      (λ t. let v = eqb-true _ _ t in rw (t, le-leb _ _ (space v)) (sym v))
      (λ t. rw t))

  -- ACCEPTED: the packets that are listed
  abbrev packets : List Position
  packets = listed st (over (table_of (sheet_in sheet)) table)

  -- what the program finds then
  pub record Lists (n : ℕ) (left : List ℕ) : Type 0 where
    pub ps : List Position
    pub count : n ≡ length ps
    pub few : n ≤ 2048
    pub records : left ≡ over (records_of ps) output
    pub text : text_of sheet ≡ lines_of ps

  module _ (v : verdict ≡ 0) where
    run-lists : whole ≡ ran_over (accepted sheet table marks) output
    unfolding whole_run_of
    run-lists = let e : run_verdict sheet table marks output ≡ 0 = same-run ∙ v in rw (eq-eqb _ _ e)

    text_lists : text_of sheet ≡ lines_of packets
    unfolding text_of
    text_lists = rw (eq-eqb _ _ v) (ap lines_of (padded-listed (sheet_in sheet) st (table_bytes st) 8448))

    packets-few : length packets ≤ 2048
    packets-few =
        let own-few = listed-few st (accepted sheet own marks).table (accepted sheet own marks).marks (accepted-sound sheet own marks bytes (passed v)) in
        let same : length packets ≡ length (listed st (accepted sheet own marks).table) = ap length (padded-listed (sheet_in sheet) st 8448 (table_bytes st)) in
        let few : needed st ≤ 2048 = rw (long 2048) at (passed v).enough in
        omega (arith, own-few, same, few)

    lists : (n : ℕ) (left : List ℕ) → pos n ≡ whole.number → left ≡ whole.output → Lists n left
    unfolding ran_over
    lists n left e f =
        let count : n ≡ length packets = pos_same (e ∙ ap (λ (r : Run). r.number) run-lists) in
        record { ps = packets; count = count; few = omega (arith, packets-few); records = f ∙ ap (λ (r : Run). r.output) run-lists; text = text_lists }
      where
        pos_same : {a b : ℕ} → pos a ≡ pos b → a ≡ b
        pos_same p = cc

  -- which are the lines of 01's text
  pub lists_text : {n : ℕ} {left : List ℕ} → Lists n left → Bytes left → lines_at left 0 n ++ (decimal n ++ 10 ∷ []) ≡ text_of sheet
  lists_text {n} {left} l b = rw (l.count, l.records) (output-lines l.ps output (subst Bytes l.records b)) ∙ sym l.text

  -- REFUSED
  module _ (n : verdict ≡ 0 → ⊥) where
    run_refuses_so : whole.number ≡ refusal verdict
    run_refuses_so = ap (λ (r : Run). r.number) (run-refuses sheet table marks output (λ e. n (sym same-run ∙ e))) ∙ ap refusal same-run

    text_refuses : text_of sheet ≡ refused_line verdict
    unfolding text_of
    text_refuses = split (eqb verdict 0) (λ t. absurd (n (eqb-true _ _ t))) (λ t. rw t)

  -- WHAT THE NUMBER TELLS
  pub printed_lists : (n : ℕ) (left : List ℕ) → pos n ≡ whole.number → left ≡ whole.output → Lists n left
  printed_lists n left e f =
      split (eqb verdict 0)
      (λ t. lists (eqb-true _ _ t) n left e f)
      (λ t. absurd (let same : pos n ≡ refusal verdict = e ∙ run_refuses_so (eqb-false _ _ t) in let z : ◌≡◌ {A = ℕ} 0 1 = cc in let no : ⊥ = omega arith in no))

  pub printed_refused : (k : ℕ) → negsuc k ≡ whole.number → text_of sheet ≡ refused_line (k + 1)
  unfolding ran_over
  printed_refused k e =
      split (eqb verdict 0)
      (λ t. absurd (let same : negsuc k ≡ pos (length packets) = e ∙ ap (λ (r : Run). r.number) (run-lists (eqb-true _ _ t)) in let z : ◌≡◌ {A = ℕ} 0 1 = cc in let no : ⊥ = omega arith in no))
      (λ t.
      let n = eqb-false _ _ t in
      let same : negsuc k ≡ negsuc (verdict - 1) = e ∙ run_refuses_so n in
      let less : k ≡ verdict - 1 = cc in
      let some : verdict ≡ k + 1 = one_more verdict n less in
      text_refuses n ∙ ap refused_line some)
    where
      one_more : (v : ℕ) → (v ≡ 0 → ⊥) → {k : ℕ} → k ≡ v - 1 → v ≡ k + 1
      one_more zero n e = absurd (n refl)
      one_more (suc v) n e = omega arith
