-- A run: how many packets there are, the marks and the output, once what is left has been listed. Assumes nothing.
use Rattle.std.specs.Prelude.{◌≡◌, refl, ℕ, ◌+◌, ◌*◌, ◌≤◌}
use Rattle.std.proofs.Common.{sym, ◌∙◌}
use Rattle.std.proofs.Math.Path.{ap}
use mathlib.Core.List.{List, [], ◌∷◌, ◌++◌}
use native.Mathlib.Omega.{arith}
use Rattle.std.proofs.Math.ListN.{length, length-append}
use Rattle.laws.specs.Runs.{unlisted, marked}
use Rattle.laws.specs.Listing.{unlisted-append, marked-append, length-marked}
use Rattle.packets.specs.Tile.{index_of}
use Rattle.packets.specs.Sound.{positions_for}
use Rattle.types.specs.declared.state.State.{State}
use Rattle.types.specs.declared.cursor.Position.{Position}
use Rattle.walks.specs.Prepared.{Prep, Counts}
use Rattle.walks.specs.Records.{put_packet, put_packets}
use Rattle.walks.specs.FromSound.{AllFilled}
use Rattle.walks.specs.Counting.{AllCounted}
use Rattle.walks.specs.Plan.{Planned}
use Rattle.walks.specs.declared.plan.Plan.{Plan}
use Rattle.walks.specs.declared.list.Run.{Run}

-- how many packets, and the marks and the output that they leave
pub record Total : Type 0 where
  pub count : ℕ
  pub marks : List ℕ
  pub output : List ℕ

-- n packets, with these marks and this output
abbrev pub run_at : ℕ → List ℕ → List ℕ → Total
run_at n m o = record { count = n; marks = m; output = o }

-- what a run has come to
abbrev pub total : Run → Total
total run = run_at run.count run.marks.now run.output.now

-- run b is run a, come to t: the marks and the output are those that were lent to it
pub record Ran (a b : Run) (t : Total) : Type 0 where
  pub same_marks : b.marks.ghost_name ≡ a.marks.ghost_name
  pub same_output : b.output.ghost_name ≡ a.output.ghost_name
  pub comes_to : total b ≡ t

-- what a whole run, which is viewer 0's, comes to that has listed u
abbrev leaving : (Position → ℕ) → Total → List Position → Total
leaving ix t u = run_at (t.count + length u) (marked 0 ix t.marks u) (put_packets t.output t.count u)

-- what a run comes to that has `left` before it
unfoldable pub total_of : (Position → ℕ) → Total → List Position → Total
total_of ix t left = leaving ix t (unlisted 0 ix t.marks left)

-- the packets that a run has listed, and those that it lists of what is left, are few
abbrev pub Few : (Position → ℕ) → Run → List Position → Type 0
Few ix run left = run.count + length (unlisted 0 ix run.marks.now left) ≤ 65536

-- what is kept while a run goes on: with `rest` before it, run b comes to what run a comes to with `entry` before it
pub record Kept (ix : Position → ℕ) (a : Run) (entry : List Position) (b : Run) (rest : List Position) : Type 0 where
  pub same_marks : b.marks.ghost_name ≡ a.marks.ghost_name
  pub same_output : b.output.ghost_name ≡ a.output.ghost_name
  pub same_end : total_of ix (total a) entry ≡ total_of ix (total b) rest

-- what is known of a state and its table: the precincts are counted
abbrev pub Known : Type 1
Known = State → List ℕ → Type 0

abbrev pub CountedIn : Counts → Known
CountedIn counts st table = AllCounted st table counts

-- .. and the numbers are prepared
abbrev pub PreparedIn : Counts → Prep → Known
PreparedIn counts prep st table = AllCounted st table counts × AllFilled st table prep

-- some progression is planned, that is known, and its packets are few
abbrev pub SomeRun : Known → Plan → Run → Type 0
SomeRun M plan run =
    (st : State) × ((table : List ℕ) × ((k : ℕ) × Planned st table k plan run.marks.now × M st table × Few (index_of st) run (positions_for st table k)))

-- run b is run a once the planned progression is listed
abbrev pub ListsPlanned : Known → Plan → Run → Run → Type 0
ListsPlanned M plan a b =
    (st : State) (table : List ℕ) (k : ℕ) → Planned st table k plan a.marks.now → M st table
    → Ran a b (total_of (index_of st) (total a) (positions_for st table k))

-- records written in two goes
puts_append : (o : List ℕ) (n : ℕ) (u v : List Position) → put_packets o n (u ++ v) ≡ put_packets (put_packets o n u) (n + length u) v
unfolding put_packets
puts_append o n [] v = let e : n + 0 ≡ n = omega arith in ap (λ (c : ℕ). put_packets o c v) (sym e)
puts_append o n (p ∷ u) v =
    let e : n + 1 + length u ≡ n + length (p ∷ u) = omega arith in
    puts_append (put_packet o (16 * n) p) (n + 1) u v ∙ ap (λ (c : ℕ). put_packets (put_packets (put_packet o (16 * n) p) (n + 1) u) c v) e

module _ (ix : Position → ℕ) (t : Total) where
  -- nothing is left
  pub total_none : total_of ix t [] ≡ t
  unfolding total_of unlisted marked put_packets
  total_none = let e : t.count + 0 ≡ t.count = omega arith in ap (λ (c : ℕ). run_at c t.marks t.output) e

  -- one list, and then another
  pub total-append : (a b : List Position) → total_of ix t (a ++ b) ≡ total_of ix (total_of ix t a) b
  unfolding total_of
  total-append a b =
      let u : List Position = unlisted 0 ix t.marks a in
      let v : List Position = unlisted 0 ix (marked 0 ix t.marks u) b in
      let count : t.count + length (u ++ v) ≡ t.count + length u + length v
      = let l : length (u ++ v) ≡ length u + length v = length-append u v in omega arith in
      ap (leaving ix t) (unlisted-append 0 ix t.marks a b)
      ∙ (λ i. run_at (count i) (marked-append 0 ix t.marks u v i) (puts_append t.output t.count u v i))

  -- the marks are as many
  pub total-long : (a : List Position) → length (total_of ix t a).marks ≡ length t.marks
  unfolding total_of
  total-long a = length-marked 0 ix t.marks (unlisted 0 ix t.marks a)

pub first_kept : {ix : Position → ℕ} {a : Run} {entry : List Position} → Kept ix a entry a entry
first_kept = record { same_marks = refl; same_output = refl; same_end = refl }

module _ {ix : Position → ℕ} {a b : Run} {entry rest : List Position} (k : Kept ix a entry b rest) where
  -- what is left, written in another way
  pub goes_on : {next : List Position} → rest ≡ next → Kept ix a entry b next
  goes_on e = record { same_marks = k.same_marks; same_output = k.same_output; same_end = k.same_end ∙ ap (total_of ix (total b)) e }

  -- what a run comes to, and what is left then
  pub then_ran : {c : Run} {t : Total} {next : List Position} → total_of ix (total b) rest ≡ total_of ix t next → Ran b c t → Kept ix a entry c next
  then_ran {next = next} e r =
      record {
        same_marks = r.same_marks ∙ k.same_marks;
        same_output = r.same_output ∙ k.same_output;
        same_end = k.same_end ∙ e ∙ ap (λ (t : Total). total_of ix t next) (sym r.comes_to);
      }

  -- a part of what is left was listed
  pub part_listed : (part next : List Position) {c : Run} → rest ≡ part ++ next → Ran b c (total_of ix (total b) part) → Kept ix a entry c next
  part_listed part next e r = then_ran (ap (total_of ix (total b)) e ∙ total-append ix (total b) part next) r

  -- all that is left was listed
  pub rest_listed : {c : Run} → Ran b c (total_of ix (total b) rest) → Ran a c (total_of ix (total a) entry)
  rest_listed r =
      record { same_marks = r.same_marks ∙ k.same_marks; same_output = r.same_output ∙ k.same_output; comes_to = r.comes_to ∙ sym k.same_end }

  -- nothing is left
  pub run_ends : rest ≡ [] → Ran a b (total_of ix (total a) entry)
  run_ends e = rest_listed (record { same_marks = refl; same_output = refl; comes_to = sym (ap (total_of ix (total b)) e ∙ total_none ix (total b)) })

  -- the marks are as many
  pub still_long : length b.marks.now ≡ length a.marks.now
  still_long = sym (total-long ix (total b) rest) ∙ ap (λ (t : Total). length t.marks) (sym k.same_end) ∙ total-long ix (total a) entry

  -- few packets are listed so far, and will be
  pub few_still : Few ix a entry → Few ix b rest
  unfolding total_of
  few_still few = let e = ap (λ (t : Total). t.count) k.same_end in omega (arith, e, few)

  -- .. and so are those of a part
  pub few_part : (part next : List Position) → rest ≡ part ++ next → Few ix a entry → Few ix b part
  unfolding total_of
  few_part part next e few =
      let n = ap (λ (t : Total). t.count) (ap (total_of ix (total b)) e ∙ total-append ix (total b) part next) in omega (arith, n, few_still few)

  pub listed_few : Few ix a entry → b.count ≤ 65536
  listed_few few = omega (arith, few_still few)
