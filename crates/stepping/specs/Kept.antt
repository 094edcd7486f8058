-- What the loops over steps and over progressions keep: what is still to be done from here leads to the end that was to be reached at entry. Assumes nothing.
use Rattle.std.specs.Prelude.{◌≡◌, refl, List, ℕ, suc, ◌+◌, ◌-◌, ◌*◌, ◌≤◌, ◌<◌, length}
use Rattle.std.proofs.Common.{sym, ◌∙◌, arith}
use Rattle.std.proofs.Math.Path.{ap}
use Rattle.std.proofs.Math.Option.{none}
use Rattle.types.specs.Answers.{of_stepped}
use Rattle.packets.specs.Calls.{step_of}
use Rattle.packets.specs.Host.{most_steps}
use Rattle.types.specs.declared.state.State.{State}
use Rattle.types.specs.declared.cursor.Position.{Position}
use Rattle.types.specs.declared.cursor.Cursor.{Cursor}
use Rattle.types.specs.declared.answer.Stepped.{Stepped}
use Rattle.types.specs.declared.answer.Stepped.TheVariants as stepped
use Rattle.walks.specs.Records.{put_packet}
use Rattle.walks.specs.Running.{Total}
use Rattle.stepping.specs.Stepped.{uncounted, stepped_of, turned_of, hosted_of, steps_none, steps-packet, steps-ended, hosted_none, hosted-next}

-- STEPS, of which so many are left
pub record KeptSteps (st : State) (table marks₀ output₀ : List ℕ) (c₀ : Cursor) (n₀ : ℕ) (marks output : List ℕ) (c : Cursor) (n left : ℕ) : Type 0 where
  pub long : length marks ≡ length marks₀
  pub room : length output ≡ length output₀
  pub same : stepped_of most_steps st table marks₀ c₀ output₀ n₀ ≡ stepped_of left st table marks c output n

module _ {st : State} {table marks₀ output₀ : List ℕ} {c₀ : Cursor} {n₀ : ℕ} where
  pub steps-first : KeptSteps st table marks₀ output₀ c₀ n₀ marks₀ output₀ c₀ n₀ most_steps
  steps-first = record { long = refl; room = refl; same = refl }

  module _ {marks output : List ℕ} {c : Cursor} {n left : ℕ} (w : KeptSteps st table marks₀ output₀ c₀ n₀ marks output c n left) where
    -- no step is left
    pub steps_spent : left ≤ 0 → ◌≡◌ {A = Total} (record { count = n; marks = marks; output = output }) (stepped_of most_steps st table marks₀ c₀ output₀ n₀)
    steps_spent h =
        let e : left ≡ 0 = omega arith in
        sym (w.same ∙ ap (λ (l : ℕ). stepped_of l st table marks c output n) e ∙ steps_none st table marks c output n)

    module _ (r : Stepped) {m : List ℕ} (less : 0 < left) (said : of_stepped r ≡ (step_of (uncounted st) table marks c).said) (by : m ≡ (step_of (uncounted st) table marks c).marks) where
      with_one : stepped_of most_steps st table marks₀ c₀ output₀ n₀ ≡ stepped_of (suc (left - 1)) st table marks c output n
      with_one = let e : left ≡ suc (left - 1) = omega arith in w.same ∙ ap (λ (l : ℕ). stepped_of l st table marks c output n) e

      -- a step found no packet
      pub steps-over : (of_stepped r).packet ≡ none
          → ◌≡◌ {A = Total} (record { count = n; marks = m; output = output }) (stepped_of most_steps st table marks₀ c₀ output₀ n₀)
      steps-over e = sym (with_one ∙ steps-ended st table marks c output n (left - 1) r m said by e)

      -- it found one
      module _ {p : Position} {d : Cursor} (found : r ≡ stepped.Packet p d) where
        goes_on : stepped_of most_steps st table marks₀ c₀ output₀ n₀ ≡ stepped_of (left - 1) st table m d (put_packet output (16 * n) p) (n + 1)
        goes_on = with_one ∙ steps-packet st table marks c output n (left - 1) r m said by p d found

        pub steps-next : {o : List ℕ} → length m ≡ length marks → length o ≡ length output → o ≡ put_packet output (16 * n) p
            → KeptSteps st table marks₀ output₀ c₀ n₀ m o d (n + 1) (left - 1)
        steps-next lm lo e =
            record {
              long = lm ∙ w.long;
              room = lo ∙ w.room;
              same = goes_on ∙ ap (λ (o : List ℕ). stepped_of (left - 1) st table m d o (n + 1)) (sym e);
            }

        -- so there are fewer before it than at the end
        pub steps-few : (stepped_of most_steps st table marks₀ c₀ output₀ n₀).count ≤ 65536 → n < 65536
        unfolding stepped_of
        steps-few few = let e = ap (λ (t : Total). t.count) goes_on in omega (arith, e, few)

-- PROGRESSIONS, from number k on
pub record KeptTurns (st : State) (table marks₀ output₀ marks output : List ℕ) (n k : ℕ) : Type 0 where
  pub long : length marks ≡ length marks₀
  pub room : length output ≡ length output₀
  pub same : hosted_of st.progressions st table marks₀ 0 output₀ 0 ≡ hosted_of (st.progressions - k) st table marks k output n

module _ {st : State} {table marks₀ output₀ : List ℕ} where
  pub turns-first : KeptTurns st table marks₀ output₀ marks₀ output₀ 0 0
  turns-first =
      let e : st.progressions ≡ st.progressions - 0 = omega arith in
      record { long = refl; room = refl; same = ap (λ (j : ℕ). hosted_of j st table marks₀ 0 output₀ 0) e }

  module _ {marks output : List ℕ} {n k : ℕ} (w : KeptTurns st table marks₀ output₀ marks output n k) where
    -- none is left
    pub turns-ended : st.progressions ≤ k
        → ◌≡◌ {A = Total} (record { count = n; marks = marks; output = output }) (hosted_of st.progressions st table marks₀ 0 output₀ 0)
    turns-ended h =
        let e : st.progressions - k ≡ 0 = omega arith in
        sym (w.same ∙ ap (λ (j : ℕ). hosted_of j st table marks k output n) e ∙ hosted_none st table marks k output n)

    module _ (less : k < st.progressions) where
      one_more : hosted_of st.progressions st table marks₀ 0 output₀ 0
          ≡ (let t = turned_of st table marks k output n in hosted_of (st.progressions - (k + 1)) st table t.marks (k + 1) t.output t.count)
      one_more =
          let e : st.progressions - k ≡ suc (st.progressions - (k + 1)) = omega arith in
          w.same
          ∙ ap (λ (j : ℕ). hosted_of j st table marks k output n) e
          ∙ hosted-next st table marks k output n (st.progressions - (k + 1))

      -- no more are found in its turn than in all
      pub turns-few : (hosted_of st.progressions st table marks₀ 0 output₀ 0).count ≤ 65536 → (turned_of st table marks k output n).count ≤ 65536
      unfolding hosted_of
      turns-few few = let e = ap (λ (t : Total). t.count) one_more in omega (arith, e, few)

      -- it has had its turn
      pub turns-next : {m o : List ℕ} {r : ℕ} → length m ≡ length marks → length o ≡ length output
          → ◌≡◌ {A = Total} (record { count = r; marks = m; output = o }) (turned_of st table marks k output n)
          → KeptTurns st table marks₀ output₀ m o r (k + 1)
      turns-next lm lo ran =
          record {
            long = lm ∙ w.long;
            room = lo ∙ w.room;
            same = one_more ∙ ap (λ (t : Total). hosted_of (st.progressions - (k + 1)) st table t.marks (k + 1) t.output t.count) (sym ran);
          }
