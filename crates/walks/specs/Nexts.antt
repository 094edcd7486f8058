-- The next row or column by distances: what two loops over the components and resolutions in play have found so far. Assumes nothing.
use Prim.Native.Nat.{ℕ, ◌+◌, ◌-◌, ◌%◌, ◌≤◌, ◌<◌, min, max}
use Rattle.std.specs.Prelude.{◌≡◌, Bool, true, false, cond, ltb, Option, Some, None}
use Rattle.std.proofs.Common.{sym, ◌∙◌, lt-ltb}
use native.Mathlib.Omega.{arith}
use Rattle.laws.specs.Least.{least_before, least_seen, seen_none, seen_enter, seen_more, seen_leave, seen-all}
use Rattle.laws.specs.Stride.{stride}
use Rattle.packets.specs.Tile.{Sheet, precincts}
use Rattle.packets.specs.Grid.{step_x, step_y}
use Rattle.packets.specs.InPlay.{next_in_play, next_before, play_x, play_y}
use Rattle.walks.specs.declared.prepared.Prepared.{Prepared}
use Rattle.walks.specs.declared.walk.Walk.{Walk}
use Rattle.walks.specs.Prepared.{Prep, kept_in, hit_by, Entry, InPlay, range_by, at_row}
use Rattle.walks.specs.Cells.{some, none, hit_y, pos_x, pos_y}

-- the next multiple of the step of resolution r of component c, if it is in play
abbrev pub onward : (ℕ → ℕ → Bool) → (ℕ → ℕ → ℕ) → ℕ → ℕ → ℕ → ℕ → ℕ
onward play f end z c r = cond (play c r) (stride (f c r) z) end

-- a step that is in play
abbrev pub step_of : Bool → ℕ → Option ℕ
step_of play n = cond play (Some n) None

-- the distance to its next multiple, if that is less
abbrev pub nearer_by : Option ℕ → ℕ → ℕ → ℕ
nearer_by (Some n) z best = min best (n - z % n)
nearer_by None z best = best

pub nearer_less : (step : Option ℕ) (z best : ℕ) → nearer_by step z best ≤ best
nearer_less (Some n) z best = omega arith
nearer_less None z best = omega arith

-- TWO LOOPS for the least distance from z to the next, up to an end, for every s of H
module _ {S : Type 0} (H : S → Type 0) (play : S → ℕ → ℕ → Bool) (f : S → ℕ → ℕ → ℕ) (end z r0 r1 c0 : ℕ) where
  -- of the components before c
  pub record NearestBefore (c best : ℕ) : Type 0 where
    pub within : z + best ≤ end
    pub least : (s : S) → H s → z + best ≡ least_before end (onward (play s) (f s) end z) r0 r1 c0 c

  -- and of those of c before r
  pub record NearestSeen (c r best : ℕ) : Type 0 where
    pub within : z + best ≤ end
    pub least : (s : S) → H s → z + best ≡ least_seen end (onward (play s) (f s) end z) r0 r1 c0 c r

  pub nearest_first : (best : ℕ) → z + best ≡ end → NearestBefore c0 best
  nearest_first best e = record { within = omega arith; least = λ s h. rw (seen_none end (onward (play s) (f s) end z) r0 r1 c0) e }

module _ {S : Type 0} {H : S → Type 0} {play : S → ℕ → ℕ → Bool} {f : S → ℕ → ℕ → ℕ} {end z r0 r1 c0 : ℕ} where
  pub nearest_enter : {c best : ℕ} → NearestBefore H play f end z r0 r1 c0 c best → NearestSeen H play f end z r0 r1 c0 c r0 best
  nearest_enter {c} k =
      record { within = k.within; least = λ s h. rw (seen_enter end (onward (play s) (f s) end z) r0 r1 c0 c) (k.least s h) }

  -- a turn takes the nearer of both
  pub nearest_turn : {c r best : ℕ} (next : ℕ) → NearestSeen H play f end z r0 r1 c0 c r best → r0 ≤ r
      → next ≤ best → ((s : S) → H s → next ≡ nearer_by (step_of (play s c r) (f s c r)) z best) → NearestSeen H play f end z r0 r1 c0 c (r + 1) next
  nearest_turn {c} {r} {best} next k p less e =
      record {
        within = omega (arith, k.within);
        least = λ s h. rw (seen_more end (onward (play s) (f s) end z) r0 r1 c0 c r p, e s h) (by (play s c r) (f s c r) _ k.within (k.least s h));
      }
    where
      by : (t : Bool) (d m : ℕ) → z + best ≤ end → z + best ≡ m → z + nearer_by (step_of t d) z best ≡ min m (cond t (stride d z) end)
      by true d m a b = omega arith
      by false d m a b = omega arith

  pub nearest_leave : {c r best : ℕ} → NearestSeen H play f end z r0 r1 c0 c r best → c0 ≤ c → r0 ≤ r → r ≤ max r0 r1 → r1 ≤ r
      → NearestBefore H play f end z r0 r1 c0 (c + 1) best
  nearest_leave {c} {r} k p q i j =
      record { within = k.within; least = λ s h. k.least s h ∙ seen_leave end (onward (play s) (f s) end z) r0 r1 c0 c r p q i j }

  -- what they end with
  pub nearest_all : {c c1 best : ℕ} → NearestBefore H play f end z r0 r1 c0 c best → z < end → c0 ≤ c → c ≤ max c0 c1 → c1 ≤ c
      → (s : S) → H s → z + best ≡ next_before end (range_by r0 r1 c0 c1) (play s) (f s) z
  unfolding next_in_play
  nearest_all {c} {c1} k h p q i s d =
      let e : max end (z + 1) ≡ end = omega arith in k.least s d ∙ rw e (seen-all end (onward (play s) (f s) end z) r0 r1 c0 c c1 p q i)

-- resolution r of component c is one of a walk's
pub record Among (w : Walk) (r c : ℕ) : Type 0 where
  pub res_from : w.resno0 ≤ r
  pub res_to : r < w.resno1
  pub comp_from : w.compno0 ≤ c
  pub comp_to : c < w.compno1

-- what is in play, by component and resolution, and the steps
pub record Plays : Type 0 where
  pub play : ℕ → ℕ → Bool
  pub step : ℕ → ℕ → ℕ

-- a function that answers so for a walk's answers the steps in play
abbrev pub AnswersBy : Walk → (ℕ → ℕ → Option ℕ → Type 0) → Plays → Type 0
AnswersBy w answers s = (r c : ℕ) (o : Option ℕ) → Among w r c → answers r c o → o ≡ step_of (s.play c r) (s.step c r)

-- WHAT IS IN PLAY, by what is prepared
module _ (s : Sheet) (prep : Prep) (r c : ℕ) (e : Entry s prep r c) where
  pub rows_out : kept_in prep r c ≡ None → None ≡ step_of (play_y s c r) (step_y s c r)
  rows_out k = rw (none s prep r c e k)

  pub columns_out : (y : ℕ) → kept_in prep r c ≡ None → play_x s (at_row y) c r ≡ false
  columns_out y k = rw (none s prep r c e k)

  module _ (p : Prepared) (k : kept_in prep r c ≡ Some p) where
    has : ltb 0 (precincts s c r) ≡ true
    has = lt-ltb 0 (precincts s c r) (some s prep r c e p k).0

    pub rows_in : Some p.y.step ≡ step_of (play_y s c r) (step_y s c r)
    rows_in = rw (has, (some s prep r c e p k).1)

    pub columns-row : (y : ℕ) → y < 4294967295 → play_x s (at_row y) c r ≡ hit_by p.y y
    columns-row y h = rw has (sym (hit_y s prep r c e p k y h))

    pub step-columns : p.x.step ≡ step_x s c r
    step-columns = rw (some s prep r c e p k).1

-- the steps in play are above 0
module _ (s : Sheet) (prep : Prep) (r c : ℕ) (k : InPlay s prep r (r + 1) c (c + 1)) where
  pub play-entry : Entry s prep r c
  play-entry = k.entry r c (omega arith) (omega arith) (omega arith) (omega arith)

  module _ (p : Prepared) (i : kept_in prep r c ≡ Some p) where
    pub play_x_lem : 1 ≤ p.x.step
    play_x_lem = pos_x s prep r c play-entry p i k.good (omega (arith, k.known))

    pub play_y_lem : 1 ≤ p.y.step
    play_y_lem = pos_y s prep r c play-entry p i k.good (omega (arith, k.known))
