-- Sheets whose resolutions see the same axes: what setup reports and whether the grid is agreed depend on these alone. Assumes nothing.
use Rattle.std.specs.Prelude.{◌≡◌, refl, Bool, true, false, cond, ◌&&◌, ◌||◌, not, ℕ, ◌+◌, ◌-◌, ◌%◌, ◌≤◌, ◌<◌, List, get_or, ltb}
use Rattle.std.proofs.Math.Path.{ap}
use Rattle.std.proofs.Common.{sym, ◌∙◌, arith, leb-true}
use Rattle.std.proofs.Math.Dec.{leb, eqb}
use Rattle.std.proofs.Math.ListN.{get_or-map}
use Rattle.laws.specs.Cases.{and_true, asked-same}
use Rattle.laws.specs.Below.{all_below, min_below}
use Rattle.laws.specs.Pointwise.{all-same, max-same, min-same}
use Rattle.geometry.specs.Line.{Line, step}
use Rattle.types.specs.State.{no_component, no_progression}
use Rattle.packets.specs.Tile.{Sheet, res_of, resolutions_of, line_x, line_y, precincts, max_prec, max_res, dx_min, dy_min, fitting}
use Rattle.types.specs.Orders.{order_of, whole_tile, volume, range_of, components_good}
use Rattle.types.specs.declared.order.Order.{Order}
use Rattle.types.specs.declared.order.Order.TheVariants.{Lrcp as lrcp, Rlcp as rlcp, Rpcl as rpcl, Pcrl as pcrl, Cprl as cprl, NoPositions as other}
use Rattle.types.specs.declared.order.Range.{Range}
use Rattle.types.specs.declared.state.Component.{Component}
use Rattle.types.specs.declared.state.State.{State}
use Rattle.types.specs.declared.state.Progression.{Progression}
use Rattle.packets.specs.Grid.{everywhere, step_x, step_y, smallest, steps_fit, steps_divide, agreed, agreed_for, change_of, grid_agreed}

-- two sheets with the same tile and components, whose resolutions see the same axes
pub record Alike (s t : Sheet) : Type 0 where
  pub resolutions : resolutions_of s.st ≡ resolutions_of t.st
  pub components : s.st.components ≡ t.st.components
  pub same_x : (c r : ℕ) → c < s.st.components → r < res_of s.st c → line_x s c r ≡ line_x t c r
  pub same_y : (c r : ℕ) → c < s.st.components → r < res_of s.st c → line_y s c r ≡ line_y t c r

-- component c's number is at place c of these
res_listed : (st : State) (c : ℕ) → get_or (resolutions_of st) c 0 ≡ res_of st c
res_listed st c = get_or-map (λ (t : Component). t.resolutions) st.comps c no_component

-- the component range of a progression
range_from : (a b : State) (q : Progression) → (range_of a q).compno0 ≡ (range_of b q).compno0
unfolding range_of
range_from a b q = by (eqb q.kind 5)
  where
    by : (t : Bool) → (cond t (whole_tile a) (volume a q)).compno0 ≡ (cond t (whole_tile b) (volume b q)).compno0
    by true = refl
    by false = refl

range_to : (a b : State) (q : Progression) → a.components ≡ b.components → (range_of a q).compno1 ≡ (range_of b q).compno1
unfolding range_of
range_to a b q e = by (eqb q.kind 5)
  where
    by : (t : Bool) → (cond t (whole_tile a) (volume a q)).compno1 ≡ (cond t (whole_tile b) (volume b q)).compno1
    by true = e
    by false = refl

module _ (s t : Sheet) (a : Alike s t) where
  res_same : (c : ℕ) → res_of s.st c ≡ res_of t.st c
  res_same c = sym (res_listed s.st c) ∙ ap (λ (l : List ℕ). get_or l c 0) a.resolutions ∙ res_listed t.st c

  -- what holds of each resolution of a component and of each component, the largest and the smallest of them
  one-over : (c : ℕ) (f g : ℕ → Bool) → ((r : ℕ) → r < res_of s.st c → f r ≡ g r) → all_below f (res_of s.st c) ≡ all_below g (res_of t.st c)
  one-over c f g e = rw (← (res_same c)) (all-same f g (res_of s.st c) e)

  all-over : (f g : ℕ → ℕ → Bool) → ((c r : ℕ) → c < s.st.components → r < res_of s.st c → f c r ≡ g c r) → everywhere s.st f ≡ everywhere t.st g
  all-over f g e = rw (← a.components) (all-same _ _ s.st.components (λ c h. one-over c (f c) (g c) (λ r k. e c r h k)))

  min-over : (m : ℕ) (f g : ℕ → ℕ → ℕ) → ((c r : ℕ) → c < s.st.components → r < res_of s.st c → f c r ≡ g c r)
      → min_below m (λ c. min_below m (f c) (res_of s.st c)) s.st.components ≡ min_below m (λ c. min_below m (g c) (res_of t.st c)) t.st.components
  min-over m f g e =
      rw (← a.components)
      (min-same m _ _ s.st.components (λ c h. rw (← (res_same c)) (min-same m (f c) (g c) (res_of s.st c) (λ r k. e c r h k))))

  -- the reports and the grid depend on these alone
  pub max_prec-same : max_prec s ≡ max_prec t
  unfolding max_prec
  max_prec-same =
      rw (← a.components)
      (max-same _ _ s.st.components
      (λ c h.
      rw (← (res_same c))
      (max-same (precincts s c) (precincts t c) (res_of s.st c) (λ r k. rw (a.same_x c r h k, a.same_y c r h k, res_same c)))))

  pub max_res-same : max_res s.st ≡ max_res t.st
  unfolding max_res
  max_res-same = rw (← a.components) (max-same _ _ s.st.components (λ c h. res_same c))

  pub dx_min-same : dx_min s ≡ dx_min t
  unfolding dx_min
  dx_min-same = min-over 2147483647 (λ c r. fitting (step_x s c r)) (λ c r. fitting (step_x t c r)) (λ c r h k. ap (λ (l : Line). fitting (step l)) (a.same_x c r h k))

  pub dy_min-same : dy_min s ≡ dy_min t
  unfolding dy_min
  dy_min-same = min-over 2147483647 (λ c r. fitting (step_y s c r)) (λ c r. fitting (step_y t c r)) (λ c r h k. ap (λ (l : Line). fitting (step l)) (a.same_y c r h k))

  steps_fit-same : (c0 c1 : ℕ) → c1 ≤ s.st.components → steps_fit s c0 c1 ≡ steps_fit t c0 c1
  unfolding steps_fit
  steps_fit-same c0 c1 h =
      all-same _ _ (c1 - c0)
      (λ i l.
      one-over (c0 + i) (λ r. leb (step_x s (c0 + i) r) 4294967295 && leb (step_y s (c0 + i) r) 4294967295) (λ r. leb (step_x t (c0 + i) r) 4294967295 && leb (step_y t (c0 + i) r) 4294967295)
      (λ r k.
      let x = a.same_x (c0 + i) r (omega arith) k in
      let y = a.same_y (c0 + i) r (omega arith) k in
      λ j. leb (step (x j)) 4294967295 && leb (step (y j)) 4294967295))

  -- of a range that names components that there are
  range_fit_same : (g : Range) → (not (components_good s.st g) || steps_fit s g.compno0 g.compno1) ≡ (not (components_good t.st g) || steps_fit t g.compno0 g.compno1)
  range_fit_same g =
      asked-same (components_good s.st g) (steps_fit s g.compno0 g.compno1) (steps_fit t g.compno0 g.compno1)
      (λ e. steps_fit-same g.compno0 g.compno1 (leb-true _ _ (and_true (ltb g.compno0 s.st.components) _ e).1))
      ∙ ap (λ (n : ℕ). not (ltb g.compno0 n && leb g.compno1 n) || steps_fit t g.compno0 g.compno1) a.components

  module _ (some : 0 < s.st.components) (full : (c : ℕ) → c < s.st.components → 0 < res_of s.st c) where
    smallest-same : (f g : ℕ → ℕ → ℕ) → ((c r : ℕ) → c < s.st.components → r < res_of s.st c → f c r ≡ g c r) → smallest f s.st ≡ smallest g t.st
    smallest-same f g e =
        rw (← a.components, e 0 0 some (full 0 some))
        (min-same (g 0 0) _ _ s.st.components
        (λ c h. rw (← (res_same c), e c 0 h (full c h)) (min-same (g c 0) (f c) (g c) (res_of s.st c) (λ r k. e c r h k))))

    pub steps_divide-same : steps_divide s ≡ steps_divide t
    unfolding steps_divide
    steps_divide-same =
        let x : smallest (step_x s) s.st ≡ smallest (step_x t) t.st = smallest-same (step_x s) (step_x t) (λ c r h k. ap step (a.same_x c r h k)) in
        let y : smallest (step_y s) s.st ≡ smallest (step_y t) t.st = smallest-same (step_y s) (step_y t) (λ c r h k. ap step (a.same_y c r h k)) in
        all-over
        (λ c r. eqb (step_x s c r % smallest (step_x s) s.st) 0 && eqb (step_y s c r % smallest (step_y s) s.st) 0)
        (λ c r. eqb (step_x t c r % smallest (step_x t) t.st) 0 && eqb (step_y t c r % smallest (step_y t) t.st) 0)
        (λ c r h k. λ i. eqb (step (a.same_x c r h k i) % x i) 0 && eqb (step (a.same_y c r h k i) % y i) 0)

    all_fit_same : (kind : ℕ) → (steps_fit s 0 s.st.components && (eqb kind 6 || steps_divide s)) ≡ (steps_fit t 0 t.st.components && (eqb kind 6 || steps_divide t))
    all_fit_same kind =
        let fit = steps_fit-same 0 s.st.components (omega arith) ∙ ap (steps_fit t 0) a.components in
        λ i. fit i && (eqb kind 6 || steps_divide-same i)

    -- whatever a range says beside its components
    agreed-same : (kind : ℕ) (g h : Range) → g.compno0 ≡ h.compno0 → g.compno1 ≡ h.compno1 → (o : Order) → agreed s kind g o ≡ agreed t kind h o
    agreed-same kind g h e f lrcp = refl
    agreed-same kind g h e f rlcp = refl
    agreed-same kind g h e f rpcl = all_fit_same kind
    agreed-same kind g h e f pcrl = all_fit_same kind
    agreed-same kind g h e f cprl =
        range_fit_same g ∙ (λ i. not (ltb (e i) t.st.components && leb (f i) t.st.components) || steps_fit t (e i) (f i))
    agreed-same kind g h e f other = refl

    pub grid_same : s.st.changes ≡ t.st.changes → s.st.progressions ≡ t.st.progressions → grid_agreed s ≡ grid_agreed t
    unfolding grid_agreed
    grid_same e f =
        all-same _ _ s.st.progressions
        (λ k h.
        let q : Progression = change_of t.st k in
        ap (λ l. agreed_for s (get_or l k no_progression)) e
        ∙ agreed-same q.kind (range_of s.st q) (range_of t.st q) (range_from s.st t.st q) (range_to s.st t.st q a.components) (order_of q.prg))
        ∙ ap (all_below (λ k. agreed_for t (change_of t.st k))) f
