-- A planned progression is listed by its order: what that order's listing asks for, and that it lists the progression's positions. Assumes nothing.
use Rattle.std.specs.Prelude.{◌≡◌, refl, true, false, List, ℕ}
use Rattle.std.proofs.Common.{sym, ap, ◌∙◌, subst}
use Rattle.packets.specs.Tile.{Sheet, index_of}
use Rattle.packets.specs.Table.{sheet_at}
use Rattle.packets.specs.Grid.{change_of}
use Rattle.types.specs.declared.order.Range.{Range}
use Rattle.types.specs.declared.order.Order.{Order}
use Rattle.types.specs.declared.order.Order.TheVariants.{Lrcp, Rlcp, Rpcl, Pcrl, Cprl, NoPositions as other}
use Rattle.types.specs.Orders.{by_points}
use Rattle.packets.specs.Sound.{positions_for}
use Rattle.types.specs.declared.state.State.{State}
use Rattle.types.specs.declared.cursor.Position.{Position}
use Rattle.walks.specs.Search.{left_from, first_of}
use Rattle.walks.specs.Prepared.{Prep, Counts}
use Rattle.walks.specs.Plan.{goes_over, Planned, planned_none, planned-counted, planned-ready, fresh-left}
use Rattle.walks.specs.Running.{total, total_of, Ran, Few, first_kept, run_ends, Known, CountedIn, PreparedIn, SomeRun, ListsPlanned}
use Rattle.walks.specs.Going.{Rest}
use Rattle.walks.specs.Listing.{Asks, SomeListing, Lists, CountedBy, ReadyBy}
use Rattle.walks.specs.declared.walk.Walk.{Walk}
use Rattle.walks.specs.declared.plan.Plan.{Plan}
use Rattle.walks.specs.declared.list.Run.{Run}

-- an order that is none of those by points
pub not_by_points : (o : Order) → ¬ (o ≡ Rpcl) → ¬ (o ≡ Pcrl) → ¬ (o ≡ Cprl) → by_points o ≡ false
not_by_points Lrcp i j k = refl
not_by_points Rlcp i j k = refl
not_by_points Rpcl i j k = absurd (i refl)
not_by_points Pcrl i j k = absurd (j refl)
not_by_points Cprl i j k = absurd (k refl)
not_by_points other i j k = refl

module _ (st : State) (table : List ℕ) (k : ℕ) (plan : Plan) (marks : List ℕ) (d : Planned st table k plan marks) where
  abbrev s : Sheet
  s = sheet_at st table

  abbrev g : Range
  g = goes_over st (change_of st k)

  -- where the plan has no order there is nothing to list
  pub none_listed : plan.order ≡ other → (run : Run) → Ran run run (total_of (index_of st) (total run) (positions_for st table k))
  none_listed e run = run_ends first_kept (planned_none st table k plan marks d e)

-- an order's listing goes over what its loops go over from the walk's first position on
abbrev pub whole_of : Order → Walk → Rest
whole_of o w s g = left_from s g o (first_of w)

module _ {plan : Plan} (o : Order) (e : plan.order ≡ o) where
  same-whole : (st : State) (table : List ℕ) (k : ℕ) (marks : List ℕ) → Planned st table k plan marks
      → whole_of o plan.walk (sheet_at st table) (goes_over st (change_of st k)) ≡ positions_for st table k
  same-whole st table k marks d =
      ap (λ (x : Order). whole_of x plan.walk (sheet_at st table) (goes_over st (change_of st k))) (sym e) ∙ fresh-left st table k plan marks d

  -- what it asks for, and that it lists the progression
  module _
      (M : Known) (A : Asks)
      (ready : (st : State) (table : List ℕ) (k : ℕ) (marks : List ℕ) → Planned st table k plan marks → M st table
      → A (sheet_at st table) (goes_over st (change_of st k)) marks)
    where
      asks : (run : Run) → SomeRun M plan run → SomeListing A (whole_of o plan.walk) run
      asks run p =
          let d = p.1.1.1 in
          (_, (_, ready p.0 p.1.0 p.1.1.0 run.marks.now d p.1.1.2, subst (Few (index_of p.0) run) (sym (same-whole p.0 p.1.0 p.1.1.0 run.marks.now d)) p.1.1.3))

      lists : (a b : Run) → Lists A (whole_of o plan.walk) a b → ListsPlanned M plan a b
      lists a b f st table k d m =
          subst (λ (l : List Position). Ran a b (total_of (index_of st) (total a) l)) (same-whole st table k a.marks.now d)
          (f (sheet_at st table) (goes_over st (change_of st k)) (ready st table k a.marks.now d m))

  -- by counts, and by points
  module _ (some : plan.order ≡ other → ⊥) (counts : Counts) where
    pub counted_asks : (run : Run) → SomeRun (CountedIn counts) plan run → SomeListing (CountedBy counts plan.walk) (whole_of o plan.walk) run
    counted_asks = asks (CountedIn counts) (CountedBy counts plan.walk) (λ st table k marks d m. planned-counted st table k plan marks d some m)

    pub counted_lists : (a b : Run) → Lists (CountedBy counts plan.walk) (whole_of o plan.walk) a b → ListsPlanned (CountedIn counts) plan a b
    counted_lists = lists (CountedIn counts) (CountedBy counts plan.walk) (λ st table k marks d m. planned-counted st table k plan marks d some m)

  module _ (points : by_points plan.order ≡ true) (counts : Counts) (prep : Prep) where
    pub points_asks : (run : Run) → SomeRun (PreparedIn counts prep) plan run → SomeListing (ReadyBy prep plan.walk) (whole_of o plan.walk) run
    points_asks = asks (PreparedIn counts prep) (ReadyBy prep plan.walk) (λ st table k marks d m. planned-ready st table k plan marks d m.1 points)

    pub points_lists : (a b : Run) → Lists (ReadyBy prep plan.walk) (whole_of o plan.walk) a b → ListsPlanned (PreparedIn counts prep) plan a b
    points_lists = lists (PreparedIn counts prep) (ReadyBy prep plan.walk) (λ st table k marks d m. planned-ready st table k plan marks d m.1 points)
