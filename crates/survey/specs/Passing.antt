-- What the functions of the survey hold while they pass over components and resolutions, over plain numbers.
-- proofs/Over.antt says what these are of a sheet.
use Rattle.std.specs.Prelude.{ℕ, zero, suc, ◌+◌, ◌-◌, ◌*◌, ◌%◌, ◌^◌, min, max, Bool, true, false, cond, ◌&&◌, ◌||◌, not, Option, Some, None, is_some, List, get_or, leb, eqb}
use Rattle.laws.specs.Below.{all_below, max_below, min_below}
use Rattle.words.specs.Words.{word_at, four_at}
use Rattle.words.specs.declared.Four.{Four}
use Rattle.geometry.specs.Axis.{axis_of, resolution_of, columns_of}
use Rattle.geometry.specs.declared.axis.Axis.{Axis}
use Rattle.geometry.specs.declared.tile.Area.{Area}
use Rattle.types.specs.Ranges.{exponent_range, component_range}
use Rattle.types.specs.Orders.{order_of, range_of, components_good}
use Rattle.types.specs.declared.order.Order.{Order}
use Rattle.types.specs.declared.order.Order.TheVariants.{Lrcp as lrcp, Rlcp as rlcp, Rpcl as rpcl, Pcrl as pcrl, Cprl as cprl, NoPositions as other}
use Rattle.types.specs.declared.order.Range.{Range}
use Rattle.packets.specs.Grid.{change_of}
use Rattle.types.specs.declared.state.Progression.{Progression}
use Rattle.types.specs.declared.state.State.{State}
use Rattle.types.specs.declared.table.Entry.{Entry}
use Rattle.survey.specs.Capped.{capped, few_of}
use Rattle.survey.specs.declared.Source.{Source}
use Rattle.survey.specs.declared.Source.TheVariants.{Records, Entries}
use Rattle.survey.specs.declared.Findings.{Findings}
use Rattle.survey.specs.declared.axes.Axes.{Axes}
use Rattle.survey.specs.declared.gathered.Exponents.{Exponents}
use Rattle.survey.specs.declared.gathered.Gathered.{Gathered}
use Rattle.survey.specs.declared.grid.Want.{Want}
use Rattle.survey.specs.declared.grid.Want.TheVariants.{Nothing, OwnFit, AllFit, Multiples}
use Rattle.survey.specs.declared.places.Places.{Places}
use Rattle.survey.specs.declared.sums.Sums.{Sums}

-- A COMPONENT on its two axes, and a RESOLUTION of it at some level, with its precinct exponents: its precincts and its step on one axis, and its entry
abbrev pub axes_of : Area → ℕ → ℕ → Axes
axes_of tile dx dy = record { x = axis_of tile.x0 tile.x1 dx; y = axis_of tile.y0 tile.y1 dy }

abbrev pub count_of : Axis → ℕ → ℕ → ℕ
count_of a level pd = (columns_of (resolution_of a level) pd).count

abbrev pub stride_of : Axis → ℕ → ℕ → ℕ
stride_of a level pd = a.d * 2 ^ (pd + level)

abbrev pub entry_of : Axes → ℕ → ℕ → ℕ → Entry
entry_of a level pdx pdy = record { pdx = pdx; pdy = pdy; width = count_of a.x level pdx; height = count_of a.y level pdy }

-- EXPONENTS of steps on one axis: of none yet, and with one more; a step fits 32 bits
abbrev pub start_exponents : Exponents
start_exponents = record { low = 32; high = 0 }

abbrev pub with_exponent : Exponents → ℕ → Exponents
with_exponent k n = record { low = min k.low n; high = max k.high n }

abbrev pub fits_32 : ℕ → Bool
fits_32 n = leb n 4294967295

-- GATHERED over resolutions: of none yet, and with one more
abbrev pub start_gathered : Gathered
start_gathered = record { most = 0; x = start_exponents; y = start_exponents }

abbrev pub with_entry : Gathered → ℕ → Entry → Gathered
with_entry g level entry =
    record {
      most = max g.most (capped (entry.width * entry.height));
      x = with_exponent g.x (entry.pdx + level);
      y = with_exponent g.y (entry.pdy + level);
    }

-- SUMS: of nothing yet, of what was gathered on a component's axes, and of two groups
abbrev pub start_sums : Sums
start_sums = record { most = 0; fit = true; x_least = 4294967295; y_least = 4294967295 }

abbrev pub sums_of : Axes → Gathered → Sums
sums_of a g =
    record {
      most = g.most;
      fit = fits_32 (a.x.d * 2 ^ g.x.high) && fits_32 (a.y.d * 2 ^ g.y.high);
      x_least = min 4294967295 (a.x.d * 2 ^ g.x.low);
      y_least = min 4294967295 (a.y.d * 2 ^ g.y.low);
    }

abbrev pub joined_sums : Sums → Sums → Sums
joined_sums a b =
    record {
      most = max a.most b.most;
      fit = a.fit && b.fit;
      x_least = min a.x_least b.x_least;
      y_least = min a.y_least b.y_least;
    }

-- A RESOLUTION whose exponents stand at place p: its entry, whether its sizes and its exponents are good, and the entry if they are
abbrev pub entry_from : List ℕ → ℕ → Axes → ℕ → Entry
entry_from e p a level = entry_of a level (word_at e p) (word_at e (p + 4))

abbrev pub sizes_in : Four → Bool → ℕ → ℕ → Bool
sizes_in stands check w h = not check || (eqb stands.c w && eqb stands.d h)

abbrev pub sizes_at : List ℕ → ℕ → Bool → ℕ → ℕ → Bool
sizes_at e p check w h = sizes_in (four_at e p) check w h

unfoldable pub entry_fine : List ℕ → ℕ → Bool → Axes → ℕ → Bool
entry_fine e p check a level =
    exponent_range (word_at e p) (word_at e (p + 4)) && sizes_at e p check (entry_from e p a level).width (entry_from e p a level).height

unfoldable pub entry_found : List ℕ → ℕ → Bool → Axes → ℕ → Option Entry
entry_found e p check a level = cond (entry_fine e p check a level) (Some (entry_from e p a level)) None

-- its precincts, the exponent of its step on the axis whose precinct exponent stands at place p, and its steps
abbrev pub precincts_at : List ℕ → ℕ → Axes → ℕ → ℕ
precincts_at e p a level = (entry_from e p a level).width * (entry_from e p a level).height

abbrev pub exponent_at : List ℕ → ℕ → ℕ → ℕ
exponent_at e p level = word_at e p + level

abbrev pub stride_x : List ℕ → ℕ → Axes → ℕ → ℕ
stride_x e p a level = stride_of a.x level (word_at e p)

abbrev pub stride_y : List ℕ → ℕ → Axes → ℕ → ℕ
stride_y e p a level = stride_of a.y level (word_at e (p + 4))

-- A COMPONENT with n resolutions, whose exponents stand at q 0, q 1, ..: the exponents of the first k steps on an axis, what is gathered over these resolutions,
-- the sums of all, if they are good, and with the ranges of its own fields
abbrev pub exponents_to : (ℕ → ℕ) → ℕ → Exponents
exponents_to x k = record { low = min_below 32 x k; high = max_below x k }

unfoldable pub gathered_to : List ℕ → (ℕ → ℕ) → Axes → ℕ → ℕ → Gathered
gathered_to e q a n k =
    record {
      most = capped (max_below (λ r. precincts_at e (q r) a (n - 1 - r)) k);
      x = exponents_to (λ r. exponent_at e (q r) (n - 1 - r)) k;
      y = exponents_to (λ r. exponent_at e (q r + 4) (n - 1 - r)) k;
    }

unfoldable pub passed : List ℕ → (ℕ → ℕ) → Axes → ℕ → Sums
passed e q a n =
    record {
      most = capped (max_below (λ r. precincts_at e (q r) a (n - 1 - r)) n);
      fit = all_below (λ r. fits_32 (stride_x e (q r) a (n - 1 - r)) && fits_32 (stride_y e (q r) a (n - 1 - r))) n;
      x_least = min_below 4294967295 (λ r. stride_x e (q r) a (n - 1 - r)) n;
      y_least = min_below 4294967295 (λ r. stride_y e (q r) a (n - 1 - r)) n;
    }

unfoldable pub resolution_sums : List ℕ → (ℕ → ℕ) → Bool → Axes → ℕ → Option Sums
resolution_sums e q check a n = cond (all_below (λ r. entry_fine e (q r) check a (n - 1 - r)) n) (Some (passed e q a n)) None

unfoldable pub component_sums : List ℕ → (ℕ → ℕ) → Bool → Area → ℕ → ℕ → ℕ → Option Sums
component_sums e q check tile dx dy n = cond (component_range dx dy n) (resolution_sums e q check (axes_of tile dx dy) n) None

-- PLACES: of the first exponents of a component, from a resolution to the next, what stands between two components, and where the words of the entries are kept;
-- of component 0, and of the component after one with n resolutions
abbrev pub places_of : Source → Places
places_of Records = record { first = 68; apart = 32; between = 32; to = 0 }
places_of Entries = record { first = 0; apart = 16; between = 0; to = 0 }

-- where the exponents of resolution r stand
abbrev pub exponents_at : Places → ℕ → ℕ
exponents_at p r = p.first + p.apart * r

abbrev pub places_after : Places → ℕ → Places
places_after p n = record { first = p.first + (p.apart * n + p.between); apart = p.apart; between = p.between; to = p.to + 4 * n }

-- THE GRID (01, 'Agreed grid', and 02, P5 and P6): what a kind and an order want
abbrev pub want_of_all : ℕ → Want
want_of_all kind = cond (eqb kind 6) AllFit Multiples

abbrev pub want_of : ℕ → Order → Want
want_of kind lrcp = Nothing
want_of kind rlcp = Nothing
want_of kind rpcl = want_of_all kind
want_of kind pcrl = want_of_all kind
want_of kind cprl = OwnFit
want_of kind other = Nothing

abbrev pub want_for : Progression → Want
want_for q = want_of q.kind (order_of q.prg)

-- wants from the least to the most, the larger of two, and the most of f 0, f 1, .. f (n - 1)
abbrev pub rank : Want → ℕ
rank Nothing = 0
rank OwnFit = 1
rank AllFit = 2
rank Multiples = 3

abbrev pub larger : Want → Want → Want
larger a b = cond (leb (rank a) (rank b)) b a

unfoldable pub most_of : (ℕ → Want) → ℕ → Want
most_of f zero = Nothing
most_of f (suc n) = larger (most_of f n) (f n)

-- the most that a progression wants
unfoldable pub most_wanted : State → Want
most_wanted st = most_of (λ k. want_for (change_of st k)) st.progressions

-- by the sums of each component, nothing beyond the list: the smallest steps of the first n are multiples of those of all
abbrev pub no_sums : Sums
no_sums = record { most = 0; fit = false; x_least = 0; y_least = 0 }

abbrev pub divided_by : Sums → Sums → Bool
divided_by all one = eqb (one.x_least % all.x_least) 0 && eqb (one.y_least % all.y_least) 0

unfoldable pub multiples : List Sums → ℕ → Sums → Bool
multiples l n all = all_below (λ c. divided_by all (get_or l c no_sums)) n

-- those from c0 up to c1 have steps that fit; those in a range have, where that is wanted; and so it is for every progression
unfoldable pub fit_between : List Sums → ℕ → ℕ → Bool
fit_between l c0 c1 = all_below (λ i. (get_or l (c0 + i) no_sums).fit) (c1 - c0)

abbrev pub own_fit : State → List Sums → Range → Want → Bool
own_fit st l g OwnFit = not (components_good st g) || fit_between l g.compno0 g.compno1
own_fit st l g w = true

abbrev pub range_fits : State → List Sums → Progression → Bool
range_fits st l q = own_fit st l (range_of st q) (want_for q)

unfoldable pub ranges_fit : State → List Sums → Bool
ranges_fit st l = all_below (λ k. range_fits st l (change_of st k)) st.progressions

-- the steps have what is wanted the most
abbrev pub granted : Want → State → Sums → List Sums → Bool
granted Nothing st all l = all.fit || ranges_fit st l
granted OwnFit st all l = all.fit || ranges_fit st l
granted AllFit st all l = all.fit
granted Multiples st all l = all.fit && multiples l st.components all

unfoldable pub agreed_of : State → Sums → List Sums → Bool
agreed_of st all l = granted (most_wanted st) st all l

-- MARKS, if they are few
abbrev pub needed_of : ℕ → ℕ → ℕ → ℕ → ℕ
needed_of layers res components prec = layers * (res * (components * prec))

unfoldable pub few_marks : ℕ → ℕ → ℕ → ℕ → Option ℕ
few_marks layers res components prec = few_of (needed_of layers res components prec)

-- FINDINGS, from the sums of all components and whether the grid is agreed; where the marks are not few, no precinct count
unfoldable pub findings_of : Bool → ℕ → ℕ → ℕ → Sums → Findings
findings_of grid layers components res all =
    record {
      grid = grid;
      needed = few_marks layers res components all.most;
      reports =
          record {
            max_prec = cond (is_some (few_marks layers res components all.most)) all.most 0;
            max_res = res;
            dx_min = min 2147483647 all.x_least;
            dy_min = min 2147483647 all.y_least;
          };
    }
