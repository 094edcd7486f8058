-- 01's worked cases P-a to P-l ('Listing program and its sheets') and 02's P5 and P6 as rows of a single list, each checked by computing on the bytes of its sheet: what setup
-- answers, the precincts, the packets in order, and what steps answer. P-j has 32,767 points to test, so positions are computed by the next hit in play
-- (theorem 2, InPlay); what the listing program prints for sheet A is computed point by point. Assumes nothing.
use Rattle.std.specs.Prelude.{ℕ, ◌+◌, ◌-◌, ◌*◌, ◌≡◌, refl, Bool, true, false, cond, ◌&&◌, List, [], ◌∷◌, ◌++◌, map, length, replicate, eqb, ltb, ℤ, pos, negsuc}
use Rattle.std.proofs.Common.{subst}
use Rattle.std.proofs.Math.Path.{fun_ext}
use Rattle.std.proofs.Math.Option.{Option, some, none}
use Rattle.laws.specs.Gather.{gather}
use Rattle.laws.specs.Axis.{axis, go_up, span}
use Rattle.laws.specs.Lists.{behind}
use Rattle.laws.specs.Below.{all_below, sum_below, max_below, min_below}
use Rattle.laws.specs.Least.{least}
use Rattle.laws.specs.Nest.{nest}
use Rattle.laws.specs.Runs.{seek}
use Rattle.laws.specs.Marks.{free_byte, marked_byte, cleared_byte, free_at, mark_at, cleared_to}
use Rattle.laws.specs.AllRuns.{has, unseen, joined, dedupe}
use Rattle.words.specs.Words.{word_at, words_bytes}
use Rattle.geometry.specs.Precinct.{across, cell_from, cell_to}
use Rattle.geometry.specs.Line.{bound_of, count, hit_at, column_of}
use Rattle.geometry.specs.declared.tile.Area.{Area}
use Rattle.types.specs.State.{fresh_cursor, origin}
use Rattle.types.specs.Viewers.{is_viewer}
use Rattle.types.specs.Totals.{total_for}
use Rattle.packets.specs.Sheet.{record_verdict, due_after, read_from, read_verdict, component_record, progression_at, fields_of}
use Rattle.packets.specs.Tile.{Sheet, width, height, res_of, rectangle, max_prec, max_res, dx_min, dy_min, reported, needed, index_of, entries_before, table_bytes}
use Rattle.types.specs.Orders.{order_of, range_of}
use Rattle.types.specs.declared.order.Order.{Order}
use Rattle.types.specs.declared.order.Range.{Range}
use Rattle.packets.specs.Grid.{change_of, steps_fit, steps_divide, grid_agreed}
use Rattle.packets.specs.Positions.{met, number_at, positions_in, has_positions}
use Rattle.packets.specs.Table.{table_of, sheet_in, sheet_at}
use Rattle.packets.specs.Sound.{place_sound, components_sound, progressions_sound, entry_sound, table_sound, reports_sound, sheet_sound, state_sound, followed_sound, is_in, cursor_sound, sound}
use Rattle.packets.specs.Totals.{layers_admitted, total}
use Rattle.packets.specs.Demands.{world_of}
use Rattle.packets.specs.Same.{same_position, same, decided}
use Rattle.packets.specs.Calls.{Setup, Start, Step, setup_verdict, setup_of, start_of, join_of, open_of, rectangle_of, refusal, listed, after, step_by, step_of}
use Rattle.packets.specs.Traces.{Call, joins, opens, steps, Reply, joined as join_said, opened, stepped, Trace, traced}
use Rattle.packets.specs.Text.{text_of, digits_up_to}
use Rattle.packets.specs.Strided.{strided, points_for}
use Rattle.packets.specs.InPlay.{next_x, next_y, next_in_play}
use Rattle.packets.proofs.InPlay.{in_play-listed}
use Rattle.types.specs.declared.state.State.{State}
use Rattle.types.specs.declared.followed.Followed.{Followed}
use Rattle.types.specs.declared.cursor.Position.{Position}
use Rattle.types.specs.declared.cursor.Place.{Place}
use Rattle.types.specs.declared.cursor.Place.TheVariants as place
use Rattle.types.specs.declared.cursor.Cursor.{Cursor}

-- SHEETS. A record from its words, zeros at the end omitted; a sheet from its records
abbrev pub record_bytes : List ℕ → List ℕ
record_bytes ws = words_bytes (ws ++ replicate (8 - length ws) 0)

abbrev pub sheet_bytes : List (List ℕ) → List ℕ
sheet_bytes = gather record_bytes

-- sheet A with these progressions, and A itself
abbrev tile_a : List (List ℕ) → List (List ℕ)
tile_a changes = (1 ∷ 0 ∷ 0 ∷ 64 ∷ 32 ∷ 2 ∷ 1 ∷ length changes ∷ []) ∷ (2 ∷ 1 ∷ 1 ∷ 2 ∷ []) ∷ (3 ∷ 4 ∷ 4 ∷ []) ∷ (3 ∷ 5 ∷ 5 ∷ []) ∷ changes

abbrev pub sheet_a : List (List ℕ)
sheet_a = tile_a ((5 ∷ 2 ∷ []) ∷ [])

-- P-h's with these progressions: one resolution each, dx 2 and 3, so steps 32 and 48
abbrev unlike : List (List ℕ) → List (List ℕ)
unlike changes =
    (1 ∷ 0 ∷ 0 ∷ 64 ∷ 32 ∷ 1 ∷ 2 ∷ length changes ∷ []) ∷ (2 ∷ 2 ∷ 1 ∷ 1 ∷ []) ∷ (3 ∷ 4 ∷ 4 ∷ []) ∷ (2 ∷ 3 ∷ 1 ∷ 1 ∷ []) ∷ (3 ∷ 4 ∷ 4 ∷ []) ∷ changes

-- a progression of this kind and order over all of it, and one of component 0 alone
abbrev over : ℕ → ℕ → List ℕ
over kind prg = kind ∷ prg ∷ 0 ∷ 0 ∷ 1 ∷ 1 ∷ 2 ∷ []

abbrev over_first : ℕ → ℕ → List ℕ
over_first kind prg = kind ∷ prg ∷ 0 ∷ 0 ∷ 1 ∷ 1 ∷ 1 ∷ []

-- P-i's: 17 resolutions, exponents 15
abbrev deep : ℕ → List (List ℕ)
deep d = (1 ∷ 0 ∷ 0 ∷ 8 ∷ 8 ∷ 1 ∷ 1 ∷ 1 ∷ []) ∷ (2 ∷ d ∷ d ∷ 17 ∷ []) ∷ (replicate 17 (3 ∷ 15 ∷ 15 ∷ []) ++ (5 ∷ 4 ∷ []) ∷ [])

-- those of P-d, P-e and P-j
abbrev sheet_d : List (List ℕ)
sheet_d = (1 ∷ 5 ∷ 0 ∷ 40 ∷ 16 ∷ 1 ∷ 1 ∷ 1 ∷ []) ∷ (2 ∷ 1 ∷ 1 ∷ 1 ∷ []) ∷ (3 ∷ 4 ∷ 4 ∷ []) ∷ (5 ∷ 2 ∷ []) ∷ []

abbrev sheet_e : List (List ℕ)
sheet_e = (1 ∷ 1 ∷ 0 ∷ 2 ∷ 1 ∷ 1 ∷ 1 ∷ 1 ∷ []) ∷ (2 ∷ 4 ∷ 1 ∷ 1 ∷ []) ∷ (3 ∷ 0 ∷ 0 ∷ []) ∷ (5 ∷ 2 ∷ []) ∷ []

abbrev sheet_j : List (List ℕ)
sheet_j = (1 ∷ 4294934528 ∷ 0 ∷ 4294967295 ∷ 1 ∷ 1 ∷ 1 ∷ 1 ∷ []) ∷ (2 ∷ 1 ∷ 1 ∷ 1 ∷ []) ∷ (3 ∷ 15 ∷ 15 ∷ []) ∷ (5 ∷ 2 ∷ []) ∷ []

-- the last row's: components of one resolution and of two
abbrev uneven : List (List ℕ)
uneven =
    (1 ∷ 0 ∷ 0 ∷ 32 ∷ 16 ∷ 1 ∷ 2 ∷ 1 ∷ []) ∷ (2 ∷ 1 ∷ 1 ∷ 1 ∷ []) ∷ (3 ∷ 4 ∷ 4 ∷ []) ∷ (2 ∷ 1 ∷ 1 ∷ 2 ∷ []) ∷ (3 ∷ 3 ∷ 3 ∷ []) ∷ (3 ∷ 4 ∷ 4 ∷ []) ∷ (5 ∷ 2 ∷ []) ∷ []

-- P5's: luma of two resolutions beside an alpha plane of n with exponents 15, whose steps go up to 2^(n + 14)
abbrev alpha : ℕ → List ℕ → List (List ℕ)
alpha n change =
    (1 ∷ 0 ∷ 0 ∷ 8 ∷ 4 ∷ 1 ∷ 2 ∷ 1 ∷ []) ∷ (2 ∷ 1 ∷ 1 ∷ 2 ∷ []) ∷ (3 ∷ 1 ∷ 1 ∷ []) ∷ (3 ∷ 2 ∷ 2 ∷ []) ∷ (2 ∷ 1 ∷ 1 ∷ n ∷ []) ∷ (replicate n (3 ∷ 15 ∷ 15 ∷ []) ++ change ∷ [])

-- PACKETS: layer, resolution, component, precinct, and the point where it is met
abbrev at : ℕ → ℕ → ℕ → ℕ → ℕ → ℕ → Position
at l r c k x y = record { layno = l; resno = r; compno = c; precno = k; x = x; y = y }

-- P-a's eight
abbrev eight : List Position
eight =
    at 0 0 0 0 0 0 ∷ at 1 0 0 0 0 0 ∷ at 0 0 0 1 32 0 ∷ at 1 0 0 1 32 0 ∷ at 0 1 0 0 0 0 ∷ at 1 1 0 0 0 0 ∷ at 0 1 0 1 32 0 ∷ at 1 1 0 1 32 0 ∷ []

-- A's four of a layer; x is where precinct 1 is met
abbrev layer : ℕ → ℕ → List Position
layer l x = at l 0 0 0 0 0 ∷ at l 0 0 1 x 0 ∷ at l 1 0 0 0 0 ∷ at l 1 0 1 x 0 ∷ []

-- P-h's four of a component, in orders 0 and 1, and by points, where x is where its second column is met
abbrev unmet : ℕ → List Position
unmet c = map (λ k. at 0 0 c k 0 0) (span 0 4)

abbrev in_one : ℕ → ℕ → List Position
in_one c x = at 0 0 c 0 0 0 ∷ at 0 0 c 1 x 0 ∷ at 0 0 c 2 0 16 ∷ at 0 0 c 3 x 16 ∷ []

-- those of both components, from point to point
abbrev in_turns : List Position
in_turns =
    at 0 0 0 0 0 0 ∷ at 0 0 1 0 0 0 ∷ at 0 0 0 1 32 0 ∷ at 0 0 1 1 48 0 ∷ at 0 0 0 2 0 16 ∷ at 0 0 1 2 0 16 ∷ at 0 0 0 3 32 16 ∷ at 0 0 1 3 48 16 ∷ []

-- P5's luma in order 4
abbrev luma_alone : List Position
luma_alone = at 0 0 0 0 0 0 ∷ at 0 1 0 0 0 0 ∷ at 0 0 0 1 4 0 ∷ at 0 1 0 1 4 0 ∷ []

-- to unfold this is to unfold all that reads a sheet and lists its positions
computed : ℕ
unfolding setup_verdict read_verdict read_from record_verdict due_after word_at words_bytes gather all_below sum_below max_below min_below component_record progression_at fields_of max_prec max_res dx_min dy_min reported needed index_of entries_before range_of steps_fit steps_divide grid_agreed met number_at table_of nest axis go_up has unseen across bound_of count hit_at column_of
computed = 0

-- A ROW: a sheet in words; the number that setup answers; where it is accepted, the marks needed, the width and height of every resolution, the packets in
-- order, and for progression 0, 1 and so on the numbers that the first steps from a fresh cursor answer, over the marks as they are by then
pub record Row : Type 0 where
  pub sheet : List (List ℕ)
  pub number : ℤ
  pub marks : ℕ
  pub sizes : List ℕ
  pub packets : List Position
  pub answers : List (List ℕ)

abbrev accepts : List (List ℕ) → ℕ → List ℕ → List Position → List (List ℕ) → Row
accepts sheet marks sizes packets answers = record { sheet = sheet; number = pos 0; marks = marks; sizes = sizes; packets = packets; answers = answers }

abbrev refuses : List (List ℕ) → ℕ → Row
refuses sheet n = record { sheet = sheet; number = refusal n; marks = 0; sizes = []; packets = []; answers = [] }

-- P5's with this progression: luma's counts are 2 by 1, the alpha plane's 1 by 1; a mark for n resolutions of two components with two precincts each
abbrev with_alpha : ℕ → List ℕ → List Position → List ℕ → Row
with_alpha n change packets answers = accepts (alpha n change) (4 * n) ((2 ∷ 1 ∷ 2 ∷ 1 ∷ []) ++ replicate (2 * n) 1) packets (answers ∷ [])

-- P-h's with these progressions: counts 2 by 2 for both components, 8 marks
abbrev with_unlike : List (List ℕ) → List Position → List (List ℕ) → Row
with_unlike changes = accepts (unlike changes) 8 (replicate 4 2)

-- A with these progressions: counts 2 by 1 for both resolutions, 8 marks
abbrev with_a : List (List ℕ) → List Position → List (List ℕ) → Row
with_a changes = accepts (tile_a changes) 8 (2 ∷ 1 ∷ 2 ∷ 1 ∷ [])

unfoldable pub rows : List Row
rows =
    -- P-a: A; 1 eight times, then 0
    with_a ((5 ∷ 2 ∷ []) ∷ []) eight ((replicate 8 1 ++ 0 ∷ []) ∷ [])
    -- P-b: order 0 lists all of layer 0, then layer 1
    ∷ with_a ((5 ∷ 0 ∷ []) ∷ []) (layer 0 0 ++ layer 1 0) []
    -- P-c: four packets of layer 0, then four of layer 1
    ∷ with_a ((4 ∷ 0 ∷ 0 ∷ 0 ∷ 1 ∷ 2 ∷ 1 ∷ []) ∷ (4 ∷ 2 ∷ 0 ∷ 0 ∷ 2 ∷ 2 ∷ 1 ∷ []) ∷ []) (layer 0 0 ++ layer 1 32)
    ((replicate 4 1 ++ 0 ∷ []) ∷ (replicate 4 1 ++ 0 ∷ []) ∷ [])
    -- P-d: x is 5, 16, 32; width 3
    ∷ accepts sheet_d 3 (3 ∷ 1 ∷ []) (at 0 0 0 0 5 0 ∷ at 0 0 0 1 16 0 ∷ at 0 0 0 2 32 0 ∷ []) []
    -- P-e: width 0
    ∷ accepts sheet_e 0 (0 ∷ 1 ∷ []) [] []
    -- P-f: tx0 = tx1: accepted, 0 marks, 0 at once
    ∷ accepts ((1 ∷ 7 ∷ 0 ∷ 7 ∷ 16 ∷ 1 ∷ 1 ∷ 1 ∷ []) ∷ (2 ∷ 1 ∷ 1 ∷ 1 ∷ []) ∷ (3 ∷ 4 ∷ 4 ∷ []) ∷ (5 ∷ 2 ∷ []) ∷ []) 0 (0 ∷ 1 ∷ []) [] ((0 ∷ []) ∷ [])
    -- P-g: compno1 above the components: no packets; equal to them: the eight of P-a
    ∷ with_a ((4 ∷ 2 ∷ 0 ∷ 0 ∷ 2 ∷ 2 ∷ 2 ∷ []) ∷ []) [] ((0 ∷ []) ∷ [])
    ∷ with_a ((4 ∷ 2 ∷ 0 ∷ 0 ∷ 2 ∷ 2 ∷ 1 ∷ []) ∷ []) eight []
    -- P-h: order 2 gives -4; orders 0 and 4 pass
    ∷ refuses (unlike ((5 ∷ 2 ∷ []) ∷ [])) 4
    ∷ with_unlike ((5 ∷ 0 ∷ []) ∷ []) (unmet 0 ++ unmet 1) []
    ∷ with_unlike ((5 ∷ 4 ∷ []) ∷ []) (in_one 0 32 ++ in_one 1 48) []
    -- P-i: d = 2 gives -4, d = 1 passes
    ∷ refuses (deep 2) 4
    ∷ accepts (deep 1) 17 (replicate 34 1) (map (λ r. at 0 r 0 0 0 0) (span 0 17)) []
    -- P-j: one packet, then 0
    ∷ accepts sheet_j 1 (1 ∷ 1 ∷ []) (at 0 0 0 0 4294934528 0 ∷ []) ((1 ∷ 0 ∷ []) ∷ [])
    -- P-k: 0, and 0 again
    ∷ with_a ((4 ∷ 0 ∷ 0 ∷ 0 ∷ 0 ∷ 2 ∷ 1 ∷ []) ∷ []) [] ((0 ∷ 0 ∷ []) ∷ [])
    -- P-l: prg -1 and 5: 0
    ∷ with_a ((5 ∷ 4294967295 ∷ []) ∷ []) [] ((0 ∷ []) ∷ [])
    ∷ with_a ((5 ∷ 5 ∷ []) ∷ []) [] ((0 ∷ []) ∷ [])
    -- 01, 'Easy slips': levels are the component's own; and a resolution is skipped for a component that hasn't got it
    ∷ accepts uneven 8 (2 ∷ 1 ∷ 2 ∷ 1 ∷ 2 ∷ 1 ∷ []) (at 0 0 0 0 0 0 ∷ at 0 0 1 0 0 0 ∷ at 0 0 0 1 16 0 ∷ at 0 0 1 1 16 0 ∷ at 0 1 1 0 0 0 ∷ at 0 1 1 1 16 0 ∷ []) []
    -- 02, P5: order 4 for luma alone never looks at the alpha plane
    ∷ with_alpha 33 (4 ∷ 4 ∷ 0 ∷ 0 ∷ 1 ∷ 33 ∷ 1 ∷ []) luma_alone (1 ∷ 1 ∷ 1 ∷ 1 ∷ 0 ∷ [])
    -- with compno1 reaching it (18 resolutions are enough), with all components, and in order 2: -4
    ∷ refuses (alpha 18 (4 ∷ 4 ∷ 0 ∷ 0 ∷ 1 ∷ 33 ∷ 2 ∷ [])) 4
    ∷ refuses (alpha 18 (5 ∷ 4 ∷ [])) 4
    ∷ refuses (alpha 18 (4 ∷ 2 ∷ 0 ∷ 0 ∷ 1 ∷ 33 ∷ 1 ∷ [])) 4
    -- compno1 above the components, or a range without components: no positions
    ∷ with_alpha 18 (4 ∷ 4 ∷ 0 ∷ 0 ∷ 1 ∷ 33 ∷ 3 ∷ []) [] (0 ∷ [])
    ∷ with_alpha 18 (4 ∷ 4 ∷ 0 ∷ 1 ∷ 1 ∷ 33 ∷ 1 ∷ []) [] (0 ∷ [])
    -- 02, P6: kind 6 lists P-h's sheet in orders 2 and 3, from point to point, and in order 4
    ∷ with_unlike (over 6 2 ∷ []) in_turns ((replicate 8 1 ++ 0 ∷ []) ∷ [])
    ∷ with_unlike (over 6 3 ∷ []) in_turns []
    ∷ with_unlike (over 6 4 ∷ []) (in_one 0 32 ++ in_one 1 48) []
    -- kinds 4 and 6 in one sheet, in any order; of kind 4 the smallest step has to divide
    ∷ with_unlike (over_first 4 0 ∷ over 6 2 ∷ []) (unmet 0 ++ in_one 1 48) ((replicate 4 1 ++ 0 ∷ []) ∷ (replicate 4 1 ++ 0 ∷ []) ∷ [])
    ∷ with_unlike (over 6 3 ∷ over_first 4 0 ∷ []) in_turns ((replicate 8 1 ++ 0 ∷ []) ∷ (0 ∷ []) ∷ [])
    ∷ refuses (unlike (over 6 2 ∷ over 4 2 ∷ [])) 4
    -- a step over 32 bits: -4 in order 3, which asks of every component, and not in order 4 for luma alone
    ∷ refuses (alpha 18 (6 ∷ 3 ∷ 0 ∷ 0 ∷ 1 ∷ 33 ∷ 1 ∷ [])) 4
    ∷ with_alpha 18 (6 ∷ 4 ∷ 0 ∷ 0 ∷ 1 ∷ 33 ∷ 1 ∷ []) luma_alone []
    -- kind 6 beside kind 5, either way round: -2
    ∷ refuses (unlike (over 6 2 ∷ (5 ∷ 2 ∷ []) ∷ [])) 2
    ∷ refuses (unlike ((5 ∷ 2 ∷ []) ∷ over 6 2 ∷ [])) 2
    ∷ []

-- THE TEST
abbrev same_number : ℤ → ℤ → Bool
same_number (pos a) (pos b) = eqb a b
same_number (pos a) (negsuc b) = false
same_number (negsuc a) (pos b) = false
same_number (negsuc a) (negsuc b) = eqb a b

-- two lists are the same, by a test of their elements
abbrev same_by : {A : Type 0} → (A → A → Bool) → List A → List A → Bool
same_by f [] [] = true
same_by f [] (y ∷ ys) = false
same_by f (x ∷ xs) [] = false
same_by f (x ∷ xs) (y ∷ ys) = f x y && same_by f xs ys

-- the width and height of every resolution
abbrev sizes_of : Sheet → List ℕ
sizes_of s = gather (λ c. gather (λ r. width s c r ∷ height s c r ∷ []) (span 0 (res_of s.st c))) (span 0 s.st.components)

-- with a packet the cursor has moved to it, and else it is ended
abbrev moved : Option Position → Place → Bool
moved (some p) (place.At q) = same_position p q
moved (some p) place.Fresh = false
moved (some p) place.Ended = false
moved none (place.At q) = false
moved none place.Fresh = false
moved none place.Ended = true

-- steps answer these numbers, each given what the one before has answered and left; then the rest holds over the state and the marks left
abbrev answering : (Followed → List ℕ → Cursor → Step) → Followed → List ℕ → Cursor → List ℕ → (Followed → List ℕ → Bool) → Bool
answering go f marks c [] rest = rest f marks
answering go f marks c (n ∷ ns) rest =
    let u : Step = go f marks c in
    same_number u.said.number (pos n)
    && (moved u.said.packet u.said.cursor.place && answering go u.followed u.marks u.said.cursor ns rest)

-- so for progression k and those after it, in turn
abbrev in_turn : (Followed → List ℕ → Cursor → Step) → Followed → List ℕ → ℕ → List (List ℕ) → Bool
in_turn go f marks k [] = true
in_turn go f marks k (ns ∷ nss) = answering go f marks (fresh_cursor 0 k) ns (λ g m. in_turn go g m (k + 1) nss)

-- a refusal says no more
abbrev if_accepted : ℤ → Bool → Bool
if_accepted (pos n) t = t
if_accepted (negsuc n) t = true

-- what a row says holds, by a way of listing and a way of stepping. Lent bytes are all 255 before
unfoldable pub holds_by : (State → List ℕ → List Position) → (Followed → List ℕ → List ℕ → Cursor → Step) → Row → Bool
holds_by list go row =
    let b : List ℕ = sheet_bytes row.sheet in
    let u : Start = start_of b (replicate (table_bytes (reported (sheet_in b))) 255) (replicate row.marks 255) in
    let st : State = u.followed.state in
    let counts = eqb (needed st) row.marks && same_by eqb (sizes_of (sheet_in b)) row.sizes in
    let packets = same_by same_position (list st u.table) row.packets in
    let totals = same_by eqb u.followed.totals (replicate 8 (length row.packets)) in
    let answers = in_turn (λ f. go f u.table) u.followed u.marks 0 row.answers in
    let rest = counts && (packets && (totals && answers)) in
    same_number u.number row.number && if_accepted row.number rest

unfoldable pub all_by : (State → List ℕ → List Position) → (Followed → List ℕ → List ℕ → Cursor → Step) → List Row → Bool
all_by list go [] = true
all_by list go (r ∷ rs) = holds_by list go r && all_by list go rs

-- every row holds, by the calls' own listing and step
abbrev pub all : List Row → Bool
all = all_by listed step_of

-- FEWER POINTS. The calls' listing and step, over any positions
module _ (positions : Sheet → Range → Order → List Position) where
  positions_by : State → List ℕ → ℕ → List Position
  positions_by st table k = positions (sheet_at st table) (range_of st (change_of st k)) (order_of (change_of st k).prg)

  listed_by : State → List ℕ → List Position
  listed_by st table = dedupe (index_of st) (joined (map (positions_by st table) (span 0 st.progressions)))

  step_via : Followed → List ℕ → List ℕ → Cursor → Step
  step_via f table marks c =
      let st : State = f.state in
      let ps : List Position = positions_by st table c.progression in
      let v = c.viewer in
      let found = step_by f marks v c.progression (seek v (index_of st) marks (after c.place ps)) in
      cond (followed_sound f table marks v && (is_viewer v && (ltb c.progression st.progressions && place_sound c.place ps))) found
      (record { said = record { number = refusal 9; packet = none; cursor = c }; followed = f; marks = marks })

-- positions by the next hit in play
in_play : Sheet → Range → Order → List Position
in_play s g o = cond (has_positions s g o) (nest (strided s g (next_x s g (points_for o)) (next_y s g (points_for o)) o) origin) []

in_play_lem : in_play ≡ positions_in
unfolding in_play
in_play_lem = fun_ext (λ s. fun_ext (λ g. fun_ext (in_play-listed s g)))

-- so a list may be checked by these
by_in_play : (rs : List Row) → all_by (listed_by in_play) (step_via in_play) rs ≡ true → all rs ≡ true
unfolding listed_by step_via positions_by listed step_of sound cursor_sound
by_in_play rs = subst (λ (f : Sheet → Range → Order → List Position). all_by (listed_by f) (step_via f) rs ≡ true) in_play_lem

in_play_hold : all_by (listed_by in_play) (step_via in_play) rows ≡ true
unfolding computed rows all_by holds_by in_play listed_by step_via positions_by setup_of start_of total layers_admitted total_for followed_sound sheet_sound state_sound is_in components_sound progressions_sound table_sound entry_sound reports_sound same decided behind free_byte marked_byte free_at mark_at seek next_in_play least
in_play_hold = refl

-- THEOREM: P-a to P-l and the cases of P5 and P6 hold
pub rows_hold : all rows ≡ true
rows_hold = by_in_play rows in_play_hold

-- WHERE PRECINCTS ARE (02, P2). A sheet; component, resolution and precinct; then what the call answers to setup's state and table: its number, and x0, y0, x1, y1
pub record Spot : Type 0 where
  pub sheet : List (List ℕ)
  pub precinct : ℕ × ℕ × ℕ
  pub number : ℤ
  pub area : List ℕ

abbrev spot : List (List ℕ) → ℕ → ℕ → ℕ → List ℕ → Spot
spot sheet c r k area = record { sheet = sheet; precinct = (c, r, k); number = pos 0; area = area }

abbrev nowhere : List (List ℕ) → ℕ → ℕ → ℕ → ℕ → Spot
nowhere sheet c r k n = record { sheet = sheet; precinct = (c, r, k); number = refusal n; area = [] }

unfoldable pub spots : List Spot
spots =
    -- A: two precincts side by side, in both resolutions
    spot sheet_a 0 0 0 (0 ∷ 0 ∷ 16 ∷ 16 ∷ [])
    ∷ spot sheet_a 0 0 1 (16 ∷ 0 ∷ 32 ∷ 16 ∷ [])
    ∷ spot sheet_a 0 1 0 (0 ∷ 0 ∷ 32 ∷ 32 ∷ [])
    ∷ spot sheet_a 0 1 1 (32 ∷ 0 ∷ 64 ∷ 32 ∷ [])
    -- and no other precinct, resolution or component
    ∷ nowhere sheet_a 0 1 2 14
    ∷ nowhere sheet_a 0 2 0 14
    ∷ nowhere sheet_a 1 0 0 14
    -- P-d: the tile starts inside a cell and ends inside one
    ∷ spot sheet_d 0 0 0 (5 ∷ 0 ∷ 16 ∷ 16 ∷ [])
    ∷ spot sheet_d 0 0 1 (16 ∷ 0 ∷ 32 ∷ 16 ∷ [])
    ∷ spot sheet_d 0 0 2 (32 ∷ 0 ∷ 40 ∷ 16 ∷ [])
    -- P-j: the cell ends at 2^32
    ∷ spot sheet_j 0 0 0 (4294934528 ∷ 0 ∷ 4294967295 ∷ 1 ∷ [])
    -- P-e: a resolution without precincts has none
    ∷ nowhere sheet_e 0 0 0 14
    -- the state of a refused setup is not sound
    ∷ nowhere [] 0 0 0 9
    ∷ []

abbrev area_words : Option Area → List ℕ
area_words (some a) = a.x0 ∷ a.y0 ∷ a.x1 ∷ a.y1 ∷ []
area_words none = []

unfoldable pub spot_holds : Spot → Bool
spot_holds q =
    let b : List ℕ = sheet_bytes q.sheet in
    let st : State = reported (sheet_in b) in
    let u : Setup = setup_of b (replicate (table_bytes st) 255) (replicate (needed st) 255) in
    let said = rectangle_of u.said.state u.table q.precinct.0 q.precinct.1 q.precinct.2 in
    same_number said.number q.number && same_by eqb (area_words said.area) q.area

abbrev all_spots : List Spot → Bool
all_spots [] = true
all_spots (q ∷ qs) = spot_holds q && all_spots qs

-- THEOREM: they are there
pub spots_hold : all_spots spots ≡ true
unfolding computed spots spot_holds setup_of rectangle_of rectangle cell_from cell_to sheet_sound components_sound progressions_sound table_sound entry_sound reports_sound
spots_hold = refl

-- EIGHT VIEWERS (02, P4): sheet A's packets by LRCP, in one layer; calls one after the other over setup's state and table, each with the number that it answers
abbrev by_layers : List (List ℕ)
by_layers = tile_a ((4 ∷ 0 ∷ 0 ∷ 0 ∷ 1 ∷ 2 ∷ 1 ∷ []) ∷ [])

abbrev number_of : Reply → ℤ
number_of (join_said z) = z
number_of (opened o) = o.number
number_of (stepped s) = s.number

unfoldable pub meetings : List (Call × ℤ)
meetings =
    -- viewer 3 opens its progression, and there is no other; viewers end at 7
    (opens 3 0, pos 0)
    ∷ (opens 3 1, refusal 11)
    ∷ (opens 8 1, refusal 15)
    ∷ (joins 8, refusal 15)
    ∷ (steps (fresh_cursor 8 0), refusal 9)
    -- viewers 3 and 0 are each given the first packet, and viewer 3 the second
    ∷ (steps (fresh_cursor 3 0), pos 1)
    ∷ (steps (fresh_cursor 0 0), pos 1)
    ∷ (steps (fresh_cursor 3 0), pos 1)
    -- viewer 3 joins, and is given the first again
    ∷ (joins 3, pos 0)
    ∷ (steps (fresh_cursor 3 0), pos 1)
    ∷ []

-- the first packet is marked for viewers 0 and 3, the others for nobody; so of four packets three are still to come for these two
abbrev marks_left : List ℕ
marks_left = 9 ∷ replicate 7 0

abbrev totals_left : List ℕ
totals_left = 3 ∷ 4 ∷ 4 ∷ 3 ∷ replicate 4 4

unfoldable pub meetings_hold : Bool
meetings_hold =
    let b : List ℕ = sheet_bytes by_layers in
    let st : State = reported (sheet_in b) in
    let u : Start = start_of b (replicate (table_bytes st) 255) (replicate (needed st) 255) in
    let t : Trace = traced u.table (world_of u) (map (λ (m : Call × ℤ). m.0) meetings) in
    same_by same_number (map (λ (d : Call × Reply). number_of d.1) t.dealt) (map (λ (m : Call × ℤ). m.1) meetings)
    && (same_by eqb t.world.marks marks_left && same_by eqb t.world.followed.totals totals_left)

-- THEOREM: they are answered so
pub meetings_hold_lem : meetings_hold ≡ true
unfolding computed meetings meetings_hold traced join_of open_of step_of setup_of start_of total layers_admitted total_for followed_sound sound cursor_sound sheet_sound state_sound is_in components_sound progressions_sound table_sound entry_sound reports_sound same decided behind free_byte marked_byte cleared_byte free_at mark_at cleared_to seek positions_in
meetings_hold_lem = refl

-- THE TEXT. A line of one-digit numbers
abbrev pub shown : List ℕ → List ℕ
shown [] = 10 ∷ []
shown (n ∷ []) = (48 + n) ∷ 10 ∷ []
shown (n ∷ m ∷ ms) = (48 + n) ∷ 32 ∷ shown (m ∷ ms)

-- P-a: what is printed for sheet A, exactly
pub sheet_a_text : text_of (sheet_bytes sheet_a)
    ≡ gather shown
    ((0 ∷ 0 ∷ 0 ∷ 0 ∷ [])
    ∷ (1 ∷ 0 ∷ 0 ∷ 0 ∷ [])
    ∷ (0 ∷ 0 ∷ 0 ∷ 1 ∷ [])
    ∷ (1 ∷ 0 ∷ 0 ∷ 1 ∷ [])
    ∷ (0 ∷ 1 ∷ 0 ∷ 0 ∷ [])
    ∷ (1 ∷ 1 ∷ 0 ∷ 0 ∷ [])
    ∷ (0 ∷ 1 ∷ 0 ∷ 1 ∷ [])
    ∷ (1 ∷ 1 ∷ 0 ∷ 1 ∷ [])
    ∷ (8 ∷ [])
    ∷ [])
unfolding computed text_of digits_up_to listed positions_in
sheet_a_text = refl
