-- What setup and soundness have in common: the numbers that a state and its precinct exponents give, wherever the exponents stand.
use Rattle.std.specs.Prelude.{ℕ, ◌+◌, ◌*◌, Bool, cond, ◌&&◌, ◌||◌, not, Option, Some, None, List, length, replicate, leb, eqb}
use Rattle.laws.specs.Below.{all_below}
use Rattle.words.specs.Words.{word_at}
use Rattle.types.specs.Ranges.{component_range, exponent_range}
use Rattle.packets.specs.Tile.{Sheet, dx_of, dy_of, res_of, width, height, max_prec, max_res, dx_min, dy_min, reported, needed, entries_before}
use Rattle.packets.specs.Table.{table_words}
use Rattle.packets.specs.Grid.{everywhere, grid_agreed}
use Rattle.types.specs.declared.state.State.{State}
use Rattle.survey.specs.declared.Source.{Source}
use Rattle.survey.specs.declared.Source.TheVariants.{Records, Entries}
use Rattle.survey.specs.declared.Findings.{Findings}
use Rattle.survey.specs.Capped.{capped, few_of}
use Rattle.survey.specs.Put.{put_numbers}

-- where the exponents of resolution r of component c stand: after the kind in its record of a sheet, or in its entry of a table
abbrev pub place_of : Source → State → ℕ → ℕ → ℕ
place_of Records st c r = 32 * (1 + c + entries_before st c + 1 + r) + 4
place_of Entries st c r = 16 * (entries_before st c + r)

-- the sheet that a state and exponents standing there describe
abbrev pub sheet_from : List ℕ → Source → State → Sheet
sheet_from e at st = record { st = st; pdx = λ c r. word_at e (place_of at st c r); pdy = λ c r. word_at e (place_of at st c r + 4) }

-- the width and height after the exponents are those that follow from them (in a table; a sheet has none)
abbrev pub sizes_good : List ℕ → Source → State → ℕ → ℕ → Bool
sizes_good e at st c r =
    eqb (word_at e (place_of at st c r + 8)) (width (sheet_from e at st) c r) && eqb (word_at e (place_of at st c r + 12)) (height (sheet_from e at st) c r)

-- 01, the ranges of components and resolutions; with `check` the sizes too
abbrev pub entry_good : List ℕ → Source → Bool → State → ℕ → ℕ → Bool
entry_good e at check st c r =
    exponent_range (word_at e (place_of at st c r)) (word_at e (place_of at st c r + 4)) && (not check || sizes_good e at st c r)

unfoldable pub survey_good : List ℕ → Source → Bool → State → Bool
survey_good e at check st =
    leb st.components 16
    && (all_below (λ c. component_range (dx_of st c) (dy_of st c) (res_of st c)) st.components && everywhere st (entry_good e at check st))

-- whether the grid is agreed for every progression, the marks needed, if they are at most 65,536 (else none, and no precinct count; with 0 layers any number of
-- precincts takes 0 marks, so that their count is cut off), and the reports
abbrev pub surveyed : Sheet → Findings
surveyed s =
    record {
      grid = grid_agreed s;
      needed = few_of (needed (reported s));
      reports =
          record {
            max_prec = cond (leb (needed (reported s)) 65536) (capped (max_prec s)) 0;
            max_res = max_res s.st;
            dx_min = dx_min s;
            dy_min = dy_min s;
          };
    }

-- of what is out of range nothing is found
unfoldable pub survey_of : List ℕ → Source → Bool → State → Option Findings
survey_of e at check st = cond (survey_good e at check st) (Some (surveyed (sheet_from e at st))) None

-- what is kept: the words of the table from the start on, as far as there is room; where a range does not hold, zeros
unfoldable pub kept_of : List ℕ → Source → Bool → State → List ℕ → List ℕ
kept_of e at check st old = cond (survey_good e at check st) (put_numbers old 0 (table_words (sheet_from e at st))) (replicate (length old) 0)
