-- Each public contract of this crate allows one answer only. Assumes nothing.
use Rattle.laws.specs.Determined.{determined, determined_by, OneAnswer}
use Rattle.geometry.specs.Said.{of_word, word_apart, of_tile, tile-apart}
use Rattle.geometry.proofs.axis.Axis.of.Kinds as axis_of_kinds
use Rattle.geometry.proofs.axis.Axis.of.Reads as axis-of
use Rattle.geometry.proofs.axis.Axis.at.Kinds as axis_at_kinds
use Rattle.geometry.proofs.axis.Axis.at.Reads as axis-at
use Rattle.geometry.proofs.axis.Resolution.columns.Kinds as columns_kinds
use Rattle.geometry.proofs.axis.Resolution.columns.Reads as columns
use Rattle.geometry.proofs.axis.Line.precinct.Kinds as precinct_kinds
use Rattle.geometry.proofs.axis.Line.precinct.Reads as precinct
use Rattle.geometry.proofs.axis.step.Kinds as step_kinds
use Rattle.geometry.proofs.axis.step.Reads as step
use Rattle.geometry.proofs.axis.Line.meets.Kinds as meets_kinds
use Rattle.geometry.proofs.axis.Line.meets.Reads as meets
use Rattle.geometry.proofs.axis.Line.column.Kinds as column_kinds
use Rattle.geometry.proofs.axis.Line.column.Reads as column
use Rattle.geometry.proofs.ceiling.divided.Kinds as divided_kinds
use Rattle.geometry.proofs.ceiling.divided.Reads as divided
use Rattle.geometry.proofs.ceiling.shifted.Kinds as shifted_kinds
use Rattle.geometry.proofs.ceiling.shifted.Reads as shifted
use Rattle.geometry.proofs.math.uint_min.Kinds as uint_min_kinds
use Rattle.geometry.proofs.math.uint_min.Reads as uint_min
use Rattle.geometry.proofs.math.uint_max.Kinds as uint_max_kinds
use Rattle.geometry.proofs.math.uint_max.Reads as uint_max
use Rattle.geometry.proofs.math.uint_adds.Kinds as uint_adds_kinds
use Rattle.geometry.proofs.math.uint_adds.Reads as uint_adds
use Rattle.geometry.proofs.math.wrapping_mul.Kinds as wrapping_mul_kinds
use Rattle.geometry.proofs.math.wrapping_mul.Reads as wrapping_mul
use Rattle.geometry.proofs.math.uint_ceildiv.Kinds as uint_ceildiv_kinds
use Rattle.geometry.proofs.math.uint_ceildiv.Reads as uint_ceildiv
use Rattle.geometry.proofs.math.uint64_ceildiv_res_uint32.Kinds as uint64_ceildiv_res_uint32_kinds
use Rattle.geometry.proofs.math.uint64_ceildiv_res_uint32.Reads as uint64_ceildiv_res_uint32
use Rattle.geometry.proofs.math.uint_floordivpow2.Kinds as uint_floordivpow2_kinds
use Rattle.geometry.proofs.math.uint_floordivpow2.Reads as uint_floordivpow2
use Rattle.geometry.proofs.math.uint_ceildivpow2.Kinds as uint_ceildivpow2_kinds
use Rattle.geometry.proofs.math.uint_ceildivpow2.Reads as uint_ceildivpow2
use Rattle.geometry.proofs.power.least.Kinds as least_kinds
use Rattle.geometry.proofs.power.least.Reads as least
use Rattle.geometry.proofs.power.uneven.Kinds as uneven_kinds
use Rattle.geometry.proofs.power.uneven.Reads as uneven
use Rattle.geometry.proofs.tile.tile_bounds.Kinds as tile_bounds_kinds
use Rattle.geometry.proofs.tile.tile_bounds.Reads as tile-bounds
use Rattle.geometry.proofs.precinct.component_bound.Kinds as component_bound_kinds
use Rattle.geometry.proofs.precinct.component_bound.Reads as component_bound
use Rattle.geometry.proofs.precinct.resolution_bound.Kinds as resolution_bound_kinds
use Rattle.geometry.proofs.precinct.resolution_bound.Reads as resolution_bound
use Rattle.geometry.proofs.precinct.precincts.Kinds as precincts_kinds
use Rattle.geometry.proofs.precinct.precincts.Reads as precincts

pub axis_of-determined : OneAnswer axis_of_kinds.ps axis_of_kinds.r axis-of.Post
axis_of-determined κs a r s e f = determined _ r s

pub axis_at_determined : OneAnswer axis_at_kinds.ps axis_at_kinds.r axis-at.Post
axis_at_determined κs a r s e f = determined _ r s

pub columns-determined : OneAnswer columns_kinds.ps columns_kinds.r columns.Post
columns-determined κs a r s e f = determined _ r s

pub precinct_determined : OneAnswer precinct_kinds.ps precinct_kinds.r precinct.Post
precinct_determined κs a r s e f = determined _ r s

pub step-determined : OneAnswer step_kinds.ps step_kinds.r step.Post
step-determined κs a r s e f = determined _ r s

pub meets_determined : OneAnswer meets_kinds.ps meets_kinds.r meets.Post
meets_determined κs a r s e f = determined _ r s

pub column_determined : OneAnswer column_kinds.ps column_kinds.r column.Post
column_determined κs a r s e f = determined _ r s

pub divided-determined : OneAnswer divided_kinds.ps divided_kinds.r divided.Post
divided-determined κs a r s e f = determined _ r s

pub shifted_determined : OneAnswer shifted_kinds.ps shifted_kinds.r shifted.Post
shifted_determined κs a r s e f = determined _ r s

pub uint_min_determined : OneAnswer uint_min_kinds.ps uint_min_kinds.r uint_min.Post
uint_min_determined κs a r s e f = determined _ r s

pub uint_max_determined : OneAnswer uint_max_kinds.ps uint_max_kinds.r uint_max.Post
uint_max_determined κs a r s e f = determined _ r s

pub uint_adds_determined : OneAnswer uint_adds_kinds.ps uint_adds_kinds.r uint_adds.Post
uint_adds_determined κs a r s e f = determined _ r s

pub wrapping_mul_determined : OneAnswer wrapping_mul_kinds.ps wrapping_mul_kinds.r wrapping_mul.Post
wrapping_mul_determined κs a r s e f = determined _ r s

pub uint_ceildiv_determined : OneAnswer uint_ceildiv_kinds.ps uint_ceildiv_kinds.r uint_ceildiv.Post
uint_ceildiv_determined κs a r s e f = determined_by of_word word_apart _ r s

pub uint64_ceildiv_res_uint32_determined : OneAnswer uint64_ceildiv_res_uint32_kinds.ps uint64_ceildiv_res_uint32_kinds.r uint64_ceildiv_res_uint32.Post
uint64_ceildiv_res_uint32_determined κs a r s e f = determined_by of_word word_apart _ r s

pub uint_floordivpow2_determined : OneAnswer uint_floordivpow2_kinds.ps uint_floordivpow2_kinds.r uint_floordivpow2.Post
uint_floordivpow2_determined κs a r s e f = determined_by of_word word_apart _ r s

pub uint_ceildivpow2_determined : OneAnswer uint_ceildivpow2_kinds.ps uint_ceildivpow2_kinds.r uint_ceildivpow2.Post
uint_ceildivpow2_determined κs a r s e f = determined_by of_word word_apart _ r s

pub least-determined : OneAnswer least_kinds.ps least_kinds.r least.Post
least-determined κs a r s e f = determined _ r s

pub uneven-determined : OneAnswer uneven_kinds.ps uneven_kinds.r uneven.Post
uneven-determined κs a r s e f = determined _ r s

pub tile_bounds_determined : OneAnswer tile_bounds_kinds.ps tile_bounds_kinds.r tile-bounds.Post
tile_bounds_determined κs a r s e f = determined_by of_tile tile-apart _ r s

pub component_bound_determined : OneAnswer component_bound_kinds.ps component_bound_kinds.r component_bound.Post
component_bound_determined κs a r s e f = determined_by of_word word_apart _ r s

pub resolution_bound_determined : OneAnswer resolution_bound_kinds.ps resolution_bound_kinds.r resolution_bound.Post
resolution_bound_determined κs a r s e f = determined_by of_word word_apart _ r s

pub precincts-determined : OneAnswer precincts_kinds.ps precincts_kinds.r precincts.Post
precincts-determined κs a r s e f = determined_by of_word word_apart _ r s
