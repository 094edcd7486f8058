-- Each public contract of this crate allows one answer only. Assumes nothing.
use mathlib.Core.Path.{refl}
use Rattle.laws.specs.Determined.{determined, OneAnswer, OneOutcome}
use Rattle.types.proofs.answer.I32FromRefusal.from.Kinds as number_kinds
use Rattle.types.proofs.answer.I32FromRefusal.from.Reads as number
use Rattle.types.proofs.cursor.Cursor.fresh.Kinds as fresh_kinds
use Rattle.types.proofs.cursor.Cursor.fresh.Reads as fresh
use Rattle.types.proofs.cursor.Cursor.ended.Kinds as ended_kinds
use Rattle.types.proofs.cursor.Cursor.ended.Reads as ended
use Rattle.types.proofs.followed.Followed.started.Kinds as started_kinds
use Rattle.types.proofs.followed.Followed.started.Reads as started
use Rattle.types.proofs.followed.Followed.total.Kinds as total_kinds
use Rattle.types.proofs.followed.Followed.total.Reads as total
use Rattle.types.proofs.followed.Followed.with_total.Kinds as with_total_kinds
use Rattle.types.proofs.followed.Followed.with_total.Reads as with_total_it
use Rattle.types.proofs.followed.Followed.one_less.Kinds as one_less_kinds
use Rattle.types.proofs.followed.Followed.one_less.Reads as one_less
use Rattle.types.proofs.state.Component.none.Kinds as no_component_kinds
use Rattle.types.proofs.state.Component.none.Reads as no-component
use Rattle.types.proofs.state.Progression.none.Kinds as none_kinds
use Rattle.types.proofs.state.Progression.none.Reads as none
use Rattle.types.proofs.state.State.empty.Kinds as empty_kinds
use Rattle.types.proofs.state.State.empty.Reads as empty
use Rattle.types.proofs.state.Progression.is_volume.Kinds as is_volume_kinds
use Rattle.types.proofs.state.Progression.is_volume.Reads as is_volume_it
use Rattle.types.proofs.state.Progression.in_range.Kinds as in_range_kinds
use Rattle.types.proofs.state.Progression.in_range.Reads as in_range_lem
use Rattle.types.proofs.state.State.tile_in_range.Kinds as tile_in_range_kinds
use Rattle.types.proofs.state.State.tile_in_range.Reads as tile-in-range
use Rattle.types.proofs.state.Component.in_range.Kinds as component_in_range_kinds
use Rattle.types.proofs.state.Component.in_range.Reads as component-in-range
use Rattle.types.proofs.state.State.exponents_in_range.Kinds as exponents_in_range_kinds
use Rattle.types.proofs.state.State.exponents_in_range.Reads as exponents_in_range
use Rattle.types.proofs.order.Order.of.Kinds as order_of_kinds
use Rattle.types.proofs.order.Order.of.Reads as order_of_it
use Rattle.types.proofs.order.Order.by_points.Kinds as by_points_kinds
use Rattle.types.proofs.order.Order.by_points.Reads as by_points_it
use Rattle.types.proofs.order.Range.of.Kinds as range_of_kinds
use Rattle.types.proofs.order.Range.of.Reads as range-of
use Rattle.types.proofs.order.Range.components_good.Kinds as components_good_kinds
use Rattle.types.proofs.order.Range.components_good.Reads as components-good
use Rattle.types.proofs.state.Reports.none.Kinds as no_reports_kinds
use Rattle.types.proofs.state.Reports.none.Reads as no_reports_it
use Rattle.types.proofs.table.Entry.at.Kinds as entry_at_kinds
use Rattle.types.proofs.table.Entry.at.Reads as entry_at
use Rattle.types.proofs.table.entries.Kinds as entries_kinds
use Rattle.types.proofs.table.entries.Reads as entries
use Rattle.types.proofs.mark.is_free.Kinds as is_free_kinds
use Rattle.types.proofs.mark.is_free.Reads as is_free
use Rattle.types.proofs.mark.clear.Kinds as clear_kinds
use Rattle.types.proofs.mark.clear.Reads as clear
use Rattle.types.proofs.mark.set.Kinds as set_kinds
use Rattle.types.proofs.mark.set.Reads as set

pub number-determined : OneAnswer number_kinds.ps number_kinds.r number.Post
number-determined κs a r s e f = determined _ r s

pub fresh-determined : OneAnswer fresh_kinds.ps fresh_kinds.r fresh.Post
fresh-determined κs a r s e f = determined _ r s

pub ended-determined : OneAnswer ended_kinds.ps ended_kinds.r ended.Post
ended-determined κs a r s e f = determined _ r s

pub started-determined : OneAnswer started_kinds.ps started_kinds.r started.Post
started-determined κs a r s e f = determined _ r s

pub total-determined : OneAnswer total_kinds.ps total_kinds.r total.Post
total-determined κs a r s e f = determined _ r s

pub with_total-determined : OneAnswer with_total_kinds.ps with_total_kinds.r with_total_it.Post
with_total-determined κs a r s e f = determined _ r s

pub one_less_determined : OneAnswer one_less_kinds.ps one_less_kinds.r one_less.Post
one_less_determined κs a r s e f = determined _ r s

pub component_none_determined : OneAnswer no_component_kinds.ps no_component_kinds.r no-component.Post
component_none_determined κs a r s e f = determined _ r s

pub none_determined : OneAnswer none_kinds.ps none_kinds.r none.Post
none_determined κs a r s e f = determined _ r s

pub empty_determined : OneAnswer empty_kinds.ps empty_kinds.r empty.Post
empty_determined κs a r s e f = determined _ r s

pub is_volume-determined : OneAnswer is_volume_kinds.ps is_volume_kinds.r is_volume_it.Post
is_volume-determined κs a r s e f = determined _ r s

pub in_range-determined : OneAnswer in_range_kinds.ps in_range_kinds.r in_range_lem.Post
in_range-determined κs a r s e f = determined _ r s

pub tile_in_range_determined : OneAnswer tile_in_range_kinds.ps tile_in_range_kinds.r tile-in-range.Post
tile_in_range_determined κs a r s e f = determined _ r s

pub component_in_range_determined : OneAnswer component_in_range_kinds.ps component_in_range_kinds.r component-in-range.Post
component_in_range_determined κs a r s e f = determined _ r s

pub exponents_in_range_determined : OneAnswer exponents_in_range_kinds.ps exponents_in_range_kinds.r exponents_in_range.Post
exponents_in_range_determined κs a r s e f = determined _ r s

pub order_of-determined : OneAnswer order_of_kinds.ps order_of_kinds.r order_of_it.Post
order_of-determined κs a r s e f = determined _ r s

pub by_points-determined : OneAnswer by_points_kinds.ps by_points_kinds.r by_points_it.Post
by_points-determined κs a r s e f = determined _ r s

pub range_of-determined : OneAnswer range_of_kinds.ps range_of_kinds.r range-of.Post
range_of-determined κs a r s e f = determined _ r s

pub components_good-determined : OneAnswer components_good_kinds.ps components_good_kinds.r components-good.Post
components_good-determined κs a r s e f = determined _ r s

pub no_reports-determined : OneAnswer no_reports_kinds.ps no_reports_kinds.r no_reports_it.Post
no_reports-determined κs a r s e f = determined _ r s

pub entry_at-determined : OneAnswer entry_at_kinds.ps entry_at_kinds.r entry_at.Post
entry_at-determined κs a r s e f = determined _ r s

pub entries-determined : OneAnswer entries_kinds.ps entries_kinds.r entries.Post
entries-determined κs a r s e f = determined _ r s

pub is_free_determined : OneAnswer is_free_kinds.ps is_free_kinds.r is_free.Post
is_free_determined κs a r s e f = determined _ r s

pub clear_determined : OneOutcome clear_kinds.ps clear_kinds.r clear.Post (λ κs e. e.0.now)
clear_determined κs a r s e f p q = (refl, determined _ _ _ p q)

pub set-determined : OneOutcome set_kinds.ps set_kinds.r set.Post (λ κs e. e.0.now)
set-determined κs a r s e f p q = (refl, determined _ _ _ p q)
