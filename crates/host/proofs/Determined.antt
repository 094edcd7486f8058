-- Each export's contract allows one answer and one later content of what is lent. Assumes nothing.
use mathlib.Core.Path.{◌≡◌, sym, ◌∙◌}
use borrow.Fn.Kinds.{Dens, res_t, ended_of}
use contract.Lifetimes.{Lfts}
use denote.Triple.Clauses.{AtExit}
use Rattle.laws.specs.Determined.{OneAnswer}
use Rattle.host.proofs.bonxigarth_whole_run.Kinds as whole_run_kinds
use Rattle.host.proofs.bonxigarth_whole_run.Reads as whole_run
use Rattle.host.proofs.bonxigarth_setup.Kinds as setup_kinds
use Rattle.host.proofs.bonxigarth_setup.Reads as setup
use Rattle.host.proofs.bonxigarth_tile_bounds.Kinds as tile_bounds_kinds
use Rattle.host.proofs.bonxigarth_tile_bounds.Reads as tile-bounds

pub whole_run_determined : OneAnswer whole_run_kinds.ps whole_run_kinds.r whole_run.Post
whole_run_determined κs a r s e f p q = p.0 ∙ sym q.0

pub whole_run_leaves : (κs : Lfts 4) (a : Dens κs whole_run_kinds.ps) (r s : (res_t whole_run_kinds.r κs).Denot) (e f : AtExit (ended_of 4 whole_run_kinds.ps whole_run_kinds.r) κs)
    → whole_run.Post κs a r e → whole_run.Post κs a s f
    → (e.1.0.now ≡ f.1.0.now) × (e.1.1.0.now ≡ f.1.1.0.now) × (e.1.1.1.0.now ≡ f.1.1.1.0.now)
whole_run_leaves κs a r s e f p q = (p.1.0 ∙ sym q.1.0, p.1.1.0 ∙ sym q.1.1.0, p.1.1.1 ∙ sym q.1.1.1)

pub setup-determined : OneAnswer setup_kinds.ps setup_kinds.r setup.Post
setup-determined κs a r s e f p q = p.0 ∙ sym q.0

pub setup_leaves : (κs : Lfts 4) (a : Dens κs setup_kinds.ps) (r s : (res_t setup_kinds.r κs).Denot) (e f : AtExit (ended_of 4 setup_kinds.ps setup_kinds.r) κs)
    → setup.Post κs a r e → setup.Post κs a s f
    → (e.1.0.now ≡ f.1.0.now) × (e.1.1.0.now ≡ f.1.1.0.now) × (e.1.1.1.0.now ≡ f.1.1.1.0.now)
setup_leaves κs a r s e f p q = (p.1.0 ∙ sym q.1.0, p.1.1.0 ∙ sym q.1.1.0, p.1.1.1 ∙ sym q.1.1.1)

pub tile_bounds_determined : OneAnswer tile_bounds_kinds.ps tile_bounds_kinds.r tile-bounds.Post
tile_bounds_determined κs a r s e f p q = p.0 ∙ sym q.0

pub tile_bounds_leaves : (κs : Lfts 1) (a : Dens κs tile_bounds_kinds.ps) (r s : (res_t tile_bounds_kinds.r κs).Denot) (e f : AtExit (ended_of 1 tile_bounds_kinds.ps tile_bounds_kinds.r) κs)
    → tile-bounds.Post κs a r e → tile-bounds.Post κs a s f
    → e.1.1.1.1.1.1.1.1.1.1.1.0.now ≡ f.1.1.1.1.1.1.1.1.1.1.1.0.now
tile_bounds_leaves κs a r s e f p q = p.1 ∙ sym q.1
