-- `rlcp` meets its contract. Each of the four loops keeps one thing, for every sheet and range that the walk is counted for (`Kept`): nothing is found yet, and
-- what is left at this loop answers as what was to be searched at entry. A turn is one law of specs/Rlcp or specs/Counts. Assumes nothing.
use Rattle.std.proofs.Common.{arith}
use Rattle.walks.specs.Going.{starts, onward, splits, ends}
use Rattle.walks.specs.Counts.{Stands, held, mark-fits, into_c, past_c, past_k, next_k, found_k}
use Rattle.walks.specs.Rlcp.{in_l, out_l, in_r, out_r}
use Rattle.walks.proofs.rlcp.rlcp.Goals as goal
use Rattle.walks.proofs.rlcp.rlcp.Goals.{In-cs}

-- the numbers of the loops stand inside the ranges
stands : (c : In-cs) → Stands c.args.w c.ls.l c.search.r c.cs.c
stands c =
    record {
      level = record { layer = c.ls-test.true; res_from = omega arith; res_to = c.search-test.true };
      comp_from = omega arith;
      comp_to = c.cs-test.true;
    }

pub search-init : goal.search-init
search-init c = let p = c.requires.resno0_le_from in (p.1, starts _ _ _ _)

pub ls-init : goal.ls-init
ls-init c = let i = c.search.invariant in (i.0, onward _ _ _ _ _ i.1 _ (λ s g h. in_r s g _ _ _ h _ _ _ _ c.search-test.true))

pub cs-init : goal.cs-init
cs-init c = splits _ _ _ _ _ c.ls.invariant.1 _ _ (λ s g h. in_l s g _ _ _ h _ _ _ _ c.ls-test.true)

pub at-count-requires : goal.at-count-requires
at-count-requires c = let p = c.requires.some_counted in (omega arith, held p.0 p.1.0 _ _ _ p.1.1 _ _ _ (stands (goal.at.at-count-requires c).In-cs))

pub ks-init : goal.ks-init
ks-init c = into_c _ _ _ _ _ _ _ _ _ c.cs-test.true c.cs.invariant

pub index-requires : goal.index-requires
index-requires c =
    let p = c.requires.some_counted in
    mark-fits p.0 p.1.0 _ _ _ p.1.1 _ _ _ (stands (goal.at.index-requires c).In-cs) _ (c.at-count.ensures 0) _ c.ks-test.true

pub ks-preserved : goal.ks-preserved
ks-preserved c =
    next_k _ _ _ _ _ _ _ _ _ (stands (goal.at.ks-preserved c).In-cs) _ (c.at-count.ensures 0) c.ks-test.true _ _ c.index.ensures c.is_free.ensures c.ks.invariant c.if-is_free.false

pub cs-preserved : goal.cs-preserved
cs-preserved c = rw c.first-at.ensures (past_k _ _ _ _ _ _ _ _ _ (stands (goal.at.cs-preserved c).In-cs) _ (c.at-count.ensures 0) c.ks-test.false c.ks.invariant)

pub ls-preserved : goal.ls-preserved
ls-preserved c = rw c.first-at-in-ls.ensures (omega arith, past_c _ _ _ _ _ _ _ _ _ c.cs-test.false c.cs.invariant)

pub search-preserved : goal.search-preserved
search-preserved c = rw c.first-at-in-search.ensures (omega arith, onward _ _ _ _ _ c.ls.invariant.1 _ (λ s g h. out_l s g _ _ _ h _ _ _ _ c.ls-test.false))

-- left by the outermost loop's end: nothing is left
pub returns-after-search : goal.returns-after-search
returns-after-search c = ends _ _ _ _ _ c.search.invariant.1 (λ s g h. out_r s g _ _ _ h _ _ _ _ c.search-test.false)

-- left by the break: what is free is found
pub returns-then-is_free : goal.returns-then-is_free
returns-then-is_free c =
    found_k _ _ _ _ _ _ _ _ _ (stands (goal.at.returns-then-is_free c).In-cs) _ (c.at-count.ensures 0) c.ks-test.true _ _ c.index.ensures c.is_free.ensures c.ks.invariant c.if-is_free.true
