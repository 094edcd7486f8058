-- `make_all`: so far what is made of the entries passed is right, and nothing else was written; the entries of the next component stand from number base on.
-- Assumes nothing.
use Rattle.std.proofs.Common.{◌≡◌, sym, arith}
use Rattle.packets.specs.Tile.{res_of}
use Rattle.walks.specs.Filling.{entries_none, entries_more}
use Rattle.walks.specs.Made.{made_none, made_enter, made_more, made_leave}
use Rattle.walks.proofs.entries.make_all.Goals as goal

pub loop-c-init : goal.loop-c-init
loop-c-init g c = (sym (entries_none c.args.st.now), made_none c.args.st.now _ _)

pub loop-r-init : goal.loop-r-init
loop-r-init g c = made_enter c.args.st.now _ _ _ _ c.loop-c.invariant.1

pub loop-r-preserved : goal.loop-r-preserved
loop-r-preserved g c =
    made_more c.args.st.now _ _ _ _ _ _ _ (rw (← c.loop-c.invariant.0, ← c.of-making.ensures, ← c.at-e.ensures) c.make.ensures) c.put.ensures.there c.put.ensures.others c.loop-r.invariant

pub loop-c-preserved : goal.loop-c-preserved
loop-c-preserved g c =
    let i = c.loop-c in
    let e : c.loop-r.r ≡ res_of c.args.st.now i.c = omega arith in (
      rw i.invariant.0 (sym (entries_more c.args.st.now i.c)),
      made_leave c.args.st.now _ _ _ _ (rw e at c.loop-r.invariant),
    )

pub returns : goal.returns
returns g c = let e : c.loop-c.c ≡ c.args.st.now.components = omega arith in rw e at c.loop-c.invariant.1
