-- `total`: what stands at the viewer's place; beyond the last there is none. Assumes nothing.
use Rattle.std.proofs.Common.{◌≡◌, ℕ, length, get_or, Option}
use Rattle.std.specs.Option.{unwrap_or}
use Rattle.std.proofs.Common.{rules, arith, ap, ◌∙◌, ltb-false}
use Rattle.std.proofs.Math.ListN.{get_or-eq_default}
use Rattle.laws.specs.Cases.{split}
use Rattle.types.specs.Viewers.{is_viewer}
use Rattle.types.specs.Totals.{total_for}
use Rattle.types.proofs.followed.Followed.total.Goals as goal

pub returns : goal.returns
unfolding total_for
returns c =
    let a = c.args in
    let n : length a.self.totals ≡ 8 = search rules in
    let got : c.unwrap_or.result ≡ get_or a.self.totals a.viewer 0 = c.unwrap_or.ensures ∙ ap (λ (o : Option ℕ). unwrap_or o 0) c.copied.ensures ∙ c.get.ensures.lookup.4 (omega arith) 0 in
    got ∙ split (is_viewer a.viewer) (λ e. rw e) (λ e. rw e (get_or-eq_default a.self.totals 0 (rw n (ltb-false _ 8 e))))
