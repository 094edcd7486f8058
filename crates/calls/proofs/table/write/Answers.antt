-- `write`: after i turns the words of the first i entries are laid over the table. Assumes nothing.
use lib.ListN.{length, get_or, take}
use Prim.Native.Nat.{ℕ, ◌+◌, ◌*◌, ◌≤◌, ◌<◌}
use mathlib.Core.List.{List, [], ◌∷◌, ◌++◌, append_assoc}
use Rattle.laws.specs.Gather.{gather}
use Rattle.words.specs.Words.{put_four, words_bytes, over}
use Rattle.words.specs.Laws.{over_four}
use lib.Seq.{length-take-le, take-suc}
use native.Mathlib.Numerals.{add-one}
use mathlib.Core.Path.{◌≡◌, refl, ◌∙◌}
use native.Mathlib.Omega.{arith}
use Rattle.calls.proofs.table.write.Goals as goal

-- one entry more
module _ (ws old : List ℕ) where
  taken : (k m : ℕ) → m ≡ k + 1 → k < length ws → take m ws ≡ take k ws ++ (get_or ws k 0 ∷ [])
  taken k m e h = rw (e, add-one k) (take-suc ws k 0 h)

  four-more : (k : ℕ) → k + 4 ≤ length ws → take (k + 4) ws ≡ take k ws ++ (get_or ws k 0 ∷ get_or ws (k + 1) 0 ∷ get_or ws (k + 2) 0 ∷ get_or ws (k + 3) 0 ∷ [])
  four-more k h =
      rw (taken (k + 3) (k + 4) (omega arith) (omega arith), taken (k + 2) (k + 3) (omega arith) (omega arith), taken (k + 1) (k + 2) (omega arith) (omega arith), taken k (k + 1) (omega arith) (omega arith))
      (simp append_assoc)

  entry_more : (i : ℕ) → 4 * i + 4 ≤ length ws → 16 * i + 16 ≤ length old
      → put_four (over (words_bytes (take (4 * i) ws)) old) (16 * i) (get_or ws (4 * i) 0) (get_or ws (4 * i + 1) 0) (get_or ws (4 * i + 2) 0) (get_or ws (4 * i + 3) 0)
      ≡ over (words_bytes (take (4 * (i + 1)) ws)) old
  entry_more i h room =
      let n : length (take (4 * i) ws) ≡ 4 * i = length-take-le (4 * i) ws (omega arith) in
      let at : 16 * i ≡ 4 * length (take (4 * i) ws) = omega arith in
      let next : 4 * (i + 1) ≡ 4 * i + 4 = omega arith in
      rw (at, next, four-more (4 * i) h) (over_four (take (4 * i) ws) old _ _ _ _ (omega arith))

pub loop-i-init : goal.loop-i-init
unfolding words_bytes gather
loop-i-init c = refl

pub loop-i-preserved : goal.loop-i-preserved
loop-i-preserved c =
    let a = c.args in
    let l = c.loop-i in
    let h : 4 * l.i + 4 ≤ length a.words.now = omega (arith, c.loop-i-test.true, c.requires.0) in
    let room : 16 * l.i + 16 ≤ length a.table.now = omega (arith, c.loop-i-test.true, c.requires.1) in
    c.put_four.ensures ∙ rw l.invariant (entry_more a.words.now a.table.now l.i h room)
