-- `lay`: the word's bytes stand in the place of four. Assumes nothing.
use Rattle.std.proofs.Common.{◌≡◌, ◌+◌, ◌-◌, ◌/◌, ◌%◌, ◌^◌, drop-drop, arith}
use Rattle.words.specs.Laws.{put_between}
use Rattle.words.proofs.lay.Goals as goal

pub returns : goal.returns
returns c =
    let a = c.args in
    let high : a.w / 2 ^ 24 % 2 ^ 8 ≡ a.w / 2 ^ 24 = omega arith in
    let long : a.at + 4 - a.at ≡ 4 = omega arith in
    rw (put_between a.s.now a.at a.w (omega arith), c.copy_from_slice.ensures.after, c.to_be_bytes.ensures, high, long, drop-drop)
