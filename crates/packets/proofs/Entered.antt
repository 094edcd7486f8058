-- An entry of the table of a sound state is what its sheet says of the resolution, and its precincts are few. Assumes nothing.
use Rattle.std.specs.Prelude.{◌≡◌, List}
use Rattle.std.proofs.Math.Path.{ap}
use Rattle.std.proofs.Common.{⊎_elim, lt-ltb}
use Prim.Native.Nat.{ℕ, ◌+◌, ◌-◌, ◌*◌, ◌≤◌, ◌<◌}
use native.Mathlib.Omega.{arith}
use Rattle.laws.specs.Cases.{le_or_lt}
use Rattle.laws.specs.Below.{sum_most}
use Rattle.words.specs.Words.{word_at}
use Rattle.types.specs.Entries.{entry_at}
use Rattle.packets.specs.Tile.{res_of, precincts, index_of, entries_before}
use Rattle.packets.specs.Table.{entry_of, entry_word, sheet_at}
use Rattle.packets.specs.Good.{Good}
use Rattle.packets.proofs.MetOnce.{precincts_in}
use Rattle.packets.specs.Inside.{Inside}
use Rattle.packets.proofs.Once.{index_below}
use Rattle.packets.specs.Meaning.{Sound, sound-means, sound-good}
use Rattle.types.specs.declared.state.State.{State}
use Rattle.types.specs.declared.cursor.Position.{Position}

module _ (st : State) (table marks : List ℕ) (w : Sound st table marks) where
  pub few_before : (c : ℕ) → c < st.components → entries_before st c ≤ 33 * c
  unfolding entries_before
  few_before c h = sum_most (res_of st) 33 c (λ i q. (w.component i (omega arith)).resolutions.1)

  -- it is one of 528
  pub entry-small : (c r : ℕ) → c < st.components → r < res_of st c → entries_before st c + r < 528
  entry-small c r h k = omega (arith, few_before c h, w.tile.components.1, (w.component c h).resolutions.1)

  pub entry_is : (c r : ℕ) → c < st.components → r < res_of st c → entry_at table (entries_before st c + r) ≡ entry_of (sheet_at st table) c r
  unfolding entry_at
  entry_is c r h k =
      let at : ℕ = entries_before st c + r in
      let e = w.entry c h r k in
      let first : word_at table (16 * at) ≡ entry_word st table 0 c r = ap (word_at table) (omega arith) in
      rw (lt-ltb at 528 (entry-small c r h k), first, e.wide, e.high)

  -- the last precinct of a resolution has a mark, so there are no more than marks
  few-of : (c r : ℕ) → c < st.components → r < res_of st c → 0 < precincts (sheet_at st table) c r → precincts (sheet_at st table) c r ≤ 65536
  unfolding index_of
  few-of c r h k n =
      let good : Good (sheet_at st table) = sound-good st table marks ((sound-means st table marks).1 w) in
      let p : Position = record { layno = 0; resno = r; compno = c; precno = precincts (sheet_at st table) c r - 1; x = 0; y = 0 } in
      let i : Inside (sheet_at st table) p = record { component = h; resolution = k; precinct = omega arith } in
      omega (arith, index_below (sheet_at st table) good p i (omega (arith, w.tile.layers.0)), w.few)

  pub few-precincts : (c r : ℕ) → c < st.components → precincts (sheet_at st table) c r ≤ 65536
  few-precincts c r h =
      ⊎_elim (λ z. omega arith) (λ z. few-of c r h (precincts_in (sheet_at st table) c r z) z) (le_or_lt (precincts (sheet_at st table) c r) 0)
