-- All the progressions in turn, over the same marks: what is listed, and that their order does not matter. Assumes nothing.
use Rattle.std.specs.Prelude.{◌≡◌, Bool, true, false, not, length, get_or, eqb}
use Rattle.std.proofs.Math.Path.{refl, sym, ap}
use Rattle.std.proofs.Common.{◌∙◌, ⊎_elim, arith, eq-eqb, ne_eqb, eqb-true}
use mathlib.Core.List.Memᴰ.{cases_cons as in_cons}
use mathlib.Core.List.Memᴰ.{cast as in_cast}
use mathlib.Core.List.Memᴰ.{head as here}
use mathlib.Core.List.Memᴰ.{map as in_map}
use mathlib.Core.List.Memᴰ.{not-nil as not_in_nil}
use mathlib.Core.List.Memᴰ.{of_map as in_of_map}
use mathlib.Core.List.Memᴰ.{tail as there}
use mathlib.Core.List.{List, [], ◌∷◌, ◌++◌, map, Memᴰ as In}
use Prim.Native.Nat.{ℕ, suc, ◌+◌, ◌≤◌, ◌<◌}
use Rattle.std.proofs.lemmas.Bool.{eqb-false, not-true, not-false}
use Rattle.laws.specs.Cases.{split}
use Rattle.laws.specs.Gather.{gather}
use Rattle.laws.specs.Lists.{NoRepeats, none, more, Rearranged, rearranged_in, rearranged_from, rearranged_by}
use Rattle.laws.specs.Marks.{free_at, marked_byte, mark-length, taken_self, free_other}
use Rattle.laws.specs.Runs.{fresh, Ran, run, run-lists, free, mark, unlisted, unlisted-free, unlisted-taken, marked}
use Rattle.laws.specs.Listing.{indexes, Fits, length-marked, marked_in, marked_out, listed-of, listed-was, listed_once, unlisted-append, marked-append, same-listed, same-marks, unlisted-within}
use Rattle.laws.specs.Gathered.{gathered, gathered_from}

-- what all the runs list, and the marks that they leave
pub record Listing (P : Type 0) : Type 0 where
  pub packets : List P
  pub marks : List ℕ

-- one list after the other
abbrev pub joined : {P : Type 0} → List (List P) → List P
joined pss = gather (λ ps. ps) pss

-- i is one of these
unfoldable pub has : ℕ → List ℕ → Bool
has i [] = false
has i (j ∷ js) = elim (eqb i j) [ true ↦ true | false ↦ has i js ]

has_self : (i j : ℕ) (js : List ℕ) → eqb i j ≡ true → has i (j ∷ js) ≡ true
unfolding has
has_self i j js e = rw (has, e)

has_other : (i j : ℕ) (js : List ℕ) → eqb i j ≡ false → has i (j ∷ js) ≡ has i js
unfolding has
has_other i j js e = rw (has, e)

module _ {P : Type 0} (ix : P → ℕ) where
  -- the positions whose index was not seen before
  unfoldable pub unseen : List ℕ → List P → List P
  unseen seen [] = []
  unseen seen (p ∷ ps) = elim (has (ix p) seen) [ true ↦ unseen seen ps | false ↦ p ∷ unseen (ix p ∷ seen) ps ]

  -- of the positions with one index, the first
  abbrev pub dedupe : List P → List P
  dedupe ps = unseen [] ps

  module _ (seen : List ℕ) (p : P) (ps : List P) where
    unseen_old : has (ix p) seen ≡ true → unseen seen (p ∷ ps) ≡ unseen seen ps
    unfolding unseen
    unseen_old e = rw (unseen, e)

    unseen-new : has (ix p) seen ≡ false → unseen seen (p ∷ ps) ≡ p ∷ unseen (ix p ∷ seen) ps
    unfolding unseen
    unseen-new e = rw (unseen, e)

module _ {P : Type 0} (v : ℕ) (ix : P → ℕ) where
  -- below n, the marks that are free are those of the indexes not seen
  abbrev Agrees : ℕ → List ℕ → List ℕ → Type 0
  Agrees n m seen = (i : ℕ) → i < n → free_at v m i ≡ not (has i seen)

  agrees-mark : (n : ℕ) (m seen : List ℕ) (p : P) → n ≤ length m → Agrees n m seen → Agrees n (mark v ix m p) (ix p ∷ seen)
  agrees-mark n m seen p h a i k =
      split (eqb i (ix p))
      (λ t.
      let e : i ≡ ix p = eqb-true i (ix p) t in
      let g : ix p < length m = omega arith in
      rw (has_self i (ix p) seen t, e) (taken_self v m (ix p) g))
      (λ t. rw (has_other i (ix p) seen t) (free_other v m (ix p) i (eqb-false i (ix p) t) ∙ a i k))

  unlisted-unseen : (n : ℕ) (m seen : List ℕ) (ps : List P) → n ≤ length m → Agrees n m seen
      → ((i : ℕ) → In i (indexes ix ps) → i < n) → unlisted v ix m ps ≡ unseen ix seen ps
  unfolding unlisted unseen
  unlisted-unseen n m seen [] h a f = refl
  unlisted-unseen n m seen (p ∷ ps) h a f =
      split (free v ix m p)
      (λ t.
      unlisted-free v ix m p ps t
      ∙ ap (λ (l : List P). p ∷ l) (unlisted-unseen n (mark v ix m p) (ix p ∷ seen) ps (rw (mark-length v m (ix p)) h) (agrees-mark n m seen p h a) (λ i q. f i (there q)))
      ∙ sym (unseen-new ix seen p ps (not-true _ (sym (a (ix p) (f (ix p) (here refl))) ∙ t))))
      (λ t.
      unlisted-taken v ix m p ps t
      ∙ unlisted-unseen n m seen ps h a (λ i q. f i (there q))
      ∙ sym (unseen_old ix seen p ps (not-false _ (sym (a (ix p) (f (ix p) (here refl))) ∙ t))))

  -- from marks that are free, what is unlisted is the list with what has an index already listed left out
  pub unlisted-dedupe : (n : ℕ) (m : List ℕ) (ps : List P) → n ≤ length m → ((i : ℕ) → i < n → free_at v m i ≡ true)
      → ((i : ℕ) → In i (indexes ix ps) → i < n) → unlisted v ix m ps ≡ dedupe ix ps
  unfolding has
  unlisted-dedupe n m ps h z f = unlisted-unseen n m [] ps h z f

-- how often i occurs
unfoldable pub count : ℕ → List ℕ → ℕ
count i [] = 0
count i (j ∷ js) = elim (eqb i j) [ true ↦ suc (count i js) | false ↦ count i js ]

count_none : (i : ℕ) (js : List ℕ) → (In i js → ⊥) → count i js ≡ 0
unfolding count
count_none i [] n = refl
count_none i (j ∷ js) n = rw (count, ne_eqb i j (λ e. n (here e))) (count_none i js (λ q. n (there q)))

-- in a list with no repeats an element occurs once
pub count-one : (i : ℕ) {js : List ℕ} → NoRepeats js → In i js → count i js ≡ 1
unfolding count
count-one i none q = absurd (not_in_nil q)
count-one i (more {x = j} {xs = js} n u) q =
    ⊎_elim
    (λ e. rw (count, eq-eqb i j e) (ap suc (count_none i js (λ k. n (in_cast (sym e) k)))))
    (λ k. rw (count, ne_eqb i j (λ e. n (in_cast (sym e) k))) (count-one i u k))
    (in_cons q)

module _ {P : Type 0} (ix : P → ℕ) where
  -- the indexes of all positions of all progressions are below n
  abbrev pub Below : ℕ → List (List P) → Type 0
  Below n pss = (ps : List P) → In ps pss → (p : P) → In p ps → ix p < n

  joined-below : (n : ℕ) (pss : List (List P)) → Below n pss → (i : ℕ) → In i (indexes ix (joined pss)) → i < n
  joined-below n pss f i q =
      let r = in_of_map ix (joined pss) q in
      let s = gathered_from (λ ps. ps) pss r.1 in
      let k : ix r.0 < n = f s.0 s.1 r.0 s.2 in
      rw r.2 at k

module _ {P : Type 0} (v : ℕ) (ix : P → ℕ) where
  -- what all the runs list and leave, by what is unlisted
  abbrev pub listing : List (List P) → List ℕ → Listing P
  listing pss m = record { packets = unlisted v ix m (joined pss); marks = marked v ix m (unlisted v ix m (joined pss)) }

  -- what is right of all runs from marks m, which are free where they are needed
  pub record Complete (pss : List (List P)) (m : List ℕ) (r : Listing P) : Type 0 where
    pub order : r.packets ≡ dedupe ix (joined pss)
    pub set-marks : (i : ℕ) → In i (indexes ix r.packets) → get_or r.marks i 0 ≡ marked_byte v (get_or m i 0)
    pub other_marks : (i : ℕ) → (In i (indexes ix r.packets) → ⊥) → get_or r.marks i 0 ≡ get_or m i 0
    pub size : length r.marks ≡ length m
    pub at_most_once : NoRepeats (indexes ix r.packets)
    pub every : (ps : List P) → In ps pss → (p : P) → In p ps → count (ix p) (indexes ix r.packets) ≡ 1

  module _ (pss : List (List P)) (m : List ℕ) (n : ℕ) (enough : n ≤ length m) (below : Below ix n pss) where
    fits : Fits ix m (joined pss)
    fits i q = omega (arith, joined-below ix n pss below i q)

    listing-complete : ((i : ℕ) → i < n → free_at v m i ≡ true) → Complete pss m (listing pss m)
    listing-complete z =
        record {
          order = unlisted-dedupe v ix n m (joined pss) enough z (joined-below ix n pss below);
          set-marks = λ i q.
              marked_in v ix m (unlisted v ix m (joined pss)) i (fits i (listed-was v ix m (joined pss) fits i q).member) q;
          other_marks = λ i q. marked_out v ix m (unlisted v ix m (joined pss)) i q;
          size = length-marked v ix m (unlisted v ix m (joined pss));
          at_most_once = listed_once v ix m (joined pss) fits;
          every = λ ps q p h.
              count-one (ix p) (listed_once v ix m (joined pss) fits)
              (listed-of v ix m (joined pss) (ix p) (z (ix p) (below ps q p h)) (in_map ix (gathered (λ l. l) q h)));
        }

module _ {P : Type 0} (ix : P → ℕ) where
  -- two orders of the same progressions
  module _ (pss qss : List (List P)) (w : Rearranged pss qss) where
    joined_in : (p : P) → In p (joined pss) → In p (joined qss)
    joined_in p q = let s = gathered_from (λ l. l) pss q in gathered (λ l. l) (rearranged_in w s.1) s.2

    joined_from : (p : P) → In p (joined qss) → In p (joined pss)
    joined_from p q = let s = gathered_from (λ l. l) qss q in gathered (λ l. l) (rearranged_from w s.1) s.2

  indexes_in : (ps qs : List P) → ((p : P) → In p ps → In p qs) → (i : ℕ) → In i (indexes ix ps) → In i (indexes ix qs)
  indexes_in ps qs h i q = let r = in_of_map ix ps q in in_cast (sym r.2) (in_map ix (h r.0 r.1))

module _ {P : Type 0} (same : Discrete P) (v : ℕ) (ix : P → ℕ) where
  -- all the progressions in turn, each run from a fresh cursor to its end, over the marks as the one before has left them
  unfoldable pub run_all : List (List P) → List ℕ → Listing P
  run_all [] m = record { packets = []; marks = m }
  run_all (ps ∷ pss) m =
      let r = run same v ix (length ps + 1) ps m fresh in
      let s = run_all pss r.marks in
      record { packets = r.packets ++ s.packets; marks = s.marks }

  abbrev pub NoneRepeats : List (List P) → Type 0
  NoneRepeats pss = (ps : List P) → In ps pss → NoRepeats ps

  -- for any marks: what is unlisted of the joined progressions
  pub run-all : (pss : List (List P)) (m : List ℕ) → NoneRepeats pss → run_all pss m ≡ listing v ix pss m
  unfolding run_all gather unlisted marked
  run-all [] m u = refl
  run-all (ps ∷ pss) m u =
      let l : List P = unlisted v ix m ps in
      let k : List ℕ = marked v ix m l in
      ap
      (λ (r : Ran P). let s = run_all pss r.marks in record { packets = r.packets ++ s.packets; marks = s.marks })
      (run-lists same v ix ps (u ps (here refl)) (length ps + 1) m (omega arith))
      ∙ ap (λ (s : Listing P). record { packets = l ++ s.packets; marks = s.marks }) (run-all pss k (λ qs q. u qs (there q)))
      ∙ ap (λ (n : List ℕ). record { packets = l ++ unlisted v ix k (joined pss); marks = n }) (sym (marked-append v ix m l (unlisted v ix k (joined pss))))
      ∙ ap (λ (l : List P). record { packets = l; marks = marked v ix m l }) (sym (unlisted-append v ix m ps (joined pss)))

  -- R2: all progressions from marks that are free where they are needed
  pub run_all-complete : (pss : List (List P)) (m : List ℕ) (n : ℕ) → NoneRepeats pss
      → n ≤ length m → Below ix n pss → ((i : ℕ) → i < n → free_at v m i ≡ true) → Complete v ix pss m (run_all pss m)
  run_all-complete pss m n u h b z = rw (run-all pss m u) (listing-complete v ix pss m n h b z)

  -- R3: the order of the progressions does not matter, whatever the marks
  pub record Alike (r s : Listing P) : Type 0 where
    pub marks : r.marks ≡ s.marks
    pub rearranged : Rearranged (indexes ix r.packets) (indexes ix s.packets)

  pub order_free : (pss qss : List (List P)) (m : List ℕ) → Rearranged pss qss → NoneRepeats pss → Below ix (length m) pss
      → Alike (run_all pss m) (run_all qss m)
  order_free pss qss m w u b =
      rw (run-all pss m u, run-all qss m (λ ps q. u ps (rearranged_from w q)))
      (record {
        marks = same-marks v ix m (joined pss) (joined qss) f to from;
        rearranged = same-listed v ix m (joined pss) (joined qss) f to from;
      })
    where
      f : Fits ix m (joined pss)
      f = joined-below ix (length m) pss b

      to : (i : ℕ) → In i (indexes ix (joined pss)) → In i (indexes ix (joined qss))
      to = indexes_in ix (joined pss) (joined qss) (joined_in ix pss qss w)

      from : (i : ℕ) → In i (indexes ix (joined qss)) → In i (indexes ix (joined pss))
      from = indexes_in ix (joined qss) (joined pss) (joined_from ix pss qss w)

  -- the same of the packets, where an index belongs to one packet only
  pub order_free_packets : {Q : Type 0} (packet : P → Q) (pss qss : List (List P)) (m : List ℕ)
      → Rearranged pss qss → NoneRepeats pss → Below ix (length m) pss
      → ((p q : P) → In p (joined pss) → In q (joined pss) → ix p ≡ ix q → packet p ≡ packet q)
      → Rearranged (map packet (run_all pss m).packets) (map packet (run_all qss m).packets)
  order_free_packets packet pss qss m w u b h =
      rearranged_by ix packet (run_all pss m).packets (run_all qss m).packets
      (λ p q i j. h p q (listed pss u p i) (joined_from ix pss qss w q (listed qss (λ ps k. u ps (rearranged_from w k)) q j)))
      (order_free pss qss m w u b).rearranged
    where
      listed : (rss : List (List P)) → NoneRepeats rss → (p : P) → In p (run_all rss m).packets → In p (joined rss)
      listed rss u p i = unlisted-within v ix m (joined rss) p (rw (run-all rss m u) at i)
