-- Spans: the numbers from a up to b, one after the other. Assumes nothing.
use Rattle.std.specs.Prelude.{◌≡◌, List, [], ◌∷◌, ◌++◌, map, ℕ, zero, suc, ◌+◌, ◌-◌, ◌*◌, ◌≤◌, ◌<◌}
use Rattle.std.proofs.Common.{sym, ap, ◌∙◌, ⊎_elim, add-mul, mul_comm, zero-mul, mul-le-mul_right, arith}
use Rattle.std.proofs.Math.Path.{fun_ext}
use Rattle.laws.specs.Cases.{le_or_lt}
use Rattle.laws.specs.Gather.{gather, gather-map, map-map}
use Rattle.laws.specs.Axis.{axis_head, axis_end, up, up_grows, span}

pub span_head : (a b : ℕ) → a < b → span a b ≡ a ∷ span (a + 1) b
span_head a b h = axis_head up up_grows a b h

pub span_end : (a b : ℕ) → b ≤ a → span a b ≡ []
span_end a b h = axis_end up a b h

-- what holds at the end and is handed down from a + 1 to a holds of every a
module _ (P : ℕ → Type 0) (b : ℕ) (ended : (a : ℕ) → b ≤ a → P a) (down : (a : ℕ) → a < b → P (a + 1) → P a) where
  by_fuel : (n a : ℕ) → b - a ≤ n → P a
  by_fuel zero a h = ended a (omega arith)
  by_fuel (suc n) a h = ⊎_elim (λ k. ended a k) (λ k. down a k (by_fuel n (a + 1) (omega arith))) (le_or_lt b a)

  pub by_span : (a : ℕ) → P a
  by_span a = by_fuel (b - a) a (omega arith)

-- two functions that agree from a to b
module _ {B : Type 0} (b : ℕ) where
  pub gather_on : (f g : ℕ → List B) (a : ℕ) → ((z : ℕ) → a ≤ z → z < b → f z ≡ g z) → gather f (span a b) ≡ gather g (span a b)
  unfolding gather
  gather_on f g =
      by_span (λ a. ((z : ℕ) → a ≤ z → z < b → f z ≡ g z) → gather f (span a b) ≡ gather g (span a b)) b
      (λ a h e. rw (span_end a b h))
      (λ a h ih e. rw (span_head a b h, e a (omega arith) h, ih (λ z p q. e z (omega arith) q)))

  pub map_on : (f g : ℕ → B) (a : ℕ) → ((z : ℕ) → a ≤ z → z < b → f z ≡ g z) → map f (span a b) ≡ map g (span a b)
  map_on f g =
      by_span (λ a. ((z : ℕ) → a ≤ z → z < b → f z ≡ g z) → map f (span a b) ≡ map g (span a b)) b
      (λ a h e. rw (span_end a b h))
      (λ a h ih e. rw (span_head a b h, e a (omega arith) h, ih (λ z p q. e z (omega arith) q)))

pub span-append : (c b a : ℕ) → a ≤ b → b ≤ c → span a b ++ span b c ≡ span a c
span-append c b =
    by_span (λ a. a ≤ b → b ≤ c → span a b ++ span b c ≡ span a c) b
    (λ a h p q. let e : a ≡ b = omega arith in rw (span_end a b h, e))
    (λ a h ih p q. rw (span_head a b h, span_head a c (omega arith), ih (omega arith) q))

-- the numbers less what comes before them
pub span_shift : (c b a : ℕ) → c ≤ a → map (λ k. k - c) (span a b) ≡ span (a - c) (b - c)
span_shift c b =
    by_span (λ a. c ≤ a → map (λ k. k - c) (span a b) ≡ span (a - c) (b - c)) b
    (λ a h p. rw (span_end a b h, span_end (a - c) (b - c) (omega arith)))
    (λ a h ih p.
    let e : a - c + 1 ≡ a + 1 - c = omega arith in rw (span_head a b h, span_head (a - c) (b - c) (omega arith), e, ih (omega arith)))

pub span_raise : (c b a : ℕ) → map (λ k. k + c) (span a b) ≡ span (a + c) (b + c)
span_raise c b =
    by_span (λ a. map (λ k. k + c) (span a b) ≡ span (a + c) (b + c)) b
    (λ a h. rw (span_end a b h, span_end (a + c) (b + c) (omega arith)))
    (λ a h ih.
    let e : a + c + 1 ≡ a + 1 + c = omega arith in rw (span_head a b h, span_head (a + c) (b + c) (omega arith), e, ih))

-- rows of w, one after the other
pub rows : (w b a : ℕ) → gather (λ j. map (λ i. i + j * w) (span 0 w)) (span a b) ≡ span (a * w) (b * w)
unfolding gather
rows w b =
    by_span (λ a. gather (λ j. map (λ i. i + j * w) (span 0 w)) (span a b) ≡ span (a * w) (b * w)) b
    (λ a h. rw (span_end a b h, span_end (a * w) (b * w) (mul-le-mul_right w h)))
    (λ a h ih.
    let m : (a + 1) * w ≤ b * w = mul-le-mul_right w (omega arith) in
    let e : (a + 1) * w ≡ w + a * w = omega (arith, add-mul a 1 w) in
    let z : 0 + a * w ≡ a * w = omega arith in
    rw (span_head a b h, ih, span_raise (a * w) w 0, e, z)
    (span-append (b * w) (w + a * w) (a * w) (omega arith) (omega arith)))

-- columns 0, 1, .. by rows 0, 1, .. give 0, 1, ..
pub grid : {A B : Type 0} (f : B → ℕ) (g : A → ℕ) (xs : List B) (ys : List A) (w h : ℕ) → map f xs ≡ span 0 w → map g ys ≡ span 0 h
    → gather (λ y. map (λ x. f x + g y * w) xs) ys ≡ span 0 (w * h)
grid f g xs ys w h p q =
    ap (λ r. gather r ys) (fun_ext (λ y. sym (map-map (λ i. i + g y * w) f xs) ∙ rw p))
    ∙ sym (gather-map (λ j. map (λ i. i + j * w) (span 0 w)) g ys)
    ∙ rw q (rw (zero-mul w, mul_comm h w) at (rows w h 0))
