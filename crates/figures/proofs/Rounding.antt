-- Whole numbers up to 2^53 are exact as doubles, so that a division of two of them rounds their quotient once. The quotient is finite, and
-- it is 1.0 exactly if the two are equal. Assumes nothing.
use mathlib.Core.Path.{◌≡◌, refl, sym, ap, ◌∙◌, subst}
use mathlib.Core.Logic.{◌⊎◌, ◌↔◌, inl, inr}
use mathlib.Core.Bool.{Bool, true, false, cond, true≢false}
use Prim.Native.Nat.{ℕ, suc, ◌-◌, ◌*◌, ◌^◌, ◌≤◌, ◌<◌}
use native.Mathlib.Nat.{mul-one, one-mul, mul-pos, mul_comm, mul_assoc, mul_left_comm, eq-or-lt_of_le, le-mul_of_pos_right}
use native.Mathlib.Omega.{arith}
use borrow.Author.Tests.{ne_eqb}
use lib.Dec.{T, eqb, ltb, lit<, le→leb, lt→ltb}
use lib.IntN.{ℤ, pos, negsuc, nat_abs}
use lib.Ieee.{Float, nan, inf, fin, binary64, prec, low, up, down, unlike, size, odd, units, round, div, of_int, lt, eq, le, in_float, to_bits}
use lib.Ieee.Fits.{down_pos, round_is}
use lib.Ieee.Exact.{HasValue, odd_sign}
use lib.Ieee.Back.{round_whole}
use lib.Ieee.Order.{drop, kept, round_mono}
use lib.Ieee.Scale.{round_same, overflow, finite}
use lib.Ieee.Positive.{first_pos}
use mir.Syntax.{w32}
use mir.Val.{SFits, to_z, of_z}
use mir.ValLaws.{to_z-of_z}
use Rattle.figures.specs.Quotient.{exact, rounded}

-- ---- one rounding
-- the quotient of two doubles that are n and d is that of n and d, rounded
same_quotient : (n d p q e g : ℕ) → p * 1 ≡ n * e → q * 1 ≡ d * g → p * g * d ≡ n * (q * e)
same_quotient n d p q e g h k =
    let u : p ≡ n * e = omega arith in
    let v : q ≡ d * g = omega arith in
    rw (u, v) (simp (mul_assoc, mul_comm, mul_left_comm))

unlike_false : (t : Bool) → unlike t false ≡ t
unlike_false true = refl
unlike_false false = refl

divided : (x y : Float) (s : Bool) (n d : ℕ) → HasValue x s n 1 → HasValue y false d 1 → 0 < d → div binary64 x y ≡ round binary64 s n d
unfolding div
divided nan y s n d v w h = absurd v
divided (inf t) y s n d v w h = absurd v
divided (fin t m e) nan s n d v w h = absurd w
divided (fin t m e) (inf u) s n d v w h = absurd w
divided (fin t m e) (fin true k g) s n d v w h = absurd (true≢false w.0)
divided (fin t m e) (fin false k g) s n d v w h =
    let above : 0 < k * up g = omega (arith, w.1, mul-pos h (down_pos g)) in
    ap (λ b. cond b (cond (eqb m 0) nan (inf (unlike t false))) (round binary64 (unlike t false) (m * up e * down g) (k * up g * down e)))
    (ne_eqb k 0 (λ z. omega (arith, first_pos k (up g) above)))
    ∙ ap (λ b. round binary64 b (m * up e * down g) (k * up g * down e)) (unlike_false t ∙ v.0)
    ∙ round_same binary64 s (m * up e * down g) (k * up g * down e) n d (mul-pos above (down_pos e)) h
    (same_quotient n d (m * up e) (k * up g) (down e) (down g) v.1 w.1)

pub rounds_once : (z : ℤ) (d : ℕ) → nat_abs z ≤ exact → 0 < d → d ≤ exact
    → div binary64 (of_int binary64 z) (of_int binary64 (pos d)) ≡ rounded z d
unfolding of_int rounded
rounds_once (pos n) d h p k =
    divided (round binary64 false n 1) (round binary64 false d 1) false n d (round_whole binary64 false n h) (round_whole binary64 false d k) p
rounds_once (negsuc n) d h p k =
    divided (round binary64 true (suc n) 1) (round binary64 false d 1) true (suc n) d (round_whole binary64 true (suc n) h) (round_whole binary64 false d k) p

-- what a cast to a double asks
pub cast_exact : (z : ℤ) → nat_abs z ≤ exact → T (in_float binary64 z)
unfolding in_float
cast_exact (pos n) h = le→leb n exact h
cast_exact (negsuc n) h = lt→ltb n exact h

-- q is one division of z by d, and both are exact as doubles
pub record Divides (z : ℤ) (d : ℕ) (q : Float) : Type 0 where
  pub dividend : T (in_float binary64 z)
  pub divisor : T (in_float binary64 (pos d))
  pub quotient : q ≡ div binary64 (of_int binary64 z) (of_int binary64 (pos d))

pub divides : (z : ℤ) (d : ℕ) (q : Float) → nat_abs z ≤ exact → 0 < d → d ≤ exact → q ≡ rounded z d → Divides z d q
divides z d q h p k e =
    record { dividend = cast_exact z h; divisor = cast_exact (pos d) k; quotient = e ∙ sym (rounds_once z d h p k) }

-- a signed 32-bit number is exact, and the same read back from its bits
pub signed_exact : (z : ℤ) → SFits w32 z → nat_abs z ≤ exact
signed_exact (pos n) f = omega (arith, f.sfits)
signed_exact (negsuc n) f = omega (arith, f.sfits)

pub read_rounds_once : (z : ℤ) (d : ℕ) → SFits w32 z → 0 < d → d ≤ exact
    → div binary64 (of_int binary64 (to_z w32 (of_z w32 z))) (of_int binary64 (pos d)) ≡ rounded z d
read_rounds_once z d f p k =
    ap (λ w. div binary64 (of_int binary64 w) (of_int binary64 (pos d))) (to_z-of_z w32 z f) ∙ rounds_once z d (signed_exact z f) p k

-- a quotient of what was read back, and of equal numbers
pub read_rounded : (z : ℤ) → SFits w32 z → {w : ℤ} {d n : ℕ} → z ≡ w → d ≡ n → rounded (to_z w32 (of_z w32 z)) d ≡ rounded w n
read_rounded z f e g = let r = to_z-of_z w32 z f ∙ e in λ i. rounded (r i) (g i)

-- ---- 1.0
abbrev pub one : Float
one = fin false 1 (pos 0)

-- its bits, 3FF0 0000 0000 0000
pub one_bits : to_bits binary64 one ≡ 4607182418800017408
unfolding to_bits size
one_bits = refl

equal_one : (n : ℕ) → 0 < n → round binary64 false n n ≡ one
unfolding round
equal_one n h = round_same binary64 false n n 1 1 h (lit< tt) (mul-one n ∙ sym (one-mul n)) ∙ refl

-- the largest quotient below 1 of numbers up to 2^53 is (2^53 - 1) / 2^53, which is a double
less_not_one : (n d : ℕ) → n < d → d ≤ exact → round binary64 false n d ≡ one → ⊥
unfolding round le
less_not_one n d h k e =
    subst (λ x. T (le x (round binary64 false (exact - 1) exact))) e
    (round_mono binary64 n d (exact - 1) exact (omega arith) (lit< tt) (omega arith))

pub one_exactly : (n d : ℕ) → 0 < n → n ≤ d → d ≤ exact → (rounded (pos n) d ≡ one) ↔ (n ≡ d)
unfolding rounded
one_exactly n d p h k = (only (eq-or-lt_of_le h), λ e. ap (λ m. round binary64 false n m) (sym e) ∙ equal_one n p)
  where
    only : (n ≡ d) ⊎ (n < d) → round binary64 false n d ≡ one → n ≡ d
    only (inl e) o = e
    only (inr l) o = absurd (less_not_one n d l k o)

-- ---- finite
-- a value between 0 and a finite one
between_finite : (x y : Float) → T (le (fin false 0 (pos 0)) x) → T (le x y) → T (finite y) → T (finite x)
unfolding le lt eq
between_finite nan y a b f = absurd a
between_finite (inf true) y a b f = absurd a
between_finite (inf false) nan a b f = absurd f
between_finite (inf false) (inf t) a b f = absurd f
between_finite (inf false) (fin t m e) a b f = absurd b
between_finite (fin s m e) y a b f = tt

value_finite : (x : Float) (s : Bool) (n d : ℕ) → HasValue x s n d → T (finite x)
value_finite nan s n d v = absurd v
value_finite (inf t) s n d v = absurd v
value_finite (fin t m e) s n d v = tt

-- the sign does not matter; `round` keeps up to 54 digits, in units of 2^-1074
abbrev digits : ℕ
digits = suc (prec binary64)

abbrev least : ℕ
least = low binary64

units_finite : (s : Bool) (q k : ℕ) → T (finite (units binary64 false q k)) → T (finite (units binary64 s q k))
unfolding units
units_finite s q k = by_test (ltb (q * 2 ^ k) (overflow binary64))
  where
    by_test : (b : Bool) → T (finite (cond b (odd digits false q k least) (inf false))) → T (finite (cond b (odd digits s q k least) (inf s)))
    by_test true f = value_finite (odd digits s q k least) s (q * 2 ^ k) (2 ^ least) (odd_sign digits s q k least)
    by_test false f = absurd f

sign_finite : (s : Bool) (n d : ℕ) → T (finite (round binary64 false n d)) → T (finite (round binary64 s n d))
sign_finite s n d f =
    subst (λ x. T (finite x)) (sym (round_is binary64 s n d))
    (units_finite s (kept (prec binary64) (n * 2 ^ least) d) (drop (prec binary64) (n * 2 ^ least) d) (subst (λ x. T (finite x)) (round_is binary64 false n d) f))

round_finite : (n d : ℕ) → n ≤ exact → 0 < d → T (finite (round binary64 false n d))
unfolding round
round_finite n d h p =
    between_finite (round binary64 false n d) (round binary64 false n 1)
    (round_mono binary64 0 1 n d (lit< tt) p (omega arith))
    (round_mono binary64 n d n 1 p (lit< tt) (omega (arith, le-mul_of_pos_right n p)))
    (value_finite (round binary64 false n 1) false n 1 (round_whole binary64 false n h))

pub quotient_finite : (z : ℤ) (d : ℕ) → nat_abs z ≤ exact → 0 < d → T (finite (rounded z d))
unfolding rounded
quotient_finite (pos n) d h p = round_finite n d h p
quotient_finite (negsuc n) d h p = sign_finite true (suc n) d (round_finite (suc n) d h p)
