-- Arithmetic on ℤ: the door. A proof elsewhere names this file alone.
--
-- 1. An identity. List the numbers that are to count as variables, any number of them; `search` reads the two sides off the goal:
--        ring (a ∷ b ∷ []) (search quote depth 20) tt
--    Write `?` for `tt` to see the terms that do not cancel. What the goal names must unfold (`abbrev`, or an `unfolding` line).
--
-- 2. An order. `◌≤ᶻ◌` and `◌<ᶻ◌` are the library's `◌≤ℤ◌` and `◌<ℤ◌` and bind looser than sums. Put the hypotheses together into a
--    certificate, a number that is not negative:
--        gap≤ h       b − a           from h : a ≤ᶻ b             gap< h    b − a − 1      from h : a <ᶻ b
--        h ⊞ k        the sum                                     h ⊠ k     the product
--        3 ⋆ h        a natural multiple                          k ⋆≡ e    k (b − a)      from e : a ≡ b, any k
--        square_nonnegative a      a²                             natural 3      the number itself
--    and the goal follows if its own gap is the certificate and a constant that is not negative:
--        linear≤ ρ certificate (search quote depth 20) tt         also linear<, and linear⊥ for hypotheses that cannot all hold
--    An equation from equations: linear≡ ρ (k ∗≡ e ∔ l ∗≡ f) (search quote depth 20) tt, where k ∗≡ e is k (a − b) from e : a ≡ b.
--
-- 3. By `omega`, where no certificate comes to mind; whole turns or products are best listed as variables:
--        out≤ ρ (search quote depth 20) (omega (arith, in≤ ρ h (search quote depth 20), in≡ ρ e (search quote depth 20)))
--
-- 4. By cases: `sign`, `le_or_lt`. Products: `product_positive`, `nonnegative_factor`, `positive_factor`, `zero_factor`, `zero_product`,
--    and the laws below. Magnitudes: `absolute` and its laws.
--
-- The laws below are the worked examples. Assumes nothing.
use mathlib.Core.Path.{◌≡◌, sym, subst}
use mathlib.Core.List.{[], ◌∷◌}
use native.Mathlib.Omega.{arith}
use lib.IntN.{ℤ, pos, ◌+ℤ◌, ◌*ℤ◌, ◌-ℤ◌}
pub use Rattle.whole.proofs.Quote.{ring, quote, Is, expression}
pub use Rattle.whole.proofs.Order.{◌≤ᶻ◌, ◌<ᶻ◌, NonNegative, Positive, natural, square_nonnegative, gap≤, gap<}
pub use Rattle.whole.proofs.Linear.{
  ◌⊞◌,
  ◌⊠◌,
  ◌⋆◌,
  ◌⋆≡◌,
  ◌∗≡◌,
  ◌∔◌,
  linear≤,
  linear<,
  linear⊥,
  linear≡,
  Sign,
  below,
  nought,
  above,
  sign,
  le_or_lt,
  antisymmetric,
  le_of_equal,
  le_of_lt,
  le_transitive,
  le_negated,
  product_positive,
  nonnegative_factor,
  positive_factor,
  zero_factor,
  zero_product,
}
pub use Rattle.whole.proofs.Absolute.{
  absolute,
  absolute_of_nonnegative,
  absolute_of_nonpositive,
  absolute_zero,
  absolute_product,
  absolute_of_unit,
}
pub use Rattle.whole.proofs.Natural.{in≤, in<, in≡, out≤, out<, out≡}

-- ---- equations
pub difference_zero : {a b : ℤ} → a -ℤ b ≡ pos 0 → a ≡ b
difference_zero {a} {b} e = linear≡ (a ∷ b ∷ []) (pos 1 ∗≡ e) (search quote depth 20) tt

-- ---- squares
pub square_zero : {a : ℤ} → a *ℤ a ≤ᶻ pos 0 → a ≡ pos 0
square_zero {a} h = by_sign (sign a)
  where
    by_sign : Sign a → a ≡ pos 0
    by_sign (below l) = linear⊥ (a ∷ []) (gap≤ h ⊞ gap< l ⊠ gap< l ⊞ 2 ⋆ gap< l) (search quote depth 20) tt
    by_sign (nought e) = e
    by_sign (above l) = linear⊥ (a ∷ []) (gap≤ h ⊞ gap< l ⊠ gap< l ⊞ 2 ⋆ gap< l) (search quote depth 20) tt

pub squares_zero : (a b : ℤ) → a *ℤ a +ℤ b *ℤ b ≡ pos 0 → (a ≡ pos 0) × (b ≡ pos 0)
squares_zero a b e = (
  square_zero (linear≤ (a ∷ b ∷ []) (square_nonnegative b ⊞ pos 1 ⋆≡ e) (search quote depth 20) tt),
  square_zero (linear≤ (a ∷ b ∷ []) (square_nonnegative a ⊞ pos 1 ⋆≡ e) (search quote depth 20) tt),
)

-- ---- the sign of k where a k = c d + e f and the other signs are known
pub positive_by_products : {a k c d e f : ℤ} → a *ℤ k ≡ c *ℤ d +ℤ e *ℤ f
    → Positive a → Positive c → Positive d → Positive e → Positive f → Positive k
positive_by_products {a} {k} {c} {d} {e} {f} q ha hc hd he hf =
    positive_factor
    (subst Positive (sym q)
    (linear< (c ∷ d ∷ e ∷ f ∷ []) (gap< (product_positive hc hd) ⊞ gap< (product_positive he hf)) (search quote depth 20) tt))
    ha

pub nonnegative_by_products : {a k c d e f : ℤ} → a *ℤ k ≡ c *ℤ d +ℤ e *ℤ f
    → Positive a → NonNegative c → NonNegative d → NonNegative e → NonNegative f → NonNegative k
nonnegative_by_products q ha hc hd he hf = nonnegative_factor (subst NonNegative (sym q) (hc ⊠ hd ⊞ he ⊠ hf)) ha

-- ---- whole numbers have no fractions
pub le_of_doubles : {a b : ℤ} → pos 2 *ℤ a ≤ᶻ pos 2 *ℤ b +ℤ pos 1 → a ≤ᶻ b
le_of_doubles {a} {b} h =
    let ρ = a ∷ b ∷ [] in
    out≤ ρ (search quote depth 20) (omega (arith, in≤ ρ h (search quote depth 20)))
