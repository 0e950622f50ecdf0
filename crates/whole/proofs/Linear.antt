-- Linear reasoning by certificates: hypotheses, turned into numbers that are not negative by `gap≤` and `gap<`, are put together by `⊞`, `⊠`, `⋆`
-- and `⋆≡` into one such number; an order follows whose difference is that number and a constant. Then signs, and signs of products.
-- Assumes nothing.
use mathlib.Core.Path.{◌≡◌, refl, sym, ◌∙◌, ap, subst}
use mathlib.Core.Logic.{◌⊎◌, inl, inr}
use mathlib.Core.List.{List, [], ◌∷◌}
use Prim.Native.Nat.{ℕ, zero, suc}
use native.Mathlib.Omega.{arith}
use lib.Dec.{lt→ltb}
use lib.IntN.{ℤ, pos, negsuc, neg_ℤ, ◌+ℤ◌, ◌*ℤ◌, ◌-ℤ◌, +ℤ_invr, *ℤ-zero}
use Rattle.whole.proofs.Polynomial.{Expression, constant, ◌⊕◌, ◌⊖◌, value, normal, NotNegative, Vanishes, natural_value, same_value}
use Rattle.whole.proofs.Quote.{Is, expression, quoted, ring, quote}
use Rattle.whole.proofs.Order.{◌≤ᶻ◌, ◌<ᶻ◌, NonNegative, Positive, natural, sum_nonnegative, product_nonnegative, gap≤, gap<, by_gap≤, by_gap<}

-- ---- putting certificates together
infixr 3 ◌⊞◌
infixr 4 ◌⊠◌
infixr 4 ◌⋆◌
infixr 4 ◌⋆≡◌
pub ◌⊞◌ : {a b : ℤ} → NonNegative a → NonNegative b → NonNegative (a +ℤ b)
h ⊞ k = sum_nonnegative h k

pub ◌⊠◌ : {a b : ℤ} → NonNegative a → NonNegative b → NonNegative (a *ℤ b)
h ⊠ k = product_nonnegative h k

-- a natural multiple
pub ◌⋆◌ : (k : ℕ) {a : ℤ} → NonNegative a → NonNegative (pos k *ℤ a)
k ⋆ h = product_nonnegative (natural k) h

-- any multiple k of an equation a ≡ b, as k (b − a)
pub ◌⋆≡◌ : (k : ℤ) {a b : ℤ} → a ≡ b → NonNegative (k *ℤ (b -ℤ a))
◌⋆≡◌ k {a} {b} e =
    subst NonNegative (sym (ap (λ z. k *ℤ (b -ℤ z)) e ∙ ap (λ z. k *ℤ z) (+ℤ_invr b) ∙ *ℤ-zero k)) (natural zero)

-- ---- an order from a certificate
-- x is y and a natural number
carry : (ρ : List ℤ) (e f : Expression) {x y : ℤ}
    → value ρ e ≡ x → value ρ f ≡ y → NotNegative (normal (e ⊖ f)) → NonNegative y → NonNegative x
carry ρ e f {x} {y} p q t h =
    let n = natural_value ρ (e ⊖ f) t in
    subst NonNegative
    (ap (λ z. z +ℤ y) (sym n.1 ∙ ap (λ z. z -ℤ value ρ f) p ∙ ap (λ z. x -ℤ z) q) ∙ back x y)
    (sum_nonnegative (natural n.0) h)
  where
    back : (x y : ℤ) → x -ℤ y +ℤ y ≡ x
    back x y = ring (x ∷ y ∷ []) (search quote depth 20) tt

module _ (ρ : List ℤ) {z a b : ℤ} (h : NonNegative z) (q : Is ρ z × Is ρ a × Is ρ b) where
  gap : Expression
  gap = expression q.2 ⊖ expression q.1

  gap_value : value ρ gap ≡ b -ℤ a
  unfolding gap
  gap_value = ap (λ u. u -ℤ value ρ (expression q.1)) (quoted q.2) ∙ ap (λ u. b -ℤ u) (quoted q.1)

  pub linear≤ : NotNegative (normal (expression q.2 ⊖ expression q.1 ⊖ expression q.0)) → a ≤ᶻ b
  unfolding gap
  linear≤ t = by_gap≤ (carry ρ gap (expression q.0) gap_value (quoted q.0) t h)

  pub linear< : NotNegative (normal (expression q.2 ⊖ expression q.1 ⊖ constant (pos 1) ⊖ expression q.0)) → a <ᶻ b
  unfolding gap
  linear< t =
      by_gap<
      (carry ρ (gap ⊖ constant (pos 1)) (expression q.0) (ap (λ u. u -ℤ pos 1) gap_value) (quoted q.0) t h)

-- hypotheses that cannot all hold
pub linear⊥ {ℓ} : {X : Type ℓ} (ρ : List ℤ) {z : ℤ} → NonNegative z → (q : Is ρ z)
    → NotNegative (normal (constant (negsuc 0) ⊖ expression q)) → X
linear⊥ ρ h q t = absurd (carry ρ (constant (negsuc 0)) (expression q) refl (quoted q) t h).le

-- ---- an equation from equations: k ∗≡ e is the multiple k (a − b) of e : a ≡ b, and ∔ adds
infixr 3 ◌∔◌
infixr 4 ◌∗≡◌
pub ◌∗≡◌ : (k : ℤ) {a b : ℤ} → a ≡ b → k *ℤ (a -ℤ b) ≡ pos zero
◌∗≡◌ k {a} {b} e = ap (λ z. k *ℤ (z -ℤ b)) e ∙ ap (λ z. k *ℤ z) (+ℤ_invr b) ∙ *ℤ-zero k

pub ◌∔◌ : {a b : ℤ} → a ≡ pos zero → b ≡ pos zero → a +ℤ b ≡ pos zero
◌∔◌ {a} {b} p q = ap (λ z. z +ℤ b) p ∙ ap (λ z. pos zero +ℤ z) q

pub linear≡ : (ρ : List ℤ) {z a b : ℤ} → z ≡ pos zero → (q : Is ρ z × Is ρ a × Is ρ b)
    → Vanishes (normal (expression q.1 ⊖ (expression q.2 ⊕ expression q.0))) → a ≡ b
linear≡ ρ {z} {a} {b} h q t =
    sym (quoted q.1)
    ∙ same_value ρ (expression q.1) (expression q.2 ⊕ expression q.0) t
    ∙ ap (λ u. u +ℤ value ρ (expression q.0)) (quoted q.2)
    ∙ ap (λ u. b +ℤ u) (quoted q.0 ∙ h)
    ∙ plus_zero b
  where
    plus_zero : (b : ℤ) → b +ℤ pos zero ≡ b
    plus_zero b = ring (b ∷ []) (search quote depth 20) tt

-- ---- the three cases of a sign, and of an order
pub data Sign (z : ℤ) : Type 0 where
  below : z <ᶻ pos zero → Sign z
  nought : z ≡ pos zero → Sign z
  above : pos zero <ᶻ z → Sign z

pub sign : (z : ℤ) → Sign z
sign (pos zero) = nought refl
sign (pos (suc n)) = above (record { lt = lt→ltb zero (suc n) (omega arith) })
sign (negsuc n) = below (record { lt = tt })

pub le_or_lt : (a b : ℤ) → (a ≤ᶻ b) ⊎ (b <ᶻ a)
le_or_lt a b = by_sign (sign (b -ℤ a))
  where
    by_sign : Sign (b -ℤ a) → (a ≤ᶻ b) ⊎ (b <ᶻ a)
    by_sign (below h) = inr (linear< (a ∷ b ∷ []) (gap< h) (search quote depth 20) tt)
    by_sign (nought e) = inl (linear≤ (a ∷ b ∷ []) (pos 1 ⋆≡ sym e) (search quote depth 20) tt)
    by_sign (above h) = inl (linear≤ (a ∷ b ∷ []) (gap< h) (search quote depth 20) tt)

pub antisymmetric : {a b : ℤ} → a ≤ᶻ b → b ≤ᶻ a → a ≡ b
antisymmetric {a} {b} h k = by_sign (sign (b -ℤ a))
  where
    by_sign : Sign (b -ℤ a) → a ≡ b
    by_sign (below l) = linear⊥ (a ∷ b ∷ []) (gap< l ⊞ gap≤ h) (search quote depth 20) tt
    by_sign (nought e) = linear≡ (a ∷ b ∷ []) (negsuc 0 ∗≡ e) (search quote depth 20) tt
    by_sign (above l) = linear⊥ (a ∷ b ∷ []) (gap< l ⊞ gap≤ k) (search quote depth 20) tt

pub le_of_equal : {a b : ℤ} → a ≡ b → a ≤ᶻ b
le_of_equal {a} {b} e = linear≤ (a ∷ b ∷ []) (pos 1 ⋆≡ e) (search quote depth 20) tt

pub le_of_lt : {a b : ℤ} → a <ᶻ b → a ≤ᶻ b
le_of_lt {a} {b} h = linear≤ (a ∷ b ∷ []) (gap< h) (search quote depth 20) tt

pub le_transitive : {a b c : ℤ} → a ≤ᶻ b → b ≤ᶻ c → a ≤ᶻ c
le_transitive {a} {b} {c} h k = linear≤ (a ∷ b ∷ c ∷ []) (gap≤ h ⊞ gap≤ k) (search quote depth 20) tt

pub le_negated : {a b : ℤ} → a ≤ᶻ b → neg_ℤ b ≤ᶻ neg_ℤ a
le_negated {a} {b} h = linear≤ (a ∷ b ∷ []) (gap≤ h) (search quote depth 20) tt

-- ---- products and signs
pub product_positive : {a b : ℤ} → Positive a → Positive b → Positive (a *ℤ b)
product_positive {a} {b} h k =
    linear< (a ∷ b ∷ []) (gap< h ⊠ gap< k ⊞ gap< h ⊞ gap< k) (search quote depth 20) tt

-- what a positive factor leaves of a product's sign
pub nonnegative_factor : {a b : ℤ} → NonNegative (a *ℤ b) → Positive a → NonNegative b
nonnegative_factor {a} {b} h k = by_order (le_or_lt (pos zero) b)
  where
    by_order : (pos zero ≤ᶻ b) ⊎ (b <ᶻ pos zero) → NonNegative b
    by_order (inl l) = l
    by_order (inr l) = linear⊥ (a ∷ b ∷ []) (h ⊞ gap< k ⊠ gap< l ⊞ gap< k ⊞ gap< l) (search quote depth 20) tt

pub positive_factor : {a b : ℤ} → Positive (a *ℤ b) → Positive a → Positive b
positive_factor {a} {b} h k = by_order (le_or_lt b (pos zero))
  where
    weakened : pos zero ≤ᶻ a
    weakened = linear≤ (a ∷ []) (gap< k) (search quote depth 20) tt

    by_order : (b ≤ᶻ pos zero) ⊎ (pos zero <ᶻ b) → Positive b
    by_order (inl l) = linear⊥ (a ∷ b ∷ []) (gap< h ⊞ gap≤ l ⊠ gap≤ weakened) (search quote depth 20) tt
    by_order (inr l) = l

pub zero_factor : {a b : ℤ} → a *ℤ b ≡ pos zero → Positive a → b ≡ pos zero
zero_factor {a} {b} e k =
    antisymmetric
    (linear≤ (b ∷ []) (nonnegative_factor {a = a} {b = neg_ℤ b} (linear≤ (a ∷ b ∷ []) (pos 1 ⋆≡ e) (search quote depth 20) tt) k)
    (search quote depth 20) tt)
    (nonnegative_factor {a = a} {b = b} (linear≤ (a ∷ b ∷ []) (pos 1 ⋆≡ sym e) (search quote depth 20) tt) k)

pub zero_product : {a b : ℤ} → a *ℤ b ≡ pos zero → (a ≡ pos zero) ⊎ (b ≡ pos zero)
zero_product {a} {b} e = by_sign (sign a)
  where
    by_sign : Sign a → (a ≡ pos zero) ⊎ (b ≡ pos zero)
    by_sign (below h) =
        inr (zero_factor {a = neg_ℤ a} {b = b} (linear≡ (a ∷ b ∷ []) (negsuc 0 ∗≡ e) (search quote depth 20) tt)
        (linear< (a ∷ []) (gap< h) (search quote depth 20) tt))
    by_sign (nought z) = inl z
    by_sign (above h) = inr (zero_factor e h)
