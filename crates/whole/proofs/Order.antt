-- The order of the whole numbers, with a notation that binds looser than sums, and by differences: a ≤ b is 0 ≤ b − a, a < b is 0 ≤ b − a − 1.
-- Assumes nothing.
use mathlib.Core.Path.{◌≡◌, refl, sym, ◌∙◌, ap, subst}
use mathlib.Core.Bool.{Bool, true, false, not, cond}
use mathlib.Core.List.{[], ◌∷◌}
use Prim.Native.Nat.{ℕ, zero, suc, ◌+◌, ◌*◌, ◌-◌, ◌≤◌, ◌<◌, zero-le}
use native.Mathlib.Omega.{arith}
use lib.Dec.{T, ltb, leb→le, le→leb, ltb→lt, nltb→le, leb-suc-suc}
use lib.IntN.{ℤ, pos, negsuc, suc_ℤ, sub_ℕ, ◌+ℤ◌, ◌*ℤ◌, ◌-ℤ◌, +ℤ_one}
use lib.Signed.{◌≤ℤ◌, ◌<ℤ◌, le_z, lt_z}
use Rattle.whole.proofs.Quote.{ring, quote}

infix 4 ◌≤ᶻ◌ ◌<ᶻ◌
abbrev pub ◌≤ᶻ◌ : ℤ → ℤ → Type 0
a ≤ᶻ b = a ≤ℤ b

abbrev pub ◌<ᶻ◌ : ℤ → ℤ → Type 0
a <ᶻ b = a <ℤ b

abbrev pub NonNegative : ℤ → Type 0
NonNegative z = pos zero ≤ᶻ z

abbrev pub Positive : ℤ → Type 0
Positive z = pos zero <ᶻ z

-- ---- the difference of two naturals
cond_cases : (c : Bool) (x y : ℤ) (P : ℤ → Type 0) → (T c → P x) → (T (not c) → P y) → P (cond c x y)
cond_cases true x y P f g = f tt
cond_cases false x y P f g = g tt

difference_below : (a b : ℕ) → a < b → sub_ℕ a b ≡ negsuc (b - suc a)
difference_below a b h =
    cond_cases (ltb a b) (negsuc (b - suc a)) (pos (a - b)) (λ z. z ≡ negsuc (b - suc a))
    (λ t. refl)
    (λ t. absurd (never (nltb→le a b t)))
  where
    never : b ≤ a → ⊥
    never k = omega arith

difference_above : (a b : ℕ) → b ≤ a → sub_ℕ a b ≡ pos (a - b)
difference_above a b h =
    cond_cases (ltb a b) (negsuc (b - suc a)) (pos (a - b)) (λ z. z ≡ pos (a - b))
    (λ t. absurd (never (ltb→lt a b t)))
    (λ t. refl)
  where
    never : a < b → ⊥
    never k = omega arith

-- ---- a ≤ b is b = a + n
distance : {a b : ℤ} → a ≤ᶻ b → (n : ℕ) × (b ≡ a +ℤ pos n)
distance {a = pos a} {b = pos b} h = (b - a, ap pos (fill (leb→le a b h.le)))
  where
    fill : a ≤ b → b ≡ a + (b - a)
    fill k = omega arith
distance {a = pos a} {b = negsuc b} h = absurd h.le
distance {a = negsuc a} {b = pos b} h =
    (suc a + b, sym (difference_above (suc a + b) (suc a) (omega arith) ∙ ap pos rest))
  where
    rest : suc a + b - suc a ≡ b
    rest = omega arith
distance {a = negsuc a} {b = negsuc b} h =
    (a - b, sym (difference_below (a - b) (suc a) (omega arith) ∙ ap negsuc (rest (leb→le b a h.le))))
  where
    rest : b ≤ a → suc a - suc (a - b) ≡ b
    rest k = omega arith

at_least : (a : ℤ) (n : ℕ) → a ≤ᶻ a +ℤ pos n
at_least (pos a) n = record { le = le→leb a (a + n) (omega arith) }
at_least (negsuc a) n = record {
  le = cond_cases (ltb n (suc a)) (negsuc (suc a - suc n)) (pos (n - suc a)) (λ z. T (le_z (negsuc a) z))
      (λ t. le→leb (suc a - suc n) a (omega arith)) (λ t. tt);
}

-- ---- what is not negative
pub natural : (n : ℕ) → NonNegative (pos n)
natural n = record { le = le→leb zero n zero-le }

is_natural : {z : ℤ} → NonNegative z → (n : ℕ) × (z ≡ pos n)
is_natural {z = pos n} h = (n, refl)
is_natural {z = negsuc n} h = absurd h.le

pub sum_nonnegative : {a b : ℤ} → NonNegative a → NonNegative b → NonNegative (a +ℤ b)
sum_nonnegative {a = pos a} {b = pos b} h k = natural (a + b)
sum_nonnegative {a = pos a} {b = negsuc b} h k = absurd k.le
sum_nonnegative {a = negsuc a} {b = b} h k = absurd h.le

pub product_nonnegative : {a b : ℤ} → NonNegative a → NonNegative b → NonNegative (a *ℤ b)
product_nonnegative {a = pos a} {b = pos b} h k = natural (a * b)
product_nonnegative {a = pos a} {b = negsuc b} h k = absurd k.le
product_nonnegative {a = negsuc a} {b = b} h k = absurd h.le

pub square_nonnegative : (a : ℤ) → NonNegative (a *ℤ a)
square_nonnegative (pos a) = natural (a * a)
square_nonnegative (negsuc a) = natural (suc a * suc a)

-- ---- the two orders by differences, both ways
pub gap≤ : {a b : ℤ} → a ≤ᶻ b → NonNegative (b -ℤ a)
gap≤ {a} {b} h =
    let d = distance h in
    subst (λ z. NonNegative z) (sym (ap (λ z. z -ℤ a) d.1 ∙ cancel (pos d.0))) (natural d.0)
  where
    cancel : (n : ℤ) → a +ℤ n -ℤ a ≡ n
    cancel n = ring (a ∷ n ∷ []) (search quote depth 20) tt

pub by_gap≤ : {a b : ℤ} → NonNegative (b -ℤ a) → a ≤ᶻ b
by_gap≤ {a} {b} h =
    subst (λ z. a ≤ᶻ z) (ap (λ z. a +ℤ z) (sym (is_natural h).1) ∙ cancel) (at_least a (is_natural h).0)
  where
    cancel : a +ℤ (b -ℤ a) ≡ b
    cancel = ring (a ∷ b ∷ []) (search quote depth 20) tt

successor_le : (a b : ℤ) → T (lt_z a b) → T (le_z (suc_ℤ a) b)
successor_le (pos a) (pos b) t = t
successor_le (pos a) (negsuc b) t = t
successor_le (negsuc zero) (pos b) t = le→leb zero b zero-le
successor_le (negsuc (suc a)) (pos b) t = tt
successor_le (negsuc zero) (negsuc b) t = absurd (never b (ltb→lt b zero t))
  where
    never : (b : ℕ) → b < zero → ⊥
    never b h = omega arith
successor_le (negsuc (suc a)) (negsuc b) t = subst T (leb-suc-suc b a) t

le_successor : (a b : ℤ) → T (le_z (suc_ℤ a) b) → T (lt_z a b)
le_successor (pos a) (pos b) t = t
le_successor (pos a) (negsuc b) t = t
le_successor (negsuc zero) (pos b) t = tt
le_successor (negsuc (suc a)) (pos b) t = tt
le_successor (negsuc zero) (negsuc b) t = absurd t
le_successor (negsuc (suc a)) (negsuc b) t = subst T (sym (leb-suc-suc b a)) t

pub gap< : {a b : ℤ} → a <ᶻ b → NonNegative (b -ℤ a -ℤ pos 1)
gap< {a} {b} h = subst (λ z. NonNegative z) move (gap≤ up)
  where
    up : suc_ℤ a ≤ᶻ b
    up = record { le = successor_le a b h.lt }

    move : b -ℤ suc_ℤ a ≡ b -ℤ a -ℤ pos 1
    move = ap (λ z. b -ℤ z) (sym (+ℤ_one a)) ∙ ring (a ∷ b ∷ []) (search quote depth 20) tt

pub by_gap< : {a b : ℤ} → NonNegative (b -ℤ a -ℤ pos 1) → a <ᶻ b
by_gap< {a} {b} h = record { lt = le_successor a b up.le }
  where
    move : b -ℤ a -ℤ pos 1 ≡ b -ℤ suc_ℤ a
    move = ring (a ∷ b ∷ []) (search quote depth 20) tt ∙ ap (λ z. b -ℤ z) (+ℤ_one a)

    up : suc_ℤ a ≤ᶻ b
    up = by_gap≤ (subst (λ z. NonNegative z) move h)
