-- The bridge to `omega`, which reads naturals only: a whole number is the difference of two naturals, its part over zero and its part under it.
-- An order of whole numbers becomes one of sums of such parts (`in≤`, `in<`, `in≡`), and back (`out≤`, `out<`, `out≡`). Assumes nothing.
use mathlib.Core.Path.{◌≡◌, sym, ◌∙◌, ap}
use mathlib.Core.List.{List, [], ◌∷◌}
use Prim.Native.Nat.{ℕ, zero, suc, ◌+◌, ◌*◌, ◌≤◌, ◌<◌}
use native.Mathlib.Omega.{arith}
use lib.Dec.{leb→le, le→leb, ltb→lt, lt→ltb}
use lib.IntN.{ℤ, pos, negsuc, neg_ℤ, ◌+ℤ◌, ◌*ℤ◌, ◌-ℤ◌, +ℤ_idl, +ℤ_idr}
use Rattle.whole.proofs.Polynomial.{Expression, variable, constant, ◌⊕◌, ◌⊗◌, ⊝, value, at}
use Rattle.whole.proofs.Quote.{Is, expression, quoted, quote}
use Rattle.whole.proofs.Differences.{sum, product, negation}
use Rattle.whole.proofs.Order.{◌≤ᶻ◌, ◌<ᶻ◌, gap≤, gap<}
use Rattle.whole.proofs.Linear.{linear≤, linear<, ◌⊞◌, ◌⋆≡◌, antisymmetric, le_of_equal}

abbrev pub over : ℤ → ℕ
over (pos n) = n
over (negsuc n) = zero

abbrev pub under : ℤ → ℕ
under (pos n) = zero
under (negsuc n) = suc n

-- the same of an expression's value, as far as its text goes
abbrev mutual
  pub over_of : List ℤ → Expression → ℕ
  over_of ρ (variable i) = over (at ρ i)
  over_of ρ (constant c) = over c
  over_of ρ (a ⊕ b) = over_of ρ a + over_of ρ b
  over_of ρ (a ⊗ b) = over_of ρ a * over_of ρ b + under_of ρ a * under_of ρ b
  over_of ρ (⊝ a) = under_of ρ a

  pub under_of : List ℤ → Expression → ℕ
  under_of ρ (variable i) = under (at ρ i)
  under_of ρ (constant c) = under c
  under_of ρ (a ⊕ b) = under_of ρ a + under_of ρ b
  under_of ρ (a ⊗ b) = over_of ρ a * under_of ρ b + under_of ρ a * over_of ρ b
  under_of ρ (⊝ a) = over_of ρ a

-- ---- a value is the difference of its parts
split : (z : ℤ) → z ≡ pos (over z) -ℤ pos (under z)
split (pos n) = sym (+ℤ_idr (pos n))
split (negsuc n) = sym (+ℤ_idl (negsuc n))

module _ (ρ : List ℤ) where
  parts : (e : Expression) → value ρ e ≡ pos (over_of ρ e) -ℤ pos (under_of ρ e)
  parts (variable i) = split (at ρ i)
  parts (constant c) = split c
  parts (a ⊕ b) =
      ap (λ z. z +ℤ value ρ b) (parts a)
      ∙ ap (λ z. (pos (over_of ρ a) -ℤ pos (under_of ρ a)) +ℤ z) (parts b)
      ∙ sum (pos (over_of ρ a)) (pos (under_of ρ a)) (pos (over_of ρ b)) (pos (under_of ρ b))
  parts (a ⊗ b) =
      ap (λ z. z *ℤ value ρ b) (parts a)
      ∙ ap (λ z. (pos (over_of ρ a) -ℤ pos (under_of ρ a)) *ℤ z) (parts b)
      ∙ product (pos (over_of ρ a)) (pos (under_of ρ a)) (pos (over_of ρ b)) (pos (under_of ρ b))
  parts (⊝ a) = ap neg_ℤ (parts a) ∙ negation (pos (over_of ρ a)) (pos (under_of ρ a))

  parts_of : {z : ℤ} (q : Is ρ z) → z ≡ pos (over_of ρ (expression q)) -ℤ pos (under_of ρ (expression q))
  parts_of q = sym (quoted q) ∙ parts (expression q)

-- ---- the order of two differences x − y and z − w of naturals is that of x + w and z + y
module _ {a b : ℤ} (x y z w : ℤ) (p : a ≡ x -ℤ y) (q : b ≡ z -ℤ w) where
  cross≤ : a ≤ᶻ b → x +ℤ w ≤ᶻ z +ℤ y
  cross≤ h = linear≤ (a ∷ b ∷ x ∷ y ∷ z ∷ w ∷ []) (gap≤ h ⊞ pos 1 ⋆≡ q ⊞ negsuc 0 ⋆≡ p) (search quote depth 20) tt

  cross< : a <ᶻ b → x +ℤ w <ᶻ z +ℤ y
  cross< h = linear< (a ∷ b ∷ x ∷ y ∷ z ∷ w ∷ []) (gap< h ⊞ pos 1 ⋆≡ q ⊞ negsuc 0 ⋆≡ p) (search quote depth 20) tt

  uncross≤ : x +ℤ w ≤ᶻ z +ℤ y → a ≤ᶻ b
  uncross≤ h = linear≤ (a ∷ b ∷ x ∷ y ∷ z ∷ w ∷ []) (gap≤ h ⊞ negsuc 0 ⋆≡ q ⊞ pos 1 ⋆≡ p) (search quote depth 20) tt

  uncross< : x +ℤ w <ᶻ z +ℤ y → a <ᶻ b
  uncross< h = linear< (a ∷ b ∷ x ∷ y ∷ z ∷ w ∷ []) (gap< h ⊞ negsuc 0 ⋆≡ q ⊞ pos 1 ⋆≡ p) (search quote depth 20) tt

-- ---- the two sides of an order, in ℕ
abbrev pub left : (ρ : List ℤ) {a b : ℤ} → Is ρ a × Is ρ b → ℕ
left ρ q = over_of ρ (expression q.0) + under_of ρ (expression q.1)

abbrev pub right : (ρ : List ℤ) {a b : ℤ} → Is ρ a × Is ρ b → ℕ
right ρ q = over_of ρ (expression q.1) + under_of ρ (expression q.0)

module _ (ρ : List ℤ) {a b : ℤ} (q : Is ρ a × Is ρ b) where
  abbrev over₀ : ℤ
  over₀ = pos (over_of ρ (expression q.0))

  abbrev under₀ : ℤ
  under₀ = pos (under_of ρ (expression q.0))

  abbrev over₁ : ℤ
  over₁ = pos (over_of ρ (expression q.1))

  abbrev under₁ : ℤ
  under₁ = pos (under_of ρ (expression q.1))

  enter≤ : a ≤ᶻ b → left ρ q ≤ right ρ q
  enter≤ h =
      leb→le (left ρ q) (right ρ q) (cross≤ over₀ under₀ over₁ under₁ (parts_of ρ q.0) (parts_of ρ q.1) h).le

  enter< : a <ᶻ b → left ρ q < right ρ q
  enter< h =
      ltb→lt (left ρ q) (right ρ q) (cross< over₀ under₀ over₁ under₁ (parts_of ρ q.0) (parts_of ρ q.1) h).lt

  -- a goal comes out
  pub out≤ : left ρ q ≤ right ρ q → a ≤ᶻ b
  out≤ h =
      uncross≤ over₀ under₀ over₁ under₁ (parts_of ρ q.0) (parts_of ρ q.1)
      (record { le = le→leb (left ρ q) (right ρ q) h })

  pub out< : left ρ q < right ρ q → a <ᶻ b
  out< h =
      uncross< over₀ under₀ over₁ under₁ (parts_of ρ q.0) (parts_of ρ q.1)
      (record { lt = lt→ltb (left ρ q) (right ρ q) h })

-- a hypothesis goes in
module _ (ρ : List ℤ) {a b : ℤ} where
  pub in≤ : a ≤ᶻ b → (q : Is ρ a × Is ρ b) → left ρ q ≤ right ρ q
  in≤ h q = enter≤ ρ q h

  pub in< : a <ᶻ b → (q : Is ρ a × Is ρ b) → left ρ q < right ρ q
  in< h q = enter< ρ q h

  pub in≡ : a ≡ b → (q : Is ρ a × Is ρ b) → left ρ q ≡ right ρ q
  in≡ e q = omega (arith, enter≤ ρ q (le_of_equal e), enter≤ ρ (q.1, q.0) (le_of_equal (sym e)))

  pub out≡ : (q : Is ρ a × Is ρ b) → left ρ q ≡ right ρ q → a ≡ b
  out≡ q h = antisymmetric (out≤ ρ q (omega arith)) (out≤ ρ (q.1, q.0) (omega arith))
