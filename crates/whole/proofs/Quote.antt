-- Quotation: `Is ρ z` says that the whole number z is the value of an expression over ρ. `search quote depth 20` finds the expression from
-- z's own text: each number of ρ is a variable, wherever it stands. Assumes nothing.
use mathlib.Core.Path.{◌≡◌, refl, sym, ◌∙◌}
use mathlib.Core.List.{List, ◌∷◌}
use Prim.Native.Nat.{ℕ, suc, ◌+◌, ◌*◌}
use lib.Dec.{T, eqb}
use lib.IntN.{ℤ, pos, negsuc, neg_ℤ, ◌+ℤ◌, ◌*ℤ◌, ◌-ℤ◌}
use Rattle.whole.proofs.Polynomial.{Expression, variable, constant, ◌⊕◌, ◌⊗◌, ⊝, ◌⊖◌, value, at, normal, Vanishes, same_value}

-- ---- a number of the list, by its place
pub data Atom (ρ : List ℤ) (z : ℤ) : Type 0 where
  atom : (i : ℕ) → at ρ i ≡ z → Atom ρ z

abbrev pub a₀ : {x₀ : ℤ} {xs : List ℤ} → Atom (x₀ ∷ xs) x₀
a₀ = atom 0 refl

abbrev pub a₁ : {x₀ x₁ : ℤ} {xs : List ℤ} → Atom (x₀ ∷ x₁ ∷ xs) x₁
a₁ = atom 1 refl

abbrev pub a₂ : {x₀ x₁ x₂ : ℤ} {xs : List ℤ} → Atom (x₀ ∷ x₁ ∷ x₂ ∷ xs) x₂
a₂ = atom 2 refl

abbrev pub a₃ : {x₀ x₁ x₂ x₃ : ℤ} {xs : List ℤ} → Atom (x₀ ∷ x₁ ∷ x₂ ∷ x₃ ∷ xs) x₃
a₃ = atom 3 refl

abbrev pub a₄ : {x₀ x₁ x₂ x₃ x₄ : ℤ} {xs : List ℤ} → Atom (x₀ ∷ x₁ ∷ x₂ ∷ x₃ ∷ x₄ ∷ xs) x₄
a₄ = atom 4 refl

abbrev pub a₅ : {x₀ x₁ x₂ x₃ x₄ x₅ : ℤ} {xs : List ℤ} → Atom (x₀ ∷ x₁ ∷ x₂ ∷ x₃ ∷ x₄ ∷ x₅ ∷ xs) x₅
a₅ = atom 5 refl

-- six places on: any number of variables by a handful of rules
abbrev pub six_on : {x₀ x₁ x₂ x₃ x₄ x₅ z : ℤ} {xs : List ℤ} → Atom xs z → Atom (x₀ ∷ x₁ ∷ x₂ ∷ x₃ ∷ x₄ ∷ x₅ ∷ xs) z
six_on (atom i p) = atom (suc (suc (suc (suc (suc (suc i)))))) p

-- ---- a number by its text
pub data Is (ρ : List ℤ) (z : ℤ) : Type 0 where
  is : (e : Expression) → value ρ e ≡ z → Is ρ z

abbrev pub expression : {ρ : List ℤ} {z : ℤ} → Is ρ z → Expression
expression (is e p) = e

pub quoted : {ρ : List ℤ} {z : ℤ} (q : Is ρ z) → value ρ (expression q) ≡ z
quoted (is e p) = p

abbrev pub is_atom : {ρ : List ℤ} {z : ℤ} → Atom ρ z → Is ρ z
is_atom (atom i p) = is (variable i) p

abbrev pub is_sum : {ρ : List ℤ} {x y : ℤ} → Is ρ x → Is ρ y → Is ρ (x +ℤ y)
is_sum (is e p) (is f q) = is (e ⊕ f) (λ i. p i +ℤ q i)

abbrev pub is_product : {ρ : List ℤ} {x y : ℤ} → Is ρ x → Is ρ y → Is ρ (x *ℤ y)
is_product (is e p) (is f q) = is (e ⊗ f) (λ i. p i *ℤ q i)

abbrev pub is_negation : {ρ : List ℤ} {x : ℤ} → Is ρ x → Is ρ (neg_ℤ x)
is_negation (is e p) = is (⊝ e) (λ i. neg_ℤ (p i))

abbrev pub is_difference : {ρ : List ℤ} {x y : ℤ} → Is ρ x → Is ρ y → Is ρ (x -ℤ y)
is_difference a b = is_sum a (is_negation b)

-- a sum and a product of naturals, for text that has computed to one
abbrev pub is_natural_sum : {ρ : List ℤ} {a b : ℕ} → Is ρ (pos a) → Is ρ (pos b) → Is ρ (pos (a + b))
is_natural_sum (is e p) (is f q) = is (e ⊕ f) (λ i. p i +ℤ q i)

abbrev pub is_natural_product : {ρ : List ℤ} {a b : ℕ} → Is ρ (pos a) → Is ρ (pos b) → Is ρ (pos (a * b))
is_natural_product (is e p) (is f q) = is (e ⊗ f) (λ i. p i *ℤ q i)

-- a numeral: the test computes at one, and is stuck at a variable, so that `search` does not take a variable for one
abbrev pub is_numeral : {ρ : List ℤ} {n : ℕ} → T (eqb n n) → Is ρ (pos n)
is_numeral {ρ} {n} t = is (constant (pos n)) refl

abbrev pub is_negative_numeral : {ρ : List ℤ} {n : ℕ} → T (eqb n n) → Is ρ (negsuc n)
is_negative_numeral {ρ} {n} t = is (constant (negsuc n)) refl

pub ruleset quote = (
  is_atom,
  a₀,
  a₁,
  a₂,
  a₃,
  a₄,
  a₅,
  six_on,
  is_difference,
  is_sum,
  is_product,
  is_negation,
  is_natural_sum,
  is_natural_product,
  is_numeral,
  is_negative_numeral,
)

-- ---- an identity, by the normal forms of its two sides
pub ring : (ρ : List ℤ) {x y : ℤ} (q : Is ρ x × Is ρ y) → Vanishes (normal (expression q.0 ⊖ expression q.1)) → x ≡ y
ring ρ q t = sym (quoted q.0) ∙ same_value ρ (expression q.0) (expression q.1) t ∙ quoted q.1
