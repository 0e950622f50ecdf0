-- Expressions over a list of whole numbers, their normal form as a sorted sum of terms, and that the normal form has the value of the expression.
-- What computes is `abbrev`, so that antt finds the normal form of a given expression by itself. Assumes nothing.
use mathlib.Core.Path.{◌≡◌, refl, sym, ◌∙◌, ap}
use mathlib.Core.List.{List, [], ◌∷◌}
use Prim.Native.Nat.{ℕ, zero, suc, ◌+◌, ◌*◌, compare, Ordering}
use lib.Dec.{T, compare_is_eq, eqb→eq}
use lib.IntN.{ℤ, pos, negsuc, neg_ℤ, ◌+ℤ◌, ◌*ℤ◌, +ℤ_assoc, +ℤ_idl, +ℤ_idr, zero-*ℤ, *ℤ_comm, *ℤ-zero, neg_ℤ-+ℤ}
use Rattle.whole.proofs.Laws.{+ℤ_left_comm, +ℤ_swap, *ℤ_distr_r, *ℤ_distr_l, neg-*ℤ, *ℤ_assoc, *ℤ_left_comm, *ℤ_swap, one-*ℤ, equal_of_difference}

-- ---- expressions
infixl 6 ◌⊕◌
infixl 6 ◌⊖◌
infixl 7 ◌⊗◌
pub data Expression : Type 0 where
  variable : ℕ → Expression
  constant : ℤ → Expression
  ◌⊕◌ : Expression → Expression → Expression
  ◌⊗◌ : Expression → Expression → Expression
  ⊝ : Expression → Expression

abbrev pub ◌⊖◌ : Expression → Expression → Expression
a ⊖ b = a ⊕ ⊝ b

-- the value of a variable, 0 past the list's end
abbrev pub at : List ℤ → ℕ → ℤ
at [] i = pos zero
at (x ∷ xs) zero = x
at (x ∷ xs) (suc i) = at xs i

abbrev pub value : List ℤ → Expression → ℤ
value ρ (variable i) = at ρ i
value ρ (constant c) = c
value ρ (a ⊕ b) = value ρ a +ℤ value ρ b
value ρ (a ⊗ b) = value ρ a *ℤ value ρ b
value ρ (⊝ a) = neg_ℤ (value ρ a)

-- ---- normal forms: a monomial is a sorted list of variables, a polynomial a list of terms sorted by their monomials
pub data Polynomial : Type 0 where
  nil : Polynomial
  term : ℤ → List ℕ → Polynomial → Polynomial

abbrev pub choose {ℓ} : {A : Type ℓ} → Ordering → A → A → A → A
choose Ordering.lt x y z = x
choose Ordering.eq x y z = y
choose Ordering.gt x y z = z

-- a monomial that begins another comes after it
abbrev pub compare_monomials : List ℕ → List ℕ → Ordering
compare_monomials [] [] = Ordering.eq
compare_monomials [] (j ∷ n) = Ordering.gt
compare_monomials (i ∷ m) [] = Ordering.lt
compare_monomials (i ∷ m) (j ∷ n) = let rest = compare_monomials m n in choose (compare i j) Ordering.lt rest Ordering.gt

abbrev pub insert : ℕ → List ℕ → List ℕ
insert i [] = i ∷ []
insert i (j ∷ m) = let here = i ∷ j ∷ m in let later = j ∷ insert i m in choose (compare i j) here here later

abbrev pub multiply_monomials : List ℕ → List ℕ → List ℕ
multiply_monomials [] n = n
multiply_monomials (i ∷ m) n = insert i (multiply_monomials m n)

-- a term in front, unless its coefficient is 0
abbrev pub front : ℤ → List ℕ → Polynomial → Polynomial
front (pos zero) m p = p
front (pos (suc c)) m p = term (pos (suc c)) m p
front (negsuc c) m p = term (negsuc c) m p

-- the sum of c·m + p and q, where `f` adds p to what it is given
abbrev pub merge : ℤ → List ℕ → (Polynomial → Polynomial) → Polynomial → Polynomial
merge c m f nil = term c m (f nil)
merge c m f (term d n q) =
    let before = term c m (f (term d n q)) in
    let together = front (c +ℤ d) n (f q) in
    let after = term d n (merge c m f q) in
    choose (compare_monomials m n) before together after

abbrev pub add : Polynomial → Polynomial → Polynomial
add nil q = q
add (term c m p) q = merge c m (λ r. add p r) q

abbrev pub multiply_term : ℤ → List ℕ → Polynomial → Polynomial
multiply_term c m nil = nil
multiply_term c m (term d n p) = term (c *ℤ d) (multiply_monomials m n) (multiply_term c m p)

abbrev pub multiply : Polynomial → Polynomial → Polynomial
multiply nil q = nil
multiply (term c m p) q = add (multiply_term c m q) (multiply p q)

abbrev pub negate : Polynomial → Polynomial
negate nil = nil
negate (term c m p) = term (neg_ℤ c) m (negate p)

abbrev pub normal : Expression → Polynomial
normal (variable i) = term (pos (suc zero)) (i ∷ []) nil
normal (constant c) = front c [] nil
normal (a ⊕ b) = add (normal a) (normal b)
normal (a ⊗ b) = multiply (normal a) (normal b)
normal (⊝ a) = negate (normal a)

-- ---- what is asked of a normal form; where it fails, the type shows the terms that are left
-- no term is left
abbrev pub Vanishes : Polynomial → Type 0
Vanishes nil = Unit {0}
Vanishes (term c m p) = term c m p ≡ nil

-- a constant is left that is not negative
abbrev pub NotNegative : Polynomial → Type 0
NotNegative nil = Unit {0}
NotNegative (term (pos c) [] nil) = Unit {0}
NotNegative (term (pos c) [] (term d n p)) = term (pos c) [] (term d n p) ≡ nil
NotNegative (term (pos c) (i ∷ m) p) = term (pos c) (i ∷ m) p ≡ nil
NotNegative (term (negsuc c) m p) = term (negsuc c) m p ≡ nil

-- ---- the normal form has the value of the expression
choose_cases {ℓ} : {A : Type ℓ} (o : Ordering) (x y z : A) (P : A → Type 0)
    → P x → (T (compare_is_eq o) → P y) → P z → P (choose o x y z)
choose_cases Ordering.lt x y z P l e g = l
choose_cases Ordering.eq x y z P l e g = e tt
choose_cases Ordering.gt x y z P l e g = g

monomials_equal : (m n : List ℕ) → T (compare_is_eq (compare_monomials m n)) → m ≡ n
monomials_equal [] [] t = refl
monomials_equal [] (j ∷ n) t = absurd t
monomials_equal (i ∷ m) [] t = absurd t
monomials_equal (i ∷ m) (j ∷ n) t =
    choose_cases (compare i j) Ordering.lt (compare_monomials m n) Ordering.gt (λ o. T (compare_is_eq o) → i ∷ m ≡ j ∷ n)
    (λ u. absurd u)
    (λ e u. ap (λ x. x ∷ m) (eqb→eq i j e) ∙ ap (λ x. j ∷ x) (monomials_equal m n u))
    (λ u. absurd u) t

module _ (ρ : List ℤ) where
  monomial : List ℕ → ℤ
  monomial [] = pos (suc zero)
  monomial (i ∷ m) = at ρ i *ℤ monomial m

  polynomial : Polynomial → ℤ
  polynomial nil = pos zero
  polynomial (term c m p) = c *ℤ monomial m +ℤ polynomial p

  insert_value : (i : ℕ) (m : List ℕ) → monomial (insert i m) ≡ at ρ i *ℤ monomial m
  unfolding monomial
  insert_value i [] = refl
  insert_value i (j ∷ m) =
      choose_cases (compare i j) (i ∷ j ∷ m) (i ∷ j ∷ m) (j ∷ insert i m) (λ r. monomial r ≡ at ρ i *ℤ monomial (j ∷ m))
      refl
      (λ e. refl)
      (ap (λ x. at ρ j *ℤ x) (insert_value i m) ∙ *ℤ_left_comm (at ρ j) (at ρ i) (monomial m))

  multiply_monomials_value : (m n : List ℕ) → monomial (multiply_monomials m n) ≡ monomial m *ℤ monomial n
  unfolding monomial
  multiply_monomials_value [] n = sym (one-*ℤ (monomial n))
  multiply_monomials_value (i ∷ m) n =
      insert_value i (multiply_monomials m n)
      ∙ ap (λ x. at ρ i *ℤ x) (multiply_monomials_value m n)
      ∙ sym (*ℤ_assoc (at ρ i) (monomial m) (monomial n))

  front_value : (c : ℤ) (m : List ℕ) (p : Polynomial) → polynomial (front c m p) ≡ c *ℤ monomial m +ℤ polynomial p
  unfolding polynomial
  front_value (pos zero) m p = sym (ap (λ x. x +ℤ polynomial p) (zero-*ℤ (monomial m)) ∙ +ℤ_idl (polynomial p))
  front_value (pos (suc c)) m p = refl
  front_value (negsuc c) m p = refl

  merge_value : (c : ℤ) (m : List ℕ) (p : Polynomial) (f : Polynomial → Polynomial)
      → ((r : Polynomial) → polynomial (f r) ≡ polynomial p +ℤ polynomial r)
      → (q : Polynomial) → polynomial (merge c m f q) ≡ c *ℤ monomial m +ℤ polynomial p +ℤ polynomial q
  unfolding polynomial
  merge_value c m p f h nil =
      ap (λ x. c *ℤ monomial m +ℤ x) (h nil) ∙ sym (+ℤ_assoc (c *ℤ monomial m) (polynomial p) (pos zero))
  merge_value c m p f h (term d n q) =
      choose_cases (compare_monomials m n) (term c m (f (term d n q))) (front (c +ℤ d) n (f q)) (term d n (merge c m f q))
      (λ r. polynomial r ≡ c *ℤ monomial m +ℤ polynomial p +ℤ polynomial (term d n q))
      (ap (λ x. c *ℤ monomial m +ℤ x) (h (term d n q))
      ∙ sym (+ℤ_assoc (c *ℤ monomial m) (polynomial p) (polynomial (term d n q))))
      (λ t. front_value (c +ℤ d) n (f q)
      ∙ ap (λ x. (c +ℤ d) *ℤ monomial n +ℤ x) (h q)
      ∙ ap (λ x. x +ℤ (polynomial p +ℤ polynomial q)) (*ℤ_distr_r c d (monomial n))
      ∙ +ℤ_swap (c *ℤ monomial n) (d *ℤ monomial n) (polynomial p) (polynomial q)
      ∙ ap (λ x. c *ℤ monomial x +ℤ polynomial p +ℤ (d *ℤ monomial n +ℤ polynomial q)) (sym (monomials_equal m n t)))
      (ap (λ x. d *ℤ monomial n +ℤ x) (merge_value c m p f h q)
      ∙ +ℤ_left_comm (d *ℤ monomial n) (c *ℤ monomial m +ℤ polynomial p) (polynomial q))

  add_value : (p q : Polynomial) → polynomial (add p q) ≡ polynomial p +ℤ polynomial q
  unfolding polynomial
  add_value nil q = sym (+ℤ_idl (polynomial q))
  add_value (term c m p) q = merge_value c m p (λ r. add p r) (λ r. add_value p r) q

  multiply_term_value : (c : ℤ) (m : List ℕ) (q : Polynomial)
      → polynomial (multiply_term c m q) ≡ c *ℤ monomial m *ℤ polynomial q
  unfolding polynomial
  multiply_term_value c m nil = sym (*ℤ-zero (c *ℤ monomial m))
  multiply_term_value c m (term d n q) =
      ap (λ x. c *ℤ d *ℤ x +ℤ polynomial (multiply_term c m q)) (multiply_monomials_value m n)
      ∙ ap (λ x. x +ℤ polynomial (multiply_term c m q)) (*ℤ_swap c d (monomial m) (monomial n))
      ∙ ap (λ x. c *ℤ monomial m *ℤ (d *ℤ monomial n) +ℤ x) (multiply_term_value c m q)
      ∙ sym (*ℤ_distr_l (c *ℤ monomial m) (d *ℤ monomial n) (polynomial q))

  multiply_value : (p q : Polynomial) → polynomial (multiply p q) ≡ polynomial p *ℤ polynomial q
  unfolding polynomial
  multiply_value nil q = sym (zero-*ℤ (polynomial q))
  multiply_value (term c m p) q =
      add_value (multiply_term c m q) (multiply p q)
      ∙ ap (λ x. x +ℤ polynomial (multiply p q)) (multiply_term_value c m q)
      ∙ ap (λ x. c *ℤ monomial m *ℤ polynomial q +ℤ x) (multiply_value p q)
      ∙ sym (*ℤ_distr_r (c *ℤ monomial m) (polynomial p) (polynomial q))

  negate_value : (p : Polynomial) → polynomial (negate p) ≡ neg_ℤ (polynomial p)
  unfolding polynomial
  negate_value nil = refl
  negate_value (term c m p) =
      ap (λ x. x +ℤ polynomial (negate p)) (neg-*ℤ c (monomial m))
      ∙ ap (λ x. neg_ℤ (c *ℤ monomial m) +ℤ x) (negate_value p)
      ∙ sym (neg_ℤ-+ℤ (c *ℤ monomial m) (polynomial p))

  times_one : (x : ℤ) → x *ℤ pos (suc zero) ≡ x
  times_one x = *ℤ_comm x (pos (suc zero)) ∙ one-*ℤ x

  normal_value : (e : Expression) → polynomial (normal e) ≡ value ρ e
  unfolding polynomial monomial
  normal_value (variable i) = +ℤ_idr _ ∙ one-*ℤ _ ∙ times_one (at ρ i)
  normal_value (constant c) = front_value c [] nil ∙ +ℤ_idr _ ∙ times_one c
  normal_value (a ⊕ b) =
      add_value (normal a) (normal b)
      ∙ ap (λ x. x +ℤ polynomial (normal b)) (normal_value a)
      ∙ ap (λ x. value ρ a +ℤ x) (normal_value b)
  normal_value (a ⊗ b) =
      multiply_value (normal a) (normal b)
      ∙ ap (λ x. x *ℤ polynomial (normal b)) (normal_value a)
      ∙ ap (λ x. value ρ a *ℤ x) (normal_value b)
  normal_value (⊝ a) = negate_value (normal a) ∙ ap neg_ℤ (normal_value a)

  vanishes_value : (p : Polynomial) → Vanishes p → polynomial p ≡ pos zero
  unfolding polynomial
  vanishes_value nil t = refl
  vanishes_value (term c m p) t = ap polynomial t

  not_negative_value : (p : Polynomial) → NotNegative p → (n : ℕ) × (polynomial p ≡ pos n)
  unfolding polynomial monomial
  not_negative_value nil t = (zero, refl)
  not_negative_value (term (pos c) [] nil) t = (c * suc zero + zero, refl)
  not_negative_value (term (pos c) [] (term d n p)) t = (zero, ap polynomial t)
  not_negative_value (term (pos c) (i ∷ m) p) t = (zero, ap polynomial t)
  not_negative_value (term (negsuc c) m p) t = (zero, ap polynomial t)

-- two expressions whose difference has no term have one value
pub same_value : (ρ : List ℤ) (a b : Expression) → Vanishes (normal (a ⊖ b)) → value ρ a ≡ value ρ b
same_value ρ a b t =
    equal_of_difference (value ρ a) (value ρ b) (sym (normal_value ρ (a ⊖ b)) ∙ vanishes_value ρ (normal (a ⊖ b)) t)

-- an expression that is a constant that is not negative, whatever the variables are
pub natural_value : (ρ : List ℤ) (a : Expression) → NotNegative (normal a) → (n : ℕ) × (value ρ a ≡ pos n)
natural_value ρ a t =
    let found = not_negative_value ρ (normal a) t in
    (found.0, sym (normal_value ρ a) ∙ found.1)
