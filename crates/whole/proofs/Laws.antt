-- The laws of a commutative ring that lib.IntN does not have: regrouping, distributivity, associativity of the product, negation.
-- Assumes nothing.
use mathlib.Core.Path.{◌≡◌, refl, sym, ◌∙◌, ap}
use Prim.Native.Nat.{ℕ, zero, suc, ◌*◌}
use lib.IntN.{ℤ, pos, negsuc, suc_ℤ, pred_ℤ, neg_ℤ, one, ◌+ℤ◌, ◌*ℤ◌, ◌-ℤ◌, +ℤ_assoc, +ℤ_comm, +ℤ_idl, +ℤ_idr, +ℤ_invl, suc_ℤ-+ℤ, pred_ℤ-+ℤ, suc_ℤ-*ℤ, pred_ℤ-*ℤ, zero-*ℤ, *ℤ_comm, *ℤ-one, neg_ℤ-neg_ℤ}

-- ---- sums regrouped
+ℤ_right_comm : (a b c : ℤ) → a +ℤ b +ℤ c ≡ a +ℤ c +ℤ b
+ℤ_right_comm a b c = +ℤ_assoc a b c ∙ ap (λ x. a +ℤ x) (+ℤ_comm b c) ∙ sym (+ℤ_assoc a c b)

pub +ℤ_left_comm : (a b c : ℤ) → a +ℤ (b +ℤ c) ≡ b +ℤ (a +ℤ c)
+ℤ_left_comm a b c = sym (+ℤ_assoc a b c) ∙ ap (λ x. x +ℤ c) (+ℤ_comm a b) ∙ +ℤ_assoc b a c

pub +ℤ_swap : (a b c d : ℤ) → (a +ℤ b) +ℤ (c +ℤ d) ≡ (a +ℤ c) +ℤ (b +ℤ d)
+ℤ_swap a b c d = +ℤ_assoc a b (c +ℤ d) ∙ ap (λ x. a +ℤ x) (+ℤ_left_comm b c d) ∙ sym (+ℤ_assoc a c (b +ℤ d))

-- ---- distributivity, by successor and predecessor in the first factor
distr_suc : (m n k : ℤ) → (m +ℤ n) *ℤ k ≡ m *ℤ k +ℤ n *ℤ k → (suc_ℤ m +ℤ n) *ℤ k ≡ suc_ℤ m *ℤ k +ℤ n *ℤ k
distr_suc m n k before =
    ap (λ x. x *ℤ k) (suc_ℤ-+ℤ m n)
    ∙ suc_ℤ-*ℤ (m +ℤ n) k
    ∙ ap (λ x. x +ℤ k) before
    ∙ +ℤ_right_comm (m *ℤ k) (n *ℤ k) k
    ∙ ap (λ x. x +ℤ n *ℤ k) (sym (suc_ℤ-*ℤ m k))

distr_pred : (m n k : ℤ) → (m +ℤ n) *ℤ k ≡ m *ℤ k +ℤ n *ℤ k → (pred_ℤ m +ℤ n) *ℤ k ≡ pred_ℤ m *ℤ k +ℤ n *ℤ k
distr_pred m n k before =
    ap (λ x. x *ℤ k) (pred_ℤ-+ℤ m n)
    ∙ pred_ℤ-*ℤ (m +ℤ n) k
    ∙ ap (λ x. x -ℤ k) before
    ∙ +ℤ_right_comm (m *ℤ k) (n *ℤ k) (neg_ℤ k)
    ∙ ap (λ x. x +ℤ n *ℤ k) (sym (pred_ℤ-*ℤ m k))

distr_zero : (n k : ℤ) → (pos zero +ℤ n) *ℤ k ≡ pos zero *ℤ k +ℤ n *ℤ k
distr_zero n k = ap (λ x. x *ℤ k) (+ℤ_idl n) ∙ sym (ap (λ x. x +ℤ n *ℤ k) (zero-*ℤ k) ∙ +ℤ_idl (n *ℤ k))

pub *ℤ_distr_r : (m n k : ℤ) → (m +ℤ n) *ℤ k ≡ m *ℤ k +ℤ n *ℤ k
*ℤ_distr_r (pos zero) n k = distr_zero n k
*ℤ_distr_r (pos (suc a)) n k = distr_suc (pos a) n k (*ℤ_distr_r (pos a) n k)
*ℤ_distr_r (negsuc zero) n k = distr_pred (pos zero) n k (distr_zero n k)
*ℤ_distr_r (negsuc (suc a)) n k = distr_pred (negsuc a) n k (*ℤ_distr_r (negsuc a) n k)

pub *ℤ_distr_l : (m n k : ℤ) → m *ℤ (n +ℤ k) ≡ m *ℤ n +ℤ m *ℤ k
*ℤ_distr_l m n k =
    *ℤ_comm m (n +ℤ k) ∙ *ℤ_distr_r n k m ∙ ap (λ x. x +ℤ k *ℤ m) (*ℤ_comm n m) ∙ ap (λ x. m *ℤ n +ℤ x) (*ℤ_comm k m)

-- ---- a negation moves out of the first factor
pub neg-*ℤ : (m k : ℤ) → neg_ℤ m *ℤ k ≡ neg_ℤ (m *ℤ k)
neg-*ℤ (pos zero) k = zero-*ℤ k ∙ sym (ap neg_ℤ (zero-*ℤ k))
neg-*ℤ (pos (suc a)) (pos b) = refl
neg-*ℤ (pos (suc a)) (negsuc b) = sym (neg_ℤ-neg_ℤ (pos (suc a * suc b)))
neg-*ℤ (negsuc a) (pos b) = sym (neg_ℤ-neg_ℤ (pos (suc a * b)))
neg-*ℤ (negsuc a) (negsuc b) = refl

-- ---- products regrouped
assoc_suc : (m n k : ℤ) → (m *ℤ n) *ℤ k ≡ m *ℤ (n *ℤ k) → (suc_ℤ m *ℤ n) *ℤ k ≡ suc_ℤ m *ℤ (n *ℤ k)
assoc_suc m n k before =
    ap (λ x. x *ℤ k) (suc_ℤ-*ℤ m n) ∙ *ℤ_distr_r (m *ℤ n) n k ∙ ap (λ x. x +ℤ n *ℤ k) before ∙ sym (suc_ℤ-*ℤ m (n *ℤ k))

assoc_pos : (a : ℕ) (n k : ℤ) → (pos a *ℤ n) *ℤ k ≡ pos a *ℤ (n *ℤ k)
assoc_pos zero n k = ap (λ x. x *ℤ k) (zero-*ℤ n) ∙ zero-*ℤ k ∙ sym (zero-*ℤ (n *ℤ k))
assoc_pos (suc a) n k = assoc_suc (pos a) n k (assoc_pos a n k)

pub *ℤ_assoc : (m n k : ℤ) → (m *ℤ n) *ℤ k ≡ m *ℤ (n *ℤ k)
*ℤ_assoc (pos a) n k = assoc_pos a n k
*ℤ_assoc (negsuc a) n k =
    ap (λ x. x *ℤ k) (neg-*ℤ (pos (suc a)) n)
    ∙ neg-*ℤ (pos (suc a) *ℤ n) k
    ∙ ap neg_ℤ (assoc_pos (suc a) n k)
    ∙ sym (neg-*ℤ (pos (suc a)) (n *ℤ k))

pub *ℤ_left_comm : (a b c : ℤ) → a *ℤ (b *ℤ c) ≡ b *ℤ (a *ℤ c)
*ℤ_left_comm a b c = sym (*ℤ_assoc a b c) ∙ ap (λ x. x *ℤ c) (*ℤ_comm a b) ∙ *ℤ_assoc b a c

pub *ℤ_swap : (a b c d : ℤ) → (a *ℤ b) *ℤ (c *ℤ d) ≡ (a *ℤ c) *ℤ (b *ℤ d)
*ℤ_swap a b c d = *ℤ_assoc a b (c *ℤ d) ∙ ap (λ x. a *ℤ x) (*ℤ_left_comm b c d) ∙ sym (*ℤ_assoc a c (b *ℤ d))

pub one-*ℤ : (m : ℤ) → pos (suc zero) *ℤ m ≡ m
unfolding one
one-*ℤ m = *ℤ_comm (pos (suc zero)) m ∙ *ℤ-one m

-- ---- equality by the difference
pub equal_of_difference : (a b : ℤ) → a +ℤ neg_ℤ b ≡ pos zero → a ≡ b
equal_of_difference a b h =
    sym (+ℤ_idr a)
    ∙ ap (λ x. a +ℤ x) (sym (+ℤ_invl b))
    ∙ sym (+ℤ_assoc a (neg_ℤ b) b)
    ∙ ap (λ x. x +ℤ b) h
    ∙ +ℤ_idl b
