-- Lists with the same members: two that are in one strict order are equal, and so are two of a corner list's shape. Assumes nothing.
use mathlib.Core.Path.{◌≡◌, refl, sym, ◌∙◌, subst}
use mathlib.Core.Logic.{◌⊎◌, inl, inr}
use mathlib.Core.List.{List, [], ◌∷◌, ◌++◌}
use Rattle.whole.proofs.Whole.{quote, gap<, ◌⊞◌, linear⊥}
use Rattle.lattice.specs.Point.{Point, In, All, Pairs, Before, Lists}
use Rattle.lattice.proofs.Turn.{coordinates, Left}
use Rattle.lattice.proofs.Lists.{either, all_in, in_left, in_right, in_cases, pairs_append}
use Rattle.lattice.proofs.RowOrder.{before_asymmetric}
use Rattle.lattice.proofs.Shape.{Shape}

abbrev pub Subset : List Point → List Point → Type 0
Subset l m = (q : Point) → In q l → In q m

-- the two lists hold the same points
abbrev pub Same : List Point → List Point → Type 0
Same l m = Subset l m × Subset m l

module _ (R : Point → Point → Type 0) (asymmetric : (a b : Point) → R a b → R b a → ⊥) where
  heads_equal : (a b : Point) (l m : List Point) → All (R a) l → All (R b) m → Same (a ∷ l) (b ∷ m) → a ≡ b
  heads_equal a b l m h g f =
      either (f.0 a (inl refl)) (λ x. x)
      (λ i. either (f.1 b (inl refl)) (λ x. sym x) (λ j. absurd (asymmetric a b (all_in (R a) l h b j) (all_in (R b) m g a i))))

  tail_subset : (a b : Point) (l m : List Point) → a ≡ b → All (R a) l → Subset (a ∷ l) (b ∷ m) → Subset l m
  tail_subset a b l m e h f q i = either (f q (inr i)) (λ x. absurd (asymmetric a a (self x) (self x))) (λ x. x)
    where
      self : q ≡ b → R a a
      self x = subst (R a) (x ∙ sym e) (all_in (R a) l h q i)

  tails_same : (a b : Point) (l m : List Point) → a ≡ b → All (R a) l → All (R b) m → Same (a ∷ l) (b ∷ m) → Same l m
  tails_same a b l m e h g f = (tail_subset a b l m e h f.0, tail_subset b a m l (sym e) g f.1)

  pub ordered_unique : (l m : List Point) → Pairs R l → Pairs R m → Same l m → l ≡ m
  ordered_unique [] [] h g f = refl
  ordered_unique [] (b ∷ m) h g f = absurd (f.1 b (inl refl))
  ordered_unique (a ∷ l) [] h g f = absurd (f.0 a (inl refl))
  ordered_unique (a ∷ l) (b ∷ m) h g f =
      let x = heads_equal a b l m h.0 g.0 f in
      let y = ordered_unique l m h.1 g.1 (tails_same a b l m x h.0 g.0 f) in
      λ i. x i ∷ y i

-- ---- a list of the points with P, in row order
-- the points with P in row order are one list
pub lists_unique : (P : Point → Type 0) (l m : List Point) → Lists P l → Lists P m → l ≡ m
lists_unique P l m h g =
    ordered_unique Before before_asymmetric l m h.order g.order
    ((λ q i. g.every q (h.only q i)), (λ q i. h.every q (g.only q i)))

pub lists_same : (P Q : Point → Type 0) → ((p : Point) → P p → Q p) → ((p : Point) → Q p → P p)
    → (l : List Point) → Lists P l → Lists Q l
lists_same P Q f g l h = record { every = λ p m. h.every p (g p m); only = λ p m. f p (h.only p m); order = h.order }

-- one point, and a list before another
pub lists_one : (a : Point) → Lists (λ p. p ≡ a) (a ∷ [])
lists_one a = record { every = λ p e. inl e; only = λ p m. either m (λ e. e) (λ n. absurd n); order = (tt, tt) }

pub lists_append : (P Q R : Point → Type 0) → ((p : Point) → R p → P p ⊎ Q p) → ((p : Point) → P p → R p) → ((p : Point) → Q p → R p)
    → ((p q : Point) → P p → Q q → Before p q) → (l m : List Point) → Lists P l → Lists Q m → Lists R (l ++ m)
lists_append P Q R split left right order l m h g = record {
  every = λ p r. either (split p r) (λ i. in_left p l m (h.every p i)) (λ i. in_right p l m (g.every p i));
  only = λ p i. either (in_cases p l m i) (λ j. left p (h.only p j)) (λ j. right p (g.only p j));
  order = pairs_append Before l m h.order g.order (λ a b i j. order a b (h.only a i) (g.only b j));
}

-- ---- lists of a corner list's shape
turns_asymmetric : (o a b : Point) → Left o a b → Left o b a → ⊥
turns_asymmetric o a b h g = linear⊥ (coordinates (o ∷ a ∷ b ∷ [])) (gap< h ⊞ gap< g) (search quote depth 20) tt

-- the members of a list of the shape tell the list
pub shape_unique : (c d : List Point) → Shape c → Shape d → Same c d → c ≡ d
shape_unique [] [] h g f = refl
shape_unique [] (b ∷ m) h g f = absurd (f.1 b (inl refl))
shape_unique (a ∷ l) [] h g f = absurd (f.0 a (inl refl))
shape_unique (a ∷ l) (b ∷ m) h g f =
    let x = heads_equal Before before_asymmetric a b l m h.start g.start f in
    let y = ordered_unique (Left a) (turns_asymmetric a) l m h.three.0 (subst (λ z. Pairs (Left z) m) (sym x) g.three.0)
    (tails_same Before before_asymmetric a b l m x h.start g.start f) in
    λ i. x i ∷ y i
