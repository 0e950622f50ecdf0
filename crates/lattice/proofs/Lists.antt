-- What holds of the points, pairs, triples and neighbours of a list; membership. Assumes nothing.
use mathlib.Core.Path.{refl, sym, subst}
use mathlib.Core.Logic.{◌⊎◌, inl, inr}
use mathlib.Core.List.{List, [], ◌∷◌, ◌++◌}
use Rattle.lattice.specs.Point.{Point, In, All, Pairs}

-- by cases
pub either {ℓ} : {A B : Type 0} {X : Type ℓ} → A ⊎ B → (A → X) → (B → X) → X
either (inl a) f g = f a
either (inr b) f g = g b

-- ---- all
module _ (P : Point → Type 0) where
  pub all_in : (l : List Point) → All P l → (q : Point) → In q l → P q
  all_in [] h q m = absurd m
  all_in (a ∷ l) h q (inl e) = subst P (sym e) h.0
  all_in (a ∷ l) h q (inr m) = all_in l h.1 q m

  pub in_all : (l : List Point) → ((q : Point) → In q l → P q) → All P l
  in_all [] h = tt
  in_all (a ∷ l) h = (h a (inl refl), in_all l (λ q m. h q (inr m)))

pub all_map : (P Q : Point → Type 0) → ((q : Point) → P q → Q q) → (l : List Point) → All P l → All Q l
all_map P Q f l h = in_all Q l (λ q m. f q (all_in P l h q m))

-- ---- pairs
-- a relation R follows from Q for points of the list
pub pairs_map : (R Q : Point → Point → Type 0) (l : List Point)
    → ((a b : Point) → In a l → In b l → R a b → Q a b) → Pairs R l → Pairs Q l
pairs_map R Q [] f h = tt
pairs_map R Q (a ∷ l) f h = (
  in_all (Q a) l (λ b m. f a b (inl refl) (inr m) (all_in (R a) l h.0 b m)),
  pairs_map R Q l (λ u v i j. f u v (inr i) (inr j)) h.1,
)

pub pairs_both : (R Q : Point → Point → Type 0) (l : List Point) → Pairs R l → Pairs Q l → Pairs (λ a b. R a b × Q a b) l
pairs_both R Q [] h g = tt
pairs_both R Q (a ∷ l) h g = (
  in_all (λ b. R a b × Q a b) l (λ b m. (all_in (R a) l h.0 b m, all_in (Q a) l g.0 b m)),
  pairs_both R Q l h.1 g.1,
)

-- ---- neighbours
-- what holds of any two neighbours, of any three
abbrev pub Chain : (Point → Point → Type 0) → List Point → Type 0
Chain R [] = Unit {0}
Chain R (a ∷ []) = Unit {0}
Chain R (a ∷ b ∷ l) = R a b × Chain R (b ∷ l)

abbrev pub Bends : (Point → Point → Point → Type 0) → List Point → Type 0
Bends R [] = Unit {0}
Bends R (a ∷ []) = Unit {0}
Bends R (a ∷ b ∷ []) = Unit {0}
Bends R (a ∷ b ∷ c ∷ l) = R a b c × Bends R (b ∷ c ∷ l)

-- a relation that is transitive among the points of the list
pub chain_pairs : (R : Point → Point → Type 0) (l : List Point)
    → ((a b c : Point) → In a l → In b l → In c l → R a b → R b c → R a c) → Chain R l → Pairs R l
chain_pairs R [] f h = tt
chain_pairs R (a ∷ []) f h = (tt, tt)
chain_pairs R (a ∷ b ∷ l) f h =
    let r = chain_pairs R (b ∷ l) (λ u v w i j k. f u v w (inr i) (inr j) (inr k)) h.1 in
    ((h.0, in_all (R a) l (λ q m. f a b q (inl refl) (inr (inl refl)) (inr (inr m)) h.0 (all_in (R b) l r.0 q m))), r)

pub pairs_chain : (R : Point → Point → Type 0) (l : List Point) → Pairs R l → Chain R l
pairs_chain R [] h = tt
pairs_chain R (a ∷ []) h = tt
pairs_chain R (a ∷ b ∷ l) h = (h.0.0, pairs_chain R (b ∷ l) h.1)

pub bends_tail : (R : Point → Point → Point → Type 0) (a : Point) (l : List Point) → Bends R (a ∷ l) → Bends R l
bends_tail R a [] h = tt
bends_tail R a (b ∷ []) h = tt
bends_tail R a (b ∷ c ∷ l) h = h.1

-- ---- two lists, one behind the other
pub in_left : (q : Point) (l m : List Point) → In q l → In q (l ++ m)
in_left q [] m i = absurd i
in_left q (a ∷ l) m (inl e) = inl e
in_left q (a ∷ l) m (inr i) = inr (in_left q l m i)

pub in_right : (q : Point) (l m : List Point) → In q m → In q (l ++ m)
in_right q [] m i = i
in_right q (a ∷ l) m i = inr (in_right q l m i)

pub in_cases : (q : Point) (l m : List Point) → In q (l ++ m) → In q l ⊎ In q m
in_cases q [] m i = inr i
in_cases q (a ∷ l) m (inl e) = inl (inl e)
in_cases q (a ∷ l) m (inr i) = either (in_cases q l m i) (λ j. inl (inr j)) (λ j. inr j)

pub pairs_append : (R : Point → Point → Type 0) (l m : List Point)
    → Pairs R l → Pairs R m → ((a b : Point) → In a l → In b m → R a b) → Pairs R (l ++ m)
pairs_append R [] m h g f = g
pairs_append R (a ∷ l) m h g f = (
  in_all (R a) (l ++ m) (λ q i. either (in_cases q l m i) (all_in (R a) l h.0 q) (λ j. f a q (inl refl) j)),
  pairs_append R l m h.1 g (λ u v i j. f u v (inr i) j),
)
