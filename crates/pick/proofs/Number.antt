-- How many points have a property: the length of the list of them in row order; of a union, of a part, of what is left, of an image.
-- Assumes nothing.
use mathlib.Core.Path.{◌≡◌, refl, sym, ◌∙◌, ap, subst}
use mathlib.Core.Logic.{◌⊎◌, inl, inr}
use mathlib.Core.List.{List, [], ◌∷◌, ◌++◌}
use Prim.Native.Nat.{suc}
use lib.ListN.{length, length-append}
use lib.IntN.{ℤ, pos, negsuc, ◌+ℤ◌, ◌*ℤ◌, ◌-ℤ◌}
use Rattle.whole.proofs.Whole.{quote, linear≡, ◌∗≡◌}
use Rattle.lattice.specs.Point.{Point, In, Pairs, Before, Lists}
use Rattle.lattice.specs.Hull.{Of}
use Rattle.lattice.proofs.Lists.{either, all_in, in_all, in_left, in_right, in_cases, pairs_map, pairs_append}
use Rattle.lattice.proofs.Decide.{Decided, negated, yes_or_no, keep, keep_in, in_keep, pairs_keep}
use Rattle.lattice.proofs.RowOrder.{before_irreflexive}
use Rattle.lattice.proofs.SameMembers.{lists_unique, lists_same, lists_one}
use Rattle.lattice.proofs.RowLists.{row_order_exists, row_order_length}

-- z points have P
pub record Number (P : Point → Type 0) (z : ℤ) : Type 0 where
  pub list : List Point
  pub listed : Lists P list
  pub size : pos (length list) ≡ z

-- twice the number of the points with P is z
abbrev pub Twice : (Point → Type 0) → ℤ → Type 0
Twice P z = (n : ℤ) × Number P n × (pos 2 *ℤ n ≡ z)

pub number_unique : {P : Point → Type 0} {z w : ℤ} → Number P z → Number P w → z ≡ w
number_unique {P} h k = sym h.size ∙ ap (λ l. pos (length l)) (lists_unique P h.list k.list h.listed k.listed) ∙ k.size

-- the same property in other words
pub number_same : {P Q : Point → Type 0} {z : ℤ} → ((p : Point) → P p → Q p) → ((p : Point) → Q p → P p) → Number P z → Number Q z
number_same {P} {Q} f g h = record { list = h.list; listed = lists_same P Q f g h.list h.listed; size = h.size }

pub number_equal : {P : Point → Type 0} {z w : ℤ} → z ≡ w → Number P z → Number P w
number_equal {P} e h = subst (Number P) e h

pub number_none : {P : Point → Type 0} → ((p : Point) → P p → ⊥) → Number P (pos 0)
number_none f = record { list = []; listed = record { every = f; only = λ p i. absurd i; order = tt }; size = refl }

pub number_one : (a : Point) → Number (λ p. p ≡ a) (pos 1)
number_one a = record { list = a ∷ []; listed = lists_one a; size = refl }

-- ---- the points of a list without repeats
abbrev Apart : Point → Point → Type 0
Apart a b = a ≡ b → ⊥

number_of_list : (s : List Point) → Pairs Apart s → Number (Of s) (pos (length s))
number_of_list s h =
    let o = row_order_exists s in
    record { list = o.0; listed = o.1; size = ap pos (row_order_length s o.0 h o.1) }

in_order_apart : (l : List Point) → Pairs Before l → Pairs Apart l
in_order_apart l =
    pairs_map Before Apart l (λ a b i j h e. before_irreflexive b (subst (λ z. Before z b) e h))

-- ---- either of two properties that no point has both of
pub number_union : {P Q : Point → Type 0} {z w : ℤ} → ((p : Point) → P p → Q p → ⊥) → Number P z → Number Q w
    → Number (λ p. P p ⊎ Q p) (z +ℤ w)
number_union {P} {Q} {z} {w} apart h k =
    number_equal size
    (number_same
    (λ p i. either (in_cases p h.list k.list i) (λ j. inl (h.listed.only p j)) (λ j. inr (k.listed.only p j)))
    (λ p q. either q
    (λ x. in_left p h.list k.list (h.listed.every p x))
    (λ x. in_right p h.list k.list (k.listed.every p x)))
    (number_of_list (h.list ++ k.list) once))
  where
    once : Pairs Apart (h.list ++ k.list)
    once =
        pairs_append Apart h.list k.list
        (in_order_apart h.list h.listed.order) (in_order_apart k.list k.listed.order)
        (λ a b i j e. apart a (h.listed.only a i) (subst Q (sym e) (k.listed.only b j)))

    size : pos (length (h.list ++ k.list)) ≡ z +ℤ w
    size =
        ap pos (length-append h.list k.list)
        ∙ ap (λ x. x +ℤ pos (length k.list)) h.size
        ∙ ap (λ x. z +ℤ x) k.size

-- ---- those that pass a test too
pub number_part : {P D : Point → Type 0} {z : ℤ} → ((p : Point) → Decided (D p)) → Number P z → (w : ℤ) × Number (λ p. P p × D p) w
number_part {P} {D} d h = (
  pos (length (keep D d h.list)),
  record {
    list = keep D d h.list;
    listed = record {
      every = λ p x. in_keep D d h.list p (h.listed.every p x.0) x.1;
      only = λ p i. let k = keep_in D d h.list p i in (h.listed.only p k.0, k.1);
      order = pairs_keep D d Before h.list h.listed.order;
    };
    size = refl;
  },
)

-- ---- U is L and R, and no point is in both
pub number_left : {U L R : Point → Type 0} {z w : ℤ} → ((p : Point) → Decided (R p))
    → ((p : Point) → U p → L p ⊎ R p) → ((p : Point) → L p → U p) → ((p : Point) → R p → U p) → ((p : Point) → L p → R p → ⊥)
    → Number U z → Number L w → Number R (z -ℤ w)
number_left {U} {L} {R} {z} {w} decide split left right apart u l =
    let r = number_part {D = R} decide u in
    let e : z ≡ w +ℤ r.0 = number_unique u
    (number_same (λ p h. either h (left p) (λ k. k.0)) (λ p h. either (split p h) (λ k. inl k) (λ k. inr (h, k)))
    (number_union (λ p h k. apart p h k.1) l r.1)) in
    number_equal (linear≡ (z ∷ w ∷ r.0 ∷ []) (negsuc 0 ∗≡ e) (search quote depth 20) tt)
    (number_same (λ p h. h.1) (λ p h. (right p h, h)) r.1)

-- ---- W is T and Q, and S is what is in both
pub number_overlap : {W T Q S : Point → Type 0} {t q s : ℤ} → ((p : Point) → Decided (T p))
    → ((p : Point) → W p → T p ⊎ Q p) → ((p : Point) → T p → W p) → ((p : Point) → Q p → W p)
    → ((p : Point) → S p → T p) → ((p : Point) → S p → Q p) → ((p : Point) → T p → Q p → S p)
    → Number T t → Number Q q → Number S s → Number W (t +ℤ q -ℤ s)
number_overlap {W} {T} {Q} {S} {t} {q} {s} decide split left right shared_left shared_right shared nt nq ns =
    let r = number_part {D = λ p. T p → ⊥} (λ p. negated (decide p)) nq in
    let e : q ≡ s +ℤ r.0 = number_unique nq
    (number_same (λ p h. either h (shared_right p) (λ k. k.0))
    (λ p h. either (yes_or_no (decide p)) (λ k. inl (shared p k h)) (λ n. inr (h, n)))
    (number_union (λ p h k. k.1 (shared_left p h)) ns r.1)) in
    number_equal (linear≡ (t ∷ q ∷ s ∷ r.0 ∷ []) (negsuc 0 ∗≡ e) (search quote depth 20) tt)
    (number_same (λ p h. either h (left p) (λ k. right p k.0))
    (λ p h. either (yes_or_no (decide p)) (λ k. inl k) (λ n. either (split p h) (λ k. inl k) (λ k. inr (k, n))))
    (number_union (λ p h k. k.1 h) nt r.1))

-- ---- through a map that undoes itself
module _ (f : Point → Point) (back : (p : Point) → f (f p) ≡ p) where
  image : List Point → List Point
  image [] = []
  image (a ∷ l) = f a ∷ image l

  in_image : (l : List Point) (p : Point) → In (f p) l → In p (image l)
  unfolding image
  in_image [] p i = i
  in_image (a ∷ l) p (inl e) = inl (sym (back p) ∙ ap f e)
  in_image (a ∷ l) p (inr i) = inr (in_image l p i)

  image_in : (l : List Point) (p : Point) → In p (image l) → In (f p) l
  unfolding image
  image_in [] p i = i
  image_in (a ∷ l) p (inl e) = inl (ap f e ∙ back a)
  image_in (a ∷ l) p (inr i) = inr (image_in l p i)

  image_once : (l : List Point) → Pairs Apart l → Pairs Apart (image l)
  unfolding image
  image_once [] h = tt
  image_once (a ∷ l) h = (
    in_all (Apart (f a)) (image l) (λ q i e. all_in (Apart a) l h.0 (f q) (image_in l q i) (sym (back a) ∙ ap f e)),
    image_once l h.1,
  )

  image_length : (l : List Point) → length (image l) ≡ length l
  unfolding image
  image_length [] = refl
  image_length (a ∷ l) = ap suc (image_length l)

  pub number_image : {P : Point → Type 0} {z : ℤ} → Number P z → Number (λ p. P (f p)) z
  number_image {P} h =
      number_equal (ap pos (image_length h.list) ∙ h.size)
      (number_same
      (λ p i. h.listed.only (f p) (image_in h.list p i))
      (λ p x. in_image h.list p (h.listed.every (f p) x))
      (number_of_list (image h.list) (image_once h.list (in_order_apart h.list h.listed.order))))
