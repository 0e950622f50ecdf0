-- Round a list of the shape the steps of a coordinate add up to twice its extent. Assumes nothing.
use mathlib.Core.Path.{◌≡◌, refl, sym, ◌∙◌, ap}
use mathlib.Core.Logic.{inl, inr}
use mathlib.Core.List.{List, [], ◌∷◌}
use lib.IntN.{ℤ, pos, negsuc, neg_ℤ, ◌+ℤ◌, ◌*ℤ◌, ◌-ℤ◌}
use Rattle.whole.proofs.Whole.{ring, quote, ◌≤ᶻ◌, ◌<ᶻ◌, Positive, gap≤, gap<, ◌⊞◌, ◌⊠◌, ◌⋆≡◌, ◌∗≡◌, ◌∔◌, linear≤, linear⊥, linear≡, le_or_lt, le_of_lt, le_of_equal, le_transitive, le_negated, antisymmetric, absolute, absolute_of_nonnegative, absolute_of_nonpositive}
use Rattle.lattice.specs.Point.{Point, In}
use Rattle.lattice.specs.Hull.{turn}
use Rattle.lattice.proofs.Turn.{coordinates, Left}
use Rattle.lattice.proofs.Lists.{either, all_in}
use Rattle.lattice.proofs.Shape.{Shape}
use Rattle.pick.specs.Pick.{around}
use Rattle.pick.specs.Solid.{Least, Greatest}
use Rattle.pick.proofs.Extreme.{Linear, negated, negated_linear, least_negated, greatest_le, greatest_unique, greatest_exists}
use Rattle.pick.proofs.Fan.{without_second}

-- ---- how far two points are apart in a coordinate
unfoldable pub apart : (Point → ℤ) → Point → Point → ℤ
apart f a b = absolute (f b -ℤ f a)

module _ (f : Point → ℤ) (a b : Point) where
  apart_up : f a ≤ᶻ f b → apart f a b ≡ f b -ℤ f a
  unfolding apart
  apart_up h = absolute_of_nonnegative (gap≤ h)

  apart_down : f b ≤ᶻ f a → apart f a b ≡ f a -ℤ f b
  unfolding apart
  apart_down h =
      absolute_of_nonpositive {z = f b -ℤ f a} (linear≤ (f a ∷ f b ∷ []) (gap≤ h) (search quote depth 20) tt)
      ∙ ring (f a ∷ f b ∷ []) (search quote depth 20) tt

apart_back : (f : Point → ℤ) (a b : Point) → apart f a b ≡ apart f b a
apart_back f a b =
    either (le_or_lt (f a) (f b)) (λ h. apart_up f a b h ∙ sym (apart_down f b a h))
    (λ h. apart_down f a b (le_of_lt h) ∙ sym (apart_up f b a (le_of_lt h)))

-- ---- a changes the greatest value only from beyond its neighbours: theirs is m, that of all points most, and rest without a
record Grows (m a most rest : ℤ) : Type 0 where
  inside : a ≤ᶻ m → most ≡ rest
  beyond : m ≤ᶻ a → (most ≡ a) × (rest ≡ m)

-- by a functional of value fc, fa, fb, fq: a and q on the two sides of c b are not both beyond c and b
not_both_beyond : (fc fa fb fq m X Y Z K : ℤ) → fc *ℤ X +ℤ fb *ℤ Y ≡ fa *ℤ Z +ℤ fq *ℤ K → X +ℤ Y ≡ Z +ℤ K
    → Positive X → Positive Y → Positive Z → Positive K → fc ≤ᶻ m → fb ≤ᶻ m → m ≤ᶻ fa → m <ᶻ fq → ⊥
not_both_beyond fc fa fb fq m X Y Z K e s x y z v c b a q =
    linear⊥ (fc ∷ fa ∷ fb ∷ fq ∷ m ∷ X ∷ Y ∷ Z ∷ K ∷ [])
    (gap≤ a ⊠ le_of_lt z ⊞ gap< q ⊠ le_of_lt v ⊞ gap≤ c ⊠ le_of_lt x ⊞ gap≤ b ⊠ le_of_lt y ⊞ gap< v ⊞ negsuc 0 ⋆≡ e ⊞ m ⋆≡ s)
    (search quote depth 20 fits 4000) tt

module _ (c a b : Point) (l : List Point) (s : Shape (c ∷ a ∷ b ∷ l)) {f : Point → ℤ} (k : Linear f)
    {m : ℤ} (two : Greatest f (c ∷ b ∷ []) m) where
  four_points : (q : Point) → f c *ℤ turn a b q +ℤ f b *ℤ turn c a q ≡ f a *ℤ turn c b q +ℤ f q *ℤ turn c a b
  four_points q =
      linear≡ (k.0 ∷ k.1 ∷ f c ∷ f a ∷ f b ∷ f q ∷ coordinates (c ∷ a ∷ b ∷ q ∷ []))
      (turn a b q ∗≡ k.2 c ∔ turn c a q ∗≡ k.2 b ∔ neg_ℤ (turn c b q) ∗≡ k.2 a ∔ neg_ℤ (turn c a b) ∗≡ k.2 q)
      (search quote depth 20 fits 4000) tt

  no_farther : m ≤ᶻ f a → (q : Point) → In q (c ∷ b ∷ l) → f q ≤ᶻ m
  no_farther h q (inl e) = two.bound q (inl e)
  no_farther h q (inr (inl e)) = two.bound q (inr (inl e))
  no_farther h q (inr (inr i)) =
      either (le_or_lt (f q) m) (λ u. u)
      (λ u. absurd (not_both_beyond (f c) (f a) (f b) (f q) m (turn a b q) (turn c a q) (turn c b q) (turn c a b) (four_points q)
      (ring (coordinates (c ∷ a ∷ b ∷ q ∷ [])) (search quote depth 20) tt)
      (all_in (Left a b) l s.three.1.0.0 q i)
      (all_in (Left c a) (b ∷ l) s.three.0.0 q (inr i))
      (all_in (Left c b) l s.three.0.1.0 q i)
      s.three.0.0.0 (two.bound c (inl refl)) (two.bound b (inr (inl refl))) h u))

  module _ {most rest : ℤ} (all : Greatest f (c ∷ a ∷ b ∷ l) most) (others : Greatest f (c ∷ b ∷ l) rest) where
    two_le_rest : m ≤ᶻ rest
    two_le_rest = greatest_le two (λ q i. others.bound q (either i (λ e. inl e) (λ j. inr (either j (λ e. inl e) (λ n. absurd n)))))

    by_a : {n : ℤ} → f a ≤ᶻ n → ((q : Point) → In q (c ∷ b ∷ l) → f q ≤ᶻ n) → most ≤ᶻ n
    by_a h g =
        greatest_le all
        (λ q i. either i (λ e. g q (inl e)) (λ j. either j (λ e. le_transitive (le_of_equal (ap f e)) h) (λ r. g q (inr r))))

    grows : Grows m (f a) most rest
    grows = record {
      inside = λ h. antisymmetric (by_a (le_transitive h two_le_rest) others.bound)
          (greatest_le others (λ q i. all.bound q (either i (λ e. inl e) (λ j. inr (inr j)))));
      beyond = λ h. (
        antisymmetric (by_a (le_of_equal refl) (λ q i. le_transitive (no_farther h q i) h)) (all.bound a (inr (inl refl))),
        antisymmetric (greatest_le others (no_farther h)) two_le_rest,
      );
    }

-- ---- the way from u to v by a is longer by twice what a is beyond them
detour : (f : Point → ℤ) (u a v : Point) {most rest most' rest' : ℤ} → f u ≤ᶻ f v
    → Grows (f v) (f a) most rest → Grows (neg_ℤ (f u)) (neg_ℤ (f a)) most' rest'
    → apart f u a +ℤ apart f a v ≡ apart f u v +ℤ pos 2 *ℤ (most -ℤ rest) +ℤ pos 2 *ℤ (most' -ℤ rest')
detour f u a v {most} {rest} {most'} {rest'} h up down =
    let ρ = f u ∷ f a ∷ f v ∷ apart f u a ∷ apart f a v ∷ apart f u v ∷ most ∷ rest ∷ most' ∷ rest' ∷ [] in
    either (le_or_lt (f a) (f u))
    (λ k. let r = down.beyond (le_negated k) in
    linear≡ ρ
    (pos 1 ∗≡ apart_down f u a k ∔ pos 1 ∗≡ apart_up f a v (le_transitive k h) ∔ negsuc 0 ∗≡ apart_up f u v h
    ∔ negsuc 1 ∗≡ up.inside (le_transitive k h) ∔ negsuc 1 ∗≡ r.0 ∔ pos 2 ∗≡ r.1)
    (search quote depth 20) tt)
    (λ k. let fixed = down.inside (le_negated (le_of_lt k)) in
    either (le_or_lt (f a) (f v))
    (λ j. linear≡ ρ
    (pos 1 ∗≡ apart_up f u a (le_of_lt k) ∔ pos 1 ∗≡ apart_up f a v j ∔ negsuc 0 ∗≡ apart_up f u v h
    ∔ negsuc 1 ∗≡ up.inside j ∔ negsuc 1 ∗≡ fixed)
    (search quote depth 20) tt)
    (λ j. let r = up.beyond (le_of_lt j) in
    linear≡ ρ
    (pos 1 ∗≡ apart_up f u a (le_of_lt k) ∔ pos 1 ∗≡ apart_down f a v (le_of_lt j) ∔ negsuc 0 ∗≡ apart_up f u v h
    ∔ negsuc 1 ∗≡ r.0 ∔ pos 2 ∗≡ r.1 ∔ negsuc 1 ∗≡ fixed)
    (search quote depth 20) tt))

-- ---- one point, two points
alone : (f : Point → ℤ) (c : Point) {m : ℤ} → Greatest f (c ∷ []) m → m ≡ f c
alone f c g = antisymmetric (greatest_le g (all_in (λ q. f q ≤ᶻ f c) (c ∷ []) (le_of_equal refl, tt))) (g.bound c (inl refl))

module _ {f : Point → ℤ} (c b : Point) where
  second_greater : f c ≤ᶻ f b → Greatest f (c ∷ b ∷ []) (f b)
  second_greater h = record {
    bound = all_in (λ q. f q ≤ᶻ f b) (c ∷ b ∷ []) (h, (le_of_equal refl, tt));
    reached = (b, inr (inl refl), refl);
  }

  first_greater : f b ≤ᶻ f c → Greatest f (c ∷ b ∷ []) (f c)
  first_greater h = record {
    bound = all_in (λ q. f q ≤ᶻ f c) (c ∷ b ∷ []) (le_of_equal refl, (h, tt));
    reached = (c, inl refl, refl);
  }

apart_greatest : (f : Point → ℤ) (c b : Point) {m m' : ℤ}
    → Greatest f (c ∷ b ∷ []) m → Greatest (negated f) (c ∷ b ∷ []) m' → apart f c b ≡ m +ℤ m'
apart_greatest f c b {m} {m'} g g' =
    let ρ = f c ∷ f b ∷ m ∷ m' ∷ apart f c b ∷ [] in
    either (le_or_lt (f c) (f b))
    (λ h. linear≡ ρ
    (pos 1 ∗≡ apart_up f c b h ∔ negsuc 0 ∗≡ greatest_unique g (second_greater c b h)
    ∔ negsuc 0 ∗≡ greatest_unique g' (first_greater c b (le_negated h)))
    (search quote depth 20) tt)
    (λ h. linear≡ ρ
    (pos 1 ∗≡ apart_down f c b (le_of_lt h) ∔ negsuc 0 ∗≡ greatest_unique g (first_greater c b (le_of_lt h))
    ∔ negsuc 0 ∗≡ greatest_unique g' (second_greater c b (le_negated (le_of_lt h))))
    (search quote depth 20) tt)

-- ---- round the list
module _ (c a b : Point) (l : List Point) (s : Shape (c ∷ a ∷ b ∷ l)) {f : Point → ℤ} (k : Linear f) {most rest most' rest' : ℤ}
    (all : Greatest f (c ∷ a ∷ b ∷ l) most) (all' : Greatest (negated f) (c ∷ a ∷ b ∷ l) most')
    (others : Greatest f (c ∷ b ∷ l) rest) (others' : Greatest (negated f) (c ∷ b ∷ l) rest') where
  by_second : apart f c a +ℤ apart f a b ≡ apart f c b +ℤ pos 2 *ℤ (most -ℤ rest) +ℤ pos 2 *ℤ (most' -ℤ rest')
  by_second =
      either (le_or_lt (f c) (f b))
      (λ h. detour f c a b h (grows c a b l s k (second_greater c b h) all others)
      (grows c a b l s (negated_linear k) (first_greater c b (le_negated h)) all' others'))
      (λ h. linear≡ (apart f c a ∷ apart f a b ∷ apart f c b ∷ apart f a c ∷ apart f b a ∷ apart f b c ∷ most ∷ rest ∷ most' ∷ rest' ∷ [])
      (pos 1 ∗≡ apart_back f c a ∔ pos 1 ∗≡ apart_back f a b ∔ negsuc 0 ∗≡ apart_back f c b
      ∔ pos 1 ∗≡ detour f b a c (le_of_lt h) (grows c a b l s k (first_greater c b (le_of_lt h)) all others)
      (grows c a b l s (negated_linear k) (second_greater c b (le_negated (le_of_lt h))) all' others'))
      (search quote depth 20) tt)

around_greatest : {f : Point → ℤ} → Linear f → (c : Point) (l : List Point) → Shape (c ∷ l) → {m m' : ℤ}
    → Greatest f (c ∷ l) m → Greatest (negated f) (c ∷ l) m' → around (apart f) c c l ≡ pos 2 *ℤ (m +ℤ m')
around_greatest {f} k c [] s {m} {m'} g g' =
    linear≡ (f c ∷ m ∷ m' ∷ apart f c c ∷ [])
    (pos 1 ∗≡ apart_up f c c (le_of_equal refl) ∔ negsuc 1 ∗≡ alone f c g ∔ negsuc 1 ∗≡ alone (negated f) c g')
    (search quote depth 20) tt
around_greatest {f} k c (b ∷ []) s {m} {m'} g g' =
    linear≡ (m ∷ m' ∷ apart f c b ∷ apart f b c ∷ []) (pos 2 ∗≡ apart_greatest f c b g g' ∔ negsuc 0 ∗≡ apart_back f c b)
    (search quote depth 20) tt
around_greatest {f} k c (a ∷ b ∷ l) s {m} {m'} g g' =
    let (r, h) = greatest_exists f c (b ∷ l) in
    let (r', h') = greatest_exists (negated f) c (b ∷ l) in
    linear≡ (m ∷ m' ∷ r ∷ r' ∷ apart f c a ∷ apart f a b ∷ apart f c b ∷ around (apart f) c b l ∷ [])
    (pos 1 ∗≡ by_second c a b l s k g g' h h' ∔ pos 1 ∗≡ around_greatest k c (b ∷ l) (without_second c a b l s) h h')
    (search quote depth 20) tt

pub around_extent : {f : Point → ℤ} → Linear f → (c : Point) (l : List Point) → Shape (c ∷ l) → {m n : ℤ}
    → Least f (c ∷ l) m → Greatest f (c ∷ l) n → around (apart f) c c l ≡ pos 2 *ℤ (n -ℤ m)
around_extent k c l s least greatest = around_greatest k c l s greatest (least_negated least)
