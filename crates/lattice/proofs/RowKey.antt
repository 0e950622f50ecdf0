-- Row order by a number: x + K y orders a list of points by rows where K is more than its width, and key p = 16384 y + x orders all points
-- in range. So what holds of linear functionals holds of row order. Assumes nothing of a list; the range where `key` is named.
use mathlib.Core.Path.{refl, sym}
use mathlib.Core.Logic.{inl, inr}
use mathlib.Core.List.{List, [], ◌∷◌}
use Prim.Native.Nat.{ℕ}
use lib.IntN.{ℤ, pos, negsuc, neg_ℤ, ◌+ℤ◌, ◌-ℤ◌}
use Rattle.whole.proofs.Whole.{quote, ◌≤ᶻ◌, ◌<ᶻ◌, Positive, NonNegative, gap≤, gap<, ◌⊞◌, ◌⊠◌, ◌⋆≡◌, linear≤, linear<, linear⊥, Sign, below, nought, above, sign, le_or_lt, le_of_lt, product_positive, difference_zero, positive_by_products}
use Rattle.lattice.specs.Point.{Point, least, greatest, InRange, In, Before, row, column}
use Rattle.lattice.specs.Hull.{InHull, Of}
use Rattle.lattice.proofs.Turn.{coordinates, linear, Left, three_vectors}
use Rattle.lattice.proofs.Lists.{either, all_in}
use Rattle.lattice.proofs.HalfPlane.{strict_half_plane}
use Rattle.lattice.proofs.HullLaws.{hull_of_few}
use Rattle.lattice.proofs.Reach.{reach, reaches}

-- a key with K columns to a row: x + K y
abbrev pub key_by : ℤ → Point → ℤ
key_by K p = linear (pos 1) K p

-- x + K y orders the points of S by rows
pub record Orders (K : ℤ) (S : Point → Type 0) : Type 0 where
  pub rises : (a b : Point) → S a → S b → Before a b → key_by K a <ᶻ key_by K b
  pub follows : (a b : Point) → S a → S b → key_by K a <ᶻ key_by K b → Before a b

-- ---- columns from low to high
pub record Columns (low high : ℤ) (p : Point) : Type 0 where
  pub from : low ≤ᶻ p.x
  pub to : p.x ≤ᶻ high

abbrev pub width : ℤ → ℤ → ℤ
width low high = pos 1 +ℤ (high -ℤ low)

module _ (low high : ℤ) (a b : Point) (ha : Columns low high a) (hb : Columns low high b) where
  wide : NonNegative (width low high)
  wide = linear≤ (low ∷ high ∷ a.x ∷ []) (gap≤ ha.from ⊞ gap≤ ha.to) (search quote depth 20) tt

  rows_rise : Before a b → key_by (width low high) a <ᶻ key_by (width low high) b
  rows_rise (row h) =
      linear< (low ∷ high ∷ coordinates (a ∷ b ∷ [])) (wide ⊠ gap< h ⊞ gap≤ ha.to ⊞ gap≤ hb.from) (search quote depth 20) tt
  rows_rise (column e h) = linear< (low ∷ high ∷ coordinates (a ∷ b ∷ [])) (width low high ⋆≡ e ⊞ gap< h) (search quote depth 20) tt

  rows_follow : key_by (width low high) a <ᶻ key_by (width low high) b → Before a b
  rows_follow h = by_row (sign (b.y -ℤ a.y))
    where
      by_row : Sign (b.y -ℤ a.y) → Before a b
      by_row (below l) =
          linear⊥ (low ∷ high ∷ coordinates (a ∷ b ∷ [])) (gap< h ⊞ wide ⊠ gap< l ⊞ gap≤ hb.to ⊞ gap≤ ha.from)
          (search quote depth 20) tt
      by_row (nought e) =
          column (sym (difference_zero e))
          (linear< (low ∷ high ∷ coordinates (a ∷ b ∷ [])) (gap< h ⊞ neg_ℤ (width low high) ⋆≡ sym e) (search quote depth 20) tt)
      by_row (above l) = row (linear< (coordinates (a ∷ b ∷ [])) (gap< l) (search quote depth 20) tt)

columns_order : (low high : ℤ) (S : Point → Type 0) → ((q : Point) → S q → Columns low high q) → Orders (width low high) S
columns_order low high S f = record {
  rises = λ a b i j. rows_rise low high a b (f a i) (f b j);
  follows = λ a b i j. rows_follow low high a b (f a i) (f b j);
}

-- every list has such a K
pub list_order : (s : List Point) → (K : ℤ) × Orders K (Of s)
list_order s =
    let n = pos (reach s) in (
      width (neg_ℤ n) n,
      columns_order (neg_ℤ n) n (Of s) (λ q m. record { from = (reaches s q m).x_from; to = (reaches s q m).x_to }),
    )

-- ---- the key of a point in range
-- the number of columns of the range
abbrev pub range_width : ℕ
range_width = 16384

abbrev pub key : Point → ℤ
key p = key_by (pos range_width) p

-- row order is the order of the keys
pub range_order : Orders (pos range_width) InRange
range_order = columns_order least greatest InRange (λ q r. record { from = r.x_from; to = r.x_to })

module _ (a b : Point) (ra : InRange a) (rb : InRange b) where
  pub before_key : Before a b → key a <ᶻ key b
  before_key = range_order.rises a b ra rb

  pub key_before : key a <ᶻ key b → Before a b
  key_before = range_order.follows a b ra rb

-- ---- the same order the other way round
pub opposite : (K : ℤ) (a b : Point) → key_by K a <ᶻ key_by K b → linear (negsuc 0) (neg_ℤ K) b <ᶻ linear (negsuc 0) (neg_ℤ K) a
opposite K a b h = linear< (K ∷ coordinates (a ∷ b ∷ [])) (gap< h) (search quote depth 20) tt

pub opposite_back : (K : ℤ) (a b : Point) → linear (negsuc 0) (neg_ℤ K) b <ᶻ linear (negsuc 0) (neg_ℤ K) a → key_by K a <ᶻ key_by K b
opposite_back K a b h = linear< (K ∷ coordinates (a ∷ b ∷ [])) (gap< h) (search quote depth 20) tt

-- ---- row order and turns: about o, among points after o, the turn order is transitive
pub turn_transitive : (o a b c : Point) → Before o a → Before o b → Before o c → Left o a b → Left o b c → Left o a c
turn_transitive o a b c ha hb hc h g =
    positive_by_products (three_vectors (pos 1) K o a b c) (up b hb (inr (inr (inl refl)))) (up c hc (inr (inr (inr (inl refl))))) h
    (up a ha (inr (inl refl))) g
  where
    four : List Point
    four = o ∷ a ∷ b ∷ c ∷ []

    K : ℤ
    K = (list_order four).0

    up : (q : Point) → Before o q → In q (o ∷ a ∷ b ∷ c ∷ []) → Positive (key_by K q -ℤ key_by K o)
    up q k m =
        linear< (K ∷ coordinates (o ∷ q ∷ [])) (gap< ((list_order four).1.rises o q (inl refl) m k)) (search quote depth 20) tt

-- of four points that turn left one after the other, the first before the third, the third is after the second or after the fourth
pub no_valley : (o a b c : Point) → Before o b → (Before a b → ⊥) → (Before c b → ⊥) → Left o a b → Left o b c → Left a b c → ⊥
no_valley o a b c h f g u v w =
    linear⊥ (K ∷ coordinates (o ∷ a ∷ b ∷ c ∷ []))
    (gap< (product_positive up w) ⊞ gap≤ (from a f (inr (inl refl))) ⊠ gap≤ (le_of_lt v) ⊞ gap≤ (from c g (inr (inr (inr (inl refl))))) ⊠ gap≤ (le_of_lt u))
    (search quote depth 20 fits 4000) tt
  where
    four : List Point
    four = o ∷ a ∷ b ∷ c ∷ []

    K : ℤ
    K = (list_order four).0

    up : Positive (key_by K b -ℤ key_by K o)
    up =
        linear< (K ∷ coordinates (o ∷ b ∷ [])) (gap< ((list_order four).1.rises o b (inl refl) (inr (inr (inl refl))) h)) (search quote depth 20) tt

    from : (q : Point) → (Before q b → ⊥) → In q (o ∷ a ∷ b ∷ c ∷ []) → key_by K b ≤ᶻ key_by K q
    from q n m = either (le_or_lt (key_by K b) (key_by K q)) (λ k. k) (λ k. absurd (n ((list_order four).1.follows q b m (inr (inr (inl refl))) k)))

-- ---- row order and the hull: what all of S is after, the hull is after; and before
pub hull_after : (S : Point → Type 0) (t p : Point) → ((q : Point) → S q → Before t q) → InHull S p → Before t p
hull_after S t p f i =
    let few = hull_of_few S p i in
    let K = list_order (t ∷ p ∷ few.0) in
    K.1.follows t p (inl refl) (inr (inl refl))
    (strict_half_plane (pos 1) K.0 t
    (λ q m. K.1.rises t q (inl refl) (inr (inr m)) (f q (all_in S few.0 few.1 q m))) few.2)

pub hull_before : (S : Point → Type 0) (t p : Point) → ((q : Point) → S q → Before q t) → InHull S p → Before p t
hull_before S t p f i =
    let few = hull_of_few S p i in
    let K = list_order (t ∷ p ∷ few.0) in
    K.1.follows p t (inr (inl refl)) (inl refl)
    (opposite_back K.0 p t
    (strict_half_plane (negsuc 0) (neg_ℤ K.0) t
    (λ q m. opposite K.0 q t (K.1.rises q t (inr (inr m)) (inl refl) (f q (all_in S few.0 few.1 q m)))) few.2))
