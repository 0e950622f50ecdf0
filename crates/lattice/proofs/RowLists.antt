-- Lists in row order: whatever can be tested and lies in the hull of a list can be listed, and in how many points such lists differ.
-- Assumes nothing.
use mathlib.Core.Path.{◌≡◌, refl, sym, ap}
use mathlib.Core.Logic.{inl, inr}
use mathlib.Core.Bool.{Bool, true, false, not, cond}
use mathlib.Core.List.{List, [], ◌∷◌}
use Prim.Native.Nat.{ℕ, suc, ◌+◌, ◌≤◌}
use native.Mathlib.Omega.{arith}
use lib.ListN.{length}
use lib.IntN.{ℤ, pos, neg_ℤ, ◌+ℤ◌}
use Rattle.whole.proofs.Whole.{quote, ◌≤ᶻ◌, ◌<ᶻ◌, gap≤, linear<}
use Rattle.lattice.specs.Point.{Point, In, Pairs, Before, Lists}
use Rattle.lattice.specs.Hull.{InHull, member, Of}
use Rattle.lattice.proofs.Lists.{either, all_in}
use Rattle.lattice.proofs.Decide.{Decided, negated, same?, in?, keep, keep_in, in_keep, pairs_keep}
use Rattle.lattice.proofs.Frame.{Framed, frame, hull_framed, listed_by_frame}
use Rattle.lattice.proofs.Reach.{Reach, reach, reaches}
use Rattle.lattice.proofs.SameMembers.{lists_unique, lists_same}

-- ---- what lies in the hull of a list can be listed
reach_framed : (n : ℕ) (p : Point) → Reach n p → Framed (neg_ℤ (pos n)) (neg_ℤ (pos n)) (1 + (n + n)) (1 + (n + n)) p
reach_framed n p r = record {
  left = r.x_from;
  right = far p.x (pos n) r.x_to;
  low = r.y_from;
  high = far p.y (pos n) r.y_to;
}
  where
    far : (z n : ℤ) → z ≤ᶻ n → z <ᶻ neg_ℤ n +ℤ (pos 1 +ℤ (n +ℤ n))
    far z n h = linear< (z ∷ n ∷ []) (gap≤ h) (search quote depth 20) tt

pub lists_exist : (P : Point → Type 0) → ((p : Point) → Decided (P p)) → (s : List Point) → ((p : Point) → P p → InHull (Of s) p)
    → (l : List Point) × Lists P l
lists_exist P d s f =
    let n = reach s in
    let w = 1 + (n + n) in (
      keep P d (frame (neg_ℤ (pos n)) (neg_ℤ (pos n)) w w),
      listed_by_frame P d (neg_ℤ (pos n)) (neg_ℤ (pos n)) w w
          (λ p m. hull_framed (neg_ℤ (pos n)) (neg_ℤ (pos n)) w w (Of s) (λ q i. reach_framed n q (reaches s q i)) p (f p m)),
    )

-- the points of a list in row order
pub row_order_exists : (s : List Point) → (o : List Point) × Lists (Of s) o
row_order_exists s = lists_exist (Of s) (λ p. in? p s) s (λ p m. member m)

-- ---- how many
module _ (Q : Point → Type 0) (d : (p : Point) → Decided (Q p)) where
  abbrev others : List Point → List Point
  others l = keep (λ p. Q p → ⊥) (λ p. negated (d p)) l

  keep_length : (l : List Point) → length l ≡ length (keep Q d l) + length (others l)
  keep_length [] = refl
  keep_length (a ∷ l) = by_test (d a).test (keep_length l)
    where
      by_test : (b : Bool) → length l ≡ length (keep Q d l) + length (others l)
          → suc (length l) ≡ length (cond b (a ∷ keep Q d l) (keep Q d l)) + length (cond (not b) (a ∷ others l) (others l))
      by_test true e = omega arith
      by_test false e = omega arith

module _ (P Q : Point → Type 0) (d : (p : Point) → Decided (Q p)) (l : List Point) (h : Lists P l) where
  lists_keep : Lists (λ p. P p × Q p) (keep Q d l)
  lists_keep = record {
    every = λ p m. in_keep Q d l p (h.every p m.0) m.1;
    only = λ p m. let r = keep_in Q d l p m in (h.only p r.0, r.1);
    order = pairs_keep Q d Before l h.order;
  }

-- where Q follows from P, a list of the points with P is no longer than one of those with Q
pub lists_fewer : (P Q : Point → Type 0) → ((p : Point) → P p → Q p) → (l m : List Point) → Lists P l → Lists Q m → length l ≤ length m
lists_fewer P Q f l m h g =
    let e = ap length (lists_unique P l (keep (Of l) (λ p. in? p l) m) h
    (lists_same (λ p. Q p × In p l) P (λ p i. h.only p i.1) (λ p i. (f p i, h.every p i)) (keep (Of l) (λ p. in? p l) m)
    (lists_keep Q (Of l) (λ p. in? p l) m g))) in
    omega (arith, e, keep_length (Of l) (λ p. in? p l) m)

-- the points with P are those with Q and those without
pub lists_split : (P Q : Point → Type 0) → ((p : Point) → Decided (Q p)) → (l m n : List Point)
    → Lists P l → Lists (λ p. P p × Q p) m → Lists (λ p. P p × (Q p → ⊥)) n → length l ≡ length m + length n
lists_split P Q d l m n h g f =
    let e = ap length (lists_unique (λ p. P p × Q p) (keep Q d l) m (lists_keep P Q d l h) g) in
    let r = ap length (lists_unique (λ p. P p × (Q p → ⊥)) (others Q d l) n (lists_keep P (λ p. Q p → ⊥) (λ p. negated (d p)) l h) f) in
    omega (arith, keep_length Q d l, e, r)

-- a list without repeats is as long as its points in row order
pub row_order_length : (s o : List Point) → Pairs (λ a b. a ≡ b → ⊥) s → Lists (Of s) o → length o ≡ length s
row_order_length [] [] h g = refl
row_order_length [] (a ∷ o) h g = absurd (g.only a (inl refl))
row_order_length (a ∷ s) o h g =
    let n = row_order_exists s in
    omega (
      arith,
      lists_split (Of (a ∷ s)) (λ p. p ≡ a) (λ p. same? p a) o (a ∷ []) n.0 g head (rest n.0 n.1),
      row_order_length s n.0 h.1 n.1,
    )
  where
    head : Lists (λ p. In p (a ∷ s) × (p ≡ a)) (a ∷ [])
    head = record { every = λ p m. inl m.1; only = λ p m. either m (λ e. (inl e, e)) (λ f. absurd f); order = (tt, tt) }

    rest : (n : List Point) → Lists (Of s) n → Lists (λ p. In p (a ∷ s) × (p ≡ a → ⊥)) n
    rest n =
        lists_same (Of s) (λ p. In p (a ∷ s) × (p ≡ a → ⊥))
        (λ p m. (inr m, λ e. all_in (λ q. a ≡ q → ⊥) s h.0 p m (sym e)))
        (λ p m. either m.0 (λ e. absurd (m.1 e)) (λ i. i)) n
