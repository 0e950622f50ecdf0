-- A list of numbers as arrays of two: the points by place, a point looked for among all, and by halves among points in row order.
-- Assumes nothing.
use mathlib.Core.Path.{◌≡◌, refl, sym, ◌∙◌, ap, subst, transport}
use mathlib.Core.Bool.{Bool, true, false, true≢false}
use mathlib.Core.List.{List, [], ◌∷◌}
use Prim.Native.Nat.{ℕ, zero, suc, ◌+◌, ◌*◌, ◌/◌, ◌≤◌, ◌<◌}
use native.Mathlib.Omega.{arith}
use lib.ListN.{length, get_or, drop}
use lib.IntN.{ℤ, pos}
use lib.Pointwise.{pointwise, pointwise_decides}
use Rattle.std.specs.Prelude.{Result, Ok, Err, is_ok}
use Rattle.std.specs.Simd.{first_chunks}
use Rattle.std.specs.Cmp.{IsTotalOrder, int_cmp_is}
use Rattle.std.specs.declared.cmp.Ordering.{Ordering}
use Rattle.std.specs.declared.cmp.Ordering.TheVariants.{Less, Equal, Greater}
use Rattle.std.specs.List.{IsAnyAnswer}
use Rattle.std.specs.List.Sorted.{IsSearchInRange, IsBinarySearchResult, IsNonDecreasingBy}
use Rattle.std.specs.Ordering.{int_eq, int_cmp, ordering_then, ordering_index}
use Rattle.std.proofs.lemmas.Bool.Decides.{Decides-int_eq}
use Rattle.std.proofs.lemmas.Cmp.{int_cmp_total, on_total, then_total, tied_itself, alike_right, int_ranked}
use Rattle.lattice.specs.Point.{Point, points, point, In, Pairs, Before, row, column}
use Rattle.lattice.proofs.HalfPlane.{point_equal}
use Rattle.lattice.proofs.Lists.{either}
use Rattle.lattice.proofs.Numbers.{points_length, points_at}
use Rattle.lattice.proofs.Places.{lt_or_le, nowhere, place_in, in_place, pairs_place}
use Rattle.packed.specs.Packed.{Tells}
use Rattle.missing.specs.Missing.{Apart}

abbrev pub pair : Point → List ℤ
pair p = p.x ∷ p.y ∷ []

abbrev pub pairs : List ℤ → List (List ℤ)
pairs l = first_chunks 2 (length l / 2) l

chunk_at : (k : ℕ) (l : List ℤ) (i : ℕ) (d : List ℤ) → i < k → 2 * k ≤ length l
    → get_or (first_chunks 2 k l) i d ≡ get_or l (2 * i) (pos 0) ∷ get_or l (2 * i + 1) (pos 0) ∷ []
chunk_at zero l i d h m = nowhere i h
chunk_at (suc k) [] i d h m = absurd (omega arith)
chunk_at (suc k) (x ∷ []) i d h m = absurd (omega arith)
chunk_at (suc k) (x ∷ y ∷ l) zero d h m = refl
chunk_at (suc k) (x ∷ y ∷ l) (suc i) d h m =
    let e : 2 * suc i ≡ suc (suc (2 * i)) = omega arith in
    let f : 2 * suc i + 1 ≡ suc (suc (2 * i + 1)) = omega arith in
    chunk_at k l i d (omega arith) (omega arith) ∙ sym (λ t. get_or (x ∷ y ∷ l) (e t) (pos 0) ∷ get_or (x ∷ y ∷ l) (f t) (pos 0) ∷ [])

pub pair_at : (l : List ℤ) (i : ℕ) (d : List ℤ) → i < length (points l) → get_or (pairs l) i d ≡ pair (point (points l) i)
pair_at l i d h =
    chunk_at (length l / 2) l i d (omega (arith, h, points_length l)) (omega arith) ∙ ap pair (sym (points_at l i h))

chunks_length : (k : ℕ) (l : List ℤ) → length (first_chunks 2 k l) ≡ k
chunks_length zero l = refl
chunks_length (suc k) l = ap suc (chunks_length k (drop 2 l))

pub pairs_length : (l : List ℤ) → length (pairs l) ≡ length (points l)
pairs_length l = chunks_length (length l / 2) l ∙ sym (points_length l)

-- ---- among all
same_pair : (p q : Point) → pair p ≡ pair q → p ≡ q
same_pair p q e = let f : p.x ≡ q.x = cc in let g : p.y ≡ q.y = cc in point_equal f g

contains_told : (l : List ℤ) (q : Point) (r : Bool) → IsAnyAnswer (λ a b. pointwise int_eq a (pair q) ≡ b) (pairs l) r → Tells r (In q (points l))
contains_told l q true (k, h, e) =
    let u : k < length (points l) = omega (arith, h, pairs_length l) in
    let f = (pointwise_decides Decides-int_eq (pair (point (points l) k)) (pair q)).0 (subst (λ a. pointwise int_eq a (pair q) ≡ true) (pair_at l k [] u) (e [])) in
    subst (λ p. In p (points l)) (same_pair (point (points l) k) q f) (place_in (points l) k u)
contains_told l q false h = λ m.
    let r = in_place (points l) q m in
    let f = h r.0 [] (omega arith) (omega (arith, r.1, pairs_length l)) in
    let g = (pointwise_decides Decides-int_eq (pair (point (points l) r.0)) (pair q)).1 (sym (ap pair r.2)) in
    absurd (true≢false (sym g ∙ subst (λ a. pointwise int_eq a (pair q) ≡ false) (pair_at l r.0 [] r.1) f))

-- as `contains` answers
pub contains_tells : (l : List ℤ) (q : Point) (r : Bool) (items : List (List ℤ)) → items ≡ pairs l → (x y : ℤ) → x ≡ q.x → y ≡ q.y
    → IsAnyAnswer (λ a b. pointwise int_eq a (x ∷ y ∷ []) ≡ b) items r → Tells r (In q (points l))
contains_tells l q r items e x y f g h =
    contains_told l q r (transport (λ i. IsAnyAnswer (λ a b. pointwise int_eq a (f i ∷ g i ∷ []) ≡ b) (e i) r) h)

-- where none of the arrays of one list is a point of the other, no point is in both
pub apart_tells : (corners missing : List ℤ) (items : List (List ℤ)) → items ≡ pairs corners
    → ((k : ℕ) (d : List ℤ) → k < length items → In (record { x = get_or (get_or items k d) 0 (pos 0); y = get_or (get_or items k d) 1 (pos 0) }) (points missing) → ⊥)
    → Apart corners missing
apart_tells corners missing items e f p c m =
    let r = in_place (points corners) p c in
    let g : get_or items r.0 [] ≡ pair p = ap (λ l. get_or l r.0 []) e ∙ pair_at corners r.0 [] r.1 ∙ ap pair (sym r.2) in
    f r.0 [] (omega (arith, r.1, ap length e, pairs_length corners))
    (subst (λ a. In (record { x = get_or a 0 (pos 0); y = get_or a 1 (pos 0) }) (points missing)) (sym g) m)

-- ---- by halves
abbrev pub compared : Point → Point → Ordering
compared a b = ordering_then (int_cmp a.y b.y) (int_cmp a.x b.x)

compared_total : IsTotalOrder compared
compared_total = then_total (on_total (λ p. p.y) int_cmp_total) (on_total (λ p. p.x) int_cmp_total)

less_of_before : (a b : Point) → Before a b → compared a b ≡ Less
less_of_before a b (row h) = ap (λ o. ordering_then o (int_cmp a.x b.x)) (sym (int_cmp_is a.y b.y Less h))
less_of_before a b (column e h) = ap (λ o. ordering_then o (int_cmp a.x b.x)) (sym (int_cmp_is a.y b.y Equal e)) ∙ sym (int_cmp_is a.x b.x Less h)

rank_upto : (o : Ordering) → ordering_index o ≤ 2
rank_upto Less = omega arith
rank_upto Equal = omega arith
rank_upto Greater = omega arith

-- what a point that comes before another is to a third, the other is at least
rank_rises : (a b q : Point) → compared a b ≡ Less → (o : Ordering) → compared b q ≡ o → ordering_index (compared a q) ≤ ordering_index o
rank_rises a b q h Less e = let f = compared_total.trans a b q h e in omega (arith, ap ordering_index f)
rank_rises a b q h Equal e = let f = alike_right compared_total b q a e in omega (arith, ap ordering_index (sym f ∙ h))
rank_rises a b q h Greater e = rank_upto (compared a q)

tied_same : (a b : Point) → compared a b ≡ Equal → a ≡ b
tied_same a b e = by_rank (int_cmp a.y b.y) (int_cmp a.x b.x) refl refl e
  where
    by_rank : (o p : Ordering) → o ≡ int_cmp a.y b.y → p ≡ int_cmp a.x b.x → ordering_then o p ≡ Equal → a ≡ b
    by_rank Less p f g h = cc
    by_rank Equal Less f g h = cc
    by_rank Equal Equal f g h = point_equal (int_ranked a.x b.x Equal g) (int_ranked a.y b.y Equal f)
    by_rank Equal Greater f g h = cc
    by_rank Greater p f g h = cc

module _ (l : List ℤ) (order : Pairs Before (points l)) (q : Point) where
  -- an array against q, as the search compares them
  abbrev against : List ℤ → Ordering
  against a = ordering_then (int_cmp (get_or a 1 (pos 0)) q.y) (int_cmp (get_or a 0 (pos 0)) q.x)

  against_at : (i : ℕ) (d : List ℤ) → i < length (points l) → against (get_or (pairs l) i d) ≡ compared (point (points l) i) q
  against_at i d h = ap against (pair_at l i d h)

  rises : IsNonDecreasingBy (λ a. ordering_index (against a)) (pairs l)
  rises i j d u v =
      let m : j < length (points l) = omega (arith, v, pairs_length l) in
      either (lt_or_le i j)
      (λ k. let n : i < length (points l) = omega (arith, k, m) in
      let f = rank_rises (point (points l) i) (point (points l) j) q (less_of_before (point (points l) i) (point (points l) j) (pairs_place Before (points l) order i j k m))
      (compared (point (points l) j) q) refl in
      omega (arith, f, ap ordering_index (against_at i d n), ap ordering_index (against_at j d m)))
      (λ k. let e : i ≡ j = omega (arith, u, k) in omega (arith, ap (λ n. ordering_index (against (get_or (pairs l) n d))) e))

  searched_told : (r : Result ℕ ℕ) → IsSearchInRange r (length (pairs l)) → IsBinarySearchResult against (pairs l) r → Tells (is_ok r) (In q (points l))
  searched_told (Ok i) b h =
      let u : i < length (points l) = omega (arith, b, pairs_length l) in
      subst (λ p. In p (points l)) (tied_same (point (points l) i) q (sym (against_at i [] u) ∙ h [])) (place_in (points l) i u)
  searched_told (Err i) b h = λ m.
      let r = in_place (points l) q m in
      let g = h rises in
      let v : r.0 < length (pairs l) = omega (arith, r.1, pairs_length l) in
      let t : against (get_or (pairs l) r.0 []) ≡ Equal = against_at r.0 [] r.1 ∙ ap (λ p. compared p q) (sym r.2) ∙ tied_itself compared_total q in
      either (lt_or_le r.0 i)
      (λ k. let f = g.0 r.0 [] (omega arith) k in cc)
      (λ k. let f = g.1 r.0 [] k v in cc)

-- as `binary_search_by_key` answers
pub searched_tells : (l : List ℤ) → Pairs Before (points l) → (q : Point) (r : Result ℕ ℕ) (items : List (List ℤ)) → items ≡ pairs l → (x y : ℤ) → x ≡ q.x → y ≡ q.y
    → IsSearchInRange r (length items) → IsBinarySearchResult (λ a. ordering_then (int_cmp (get_or a 1 (pos 0)) y) (int_cmp (get_or a 0 (pos 0)) x)) items r
    → (b : Bool) → b ≡ is_ok r → Tells b (In q (points l))
searched_tells l order q r items e x y f g b h t k =
    subst (λ s. Tells s (In q (points l))) (sym k)
    (searched_told l order q r (subst (λ m. IsSearchInRange r (length m)) e b)
    (transport (λ i. IsBinarySearchResult (λ a. ordering_then (int_cmp (get_or a 1 (pos 0)) (g i)) (int_cmp (get_or a 0 (pos 0)) (f i))) (e i) r) h))
