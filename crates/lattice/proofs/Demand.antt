-- Corners and missing points tell the points: equal lists mean equal grains, the points are the hull of the corners without the missing
-- points, and what Rebuild makes of corners and missing points has them again. Assumes nothing.
use mathlib.Core.Path.{◌≡◌, refl, sym, subst}
use mathlib.Core.Logic.{inl, inr, ◌↔◌}
use mathlib.Core.List.{List}
use Prim.Native.Nat.{ℕ, suc}
use Rattle.lattice.specs.Point.{Point, point, In, All, Pairs, Before, Lists}
use Rattle.lattice.specs.Hull.{InHull, member, Of, CornerList, MissingList, Kept}
use Rattle.lattice.specs.Refusal.{Table, Gives, Whole, Strays, Misplaced, rebuild_rows}
use Rattle.lattice.proofs.Lists.{either, all_in}
use Rattle.lattice.proofs.Places.{place_all, place_chain}
use Rattle.lattice.proofs.Decide.{yes_or_no, before?, in?, hull?, corner_list?}
use Rattle.lattice.proofs.HullLaws.{hull_larger}
use Rattle.lattice.proofs.RowOrder.{row_order_by_neighbours}
use Rattle.lattice.proofs.Sandwich.{Spans, hull_of_spanned, corner_list_of_spanned}
use Rattle.lattice.proofs.SameMembers.{Subset, Same, lists_same}
use Rattle.lattice.proofs.CornerLists.{corner_list_shape, corner_list_unique, corner_list_same, hull_of_corners}
use Rattle.lattice.proofs.MissingLists.{missing_list_unique, missing_list_same}

-- ---- the points are the hull of the corners without the missing points
pub kept_exactly : (s c m : List Point) → CornerList s c → MissingList s m → (p : Point) → Kept c m p ↔ In p s
kept_exactly s c m h g p = (
  (λ k. either (yes_or_no (in? p s)) (λ i. i)
      (λ n. absurd (k.kept (g.every p (record { within = (hull_of_corners s c h p).1 k.within; lacks = n }))))),
  (λ i. record { within = (hull_of_corners s c h p).0 (member i); kept = λ j. (g.only p j).lacks i }),
)

-- so to list what is kept is to list the points
pub lists_kept : (s c m : List Point) → CornerList s c → MissingList s m → (o : List Point) → Lists (Kept c m) o ↔ Lists (Of s) o
lists_kept s c m h g o = (
  lists_same (Kept c m) (Of s) (λ p. (kept_exactly s c m h g p).0) (λ p. (kept_exactly s c m h g p).1) o,
  lists_same (Of s) (Kept c m) (λ p. (kept_exactly s c m h g p).1) (λ p. (kept_exactly s c m h g p).0) o,
)

-- ---- equal corner lists and missing lists exactly if the same points are held
pub report_tells : (s t c d m n : List Point) → CornerList s c → CornerList t d → MissingList s m → MissingList t n
    → ((c ≡ d) × (m ≡ n)) ↔ Same s t
report_tells s t c d m n hs ht gs gt = (
  (λ e. (subset s t c d m n hs ht gs gt e.0 e.1, subset t s d c n m ht hs gt gs (sym e.0) (sym e.1))),
  (λ e. (
    corner_list_unique t c d (corner_list_same s t e c hs) ht,
    missing_list_unique t m n (missing_list_same s t e m gs) gt,
  )),
)
  where
    subset : (s t c d m n : List Point) → CornerList s c → CornerList t d → MissingList s m → MissingList t n → c ≡ d → m ≡ n → Subset s t
    subset s t c d m n hs ht gs gt e f q i =
        (kept_exactly t c m (subst (CornerList t) (sym e) ht) (subst (MissingList t) (sym f) gt) q).0 ((kept_exactly s c m hs gs q).1 i)

-- ---- the way back
well_placed : (c : List Point) (p : Point) → (Misplaced c p → ⊥) → InHull (Of c) p × (In p c → ⊥)
well_placed c p n = (either (yes_or_no (hull? c p)) (λ h. h) (λ k. absurd (n (inl k))), λ i. n (inr i))

-- a corner list, and points of its hull that are no corners, in row order: they are the corners and the missing points of what is kept
pub rebuild_owes : (c m s : List Point) → CornerList c c → Pairs Before m → All (λ p. Misplaced c p → ⊥) m → Lists (Kept c m) s
    → CornerList s c × MissingList s m
rebuild_owes c m s h o f g = (
  corner_list_of_spanned s c spans,
  record {
    every = λ p k. either (yes_or_no (in? p m)) (λ i. i)
        (λ n. absurd (k.lacks (g.every p (record { within = (hull_of_spanned s c spans p).0 k.within; kept = n }))));
    only = λ p i. record { within = hull_larger (Of c) (Of s) held p (placed p i).0; lacks = λ j. (g.only p j).kept i };
    order = o;
  },
)
  where
    placed : (p : Point) → In p m → InHull (Of c) p × (In p c → ⊥)
    placed p i = well_placed c p (all_in (λ p. Misplaced c p → ⊥) m f p i)

    held : Subset c s
    held q i = g.every q (record { within = member i; kept = λ j. (placed q j).1 i })

    spans : Spans s c
    spans = record { shape = corner_list_shape c c h; inside = held; cover = λ q i. (g.only q i).within }

-- corners and missing points that Rebuild does not decline by number 8, 9 or 10
pub rebuild_accepts : (c m : List Point) (later : Table) (n i : ℕ) → Gives (rebuild_rows c m later) n i
    → (n ≡ 8 → ⊥) → (n ≡ 9 → ⊥) → (n ≡ 10 → ⊥) → CornerList c c × Pairs Before m × All (λ p. Misplaced c p → ⊥) m
rebuild_accepts c m later n i g not_8 not_9 not_10 =
    either g (λ h. absurd (not_8 h.0))
    (λ h. either h.1 (λ k. absurd (not_9 k.0))
    (λ k. either k.1 (λ l. absurd (not_10 l.0))
    (λ l. (corners h.0, in_order k.0, place_all (λ p. Misplaced c p → ⊥) m (λ j f e. l.0 j (f, e))))))
  where
    corners : ((j : ℕ) → Whole (CornerList c c → ⊥) j → ⊥) → CornerList c c
    corners f = either (yes_or_no (corner_list? c c)) (λ h. h) (λ k. absurd (f 0 (refl, k)))

    in_order : ((j : ℕ) → Strays m j → ⊥) → Pairs Before m
    in_order f =
        row_order_by_neighbours m
        (place_chain Before m
        (λ j l. either (yes_or_no (before? (point m j) (point m (suc j)))) (λ h. h) (λ k. absurd (f (suc j) (l, (j, refl, k))))))
