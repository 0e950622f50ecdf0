-- Every list of points has one missing list; it depends only on which points the list holds; it is empty exactly if the list is convex;
-- and it is as long as the hull has lattice points less the points held. Assumes nothing.
use mathlib.Core.Path.{◌≡◌, refl, sym, subst}
use mathlib.Core.Logic.{inl, ◌↔◌}
use mathlib.Core.List.{List, [], ◌∷◌}
use Prim.Native.Nat.{◌+◌}
use native.Mathlib.Omega.{arith}
use lib.ListN.{length}
use Rattle.lattice.specs.Point.{Point, In, Pairs, Before, Lists}
use Rattle.lattice.specs.Hull.{InHull, member, Of, Missing, MissingList, Convex, Kept}
use Rattle.lattice.specs.Grains.{first_of}
use Rattle.lattice.proofs.Lists.{either, all_in}
use Rattle.lattice.proofs.Decide.{in?, missing?, hull?, kept?}
use Rattle.lattice.proofs.HullLaws.{hull_larger}
use Rattle.lattice.proofs.SameMembers.{Same, lists_unique, lists_same}
use Rattle.lattice.proofs.RowLists.{lists_exist, lists_split, row_order_exists, row_order_length}

-- every list of points has a missing list; so can be listed the lattice points of its hull, and what Rebuild keeps
pub missing_list_exists : (s : List Point) → (m : List Point) × MissingList s m
missing_list_exists s = lists_exist (Missing s) (missing? s) s (λ p h. h.within)

pub hull_list_exists : (s : List Point) → (h : List Point) × Lists (InHull (Of s)) h
hull_list_exists s = lists_exist (InHull (Of s)) (hull? s) s (λ p h. h)

pub kept_list_exists : (c m : List Point) → (s : List Point) × Lists (Kept c m) s
kept_list_exists c m = lists_exist (Kept c m) (kept? c m) c (λ p h. h.within)

pub missing_list_unique : (s m n : List Point) → MissingList s m → MissingList s n → m ≡ n
missing_list_unique s = lists_unique (Missing s)

-- ---- only the points held matter
pub missing_same : (s t : List Point) → Same s t → (p : Point) → Missing s p → Missing t p
missing_same s t e p h = record { within = hull_larger (Of s) (Of t) e.0 p h.within; lacks = λ i. h.lacks (e.1 p i) }

pub missing_list_same : (s t : List Point) → Same s t → (m : List Point) → MissingList s m → MissingList t m
missing_list_same s t e = lists_same (Missing s) (Missing t) (missing_same s t e) (missing_same t s (e.1, e.0))

-- ---- yes exactly if nothing is missing
none_listed : (P : Point → Type 0) (m : List Point) → Lists P m → ((p : Point) → P p → ⊥) → m ≡ []
none_listed P [] h f = refl
none_listed P (a ∷ m) h f = absurd (f a (h.only a (inl refl)))

pub convex_exactly : (s m : List Point) → MissingList s m → Convex s ↔ (m ≡ [])
convex_exactly s m h = (none_listed (Missing s) m h, (λ e p k. subst (In p) e (h.every p k)))

-- ---- the first missing point: missing, and no missing point is before it
pub first_missing : (s m : List Point) (p : Point) → MissingList s m → Missing s p
    → ((q : Point) → Missing s q → Before q p → ⊥) → first_of m ≡ p
first_missing s [] p h k f = absurd (h.every p k)
first_missing s (a ∷ m) p h k f =
    either (h.every p k) (λ e. sym e) (λ i. absurd (f a (h.only a (inl refl)) (all_in (Before a) m h.order.0 p i)))

-- ---- how many are missing
pub missing_count : (s h o m : List Point) → Lists (InHull (Of s)) h → Lists (Of s) o → MissingList s m → length h ≡ length o + length m
missing_count s h o m all held missing =
    lists_split (InHull (Of s)) (Of s) (λ p. in? p s) h o m all
    (lists_same (Of s) (λ p. InHull (Of s) p × In p s) (λ p i. (member i, i)) (λ p r. r.1) o held)
    (lists_same (Missing s) (λ p. InHull (Of s) p × (In p s → ⊥)) (λ p k. (k.within, k.lacks))
    (λ p r. record { within = r.0; lacks = r.1 }) m missing)

-- for a list without repeats: the lattice points of the hull less the points
pub missing_count_distinct : (s h m : List Point) → Pairs (λ a b. a ≡ b → ⊥) s → Lists (InHull (Of s)) h → MissingList s m
    → length h ≡ length s + length m
missing_count_distinct s h m once all missing =
    let o = row_order_exists s in
    omega (arith, missing_count s h o.0 m all o.1 missing, row_order_length s o.0 once o.1)
