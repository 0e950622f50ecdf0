-- There is a way back: Rebuild of a grain's corners and missing points gives the grain's points in row order; and what Rebuild gives has the
-- corners and the missing points that it was given. Assumes nothing.
use mathlib.Core.Path.{◌≡◌, refl, ◌∙◌, ap, subst}
use mathlib.Core.Logic.{inl, inr}
use mathlib.Core.List.{List}
use Prim.Native.Nat.{ℕ, zero, suc, ◌≤◌, ◌<◌}
use native.Mathlib.Omega.{arith}
use lib.ListN.{length}
use lib.IntN.{ℤ}
use Rattle.lattice.specs.Point.{Point, InRange, most, points, point, In, All, Before, Lists}
use Rattle.lattice.specs.Hull.{Of, CornerList, MissingList, Kept}
use Rattle.lattice.specs.Refusal.{accepted, Gives, Strays, Odd, Misplaced}
use Rattle.lattice.specs.Room.{holding, TooSmall}
use Rattle.lattice.proofs.Lists.{either, all_in}
use Rattle.lattice.proofs.Places.{place_in, pairs_place}
use Rattle.lattice.proofs.Frame.{hull_in_range}
use Rattle.lattice.proofs.Tables.{whole_never}
use Rattle.lattice.proofs.Refusals.{gives_unique}
use Rattle.lattice.proofs.SameMembers.{lists_unique}
use Rattle.lattice.proofs.CornerLists.{corner_list_of_some, corners_fewer, hull_of_corners}
use Rattle.lattice.proofs.Demand.{lists_kept, rebuild_accepts, rebuild_owes}
use Rattle.rebuild.specs.declared.Rebuilt.{Rebuilt}
use Rattle.rebuild.specs.Rebuild.{result_rows, RebuildResult, point_rows, rebuild_table, RebuildPromise}

-- ---- a grain's report is accepted, and its points come back
-- s in range, o its points in row order, and two lists of numbers that hold its corners and its missing points
pub record Reported (s o : List Point) (corners missing : List ℤ) : Type 0 where
  pub range : All InRange s
  pub order : Lists (Of s) o
  pub few : length o ≤ most
  pub corners_even : Odd corners → ⊥
  pub missing_even : Odd missing → ⊥
  pub corner : CornerList s (points corners)
  pub missed : MissingList s (points missing)

module _ (s o : List Point) (corners missing room : List ℤ) (r : Reported s o corners missing) where
  abbrev c : List Point
  c = points corners

  abbrev m : List Point
  m = points missing

  corner_in : (p : Point) → In p c → In p s
  corner_in p i = (r.corner.only p i).held

  few_corners : length c ≤ most
  few_corners = omega (arith, r.few, corners_fewer s o c r.order r.corner)

  corner_range : (j : ℕ) → j < length c → InRange (point c j)
  corner_range j l = all_in InRange s r.range (point c j) (corner_in (point c j) (place_in c j l))

  missing_range : (j : ℕ) → j < length m → InRange (point m j)
  missing_range j l =
      hull_in_range (Of s) (λ q i. all_in InRange s r.range q i) (point m j) (r.missed.only (point m j) (place_in m j l)).within

  no_stray : (j : ℕ) → Strays m j → ⊥
  no_stray j (l, (i, e, n)) = n (pairs_place Before m r.missed.order i j (omega arith) l)

  well_placed : (p : Point) → In p m → Misplaced c p → ⊥
  well_placed p i (inl n) = n ((hull_of_corners s c r.corner p).0 (r.missed.only p i).within)
  well_placed p i (inr k) = (r.missed.only p i).lacks (corner_in p k)

  -- what is kept are the points
  comes_back : (t : List Point) → Lists (Kept c m) t → t ≡ o
  comes_back t k = lists_unique (Of s) t o ((lists_kept s c m r.corner r.missed t).0 k) r.order

  module _ (wide : TooSmall room (length o) → ⊥) where
    report_accepted : Gives (rebuild_table corners missing room) 0 0
    report_accepted =
        inr (
          whole_never (λ h. either h r.corners_even r.missing_even),
          inr (
            whole_never (λ h. omega (arith, h, few_corners)),
            inr (
              (λ j h. h.1 (corner_range j h.0)),
              inr (
                (λ j h. h.1 (missing_range j h.0)),
                inr (
                  whole_never (λ n. n ((corner_list_of_some c).1 (s, r.corner))),
                  inr (
                    no_stray,
                    inr (
                      (λ j h. well_placed (point m j) (place_in m j h.0) h.1),
                      inr (
                        whole_never (λ (t, k, l). omega (arith, l, r.few, ap length (comes_back t k))),
                        inr (
                          whole_never (λ (t, k, l). wide (subst (TooSmall room) (ap length (comes_back t k)) l)),
                          (refl, refl),
                        ),
                      ),
                    ),
                  ),
                ),
              ),
            ),
          ),
        )

    points_back : (number count : ℕ) (after : List ℤ) → number ≡ 0 → RebuildResult c m room number count after
        → (count ≡ length o) × (after ≡ holding o room)
    points_back zero count after e (t, k, n, w) = (n ∙ ap length (comes_back t k), w ∙ ap (λ l. holding l room) (comes_back t k))
    points_back (suc number) count after e h = absurd (omega (arith, e))

    pub way_back : (answer : Rebuilt) (after : List ℤ) → RebuildPromise corners missing room answer after
        → (answer ≡ record { number = 0; place = 0; points = length o }) × (after ≡ holding o room)
    way_back answer after h =
        let e = gives_unique (rebuild_table corners missing room) answer.number 0 answer.place 0 h.gives report_accepted in
        let b = points_back answer.number answer.points after e.0 h.result in
        ((λ i. record { number = e.0 i; place = e.1 i; points = b.0 i }), b.1)

-- ---- what is accepted is the report of what comes of it
module _ (corners missing room : List ℤ) where
  passed : (place : ℕ) → Gives (rebuild_table corners missing room) 0 place
      → Gives (point_rows corners missing room) 0 place
  passed place (inl h) = absurd (omega (arith, h.0))
  passed place (inr (odd, inl h)) = absurd (omega (arith, h.0))
  passed place (inr (odd, inr (many, inl h))) = absurd (omega (arith, h.0))
  passed place (inr (odd, inr (many, inr (corner, inl h)))) = absurd (omega (arith, h.0))
  passed place (inr (odd, inr (many, inr (corner, inr (point, h))))) = h

  pub report_of_rebuilt : (place count : ℕ) (after : List ℤ)
      → RebuildPromise corners missing room (record { number = 0; place = place; points = count }) after
      → (s : List Point) × CornerList s (points corners) × MissingList s (points missing) × (count ≡ length s) × (after ≡ holding s room)
  report_of_rebuilt place count after h =
      let k = h.result in
      let a = rebuild_accepts (points corners) (points missing) (result_rows (points corners) (points missing) room accepted) 0 place
      (passed place h.gives) (λ e. omega arith) (λ e. omega arith) (λ e. omega arith) in
      let w = rebuild_owes (points corners) (points missing) k.0 a.0 a.1 a.2 k.1 in
      (k.0, w.0, w.1, k.2, k.3)
