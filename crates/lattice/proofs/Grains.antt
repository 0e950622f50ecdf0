-- The table of lettered grains holds, by one computed test for all of its rows. Assumes nothing.
use mathlib.Core.Path.{◌≡◌, refl, subst}
use mathlib.Core.Logic.{inl}
use mathlib.Core.Bool.{Bool, true, false, ◌&&◌}
use mathlib.Core.List.{List, [], ◌∷◌}
use Prim.Native.Nat.{ℕ, zero, suc}
use native.Mathlib.Omega.{arith}
use lib.Dec.{T, eqb, eqb→eq}
use lib.IntN.{pos}
use Rattle.lattice.specs.Point.{Point, All, Lists}
use Rattle.lattice.specs.Hull.{Of, InHull, Missing, MissingList, Kept}
use Rattle.lattice.specs.Refusal.{accepted, Gives, rebuild_rows}
use Rattle.lattice.specs.Grains.{Row, grain, rebuild, Verdict, first_of, Holds, AllHold, grains}
use Rattle.lattice.proofs.Lists.{all_in}
use Rattle.lattice.proofs.Decide.{Decided, both, in_words, le?, lt?, same?, all?, corner_list?, missing?, kept?, keep}
use Rattle.lattice.proofs.Frame.{Framed, frame, hull_framed, listed_by_frame}
use Rattle.lattice.proofs.Refusals.{accepts, given, rebuild_runs}

-- ---- the frame of the table: columns and rows 0 to 7
abbrev Small : Point → Type 0
Small p = Framed (pos 0) (pos 0) 8 8 p

abbrev small? : (p : Point) → Decided (Small p)
small? p =
    in_words (λ h. record { left = h.0.0; right = h.0.1; low = h.1.0; high = h.1.1 })
    (λ h. ((h.left, h.right), (h.low, h.high)))
    (both (both (le? (pos 0) p.x) (lt? p.x (pos 8))) (both (le? (pos 0) p.y) (lt? p.y (pos 8))))

abbrev cells : List Point
cells = frame (pos 0) (pos 0) 8 8

hull_small : (s : List Point) → All Small s → (p : Point) → InHull (Of s) p → Small p
hull_small s h p i = hull_framed (pos 0) (pos 0) 8 8 (Of s) (all_in Small s h) p i

missing_list : (s : List Point) → All Small s → MissingList s (keep (Missing s) (missing? s) cells)
missing_list s h = listed_by_frame (Missing s) (missing? s) (pos 0) (pos 0) 8 8 (λ p m. hull_small s h p m.within)

kept_list : (c m : List Point) → All Small c → Lists (Kept c m) (keep (Kept c m) (kept? c m) cells)
kept_list c m h = listed_by_frame (Kept c m) (kept? c m) (pos 0) (pos 0) 8 8 (λ p k. hull_small c h p k.within)

-- ---- equal lists, by a test
abbrev same_list : List Point → List Point → Bool
same_list [] [] = true
same_list [] (b ∷ r) = false
same_list (a ∷ r) [] = false
same_list (a ∷ r) (b ∷ q) = (same? a b).test && same_list r q

and_yes : (a b : Bool) → T (a && b) → T a × T b
and_yes true b t = (tt, t)
and_yes false b t = absurd t

same_list_lem : (l m : List Point) → T (same_list l m) → l ≡ m
same_list_lem [] [] t = refl
same_list_lem [] (b ∷ r) t = absurd t
same_list_lem (a ∷ r) [] t = absurd t
same_list_lem (a ∷ r) (b ∷ q) t =
    let h = and_yes (same? a b).test (same_list r q) t in
    let e = (same? a b).sound h.0 in
    let f = same_list_lem r q h.1 in
    λ i. e i ∷ f i

-- ---- yes exactly if nothing is missing
abbrev agrees : Bool → List Point → Bool
agrees true [] = true
agrees true (p ∷ m) = false
agrees false [] = false
agrees false (p ∷ m) = true

verdict : (v : Bool) (s m : List Point) → MissingList s m → T (agrees v m) → Verdict v s
verdict true s [] h t = λ p k. h.every p k
verdict true s (p ∷ m) h t = absurd t
verdict false s [] h t = absurd t
verdict false s (p ∷ m) h t = λ convex. convex p (h.only p (inl refl))

-- ---- the rows
module _ (s c : List Point) (v : Bool) (first : Point) (m : List Point) where
  abbrev found : List Point
  found = keep (Missing s) (missing? s) cells

  abbrev grain_test : Bool
  grain_test =
      (all? Small small? s).test
      && ((corner_list? s c).test && (same_list found m && (agrees v m && (same? (first_of m) first).test)))

  grain_holds : T grain_test → Holds (grain s c v first m)
  grain_holds t =
      let small = all? Small small? s in
      let corners = corner_list? s c in
      let head = same? (first_of m) first in
      let t₁ = and_yes small.test (corners.test && (same_list found m && (agrees v m && head.test))) t in
      let t₂ = and_yes corners.test (same_list found m && (agrees v m && head.test)) t₁.1 in
      let t₃ = and_yes (same_list found m) (agrees v m && head.test) t₂.1 in
      let t₄ = and_yes (agrees v m) head.test t₃.1 in
      let missing = subst (MissingList s) (same_list_lem found m t₃.0) (missing_list s (small.sound t₁.0)) in
      (corners.sound t₂.0, missing, verdict v s m missing t₄.0, head.sound t₄.1)

module _ (c m s : List Point) where
  abbrev points_test : ℕ → Bool
  points_test zero = (all? Small small? c).test && same_list (keep (Kept c m) (kept? c m) cells) s
  points_test (suc n) = true

  points_hold : (number : ℕ) → T (points_test number) → number ≡ 0 → Lists (Kept c m) s
  points_hold zero t e =
      let small = all? Small small? c in
      let h = and_yes small.test (same_list (keep (Kept c m) (kept? c m) cells) s) t in
      subst (Lists (Kept c m)) (same_list_lem (keep (Kept c m) (kept? c m) cells) s h.1) (kept_list c m (small.sound h.0))
  points_hold (suc n) t e = absurd (never n e)
    where
      never : (n : ℕ) → suc n ≡ 0 → ⊥
      never n e = omega arith

  abbrev rebuild_test : ℕ → ℕ → Bool
  rebuild_test number place =
      let run = given (rebuild_runs c m accepts) in
      eqb run.0 number && (eqb run.1 place && points_test number)

  rebuild_holds : (number place : ℕ) → T (rebuild_test number place) → Holds (rebuild c m number place s)
  rebuild_holds number place t =
      let run = given (rebuild_runs c m accepts) in
      let t₁ = and_yes (eqb run.0 number) (eqb run.1 place && points_test number) t in
      let t₂ = and_yes (eqb run.1 place) (points_test number) t₁.1 in
      let e = eqb→eq run.0 number t₁.0 in
      let f = eqb→eq run.1 place t₂.0 in (
        subst (λ n. Gives (rebuild_rows c m accepted) n place) e
            (subst (λ i. Gives (rebuild_rows c m accepted) run.0 i) f run.2),
        points_hold number t₂.1,
      )

abbrev test : Row → Bool
test (grain s c v first m) = grain_test s c v first m
test (rebuild c m number place s) = rebuild_test c m s number place

holds : (r : Row) → T (test r) → Holds r
holds (grain s c v first m) t = grain_holds s c v first m t
holds (rebuild c m number place s) t = rebuild_holds c m s number place t

-- ---- the table
abbrev all_test : List Row → Bool
all_test [] = true
all_test (r ∷ rest) = test r && all_test rest

all_hold : (l : List Row) → T (all_test l) → AllHold l
all_hold [] t = tt
all_hold (r ∷ rest) t =
    let h = and_yes (test r) (all_test rest) t in
    (holds r h.0, all_hold rest h.1)

pub grains_hold : AllHold grains
unfolding grains
grains_hold = all_hold grains tt
