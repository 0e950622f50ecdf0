-- One table of refusals behind another: a call that looks at more rows after those of a call that it contains; and what a list is like
-- that no row refuses. Assumes nothing.
use mathlib.Core.Path.{◌≡◌, refl, sym, subst, ◌∙◌}
use mathlib.Core.Logic.{◌⊎◌, inl, inr}
use mathlib.Core.List.{List}
use Prim.Native.Nat.{ℕ, suc, ◌≤◌}
use native.Mathlib.Omega.{arith}
use lib.Dec.{T, ltb, ltb→lt}
use lib.ListN.{length}
use lib.IntN.{ℤ}
use Rattle.lattice.proofs.Lists.{either}
use Rattle.lattice.proofs.Places.{lt_or_le, nowhere, all_place, pairs_place, place_pairs}
use Rattle.lattice.proofs.RowOrder.{before_irreflexive}
use Rattle.lattice.proofs.Refusals.{within_range}
use Rattle.lattice.specs.Point.{Point, InRange, most, points, point, All, Pairs, Before}
use Rattle.lattice.specs.Refusal.{First, Table, accepted, ◌when◌else◌, Gives, Whole, AtPoint, Repeats, Odd, OutOfRange, list_rows}

-- the rows of t, then those of `later`
infixr 6 ◌then◌
abbrev pub ◌then◌ : Table → Table → Table
accepted then later = later
(k when P else t) then later = k when P else (t then later)

-- no row has number 0
abbrev pub Numbered : Table → Type 0
Numbered accepted = Unit {0}
Numbered (k when P else t) = T (ltb 0 k) × Numbered t

pub unnumbered : (k : ℕ) → 0 ≡ k → T (ltb 0 k) → ⊥
unnumbered k e u = omega (arith, ltb→lt 0 k u)

-- what the first rows give stands
pub declined_before : (t later : Table) (n i : ℕ) → Gives t (suc n) i → Gives (t then later) (suc n) i
declined_before accepted later n i h = absurd (never n h.0)
  where
    never : (n : ℕ) → suc n ≡ 0 → ⊥
    never n e = omega arith
declined_before (k when P else t) later n i (inl h) = inl h
declined_before (k when P else t) later n i (inr h) = inr (h.0, declined_before t later n i h.1)

-- where they give nothing, the later rows decide
pub passed_before : (t later : Table) → Numbered t → (i n j : ℕ) → Gives t 0 i → Gives later n j → Gives (t then later) n j
passed_before accepted later m i n j h g = g
passed_before (k when P else t) later m i n j (inl h) g = absurd (unnumbered k h.0 m.0)
passed_before (k when P else t) later m i n j (inr h) g = inr (h.0, passed_before t later m.1 i n j h.1 g)

-- both decline by the first rows, or these give nothing and the later rows decide
pub first_or_later : (t later : Table) → Numbered t → (n i : ℕ) → Gives (t then later) n i
    → ((n ≡ 0 → ⊥) × Gives t n i) ⊎ (Gives t 0 0 × Gives later n i)
first_or_later accepted later m n i h = inr ((refl, refl), h)
first_or_later (k when P else t) later m n i (inl h) = inl ((λ e. unnumbered k (sym e ∙ h.0) m.0), inl h)
first_or_later (k when P else t) later m n i (inr (passes, h)) = behind (first_or_later t later m.1 n i h)
  where
    behind : ((n ≡ 0 → ⊥) × Gives t n i) ⊎ (Gives t 0 0 × Gives later n i)
        → ((n ≡ 0 → ⊥) × Gives (k when P else t) n i) ⊎ (Gives (k when P else t) 0 0 × Gives later n i)
    behind (inl g) = inl (g.0, inr (passes, g.1))
    behind (inr g) = inr (inr (passes, g.0), g.1)

-- where both accept, the first rows give nothing
pub both_accept : (t later : Table) → Numbered t → (i : ℕ) → Gives (t then later) 0 i → Gives t 0 0 × Gives later 0 i
both_accept t later m i h = by_rows (first_or_later t later m 0 i h)
  where
    by_rows : ((◌≡◌ {A = ℕ} 0 0 → ⊥) × Gives t 0 i) ⊎ (Gives t 0 0 × Gives later 0 i) → Gives t 0 0 × Gives later 0 i
    by_rows (inl g) = absurd (g.0 refl)
    by_rows (inr g) = g

-- other later rows that give the same
pub other_later : (t later other : Table) → ((n i : ℕ) → Gives later n i → Gives other n i) → (n i : ℕ) → Gives (t then later) n i → Gives (t then other) n i
other_later accepted later other f n i h = f n i h
other_later (k when P else t) later other f n i (inl h) = inl h
other_later (k when P else t) later other f n i (inr h) = inr (h.0, other_later t later other f n i h.1)

-- ---- a row for the call as a whole
pub whole_first : {P : Type 0} → P → First (Whole P) 0
whole_first p = record { here = (refl, p); earlier = λ j h _. nowhere j h }

pub whole_never : {P : Type 0} → (P → ⊥) → (j : ℕ) → Whole P j → ⊥
whole_never no_fault j h = no_fault h.1

-- ---- an accepted call: no row applies
-- a table whose rows have numbers gives 0 with place 0 only
pub accepted_place : (t : Table) → Numbered t → (i : ℕ) → Gives t 0 i → i ≡ 0
accepted_place accepted m i h = h.1
accepted_place (k when P else t) m i (inl h) = absurd (unnumbered k h.0 m.0)
accepted_place (k when P else t) m i (inr h) = accepted_place t m.1 i h.1

pub place_zero : (t : Table) → Numbered t → (i : ℕ) → Gives t 0 i → Gives t 0 0
place_zero t m i h = subst (Gives t 0) (accepted_place t m i h) h

-- rows 1 to 4 of a list: an even length, at most 4,096 points, each in range, each once
pub record Passes (a : List ℤ) : Type 0 where
  pub even : Odd a → ⊥
  pub few : length (points a) ≤ most
  pub range : All InRange (points a)
  pub once : Pairs (λ p q. p ≡ q → ⊥) (points a)

pub list_passes : (a : List ℤ) (later : Table) (i : ℕ) → Gives (list_rows a later) 0 i → Passes a
list_passes a later i (inl h) = absurd (omega (arith, h.0))
list_passes a later i (inr (odd, inl h)) = absurd (omega (arith, h.0))
list_passes a later i (inr (odd, inr (more, inl h))) = absurd (omega (arith, h.0))
list_passes a later i (inr (odd, inr (more, inr (outside, inl h)))) = absurd (omega (arith, h.0))
list_passes a later i (inr (odd, inr (more, inr (outside, inr (repeats, h))))) = record {
  even = λ o. odd 0 (refl, o);
  few = either (lt_or_le most (length (points a))) (λ l. absurd (more 0 (refl, l))) (λ l. l);
  range = within_range (points a) outside;
  once = place_pairs (λ p q. p ≡ q → ⊥) (points a) (λ j k l m e. repeats k (m, (j, l, sym e)));
}

-- ---- rows 3 and 4 that do not apply
pub none_out_of_range : (l : List Point) → All InRange l → (j : ℕ) → AtPoint OutOfRange l j → ⊥
none_out_of_range l h j (k, n) = n (all_place InRange l h j k)

pub none_repeats : (l : List Point) → Pairs Before l → (i : ℕ) → Repeats l i → ⊥
none_repeats l h i (k, (j, g, e)) =
    before_irreflexive (point l j) (subst (Before (point l j)) e (pairs_place Before l h j i g k))
