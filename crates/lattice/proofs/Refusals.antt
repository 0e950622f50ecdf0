-- Tables of refusals: a table gives one number and one place, and one whose rows can be tested at each place can be run. Assumes nothing.
use mathlib.Core.Path.{◌≡◌, refl, sym, ◌∙◌, subst}
use mathlib.Core.Logic.{◌⊎◌, inl, inr}
use mathlib.Core.Bool.{true, false}
use mathlib.Core.List.{List}
use Prim.Native.Nat.{ℕ, zero, suc, ◌≤◌, ◌<◌, ◌%◌}
use native.Mathlib.Omega.{arith}
use lib.Dec.{T, ltb, ltb→lt, lt→ltb, eqb, eqb→eq, eqb_refl}
use lib.ListN.{length}
use lib.IntN.{ℤ}
use Rattle.lattice.specs.Point.{Point, least, greatest, InRange, most, points, point, All, Before}
use Rattle.lattice.specs.Refusal.{First, Table, accepted, ◌when◌else◌, Gives, Whole, AtPoint, Repeats, Strays, OutOfRange, list_rows, rebuild_rows}
use Rattle.lattice.proofs.Lists.{either}
use Rattle.lattice.proofs.Places.{lt_or_le, place_all}
use Rattle.lattice.proofs.Decide.{Decided, both, one_of, in_words, negated, yes_or_no, le?, same?, before?, in?, hull?, corner_list?}

-- ---- any two outcomes of a table coincide
not_later : (P : ℕ → Type 0) (i j : ℕ) → First P i → First P j → i ≤ j
not_later P i j h g = either (lt_or_le j i) (λ l. absurd (h.earlier j l g.here)) (λ l. l)

pub first_unique : (P : ℕ → Type 0) (i j : ℕ) → First P i → First P j → i ≡ j
first_unique P i j h g = omega (arith, not_later P i j h g, not_later P j i g h)

pub gives_unique : (t : Table) (n m i j : ℕ) → Gives t n i → Gives t m j → (n ≡ m) × (i ≡ j)
gives_unique accepted n m i j h g = (h.0 ∙ sym g.0, h.1 ∙ sym g.1)
gives_unique (k when P else later) n m i j (inl h) (inl g) = (h.0 ∙ sym g.0, first_unique P i j h.1 g.1)
gives_unique (k when P else later) n m i j (inl h) (inr g) = absurd (g.0 i h.1.here)
gives_unique (k when P else later) n m i j (inr h) (inl g) = absurd (h.0 j g.1.here)
gives_unique (k when P else later) n m i j (inr h) (inr g) = gives_unique later n m i j h.1 g.1

-- ---- tests on naturals
abbrev pub below? : (i n : ℕ) → Decided (i < n)
below? i n = record { test = ltb i n; sound = ltb→lt i n; complete = lt→ltb i n }

abbrev pub equals? : (i n : ℕ) → Decided (i ≡ n)
equals? i n = record { test = eqb i n; sound = eqb→eq i n; complete = λ e. subst (λ m. T (eqb i m)) e (eqb_refl i) }

-- ---- the first place below n
abbrev pub Search : (ℕ → Type 0) → ℕ → Type 0
Search P n = ((i : ℕ) × (i < n) × First P i) ⊎ ((j : ℕ) → j < n → P j → ⊥)

module _ (P : ℕ → Type 0) (n : ℕ) where
  abbrev pub one_more : Search P n → P n ⊎ (P n → ⊥) → Search P (suc n)
  one_more (inl f) d = inl (f.0, omega (arith, f.1), f.2)
  one_more (inr none) (inl h) = inl (n, omega arith, record { here = h; earlier = none })
  one_more (inr none) (inr not_here) = inr (λ j l h. either (lt_or_le j n) (λ k. none j k h) (λ k. not_here (subst P (end j l k) h)))
    where
      end : (j : ℕ) → j < suc n → n ≤ j → j ≡ n
      end j l k = omega arith

abbrev pub search_places : (P : ℕ → Type 0) → ((i : ℕ) → Decided (P i)) → (n : ℕ) → Search P n
search_places P d zero = inr (λ j l h. never j l)
  where
    never : (j : ℕ) → j < zero → ⊥
    never j l = omega arith
search_places P d (suc n) = one_more P n (search_places P d n) (yes_or_no (d n))

-- ---- rows that can be run: all places are below a bound, and each can be tested
pub record Places (P : ℕ → Type 0) : Type 0 where
  pub bound : ℕ
  pub bounded : (i : ℕ) → P i → i < bound
  pub each : (i : ℕ) → Decided (P i)

pub data Runs : Table → Type 1 where
  accepts : Runs accepted
  then : {k : ℕ} {P : ℕ → Type 0} {later : Table} → Places P → Runs later → Runs (k when P else later)

-- number and place that a table gives, and that it gives them
abbrev pub Given : Table → Type 0
Given t = (n : ℕ) × (i : ℕ) × Gives t n i

module _ (k : ℕ) (P : ℕ → Type 0) (later : Table) (p : Places P) where
  abbrev pub given_by : Search P p.bound → Given later → Given (k when P else later)
  given_by (inl f) g = (k, f.0, inl (refl, f.2))
  given_by (inr none) g = (g.0, g.1, inr ((λ j h. none j (p.bounded j h) h), g.2))

abbrev pub given : {t : Table} → Runs t → Given t
given accepts = (0, 0, (refl, refl))
given (then {k} {P} {later} p r) = given_by k P later p (search_places P p.each p.bound) (given r)

-- ---- the rows of document 01
abbrev pub whole? : {P : Type 0} → Decided P → Places (Whole P)
whole? d = record { bound = 1; bounded = λ i h. omega (arith, h.0); each = λ i. both (equals? i 0) d }

abbrev pub at_point? : {P : Point → Type 0} → ((p : Point) → Decided (P p)) → (l : List Point) → Places (AtPoint P l)
at_point? d l = record { bound = length l; bounded = λ i h. h.0; each = λ i. both (below? i (length l)) (d (point l i)) }

-- some earlier place
module _ (Q : ℕ → Type 0) (i : ℕ) where
  abbrev pub Earlier : Type 0
  Earlier = (j : ℕ) × (j < i) × Q j

  abbrev pub earlier? : ((j : ℕ) → Decided (Q j)) → Decided Earlier
  earlier? d = by_search (search_places Q d i)
    where
      by_search : Search Q i → Decided Earlier
      by_search (inl f) = record { test = true; sound = λ t. (f.0, f.1, f.2.here); complete = λ e. tt }
      by_search (inr none) = record { test = false; sound = λ t. absurd t; complete = λ e. none e.0 e.1 e.2 }

abbrev pub repeats? : (l : List Point) → Places (Repeats l)
repeats? l = record {
  bound = length l;
  bounded = λ i h. h.0;
  each = λ i. both (below? i (length l)) (earlier? (λ j. point l i ≡ point l j) i (λ j. same? (point l i) (point l j)));
}

-- the point before, if there is one
module _ (l : List Point) where
  abbrev pub Unfollowed : ℕ → Type 0
  Unfollowed i = (j : ℕ) × (i ≡ suc j) × (Before (point l j) (point l i) → ⊥)

  pub follows_words : (j : ℕ) → Unfollowed (suc j) → Before (point l j) (point l (suc j)) → ⊥
  follows_words j s h =
      let e : j ≡ s.0 = omega (arith, s.1) in
      s.2 (subst (λ k. Before (point l k) (point l (suc j))) e h)

  abbrev pub unfollowed? : (i : ℕ) → Decided (Unfollowed i)
  unfollowed? zero = record { test = false; sound = λ t. absurd t; complete = λ s. never s.0 s.1 }
    where
      never : (j : ℕ) → zero ≡ suc j → ⊥
      never j e = omega arith
  unfollowed? (suc j) = in_words (λ n. (j, refl, n)) (follows_words j) (negated (before? (point l j) (point l (suc j))))

abbrev pub strays? : (l : List Point) → Places (Strays l)
strays? l =
    record { bound = length l; bounded = λ i h. h.0; each = λ i. both (below? i (length l)) (unfollowed? l i) }

abbrev pub range? : (p : Point) → Decided (InRange p)
range? p =
    in_words (λ h. record { x_from = h.0.0; x_to = h.0.1; y_from = h.1.0; y_to = h.1.1 })
    (λ h. ((h.x_from, h.x_to), (h.y_from, h.y_to)))
    (both (both (le? least p.x) (le? p.x greatest)) (both (le? least p.y) (le? p.y greatest)))

-- a list with no point out of range
pub within_range : (l : List Point) → ((i : ℕ) → AtPoint OutOfRange l i → ⊥) → All InRange l
within_range l f = place_all InRange l (λ i h. either (yes_or_no (range? (point l i))) (λ r. r) (λ n. absurd (f i (h, n))))

abbrev pub list_runs : (a : List ℤ) {later : Table} → Runs later → Runs (list_rows a later)
list_runs a r =
    then (whole? (equals? (length a % 2) 1))
    (then (whole? (below? most (length (points a))))
    (then (at_point? (λ p. negated (range? p)) (points a)) (then (repeats? (points a)) r)))

abbrev pub rebuild_runs : (c m : List Point) {later : Table} → Runs later → Runs (rebuild_rows c m later)
rebuild_runs c m r =
    then (whole? (negated (corner_list? c c)))
    (then (strays? m) (then (at_point? (λ p. one_of (negated (hull? c p)) (in? p c)) m) r))
