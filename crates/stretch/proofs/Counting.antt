-- Where an edge crosses a row, in natural numbers: a division leaves the columns on one side of it. Assumes nothing.
use mathlib.Core.Path.{◌≡◌, sym, ◌∙◌, subst, subst₂}
use mathlib.Core.Logic.{◌↔◌}
use mathlib.Core.List.{[], ◌∷◌}
use Prim.Native.Nat.{ℕ, ◌+◌, ◌*◌, ◌-◌, ◌/◌, ◌%◌, ◌≤◌, ◌<◌}
use native.Mathlib.Nat.{add-mul, mul-le-mul_right, le-div_iff_mul-le}
use native.Mathlib.Omega.{arith}
use lib.Dec.{leb→le, le→leb}
use lib.IntN.{pos}
use lib.Signed.{◌≤ℤ◌}
use Rattle.whole.proofs.Whole.{quote, ◌≤ᶻ◌, gap≤, linear≤}
use Rattle.lattice.specs.Point.{Before}
use Rattle.lattice.specs.Hull.{turn}
use Rattle.lattice.proofs.Lists.{either}
use Rattle.lattice.proofs.Places.{lt_or_le}
use Rattle.packed.specs.Packed.{side, placed, unpacked}
use Rattle.packed.proofs.RowOrder.{before_unpacked, unpacked_before}
use Rattle.stretch.specs.Stretch.{cell, Slope}

-- the point of row y in column x is to the left of the edge from a to b, or on it
abbrev pub LeftOf : ℕ → ℕ → ℕ → ℕ → Type 0
LeftOf a b y x = pos 0 ≤ℤ turn (unpacked a) (unpacked b) (cell x y)

-- the edge from a to b has on its left, or on it, the columns of row y below r; from r on
pub record EndsAt (a b y r : ℕ) : Type 0 where
  pub few : r ≤ side
  pub exactly : (x : ℕ) → LeftOf a b y x ↔ x < r

abbrev pub BeginsAt : ℕ → ℕ → ℕ → ℕ → Type 0
BeginsAt a b y r = (x : ℕ) → LeftOf a b y x ↔ r ≤ x

-- ---- columns on one side of a division
at_most : (x bound steep : ℕ) → 0 < steep → x * steep ≤ bound ↔ x < bound / steep + 1
at_most x bound steep s = (
  (λ h. let d : x ≤ bound / steep = (le-div_iff_mul-le s).1 h in omega arith),
  (λ h. (le-div_iff_mul-le s).0 (omega arith)),
)

at_least : (x bound steep top : ℕ) → 0 < steep → top + 1 ≡ bound + steep → bound ≤ x * steep ↔ top / steep ≤ x
at_least x bound steep top s e = (
  (λ h. either (lt_or_le x (top / steep)) (λ l. absurd (omega (arith, h, more l))) (λ l. l)),
  (λ h. either (lt_or_le (x * steep) bound) (λ l. absurd (omega (arith, h, fewer l))) (λ l. l)),
)
  where
    next : (x + 1) * steep ≡ x * steep + steep
    next = add-mul x 1 steep ∙ omega arith

    more : x < top / steep → x * steep + steep ≤ top
    more l =
        let k : x + 1 ≤ top / steep = omega arith in
        let g : (x + 1) * steep ≤ top = (le-div_iff_mul-le s).0 k in
        omega (arith, g, next)

    fewer : x * steep < bound → x + 1 ≤ top / steep
    fewer l =
        let g : (x + 1) * steep ≤ top = omega (arith, l, e, next) in
        (le-div_iff_mul-le s).1 g

-- ---- an edge in natural numbers: the columns of both its ends, each taken as often as there are rows from row y to the other end
abbrev pub weighed : ℕ → ℕ → ℕ → ℕ → ℕ
weighed a b passed rest = a % side * rest + b % side * passed

module _ (a b y x passed rest : ℕ) (e : y ≡ a / side + passed) (f : b / side ≡ a / side + passed + rest) where
  abbrev Up : ℕ → ℕ → Type 0
  Up row top = pos 0 ≤ℤ turn (unpacked a) (record { x = placed (b % side); y = placed top }) (cell x row)

  abbrev Down : ℕ → ℕ → Type 0
  Down row top = pos 0 ≤ℤ turn (record { x = placed (b % side); y = placed top }) (unpacked a) (cell x row)

  abbrev bound : ℕ
  bound = weighed a b passed rest

  left_of_rising : LeftOf a b y x ↔ x * (passed + rest) ≤ bound
  left_of_rising = (
    (λ h. let g : pos (x * (passed + rest)) ≤ᶻ pos bound =
        linear≤ (pos (a % side) ∷ pos (a / side) ∷ pos (b % side) ∷ pos x ∷ pos passed ∷ pos rest ∷ []) (gap≤ (subst₂ Up e f h)) (search quote depth 20 fits 5000) tt in
        leb→le (x * (passed + rest)) bound g.le),
    (λ h. let g : pos (x * (passed + rest)) ≤ᶻ pos bound = record { le = le→leb (x * (passed + rest)) bound h } in
        subst₂ Up (sym e) (sym f)
        (linear≤ (pos (a % side) ∷ pos (a / side) ∷ pos (b % side) ∷ pos x ∷ pos passed ∷ pos rest ∷ []) (gap≤ g) (search quote depth 20 fits 5000) tt)),
  )

  left_of_falling : LeftOf b a y x ↔ bound ≤ x * (passed + rest)
  left_of_falling = (
    (λ h. let g : pos bound ≤ᶻ pos (x * (passed + rest)) =
        linear≤ (pos (a % side) ∷ pos (a / side) ∷ pos (b % side) ∷ pos x ∷ pos passed ∷ pos rest ∷ []) (gap≤ (subst₂ Down e f h)) (search quote depth 20 fits 5000) tt in
        leb→le bound (x * (passed + rest)) g.le),
    (λ h. let g : pos bound ≤ᶻ pos (x * (passed + rest)) = record { le = le→leb bound (x * (passed + rest)) h } in
        subst₂ Down (sym e) (sym f)
        (linear≤ (pos (a % side) ∷ pos (a / side) ∷ pos (b % side) ∷ pos x ∷ pos passed ∷ pos rest ∷ []) (gap≤ g) (search quote depth 20 fits 5000) tt)),
  )

-- ---- in the row of one end, that end is the bound
no_more : (m n k : ℕ) → 0 < k → m * k ≤ n * k → m ≤ n
no_more m n k s h =
    either (lt_or_le n m)
    (λ l. let g : n + 1 ≤ m = omega arith in absurd (omega (arith, s, h, mul-le-mul_right k g, add-mul n 1 k)))
    (λ l. l)

pub at_foot : (a b y x : ℕ) → a / side ≡ y → y < b / side → LeftOf b a y x → a % side ≤ x
at_foot a b y x e l h =
    let rest = b / side - y in
    let g : a % side * rest + b % side * 0 ≤ x * (0 + rest) = (left_of_falling a b y x 0 rest (omega (arith, e)) (omega (arith, e, l))).0 h in
    no_more (a % side) x rest (omega (arith, l)) (omega (arith, g))

pub at_head : (a b y x : ℕ) → b / side ≡ y → a / side < y → LeftOf a b y x → x ≤ b % side
at_head a b y x e l h =
    let passed = y - a / side in
    let g : x * (passed + 0) ≤ a % side * 0 + b % side * passed = (left_of_rising a b y x passed 0 (omega (arith, l)) (omega (arith, e, l))).0 h in
    no_more x (b % side) passed (omega (arith, l)) (omega (arith, g))

-- ---- what the code computes of it
module _ (a b y : ℕ) (h : Slope a b y) where
  abbrev pub passed : ℕ
  passed = y - a / side

  abbrev pub rest : ℕ
  rest = b / side - y

  from_low : y ≡ a / side + passed
  from_low = omega (arith, h.low)

  to_high : b / side ≡ a / side + passed + rest
  to_high = omega (arith, h.low, h.high)

  pub some_rows : 0 < passed + rest
  some_rows = omega (arith, h.low, h.high, h.steep)

  pub weighed_small : weighed a b passed rest ≤ 16383 * (passed + rest)
  weighed_small =
      let f : a % side ≤ 16383 = omega arith in
      let g : b % side ≤ 16383 = omega arith in
      omega (arith, mul-le-mul_right rest f, mul-le-mul_right passed g)

  pub ends_at : EndsAt a b y (weighed a b passed rest / (passed + rest) + 1)
  ends_at = record {
    few = either (lt_or_le (weighed a b passed rest / (passed + rest)) side) (λ l. omega arith)
        (λ l. let g : side * (passed + rest) ≤ weighed a b passed rest = (le-div_iff_mul-le some_rows).0 l in absurd (omega (arith, weighed_small, some_rows, g)));
    exactly = λ x. let e = left_of_rising a b y x passed rest from_low to_high in
        let d = at_most x (weighed a b passed rest) (passed + rest) some_rows in
        ((λ l. d.0 (e.0 l)), (λ l. e.1 (d.1 l)));
  }

  pub begins_at : BeginsAt b a y ((weighed a b passed rest + passed + rest - 1) / (passed + rest))
  begins_at x =
      let e = left_of_falling a b y x passed rest from_low to_high in
      let d = at_least x (weighed a b passed rest) (passed + rest) (weighed a b passed rest + passed + rest - 1) some_rows (omega (arith, some_rows)) in
      ((λ l. d.0 (e.0 l)), (λ l. e.1 (d.1 l)))

-- ---- the first and the last corner
cell_unpacked : (x y : ℕ) → x < side → cell x y ≡ unpacked (side * y + x)
cell_unpacked x y h =
    let e : x ≡ (side * y + x) % side = omega arith in
    let f : y ≡ (side * y + x) / side = omega arith in
    λ i. record { x = placed (e i); y = placed (f i) }

module _ (k x y : ℕ) (h : x < side) where
  pub cell_before : Before (cell x y) (unpacked k) → side * y + x < k
  cell_before b = unpacked_before (side * y + x) k (subst (λ p. Before p (unpacked k)) (cell_unpacked x y h) b)

  pub before_cell : Before (unpacked k) (cell x y) → k < side * y + x
  before_cell b = unpacked_before k (side * y + x) (subst (Before (unpacked k)) (cell_unpacked x y h) b)

  pub is_cell_before : side * y + x < k → Before (cell x y) (unpacked k)
  is_cell_before l = subst (λ p. Before p (unpacked k)) (sym (cell_unpacked x y h)) (before_unpacked (side * y + x) k l)

  pub is_before_cell : k < side * y + x → Before (unpacked k) (cell x y)
  is_before_cell l = subst (Before (unpacked k)) (sym (cell_unpacked x y h)) (before_unpacked k (side * y + x) l)
