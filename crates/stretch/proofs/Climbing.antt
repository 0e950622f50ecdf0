-- An edge followed from row to row in parts of a column: what rounding adds moves it into no other column. Assumes nothing.
use mathlib.Core.Path.{◌≡◌, sym, ◌∙◌, ap, subst}
use mathlib.Core.List.{[], ◌∷◌}
use Prim.Native.Nat.{ℕ, ◌+◌, ◌*◌, ◌-◌, ◌/◌, ◌%◌, ◌≤◌, ◌<◌}
use native.Mathlib.Nat.{add-mul, mul-add, mul-le-mul_left, mul-le-mul_right, div-add-mod', mod-lt}
use native.Mathlib.Omega.{arith}
use lib.Dec.{leb→le, le→leb}
use lib.IntN.{pos, ◌*ℤ◌}
use Rattle.whole.proofs.Whole.{quote, ◌≤ᶻ◌, gap≤, ◌⊞◌, ◌⊠◌, ◌⋆≡◌, natural, linear≤, linear⊥}
use Rattle.lattice.proofs.Lists.{either}
use Rattle.lattice.proofs.Places.{lt_or_le}
use Rattle.packed.specs.Packed.{side, cells}
use Rattle.stretch.specs.Stretch.{Slope, unit, moved, slope_of, position_of, column_of, Climbs}
use Rattle.stretch.specs.declared.Edge.{Edge}
use Rattle.stretch.proofs.Counting.{EndsAt, BeginsAt, weighed, passed, rest, some_rows, weighed_small, ends_at, begins_at}

in_order : {m n : ℕ} → m ≤ n → pos m ≤ᶻ pos n
in_order {m} {n} h = record { le = le→leb m n h }

-- a quotient and its divisor
divided : (m k : ℕ) → 0 < k → (m / k * k ≤ m) × (m < m / k * k + k)
divided m k l = (omega (arith, div-add-mod' m k), omega (arith, div-add-mod' m k, mod-lt m l))

-- ---- an edge from column a to column b, `passed` rows behind it and `rest` before it: each row adds `slope` parts of a column, of which there
-- are u, where `growth` columns would be right for all rows together
module _ (a b passed rest u slope growth many : ℕ) (grows : b + many * (passed + rest) ≡ growth + a)
    (no_less : growth * u ≤ slope * (passed + rest)) (no_more : slope * (passed + rest) ≤ growth * u + (passed + rest)) where
  abbrev right : ℕ
  right = (a * rest + b * passed + many * (passed + rest) * passed) * u

  abbrev reached : ℕ
  reached = (a * u + slope * passed) * (passed + rest)

  not_below : right ≤ reached
  not_below =
      let g : pos right ≤ᶻ pos reached = linear≤ (pos a ∷ pos b ∷ pos passed ∷ pos rest ∷ pos u ∷ pos slope ∷ pos growth ∷ pos many ∷ [])
      (natural passed ⊠ gap≤ (in_order no_less) ⊞ pos passed *ℤ pos u ⋆≡ ap pos grows) (search quote depth 20 fits 5000) tt in
      leb→le right reached g.le

  not_above : reached ≤ right + (passed + rest) * passed
  not_above =
      let g : pos reached ≤ᶻ pos (right + (passed + rest) * passed) = linear≤ (pos a ∷ pos b ∷ pos passed ∷ pos rest ∷ pos u ∷ pos slope ∷ pos growth ∷ pos many ∷ [])
      (natural passed ⊠ gap≤ (in_order no_more) ⊞ pos passed *ℤ pos u ⋆≡ ap pos (sym grows)) (search quote depth 20 fits 5000) tt in
      leb→le reached (right + (passed + rest) * passed) g.le

  -- moved by a number of parts, between two columns, so in the first of them
  module _ (move column : ℕ) (some : 0 < passed + rest)
      (low : column * (passed + rest) * u ≤ (a * rest + b * passed) * u + move * (passed + rest))
      (high : (a * rest + b * passed) * u + move * (passed + rest) + (passed + rest) * passed + 1 ≤ (column + 1) * (passed + rest) * u) where
    abbrev position : ℕ
    position = a * u + move + slope * passed

    not_before : (column + many * passed) * u ≤ position
    not_before = either (lt_or_le position ((column + many * passed) * u))
        (λ l. let k : position + 1 ≤ (column + many * passed) * u = omega arith in
        absurd (linear⊥ (pos a ∷ pos b ∷ pos passed ∷ pos rest ∷ pos u ∷ pos slope ∷ pos growth ∷ pos many ∷ pos move ∷ pos column ∷ [])
        (natural (passed + rest) ⊠ gap≤ (in_order k) ⊞ gap≤ (in_order not_below) ⊞ gap≤ (in_order low) ⊞ gap≤ (in_order some)) (search quote depth 20 fits 5000) tt))
        (λ l. l)

    not_behind : position < (column + 1 + many * passed) * u
    not_behind = either (lt_or_le position ((column + 1 + many * passed) * u)) (λ l. l)
        (λ l. absurd (linear⊥ (pos a ∷ pos b ∷ pos passed ∷ pos rest ∷ pos u ∷ pos slope ∷ pos growth ∷ pos many ∷ pos move ∷ pos column ∷ [])
        (natural (passed + rest) ⊠ gap≤ (in_order l) ⊞ gap≤ (in_order not_above) ⊞ gap≤ (in_order high)) (search quote depth 20 fits 5000) tt))

-- ---- the edge of the code
module _ (a b y : ℕ) (h : Slope a b y) where
  abbrev height : ℕ
  height = b / side - a / side

  abbrev growth : ℕ
  growth = b % side + side * height - a % side

  all_rows : height ≡ passed a b y h + rest a b y h
  all_rows = omega (arith, h.low, h.high)

  some_height : 0 < height
  some_height = omega (arith, h.steep)

  growing : b % side + side * height ≡ growth + a % side
  growing = omega (arith, some_height)

  -- a slope is rounded up, by less than a part
  slope_bounds : (growth * unit ≤ slope_of a b * height) × (slope_of a b * height ≤ growth * unit + height)
  slope_bounds =
      let d = divided (growth * unit) height some_height in
      let e : slope_of a b * height ≡ growth * unit / height * height + height = add-mul (growth * unit / height) 1 height ∙ omega arith in
      (omega (arith, d.1, e), omega (arith, d.0, e))

  -- as far as its last row it is small
  pub slope_small : (rows : ℕ) → rows ≤ height → slope_of a b * rows < cells * unit * 2
  slope_small rows l = omega (arith, mul-le-mul_left (slope_of a b) l, slope_bounds.1, h.b_below)

  -- one row further
  module _ (move : ℕ) (few : move < unit) (high : y < b / side) (e : Edge) (c : Climbs a b y move e) where
    further : slope_of a b * (y + 1 - a / side) ≡ slope_of a b * (y - a / side) + slope_of a b
    further =
        let k : y + 1 - a / side ≡ y - a / side + 1 = omega (arith, h.low) in
        ap (λ n. slope_of a b * n) k ∙ mul-add (slope_of a b) (y - a / side) 1 ∙ omega arith

    pub step_small : e.position + e.slope < unit * unit
    step_small = omega (arith, c.position, c.slope, few, further, slope_small (y + 1 - a / side) (omega (arith, high)))

    pub climbs_on : Climbs a b (y + 1) move (record { top = e.top; last = e.last; position = e.position + e.slope; slope = e.slope })
    climbs_on = record { last = c.last; position = omega (arith, c.position, c.slope, further); slope = c.slope }

  abbrev weight : ℕ
  weight = weighed a b (passed a b y h) (rest a b y h)

  abbrev rows : ℕ
  rows = passed a b y h + rest a b y h

  rows_few : (rows < side) × (rows * passed a b y h < unit) × (rows * passed a b y h ≤ rows * 16383)
  rows_few =
      let k : rows ≤ 16383 = omega (arith, all_rows, h.b_below) in
      let l : passed a b y h ≤ 16383 = omega (arith, h.b_below, h.high) in
      (omega arith, omega (arith, mul-le-mul_right (passed a b y h) k), mul-le-mul_left rows l)

  module _ (move column : ℕ) (few : column < side) (low : column * rows * unit ≤ weight * unit + move * rows)
      (high : weight * unit + move * rows + rows * passed a b y h + 1 ≤ (column + 1) * rows * unit) where
    no_less : growth * unit ≤ slope_of a b * rows
    no_less = subst (λ n. growth * unit ≤ slope_of a b * n) all_rows slope_bounds.0

    no_more : slope_of a b * rows ≤ growth * unit + rows
    no_more = subst (λ n. slope_of a b * n ≤ growth * unit + n) all_rows slope_bounds.1

    grows : b % side + side * rows ≡ growth + a % side
    grows = subst (λ n. b % side + side * n ≡ growth + a % side) all_rows growing

    in_column : position_of a b y move / unit % side ≡ column
    in_column =
        let k = not_before (a % side) (b % side) (passed a b y h) (rest a b y h) unit (slope_of a b) growth side grows no_less no_more move column (some_rows a b y h) low high in
        let l = not_behind (a % side) (b % side) (passed a b y h) (rest a b y h) unit (slope_of a b) growth side grows no_less no_more move column (some_rows a b y h) low high in
        omega (arith, few, k, l)

  module _ (e : Edge) where
    pub right_column : Climbs a b y 0 e → EndsAt a b y (column_of e + 1)
    right_column c =
        subst (λ n. EndsAt a b y (n + 1))
        (sym (ap (λ n. n / unit % side) c.position ∙ in_column 0 (weight / rows) few (omega (arith, d.0)) (omega (arith, d.1, more, rows_few)))) ends
      where
        ends : EndsAt a b y (weight / rows + 1)
        ends = ends_at a b y h

        few : weight / rows < side
        few = omega (arith, ends.few)

        d : (weight / rows * rows ≤ weight) × (weight < weight / rows * rows + rows)
        d = divided weight rows (some_rows a b y h)

        more : (weight / rows + 1) * rows ≡ weight / rows * rows + rows
        more = add-mul (weight / rows) 1 rows ∙ omega arith

    pub left_column : Climbs a b y moved e → BeginsAt b a y (column_of e)
    left_column c =
        subst (BeginsAt b a y)
        (sym (ap (λ n. n / unit % side) c.position ∙ in_column moved (top / rows) few (omega (arith, d.0, rows_few, some_rows a b y h)) (omega (arith, d.1, more, rows_few, some_rows a b y h)))) (begins_at a b y h)
      where
        top : ℕ
        top = weight + passed a b y h + rest a b y h - 1

        d : (top / rows * rows ≤ top) × (top < top / rows * rows + rows)
        d = divided top rows (some_rows a b y h)

        more : (top / rows + 1) * rows ≡ top / rows * rows + rows
        more = add-mul (top / rows) 1 rows ∙ omega arith

        few : top / rows < side
        few = either (lt_or_le (top / rows) side) (λ l. l)
            (λ l. absurd (omega (arith, d.0, mul-le-mul_right rows l, weighed_small a b y h, some_rows a b y h)))
