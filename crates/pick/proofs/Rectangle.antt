-- The lattice points of a rectangle, by its first and last column and row: as many as its columns times its rows. Assumes nothing.
use mathlib.Core.Path.{◌≡◌, refl, sym, ◌∙◌, ap}
use mathlib.Core.Logic.{◌⊎◌, inl, inr}
use mathlib.Core.List.{[], ◌∷◌}
use Prim.Native.Nat.{ℕ, zero, suc, ◌+◌}
use native.Mathlib.Omega.{arith}
use lib.IntN.{ℤ, pos, negsuc, ◌+ℤ◌, ◌*ℤ◌, ◌-ℤ◌}
use Rattle.whole.proofs.Whole.{quote, ring, ◌≤ᶻ◌, NonNegative, natural, gap≤, gap<, ◌⊞◌, ◌⋆≡◌, ◌∗≡◌, linear≤, linear⊥, linear≡, le_or_lt, antisymmetric, le_of_equal}
use Rattle.lattice.specs.Point.{Point}
use Rattle.lattice.proofs.Lists.{either}
use Rattle.lattice.proofs.HalfPlane.{point_equal}
use Rattle.pick.specs.Solid.{Rectangle}
use Rattle.pick.proofs.Number.{Number, number_same, number_equal, number_none, number_one, number_union}

pub one_more : (n : ℕ) → pos (suc n) ≡ pos 1 +ℤ pos n
one_more n =
    let e : suc n ≡ 1 + n = omega arith in
    ap pos e

-- ---- one row, column by column
number_row : (n : ℕ) (left right y : ℤ) → right +ℤ pos 1 -ℤ left ≡ pos n → Number (Rectangle left right y y) (pos n)
number_row zero left right y e =
    number_none (λ p r. linear⊥ (left ∷ right ∷ p.x ∷ []) (gap≤ r.from_left ⊞ gap≤ r.to_right ⊞ negsuc 0 ⋆≡ sym e) (search quote depth 20) tt)
number_row (suc n) left right y e =
    number_equal (sym (one_more n))
    (number_same (λ p h. either h (at_left p) (farther p)) by_column
    (number_union (λ p h r. linear⊥ (left ∷ p.x ∷ []) (gap≤ r.from_left ⊞ pos 1 ⋆≡ ap (λ z. z.x) h) (search quote depth 20) tt)
    (number_one (record { x = left; y = y }))
    (number_row n (left +ℤ pos 1) right y (linear≡ (left ∷ right ∷ pos n ∷ []) (pos 1 ∗≡ width) (search quote depth 20) tt))))
  where
    width : right +ℤ pos 1 -ℤ left ≡ pos 1 +ℤ pos n
    width = e ∙ one_more n

    at_left : (p : Point) → p ≡ record { x = left; y = y } → Rectangle left right y y p
    at_left p h = record {
      from_left = le_of_equal (sym (ap (λ z. z.x) h));
      to_right = linear≤ (left ∷ right ∷ p.x ∷ pos n ∷ []) (natural n ⊞ pos 1 ⋆≡ ap (λ z. z.x) h ⊞ pos 1 ⋆≡ sym width) (search quote depth 20) tt;
      from_low = le_of_equal (sym (ap (λ z. z.y) h));
      to_high = le_of_equal (ap (λ z. z.y) h);
    }

    farther : (p : Point) → Rectangle (left +ℤ pos 1) right y y p → Rectangle left right y y p
    farther p r = record {
      from_left = linear≤ (left ∷ p.x ∷ []) (gap≤ r.from_left ⊞ natural 1) (search quote depth 20) tt;
      to_right = r.to_right;
      from_low = r.from_low;
      to_high = r.to_high;
    }

    by_column : (p : Point) → Rectangle left right y y p → (p ≡ record { x = left; y = y }) ⊎ Rectangle (left +ℤ pos 1) right y y p
    by_column p r =
        either (le_or_lt p.x left)
        (λ k. inl (point_equal (antisymmetric k r.from_left) (antisymmetric r.to_high r.from_low)))
        (λ k. inr (record {
          from_left = linear≤ (left ∷ p.x ∷ []) (gap< k) (search quote depth 20) tt;
          to_right = r.to_right;
          from_low = r.from_low;
          to_high = r.to_high;
        }))

-- ---- row by row
module _ (columns : ℕ) (left right : ℤ) (wide : right +ℤ pos 1 -ℤ left ≡ pos columns) where
  number_rows : (n : ℕ) (low high : ℤ) → high +ℤ pos 1 -ℤ low ≡ pos n → Number (Rectangle left right low high) (pos columns *ℤ pos n)
  number_rows zero low high e =
      number_equal (ring (pos columns ∷ []) (search quote depth 20) tt)
      (number_none (λ p r. linear⊥ (low ∷ high ∷ p.y ∷ []) (gap≤ r.from_low ⊞ gap≤ r.to_high ⊞ negsuc 0 ⋆≡ sym e) (search quote depth 20) tt))
  number_rows (suc n) low high e =
      number_equal (ring (pos columns ∷ pos n ∷ []) (search quote depth 20) tt ∙ ap (λ z. pos columns *ℤ z) (sym (one_more n)))
      (number_same (λ p h. either h (lowest p) (higher p)) by_row
      (number_union (λ p h r. linear⊥ (low ∷ p.y ∷ []) (gap≤ h.to_high ⊞ gap≤ r.from_low) (search quote depth 20) tt)
      (number_row columns left right low wide)
      (number_rows n (low +ℤ pos 1) high (linear≡ (low ∷ high ∷ pos n ∷ []) (pos 1 ∗≡ height) (search quote depth 20) tt))))
    where
      height : high +ℤ pos 1 -ℤ low ≡ pos 1 +ℤ pos n
      height = e ∙ one_more n

      lowest : (p : Point) → Rectangle left right low low p → Rectangle left right low high p
      lowest p r = record {
        from_left = r.from_left;
        to_right = r.to_right;
        from_low = r.from_low;
        to_high = linear≤ (low ∷ high ∷ p.y ∷ pos n ∷ []) (natural n ⊞ gap≤ r.to_high ⊞ pos 1 ⋆≡ sym height) (search quote depth 20) tt;
      }

      higher : (p : Point) → Rectangle left right (low +ℤ pos 1) high p → Rectangle left right low high p
      higher p r = record {
        from_left = r.from_left;
        to_right = r.to_right;
        from_low = linear≤ (low ∷ p.y ∷ []) (gap≤ r.from_low ⊞ natural 1) (search quote depth 20) tt;
        to_high = r.to_high;
      }

      by_row : (p : Point) → Rectangle left right low high p → Rectangle left right low low p ⊎ Rectangle left right (low +ℤ pos 1) high p
      by_row p r =
          either (le_or_lt p.y low)
          (λ k. inl (record { from_left = r.from_left; to_right = r.to_right; from_low = r.from_low; to_high = k }))
          (λ k. inr (record {
            from_left = r.from_left;
            to_right = r.to_right;
            from_low = linear≤ (low ∷ p.y ∷ []) (gap< k) (search quote depth 20) tt;
            to_high = r.to_high;
          }))

-- a rectangle may have no column or no row
pub number_rectangle : (left right low high : ℤ) → left ≤ᶻ right +ℤ pos 1 → low ≤ᶻ high +ℤ pos 1
    → Number (Rectangle left right low high) ((right +ℤ pos 1 -ℤ left) *ℤ (high +ℤ pos 1 -ℤ low))
number_rectangle left right low high f g =
    by_size (right +ℤ pos 1 -ℤ left) (high +ℤ pos 1 -ℤ low) refl refl (gap≤ f) (gap≤ g)
  where
    by_size : (w h : ℤ) → right +ℤ pos 1 -ℤ left ≡ w → high +ℤ pos 1 -ℤ low ≡ h → NonNegative w → NonNegative h
        → Number (Rectangle left right low high) (w *ℤ h)
    by_size (pos w) (pos h) d e i j = number_rows w left right d h low high e
    by_size (negsuc w) h d e i j = absurd i.le
    by_size (pos w) (negsuc h) d e i j = absurd j.le
