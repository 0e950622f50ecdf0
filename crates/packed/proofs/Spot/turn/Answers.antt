-- `Spot::turn` meets its contract: differences of coordinates and products of these fit, and moving the points keeps their turn. Assumes nothing.
use Rattle.std.proofs.Common.{◌≡◌, sym, ◌∙◌, ap, arith, ℤ, pos, neg_ℤ, ◌-ℤ◌, ◌*ℤ◌, FitsSigned, w64, to_z, of_z}
use mir.ValLaws.{to_z-of_z}
use Rattle.lattice.specs.Point.{Point}
use Rattle.lattice.specs.Hull.{turn}
use Rattle.lattice.proofs.Turn.{turn_translated}
use Rattle.packed.specs.Packed.{offset, Within}
use Rattle.packed.proofs.Small.{within_fits, difference_within, difference_fits, product_fits, turn_fits}
use Rattle.packed.proofs.Spot.turn.Goals as goal

-- as the machine has it: written to 64 bits and read again
abbrev wide : ℤ → ℤ
wide z = to_z w64 (of_z w64 z)

module _ {a b : ℤ} (h : Within 16384 a) (k : Within 16384 b) where
  difference : wide (wide a -ℤ wide b) ≡ a -ℤ b
  difference =
      ap wide (λ i. to_z-of_z w64 a (within_fits w64 16384 h (omega arith)) i -ℤ to_z-of_z w64 b (within_fits w64 16384 k (omega arith)) i)
      ∙ to_z-of_z w64 (a -ℤ b) (difference_fits h k)

module _ {a b c d : ℤ} (h : Within 16384 a) (k : Within 16384 b) (l : Within 16384 c) (m : Within 16384 d) where
  product_small : FitsSigned w64 (wide (wide a -ℤ wide b) *ℤ wide (wide c -ℤ wide d))
  product_small = rw (difference h k, difference l m) (product_fits (difference_within h k) (difference_within l m))

  product : wide (wide (wide a -ℤ wide b) *ℤ wide (wide c -ℤ wide d)) ≡ (a -ℤ b) *ℤ (c -ℤ d)
  product = to_z-of_z w64 _ product_small ∙ (λ i. difference h k i *ℤ difference l m i)

module _ {a b c d e f g h : ℤ} (p : Within 16384 a) (q : Within 16384 b) (r : Within 16384 c) (s : Within 16384 d) (t : Within 16384 e) (u : Within 16384 f) (v : Within 16384 g) (w : Within 16384 h) where
  abbrev products : ℤ
  products =
      wide (wide (wide a -ℤ wide b) *ℤ wide (wide c -ℤ wide d)) -ℤ wide (wide (wide e -ℤ wide f) *ℤ wide (wide g -ℤ wide h))

  products_small : FitsSigned w64 products
  products_small =
      rw (product p q r s, product t u v w)
      (turn_fits (difference_within p q) (difference_within r s) (difference_within t u) (difference_within v w))

  products_read : wide products ≡ (a -ℤ b) *ℤ (c -ℤ d) -ℤ (e -ℤ f) *ℤ (g -ℤ h)
  products_read = to_z-of_z w64 products products_small ∙ (λ i. product p q r s i -ℤ product t u v w i)

-- moving the points keeps their turn
abbrev away : ℤ → ℤ → Point
away x y = record { x = x -ℤ pos offset; y = y -ℤ pos offset }

turn_away : (ax ay bx by cx cy : ℤ) → (bx -ℤ ax) *ℤ (cy -ℤ ay) -ℤ (by -ℤ ay) *ℤ (cx -ℤ ax) ≡ turn (away ax ay) (away bx by) (away cx cy)
turn_away ax ay bx by cx cy =
    sym (turn_translated (neg_ℤ (pos offset)) (neg_ℤ (pos offset)) (record { x = ax; y = ay }) (record { x = bx; y = by }) (record { x = cx; y = cy }))

pub overflow_mul-result : goal.overflow_mul-result
overflow_mul-result c = search product_small

pub overflow_mul-result-2 : goal.overflow_mul-result-2
overflow_mul-result-2 c = search product_small

pub overflow_sub-result-5 : goal.overflow_sub-result-5
overflow_sub-result-5 c = search products_small

pub returns : goal.returns
returns c =
    let a = c.self.invariant in
    let b = c.b.invariant in
    let d = c.c.invariant in
    products_read b.0 a.0 d.1 a.1 b.1 a.1 d.0 a.0
    ∙ turn_away c.self.inside.column c.self.inside.row c.b.inside.column c.b.inside.row c.c.inside.column c.c.inside.row
    ∙ (λ i. turn (c.self.view_is i) (c.b.view_is i) (c.c.view_is i))
