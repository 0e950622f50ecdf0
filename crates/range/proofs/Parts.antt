-- The points of a part from the middle of a list of numbers. Assumes nothing.
use mathlib.Core.Path.{◌≡◌, ◌∙◌, ap}
use mathlib.Core.List.{List}
use Prim.Native.Nat.{ℕ, ◌+◌, ◌-◌, ◌*◌, ◌≤◌, ◌<◌}
use native.Mathlib.Omega.{arith}
use lib.ListN.{length, take, drop, length-drop}
use lib.Seq.{length-take-le, get_or-take, get_or-drop}
use lib.IntN.{ℤ}
use Rattle.lattice.specs.Point.{origin, points, point}
use Rattle.lattice.proofs.Numbers.{points_drop, points_take}

module _ (list : List ℤ) (begin end : ℕ) where
  abbrev pub part : List ℤ
  part = take (2 * end - 2 * begin) (drop (2 * begin) list)

  part_points : points part ≡ take (end - begin) (drop begin (points list))
  part_points =
      let e : 2 * end - 2 * begin ≡ 2 * (end - begin) = omega arith in
      ap (λ n. points (take n (drop (2 * begin) list))) e
      ∙ points_take (end - begin) (drop (2 * begin) list)
      ∙ ap (take (end - begin)) (points_drop begin list)

  pub part_length : end ≤ length (points list) → length (points part) ≡ end - begin
  part_length h =
      ap length part_points
      ∙ length-take-le (end - begin) (drop begin (points list)) (omega (arith, h, length-drop begin (points list)))

  pub part_at : (i : ℕ) → i < end - begin → point (points part) i ≡ point (points list) (begin + i)
  part_at i l =
      ap (λ m. point m i) part_points
      ∙ get_or-take (end - begin) (drop begin (points list)) i origin l
      ∙ get_or-drop begin (points list) i origin
