-- The points of a list of numbers by place, and points written as numbers. Assumes nothing.
use mathlib.Core.Path.{◌≡◌, refl, sym, ◌∙◌, ap}
use mathlib.Core.List.{List, [], ◌∷◌, ◌++◌}
use Prim.Native.Nat.{ℕ, zero, suc, ◌+◌, ◌*◌, ◌/◌, ◌<◌}
use native.Mathlib.Omega.{arith}
use lib.ListN.{length, get_or, take, drop}
use lib.IntN.{ℤ, pos}
use Rattle.lattice.specs.Point.{Point, points, point}
use Rattle.lattice.specs.Refusal.{Odd}
use Rattle.lattice.specs.Room.{numbers}
use Rattle.lattice.proofs.HalfPlane.{point_equal}

pub points_length : (a : List ℤ) → length (points a) ≡ length a / 2
points_length [] = refl
points_length (x ∷ []) = refl
points_length (x ∷ y ∷ a) = omega (arith, points_length a)

-- the point at place i is made of the numbers at 2 i and 2 i + 1
abbrev pub pair : List ℤ → ℕ → Point
pair a i = record { x = get_or a (2 * i) (pos 0); y = get_or a (2 * i + 1) (pos 0) }

next_pair : (x y : ℤ) (a : List ℤ) (i : ℕ) → pair (x ∷ y ∷ a) (suc i) ≡ pair a i
next_pair x y a i =
    let e : 2 * suc i ≡ suc (suc (2 * i)) = omega arith in
    let f : 2 * suc i + 1 ≡ suc (suc (2 * i + 1)) = omega arith in
    point_equal (ap (λ n. get_or (x ∷ y ∷ a) n (pos 0)) e) (ap (λ n. get_or (x ∷ y ∷ a) n (pos 0)) f)

pub points_at : (a : List ℤ) (i : ℕ) → i < length (points a) → point (points a) i ≡ pair a i
points_at [] i h = absurd (never i h)
  where
    never : (i : ℕ) → i < 0 → ⊥
    never i h = omega arith
points_at (x ∷ []) i h = absurd (never i h)
  where
    never : (i : ℕ) → i < 0 → ⊥
    never i h = omega arith
points_at (x ∷ y ∷ a) zero h = refl
points_at (x ∷ y ∷ a) (suc i) h = points_at a i (omega arith) ∙ sym (next_pair x y a i)

pub numbers_length : (l : List Point) → length (numbers l) ≡ 2 * length l
numbers_length [] = refl
numbers_length (p ∷ l) = omega (arith, numbers_length l)

pub numbers_append : (l m : List Point) → numbers (l ++ m) ≡ numbers l ++ numbers m
numbers_append [] m = refl
numbers_append (p ∷ l) m = ap (λ a. p.x ∷ p.y ∷ a) (numbers_append l m)

pub points_numbers : (l : List Point) → points (numbers l) ≡ l
points_numbers [] = refl
points_numbers (p ∷ l) = ap (λ m. p ∷ m) (points_numbers l)

-- numbers tell their points
pub numbers_tell : {l m : List Point} → numbers l ≡ numbers m → l ≡ m
numbers_tell {l} {m} e = sym (points_numbers l) ∙ ap points e ∙ points_numbers m

-- the numbers of points are even in number, and a list of even length is the numbers of its points
pub numbers_even : {a : List ℤ} (l : List Point) → a ≡ numbers l → Odd a → ⊥
numbers_even l e h = omega (arith, h, ap length e, numbers_length l)

pub even_numbers : (a : List ℤ) → (Odd a → ⊥) → numbers (points a) ≡ a
even_numbers [] n = refl
even_numbers (x ∷ []) n = absurd (n refl)
even_numbers (x ∷ y ∷ a) n = ap (λ l. x ∷ y ∷ l) (even_numbers a (λ h. n (omega (arith, h))))

-- the points of a part of the list are a part of its points
twice : (n : ℕ) → 2 * suc n ≡ suc (suc (2 * n))
twice n = omega arith

pub points_drop : (n : ℕ) (a : List ℤ) → points (drop (2 * n) a) ≡ drop n (points a)
points_drop zero a = refl
points_drop (suc n) [] = ap (λ m. points (drop m [])) (twice n)
points_drop (suc n) (x ∷ []) = ap (λ m. points (drop m (x ∷ []))) (twice n)
points_drop (suc n) (x ∷ y ∷ a) = ap (λ m. points (drop m (x ∷ y ∷ a))) (twice n) ∙ points_drop n a

pub points_take : (n : ℕ) (a : List ℤ) → points (take (2 * n) a) ≡ take n (points a)
points_take zero a = refl
points_take (suc n) [] = ap (λ m. points (take m [])) (twice n)
points_take (suc n) (x ∷ []) = ap (λ m. points (take m (x ∷ []))) (twice n)
points_take (suc n) (x ∷ y ∷ a) = ap (λ m. points (take m (x ∷ y ∷ a))) (twice n) ∙ ap (λ l. record { x = x; y = y } ∷ l) (points_take n a)
