-- Euclid's steps lead to a divisor of both numbers that is a sum of multiples of them. Assumes nothing.
use mathlib.Core.Path.{◌≡◌, refl, ap}
use mathlib.Core.List.{[], ◌∷◌}
use Prim.Native.Nat.{ℕ, zero, suc, ◌/◌, ◌%◌, ◌<◌}
use native.Mathlib.Nat.{mod-lt, div-add-mod'}
use native.Mathlib.Omega.{arith}
use lib.IntN.{ℤ, pos, negsuc, neg_ℤ, nat_abs, ◌+ℤ◌, ◌*ℤ◌, ◌-ℤ◌}
use Rattle.whole.proofs.Whole.{ring, quote, NonNegative, natural, linear≡, ◌∗≡◌, ◌∔◌}
use Rattle.lattice.specs.Point.{Point}
use Rattle.lattice.proofs.Turn.{coordinates}
use Rattle.pick.specs.Pick.{euclid, divisor, span}

-- g divides x and y, g times, and their parts have no divisor in common (Bezout)
pub record Divides (g x y : ℤ) : Type 0 where
  pub part_x : ℤ
  pub part_y : ℤ
  pub times_x : ℤ
  pub times_y : ℤ
  pub nonnegative : NonNegative g
  pub whole_x : x ≡ g *ℤ part_x
  pub whole_y : y ≡ g *ℤ part_y
  pub one : times_x *ℤ part_x +ℤ times_y *ℤ part_y ≡ pos 1

-- ---- Euclid's steps
divides_step : (x y q r g : ℤ) → q *ℤ y +ℤ r ≡ x → Divides g y r → Divides g x y
divides_step x y q r g e h = record {
  part_x = q *ℤ h.part_x +ℤ h.part_y;
  part_y = h.part_x;
  times_x = h.times_y;
  times_y = h.times_x -ℤ h.times_y *ℤ q;
  nonnegative = h.nonnegative;
  whole_x = linear≡ (x ∷ y ∷ q ∷ r ∷ g ∷ h.part_x ∷ h.part_y ∷ []) (negsuc 0 ∗≡ e ∔ q ∗≡ h.whole_x ∔ pos 1 ∗≡ h.whole_y)
      (search quote depth 20) tt;
  whole_y = h.whole_x;
  one = linear≡ (q ∷ h.part_x ∷ h.part_y ∷ h.times_x ∷ h.times_y ∷ []) (pos 1 ∗≡ h.one) (search quote depth 20) tt;
}

divides_itself : (x : ℤ) → NonNegative x → Divides x x (pos 0)
divides_itself x h = record {
  part_x = pos 1;
  part_y = pos 0;
  times_x = pos 1;
  times_y = pos 0;
  nonnegative = h;
  whole_x = ring (x ∷ []) (search quote depth 20) tt;
  whole_y = ring (x ∷ []) (search quote depth 20) tt;
  one = refl;
}

never_below_zero : (b : ℕ) → b < zero → ⊥
never_below_zero b h = omega arith

euclid_divides : (steps a b : ℕ) → b < steps → Divides (pos (euclid steps a b)) (pos a) (pos b)
euclid_divides zero a b h = absurd (never_below_zero b h)
euclid_divides (suc steps) a zero h = divides_itself (pos a) (natural a)
euclid_divides (suc steps) a (suc b) h =
    let m : a % suc b < suc b = mod-lt a (omega arith) in
    divides_step (pos a) (pos (suc b)) (pos (a / suc b)) (pos (a % suc b)) (pos (euclid steps (suc b) (a % suc b)))
    (ap pos (div-add-mod' a (suc b))) (euclid_divides steps (suc b) (a % suc b) (omega arith))

divisor_divides : (a b : ℕ) → Divides (pos (divisor a b)) (pos a) (pos b)
divisor_divides a b = euclid_divides (suc b) a b (omega arith)

-- ---- a step of the loop: more steps than are needed change nothing
euclid_steps : (j k a b : ℕ) → b < j → b < k → euclid j a b ≡ euclid k a b
euclid_steps zero k a b h g = absurd (never_below_zero b h)
euclid_steps (suc j) zero a b h g = absurd (never_below_zero b g)
euclid_steps (suc j) (suc k) a zero h g = refl
euclid_steps (suc j) (suc k) a (suc b) h g =
    let m : a % suc b < suc b = mod-lt a (omega arith) in
    euclid_steps j k (suc b) (a % suc b) (omega arith) (omega arith)

pub divisor_step : (a b : ℕ) → 0 < b → divisor a b ≡ divisor b (a % b)
divisor_step a zero h = absurd (never_below_zero 0 h)
divisor_step a (suc b) h =
    let m : a % suc b < suc b = mod-lt a (omega arith) in
    euclid_steps (suc b) (suc (a % suc b)) (suc b) (a % suc b) (omega arith) (omega arith)

-- ---- signs
negative_x : {x y g : ℤ} → Divides g x y → Divides g (neg_ℤ x) y
negative_x {x} {y} {g} h = record {
  part_x = neg_ℤ h.part_x;
  part_y = h.part_y;
  times_x = neg_ℤ h.times_x;
  times_y = h.times_y;
  nonnegative = h.nonnegative;
  whole_x = linear≡ (x ∷ g ∷ h.part_x ∷ []) (negsuc 0 ∗≡ h.whole_x) (search quote depth 20) tt;
  whole_y = h.whole_y;
  one = linear≡ (h.part_x ∷ h.part_y ∷ h.times_x ∷ h.times_y ∷ []) (pos 1 ∗≡ h.one) (search quote depth 20) tt;
}

negative_y : {x y g : ℤ} → Divides g x y → Divides g x (neg_ℤ y)
negative_y {x} {y} {g} h = record {
  part_x = h.part_x;
  part_y = neg_ℤ h.part_y;
  times_x = h.times_x;
  times_y = neg_ℤ h.times_y;
  nonnegative = h.nonnegative;
  whole_x = h.whole_x;
  whole_y = linear≡ (y ∷ g ∷ h.part_y ∷ []) (negsuc 0 ∗≡ h.whole_y) (search quote depth 20) tt;
  one = linear≡ (h.part_x ∷ h.part_y ∷ h.times_x ∷ h.times_y ∷ []) (pos 1 ∗≡ h.one) (search quote depth 20) tt;
}

divides_signed : (x y : ℤ) → Divides (pos (divisor (nat_abs x) (nat_abs y))) x y
divides_signed (pos a) (pos b) = divisor_divides a b
divides_signed (pos a) (negsuc b) = negative_y (divisor_divides a (suc b))
divides_signed (negsuc a) (pos b) = negative_x (divisor_divides (suc a) b)
divides_signed (negsuc a) (negsuc b) = negative_x (negative_y (divisor_divides (suc a) (suc b)))

-- ---- the edge from a to b
abbrev pub Steps : Point → Point → ℤ → Type 0
Steps a b g = Divides g (b.x -ℤ a.x) (b.y -ℤ a.y)

pub span_steps : (a b : Point) → Steps a b (span a b)
unfolding span
span_steps a b = divides_signed (b.x -ℤ a.x) (b.y -ℤ a.y)

-- and back
pub steps_back : (a b : Point) {g : ℤ} → Steps a b g → Steps b a g
steps_back a b {g} h = record {
  part_x = neg_ℤ h.part_x;
  part_y = neg_ℤ h.part_y;
  times_x = neg_ℤ h.times_x;
  times_y = neg_ℤ h.times_y;
  nonnegative = h.nonnegative;
  whole_x = linear≡ (g ∷ h.part_x ∷ coordinates (a ∷ b ∷ [])) (negsuc 0 ∗≡ h.whole_x) (search quote depth 20) tt;
  whole_y = linear≡ (g ∷ h.part_y ∷ coordinates (a ∷ b ∷ [])) (negsuc 0 ∗≡ h.whole_y) (search quote depth 20) tt;
  one = linear≡ (h.part_x ∷ h.part_y ∷ h.times_x ∷ h.times_y ∷ []) (pos 1 ∗≡ h.one) (search quote depth 20) tt;
}
