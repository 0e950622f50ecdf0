-- The laws of turn. Assumes nothing.
use mathlib.Core.Path.{◌≡◌, sym, subst}
use mathlib.Core.List.{List, [], ◌∷◌}
use lib.IntN.{ℤ, pos, neg_ℤ, ◌+ℤ◌, ◌-ℤ◌, ◌*ℤ◌}
use Rattle.whole.proofs.Whole.{ring, quote, ◌≤ᶻ◌, NonNegative, Positive, natural, gap≤, linear≤}
use Rattle.lattice.specs.Point.{Point}
use Rattle.lattice.specs.Hull.{turn}

-- the coordinates of some points, for the list of variables of an identity
abbrev pub coordinates : List Point → List ℤ
coordinates [] = []
coordinates (p ∷ ps) = p.x ∷ p.y ∷ coordinates ps

-- an affine functional
abbrev pub affine : ℤ → ℤ → ℤ → Point → ℤ
affine α β γ p = α *ℤ p.x +ℤ β *ℤ p.y +ℤ γ

-- a linear functional, by which points can be ordered
abbrev pub linear : ℤ → ℤ → Point → ℤ
linear α β p = α *ℤ p.x +ℤ β *ℤ p.y

-- c is on the left of the way from a to b
abbrev pub Left : Point → Point → Point → Type 0
Left a b c = Positive (turn a b c)

-- ---- order of the three points
pub turn_cyclic : (a b c : Point) → turn a b c ≡ turn b c a
turn_cyclic a b c = ring (coordinates (a ∷ b ∷ c ∷ [])) (search quote depth 20) tt

pub turn_antisymmetric : (a b c : Point) → turn a b c ≡ neg_ℤ (turn b a c)
turn_antisymmetric a b c = ring (coordinates (a ∷ b ∷ c ∷ [])) (search quote depth 20) tt

-- not on the left of an edge: on the left of the edge back, or on it
pub turn_back : (a b p : Point) → turn a b p ≤ᶻ pos 0 → NonNegative (turn b a p)
turn_back a b p h =
    subst NonNegative (sym (turn_antisymmetric b a p)) (linear≤ (turn a b p ∷ []) (gap≤ h) (search quote depth 20) tt)

-- the ends of an edge are on it
pub start_on_edge : (a b : Point) → NonNegative (turn a b a)
start_on_edge a b = linear≤ (coordinates (a ∷ b ∷ [])) (natural 0) (search quote depth 20) tt

pub end_on_edge : (a b : Point) → NonNegative (turn a b b)
end_on_edge a b = linear≤ (coordinates (a ∷ b ∷ [])) (natural 0) (search quote depth 20) tt

-- ---- five points, Plücker: every step "sorted by angle about o, so .." is one of these two
pub plücker_inner : (o a b c d : Point) → turn o b c *ℤ turn a c d ≡ turn o c d *ℤ turn a b c +ℤ turn o a c *ℤ turn b c d
plücker_inner o a b c d = ring (coordinates (o ∷ a ∷ b ∷ c ∷ d ∷ [])) (search quote depth 20) tt

pub plücker_outer : (o a b c d : Point) → turn o b c *ℤ turn a b d ≡ turn o b d *ℤ turn a b c +ℤ turn o a b *ℤ turn b c d
plücker_outer o a b c d = ring (coordinates (o ∷ a ∷ b ∷ c ∷ d ∷ [])) (search quote depth 20) tt

-- ---- turn and functionals
pub barycentric : (α β γ : ℤ) (a b c p : Point)
    → turn a b c *ℤ affine α β γ p
    ≡ turn b c p *ℤ affine α β γ a +ℤ turn c a p *ℤ affine α β γ b +ℤ turn a b p *ℤ affine α β γ c
barycentric α β γ a b c p = ring (α ∷ β ∷ γ ∷ coordinates (a ∷ b ∷ c ∷ p ∷ [])) (search quote depth 20) tt

-- three vectors from o: where the functional is positive on them, the turn order about o is transitive
pub three_vectors : (α β : ℤ) (o u v w : Point)
    → (linear α β v -ℤ linear α β o) *ℤ turn o u w
    ≡ (linear α β w -ℤ linear α β o) *ℤ turn o u v +ℤ (linear α β u -ℤ linear α β o) *ℤ turn o v w
three_vectors α β o u v w = ring (α ∷ β ∷ coordinates (o ∷ u ∷ v ∷ w ∷ [])) (search quote depth 20) tt

-- ---- a motion keeps the turn
abbrev pub translated : ℤ → ℤ → Point → Point
translated c d p = record { x = p.x +ℤ c; y = p.y +ℤ d }

pub turn_translated : (c d : ℤ) (p q r : Point) → turn (translated c d p) (translated c d q) (translated c d r) ≡ turn p q r
turn_translated c d p q r = ring (c ∷ d ∷ coordinates (p ∷ q ∷ r ∷ [])) (search quote depth 20) tt
