-- What follows from what Figures promises: any two outcomes coincide; none is answered exactly for the empty list, and doubles for every other
-- that is accepted; solidity is 1.0 exactly if the points are convex; each double is one division of exact whole numbers, and finite.
-- Assumes nothing.
use mathlib.Core.Path.{◌≡◌, refl, sym, ◌∙◌, ap, subst}
use mathlib.Core.Logic.{◌↔◌, inl, inr}
use mathlib.Core.List.{List, [], ◌∷◌}
use Prim.Native.Nat.{ℕ, ◌≤◌, ◌<◌}
use native.Mathlib.Omega.{arith}
use lib.Dec.{T}
use lib.ListN.{length, drop_of_length-le}
use lib.IntN.{ℤ, pos, nat_abs}
use lib.Ieee.{Float}
use lib.Ieee.Scale.{finite}
use Rattle.lattice.specs.Point.{Point, points, In}
use Rattle.lattice.specs.Hull.{Convex, CornerList}
use Rattle.lattice.specs.Refusal.{accepted, Gives}
use Rattle.lattice.specs.Room.{holding}
use Rattle.lattice.proofs.Numbers.{points_length}
use Rattle.lattice.proofs.Tables.{Passes}
use Rattle.hull.specs.declared.Hulled.{Hulled}
use Rattle.hull.specs.Hull.{hull_rows, HullPromise}
use Rattle.hull.proofs.Hulling.{hull_passes, hull_pinned}
use Rattle.figures.specs.declared.Centroid.{Centroid}
use Rattle.figures.specs.declared.Figured.{Figured}
use Rattle.figures.specs.declared.Figured.TheVariants.{Refused, None, Given}
use Rattle.figures.specs.Quotient.{exact, rounded}
use Rattle.figures.specs.Figure.{coordinate, sum}
use Rattle.figures.specs.Figures.{number_of, place_of, FiguresOf, FiguresPromise}
use Rattle.figures.proofs.Rounding.{Divides, divides, signed_exact, one, quotient_finite}
use Rattle.figures.proofs.Summing.{sum_fits}
use Rattle.figures.proofs.Solidity.{solidity_unique, solidity_one, solidity_divides, solidity_finite}

-- ---- any two outcomes coincide
answers_equal : (s : List Point) (a b : Figured) → number_of a ≡ number_of b → place_of a ≡ place_of b → FiguresOf s a → FiguresOf s b → a ≡ b
answers_equal s (Refused number place) (Refused m i) e p h g = λ j. Refused (e j) (p j)
answers_equal s (Refused number place) None e p h g = absurd (h e)
answers_equal s (Refused number place) (Given centroid solidity) e p h g = absurd (h e)
answers_equal s None (Refused number place) e p h g = absurd (g (sym e))
answers_equal s None None e p h g = refl
answers_equal s None (Given centroid solidity) e p h g = absurd (g.0 h)
answers_equal s (Given centroid solidity) (Refused number place) e p h g = absurd (g (sym e))
answers_equal s (Given centroid solidity) None e p h g = absurd (h.0 g)
answers_equal s (Given centroid solidity) (Given c d) e p h g =
    let x = h.1 ∙ sym g.1 in
    let y = solidity_unique s solidity d h.2 g.2 in
    λ j. Given (x j) (y j)

module _ (list ordered corners : List ℤ) where
  -- Hull's promise, with the counts that Figures does not show
  abbrev hulled : {a : Figured} {ordered' corners' : List ℤ} → FiguresPromise list ordered corners a ordered' corners' → Hulled
  hulled {a} h = record { number = number_of a; place = place_of a; points = h.points_count; corners = h.corners_count }

  hull_promise : {a : Figured} {ordered' corners' : List ℤ} (h : FiguresPromise list ordered corners a ordered' corners')
      → HullPromise list ordered corners (hulled h) ordered' corners'
  hull_promise h = record { gives = h.gives; result = h.hull }

  pub figures_pinned : (a b : Figured) (ordered' ordered'' corners' corners'' : List ℤ)
      → FiguresPromise list ordered corners a ordered' corners' → FiguresPromise list ordered corners b ordered'' corners''
      → (a ≡ b) × (ordered' ≡ ordered'') × (corners' ≡ corners'')
  figures_pinned a b ordered' ordered'' corners' corners'' h g =
      let r = hull_pinned list ordered corners (hulled h) (hulled g) ordered' ordered'' corners' corners'' (hull_promise h) (hull_promise g) in
      (answers_equal (points list) a b (ap (λ x. x.number) r.0) (ap (λ x. x.place) r.0) h.figures g.figures, r.1, r.2)

-- ---- none, exactly for the empty list
no_members : (l : List Point) → ((p : Point) → In p l → ⊥) → l ≡ []
no_members [] f = refl
no_members (p ∷ l) f = absurd (f p (inl refl))

no_corners : (s c : List Point) → s ≡ [] → CornerList s c → c ≡ []
no_corners s c e h = no_members c (λ p m. subst (In p) e (h.only p m).held)

empty_accepted : (ordered corners : List ℤ) (n i : ℕ) → Gives (hull_rows [] ordered corners accepted) n i → n ≡ 0
empty_accepted ordered corners n i (inl h) = absurd (omega (arith, h.1.here.1))
empty_accepted ordered corners n i (inr (_, inl h)) = absurd (omega (arith, h.1.here.1))
empty_accepted ordered corners n i (inr (_, inr (_, inl h))) = absurd (omega (arith, h.1.here.0))
empty_accepted ordered corners n i (inr (_, inr (_, inr (_, inl h)))) = absurd (omega (arith, h.1.here.0))
empty_accepted ordered corners n i (inr (_, inr (_, inr (_, inr (_, inl h))))) = absurd (omega (arith, h.1.here.1))
empty_accepted ordered corners n i (inr (_, inr (_, inr (_, inr (_, inr (_, inl h)))))) =
    let w = h.1.here.1 in absurd (omega (arith, w.small, ap length (no_corners [] w.corners refl w.listed)))
empty_accepted ordered corners n i (inr (_, inr (_, inr (_, inr (_, inr (_, inr (_, h))))))) = h.0

empty_none : (ordered corners : List ℤ) (a : Figured) (ordered' corners' : List ℤ) → FiguresPromise [] ordered corners a ordered' corners' → a ≡ None
empty_none ordered corners (Refused number place) ordered' corners' h = absurd (h.figures (empty_accepted ordered corners number place h.gives))
empty_none ordered corners None ordered' corners' h = refl
empty_none ordered corners (Given centroid solidity) ordered' corners' h = absurd (h.figures.0 refl)

none_empty : (list ordered corners ordered' corners' : List ℤ) → FiguresPromise list ordered corners None ordered' corners' → list ≡ []
none_empty list ordered corners ordered' corners' h =
    drop_of_length-le list {i = 0}
    (omega (arith, (hull_passes list ordered corners 0 h.gives).even, points_length list, ap length h.figures))

pub none_exactly : (list ordered corners : List ℤ) (a : Figured) (ordered' corners' : List ℤ) → FiguresPromise list ordered corners a ordered' corners'
    → (a ≡ None) ↔ (list ≡ [])
none_exactly list ordered corners a ordered' corners' h = (
  (λ e. none_empty list ordered corners ordered' corners' (subst (λ x. FiguresPromise list ordered corners x ordered' corners') e h)),
  (λ e. empty_none ordered corners a ordered' corners' (subst (λ l. FiguresPromise l ordered corners a ordered' corners') e h)),
)

-- and then both rooms read as before
pub none_leaves_rooms : (list ordered corners ordered' corners' : List ℤ) → FiguresPromise list ordered corners None ordered' corners'
    → (ordered' ≡ ordered) × (corners' ≡ corners)
none_leaves_rooms list ordered corners ordered' corners' h =
    let o = no_members h.hull.in_order (λ p m. subst (In p) h.figures (h.hull.order.only p m)) in
    let c = no_corners (points list) h.hull.corner_list h.figures h.hull.corner in
    (h.hull.ordered_room ∙ ap (λ l. holding l ordered) o, h.hull.corner_room ∙ ap (λ l. holding l corners) c)

-- ---- the doubles, for every other list that is accepted
pub accepted_given : (list ordered corners : List ℤ) (a : Figured) (ordered' corners' : List ℤ) → FiguresPromise list ordered corners a ordered' corners'
    → number_of a ≡ 0 → (list ≡ [] → ⊥) → (centroid : Centroid) × (solidity : Float) × (a ≡ Given centroid solidity)
accepted_given list ordered corners (Refused number place) ordered' corners' h e some = absurd (h.figures e)
accepted_given list ordered corners None ordered' corners' h e some = absurd (some (none_empty list ordered corners ordered' corners' h))
accepted_given list ordered corners (Given centroid solidity) ordered' corners' h e some = (centroid, solidity, refl)

some_points : (s : List Point) → (s ≡ [] → ⊥) → 0 < length s
some_points [] e = absurd (e refl)
some_points (p ∷ s) e = omega arith

module _ (list ordered corners : List ℤ) (centroid : Centroid) (solidity : Float) (ordered' corners' : List ℤ)
    (h : FiguresPromise list ordered corners (Given centroid solidity) ordered' corners') where
  passes : Passes list
  passes = hull_passes list ordered corners 0 h.gives

  some : 0 < length (points list)
  some = some_points (points list) h.figures.0

  pub solidity_one_exactly : (solidity ≡ one) ↔ Convex (points list)
  solidity_one_exactly = solidity_one (points list) some passes.range passes.once solidity h.figures.2

  sum_exact : (k : ℕ) → nat_abs (sum (coordinate k) (points list)) ≤ exact
  sum_exact k = signed_exact (sum (coordinate k) (points list)) (sum_fits k (points list) passes.range passes.few)

  -- each is one division of whole numbers that are exact as doubles
  mean_divides : (k : ℕ) (d : Float) → d ≡ rounded (sum (coordinate k) (points list)) (length (points list))
      → Divides (sum (coordinate k) (points list)) (length (points list)) d
  mean_divides k d = divides (sum (coordinate k) (points list)) (length (points list)) d (sum_exact k) some (omega (arith, passes.few))

  pub figures_divide : Divides (sum (coordinate 0) (points list)) (length (points list)) centroid.x
      × Divides (sum (coordinate 1) (points list)) (length (points list)) centroid.y
      × Divides (pos (length (points list))) (length h.figures.2.lattice) solidity
  figures_divide = (
    mean_divides 0 centroid.x (ap (λ c. c.x) h.figures.1),
    mean_divides 1 centroid.y (ap (λ c. c.y) h.figures.1),
    solidity_divides (points list) some passes.range passes.once solidity h.figures.2,
  )

  -- neither a NaN nor an infinity
  mean_finite : (k : ℕ) (d : Float) → d ≡ rounded (sum (coordinate k) (points list)) (length (points list)) → T (finite d)
  mean_finite k d e =
      subst (λ x. T (finite x)) (sym e) (quotient_finite (sum (coordinate k) (points list)) (length (points list)) (sum_exact k) some)

  pub figures_finite : T (finite centroid.x) × T (finite centroid.y) × T (finite solidity)
  figures_finite = (
    mean_finite 0 centroid.x (ap (λ c. c.x) h.figures.1),
    mean_finite 1 centroid.y (ap (λ c. c.y) h.figures.1),
    solidity_finite (points list) some passes.range passes.once solidity h.figures.2,
  )
