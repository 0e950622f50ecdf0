-- A scan in an array: a point pushed after some are popped, and a scan over row ends alone that has all points on its left. Assumes nothing.
use mathlib.Core.Path.{◌≡◌, sym, subst}
use mathlib.Core.Logic.{◌⊎◌}
use mathlib.Core.List.{List, [], ◌∷◌}
use Prim.Native.Nat.{ℕ, zero, suc, ◌≤◌, ◌<◌}
use native.Mathlib.Omega.{arith}
use lib.IntN.{ℤ, pos, ◌-ℤ◌, ◌*ℤ◌}
use Rattle.whole.proofs.Whole.{quote, ◌≤ᶻ◌, NonNegative, ◌⊞◌, ◌⋆≡◌, linear≤}
use Rattle.lattice.specs.Point.{Point, All}
use Rattle.lattice.specs.Hull.{turn}
use Rattle.lattice.proofs.Turn.{coordinates, linear, Left}
use Rattle.lattice.proofs.Lists.{either, Chain, all_map}
use Rattle.lattice.proofs.Places.{lt_or_le}
use Rattle.lattice.proofs.Scan.{bottom, With, Over, Scanned, Popping, pop_start, pop_step, push}
use Rattle.lattice.proofs.Stack.{stack, stack_agrees}
use Rattle.lattice.proofs.BothChains.{turns_left_place}

-- the stack at places 0 to top of f, and then that of g: what stands above `last` is popped, since it does not turn left any more, and p is pushed
pub record Pushes (f g : ℕ → Point) (top : ℕ) (p : Point) (last : ℕ) : Type 0 where
  pub under : last ≤ top
  pub popped : (i : ℕ) → last ≤ i → i < top → turn (f i) (f (suc i)) p ≤ᶻ pos 0
  pub stops : (i : ℕ) → suc i ≡ last → Left (f i) (f last) p
  pub kept : (i : ℕ) → i ≤ last → g i ≡ f i
  pub here : g (suc last) ≡ p

module _ (α β : ℤ) (M : Point → Type 0) (f : ℕ → Point) (p : Point) where
  pop_to : (last top : ℕ) → last ≤ top → ((i : ℕ) → last ≤ i → i < top → turn (f i) (f (suc i)) p ≤ᶻ pos 0)
      → Popping α β M p (f top) (stack f top) → Popping α β M p (f last) (stack f last)
  pop_to last zero l h c =
      let e : zero ≡ last = omega arith in
      subst (λ n. Popping α β M p (f n) (stack f n)) e c
  pop_to last (suc top) l h c =
      either (lt_or_le top last)
      (λ k. let e : suc top ≡ last = omega arith in subst (λ n. Popping α β M p (f n) (stack f n)) e c)
      (λ k. pop_to last top k (λ i u v. h i u (omega arith)) (pop_step α β M p (f (suc top)) (f top) (stack f top) c (h top k (omega arith))))

  pub pushes_scan : (g : ℕ → Point) (top last : ℕ) → Pushes f g top p last → Scanned α β M (f top) (stack f top) → Over α β p (f top)
      → Scanned α β (With p M) (g (suc last)) (stack g (suc last))
  pushes_scan g top last h c o =
      let popping = pop_to last top h.under h.popped (pop_start α β M p (f top) (stack f top) c o) in
      let done = push α β M p (f last) (stack f last) popping (turns_left_place f last p h.stops) in
      let e : stack g (suc last) ≡ stack f (suc last) = stack_agrees f g (suc last) (λ i k. h.kept i (omega arith)) in
      subst (λ r. Scanned α β (With p M) (g (suc last)) r) (sym e) (subst (λ q. Scanned α β (With p M) q (f last ∷ stack f last)) (sym h.here) done)

-- ---- from row ends to all points
along_row : (u v e q : Point) → q.y ≡ e.y → NonNegative (turn v u e) → NonNegative ((u.y -ℤ v.y) *ℤ (e.x -ℤ q.x))
    → NonNegative (turn v u q)
along_row u v e q same at_end beside =
    linear≤ (coordinates (u ∷ v ∷ e ∷ q ∷ [])) (at_end ⊞ beside ⊞ (v.x -ℤ u.x) ⋆≡ same) (search quote depth 20) tt

module _ (α β : ℤ) (M N : Point → Type 0) where
  -- a point of N, and an end of its row that lies beside it as seen from any edge
  pub record Beside (q : Point) : Type 0 where
    pub end : Point
    pub held : M end
    pub same : q.y ≡ end.y
    pub beside : (u v : Point) → M u → M v → Over α β u v → NonNegative ((u.y -ℤ v.y) *ℤ (end.x -ℤ q.x))

  on_left : (q : Point) (b : Beside q) (t : Point) (r : List Point) → Chain (Over α β) (t ∷ r) → All M (t ∷ r)
      → Chain (λ u v. NonNegative (turn v u b.end)) (t ∷ r) → Chain (λ u v. NonNegative (turn v u q)) (t ∷ r)
  on_left q b t [] h m l = tt
  on_left q b t (s ∷ r) h m l = (
    along_row t s b.end q b.same l.0 (b.beside t s m.0 m.1.0 h.0),
    on_left q b s r h.1 m.1 l.1,
  )

  pub scan_of_ends : (t : Point) (r : List Point) → Scanned α β M t r → ((q : Point) → M q → N q) → ((q : Point) → N q → Beside q)
      → ((q : Point) → N q → linear α β (bottom t r) ≤ᶻ linear α β q) → ((q : Point) → N q → (q ≡ t) ⊎ Over α β t q) → Scanned α β N t r
  scan_of_ends t r h into beside lowest highest = record {
    stacked = record {
      rising = h.stacked.rising;
      bent = h.stacked.bent;
      left = λ q m. let b = beside q m in
          on_left q b t r h.stacked.rising h.stacked.passed (h.stacked.left b.end b.held);
      passed = all_map M N into (t ∷ r) h.stacked.passed;
      lowest = lowest;
    };
    highest = highest;
  }
