-- The scan in the array, up the rows or down: which points it pushes, and that it has all points on its left in the end. Assumes nothing.
use mathlib.Core.Path.{◌≡◌, refl, sym, ◌∙◌, ap, subst, subst₂}
use mathlib.Core.Logic.{◌⊎◌, inl, inr}
use mathlib.Core.List.{List, [], ◌∷◌, map}
use Prim.Native.Nat.{ℕ, suc, ◌+◌, ◌-◌, ◌<◌}
use native.Mathlib.Omega.{arith}
use lib.ListN.{length, get_or}
use lib.IntN.{ℤ, pos, ◌-ℤ◌, ◌*ℤ◌}
use Rattle.whole.proofs.Whole.{quote, ◌≤ᶻ◌, NonNegative, gap<, ◌⊞◌, linear⊥, le_of_equal, le_of_lt}
use Rattle.lattice.specs.Point.{Point, In}
use Rattle.lattice.specs.Hull.{turn, Of}
use Rattle.lattice.proofs.Turn.{linear, Left}
use Rattle.lattice.proofs.Lists.{either}
use Rattle.lattice.proofs.Places.{lt_or_le}
use Rattle.lattice.proofs.Scan.{Over, With, Scanned, scan_start, scan_same}
use Rattle.lattice.proofs.Stack.{stack as stack_of}
use Rattle.lattice.proofs.BothChains.{bottom_stack}
use Rattle.lattice.proofs.RowScan.{Pushes, pushes_scan, Beside, scan_of_ends}
use Rattle.packed.specs.Packed.{cells, unpacked}
use Rattle.packed.proofs.KeyLaws.{unpacked_in, in_unpacked}
use Rattle.scan.specs.Scanning.{at, Pushable, Pushed}

-- a way through the points from the first to the last place: which comes after which, and that each has an end of its row beside it
pub record Way (keys : List ℕ) (α β : ℤ) (first last : ℕ) (End : ℕ → Type 0) : Type 1 where
  pub After : ℕ → ℕ → Type 0
  pub first_in : first < length keys
  pub last_in : last < length keys
  pub over : (i j : ℕ) → i < length keys → j < length keys → After i j → Over α β (at keys i) (at keys j)
  pub from_first : (j : ℕ) → j < length keys → (j ≡ first) ⊎ After j first
  pub to_last : (j : ℕ) → j < length keys → (j ≡ last) ⊎ After last j
  pub last_end : End last
  pub ends : (j : ℕ) → j < length keys → (e : ℕ) × (e < length keys) × End e × ((at keys j).y ≡ (at keys e).y)
      × ((u v : ℕ) → u < length keys → v < length keys → Over α β (at keys u) (at keys v)
      → NonNegative (((at keys u).y -ℤ (at keys v).y) *ℤ ((at keys e).x -ℤ (at keys j).x)))

-- the points at the places with R
abbrev pub Passed : List ℕ → (ℕ → Type 0) → Point → Type 0
Passed keys R q = (j : ℕ) × (j < length keys) × R j × (q ≡ at keys j)

-- the stack from base to below top, when the points at the places with R have been passed
pub record Standing (keys : List ℕ) (α β : ℤ) (R : ℕ → Type 0) (stack : List ℕ) (base top : ℕ) : Type 0 where
  pub height : ℕ
  pub tops : top ≡ base + suc height
  pub below : (i : ℕ) → i < top → get_or stack i 0 < cells
  pub scanned : Scanned α β (Passed keys R) (at stack (base + height)) (stack_of (λ i. at stack (base + i)) height)

module _ (keys : List ℕ) (α β : ℤ) where
  pub standing_start : (stack : List ℕ) (base i : ℕ) → i < length keys → at stack base ≡ at keys i
      → ((j : ℕ) → j < suc base → get_or stack j 0 < cells) → Standing keys α β (λ j. j ≡ i) stack base (suc base)
  standing_start stack base i h e below = record {
    height = 0;
    tops = omega arith;
    below = below;
    scanned = subst (λ n. Scanned α β (Passed keys (λ j. j ≡ i)) (at stack n) []) (omega arith)
        (subst (λ p. Scanned α β (Passed keys (λ j. j ≡ i)) p []) (sym e)
        (scan_same α β (Of (at keys i ∷ [])) (Passed keys (λ j. j ≡ i))
        (λ q m. either m (λ d. (i, h, refl, d)) (λ f. absurd f))
        (λ q r. inl (r.3 ∙ ap (at keys) r.2)) (at keys i) []
        (scan_start α β (at keys i))));
  }

  module _ (R : ℕ → Type 0) (stack : List ℕ) (base top : ℕ) (h : Standing keys α β R stack base top) where
    pub standing_same : (R' : ℕ → Type 0) → ((j : ℕ) → R j → R' j) → ((j : ℕ) → j < length keys → R' j → R j) → Standing keys α β R' stack base top
    standing_same R' f g = record {
      height = h.height;
      tops = h.tops;
      below = h.below;
      scanned = scan_same α β (Passed keys R) (Passed keys R') (λ q r. (r.0, r.1, f r.0 r.2, r.3))
          (λ q r. (r.0, r.1, g r.0 r.1 r.2, r.3)) _ _ h.scanned;
    }

    pub standing_pushable : (k : ℕ) → top < length stack → k < cells → Pushable stack base top k
    standing_pushable k room new = record { some = omega (arith, h.tops); room = room; below = h.below; new = new }

    -- a point after all that are passed is pushed
    pub standing_pushed : (i : ℕ) → i < length keys → get_or keys i 0 < cells → ((j : ℕ) → j < length keys → R j → Over α β (at keys i) (at keys j))
        → (after : List ℕ) (r : ℕ) → Pushed stack base top (get_or keys i 0) after r → Standing keys α β (λ j. (j ≡ i) ⊎ R j) after base r
    standing_pushed i l small over after r p = record {
      height = suc (p.last - base);
      tops = omega (arith, p.result, p.from);
      below = λ j v. below_at j v;
      scanned = scan_same α β (With (at keys i) (Passed keys R)) (Passed keys (λ j. (j ≡ i) ⊎ R j))
          (λ q m. either m (λ e. (i, l, inl refl, e)) (λ o. (o.0, o.1, inr o.2, o.3)))
          (λ q m. either m.2 (λ e. inl (m.3 ∙ ap (at keys) e)) (λ o. inr (m.0, m.1, o, m.3))) _ _
          (pushes_scan α β (Passed keys R) (λ j. at stack (base + j)) (at keys i) (λ j. at after (base + j)) h.height (p.last - base) pushes h.scanned newest);
    }
      where
        newest : Over α β (at keys i) (at stack (base + h.height))
        newest =
            let t = h.scanned.stacked.passed.0 in
            subst (λ q. Over α β (at keys i) q) (sym t.3) (over t.0 t.1 t.2)

        pushes : Pushes (λ j. at stack (base + j)) (λ j. at after (base + j)) h.height (at keys i) (p.last - base)
        pushes = record {
          under = omega (arith, h.tops, p.under, p.from);
          popped = λ j u v. let e : suc (base + j) ≡ base + suc j = omega arith in
              subst (λ n. turn (at stack (base + j)) (at stack n) (at keys i) ≤ᶻ pos 0) e
              (p.popped (base + j) (omega (arith, u, p.from)) (omega (arith, v, h.tops)));
          stops = λ j e. let d : base + (p.last - base) ≡ p.last = omega (arith, p.from) in
              subst (λ n. Left (at stack (base + j)) (at stack n) (at keys i)) (sym d)
              (p.stops (base + j) (omega arith) (omega (arith, e, p.from)));
          kept = λ j l. ap unpacked (p.kept (base + j) (omega (arith, l, p.from)));
          here = let d : base + suc (p.last - base) ≡ suc p.last = omega (arith, p.from) in ap (at after) d ∙ ap unpacked p.here;
        }

        below_at : (j : ℕ) → j < r → get_or after j 0 < cells
        below_at j v = either (lt_or_le p.last j)
            (λ u. let e : suc p.last ≡ j = omega (arith, p.result) in
            subst (λ n. get_or after n 0 < cells) e (subst (λ k. k < cells) (sym p.here) small))
            (λ u. subst (λ k. k < cells) (sym (p.kept j u)) (h.below j (omega (arith, p.under))))

    module _ (first last : ℕ) (End : ℕ → Type 0) (way : Way keys α β first last End) (ends : (j : ℕ) → j < length keys → End j → R j)
        (at_base : at stack base ≡ at keys first) where
      -- the last point of the way is on top
      pub standing_top : at stack (base + h.height) ≡ at keys last
      standing_top =
          let t = h.scanned.stacked.passed.0 in
          either (h.scanned.highest (at keys last) (last, way.last_in, ends last way.last_in way.last_end, refl))
          (λ e. sym e)
          (λ o. either (way.to_last t.0 t.1) (λ e. t.3 ∙ ap (at keys) e)
          (λ a. absurd (clash _ _ o (subst (λ q. Over α β (at keys last) q) (sym t.3) (way.over last t.0 way.last_in t.1 a)))))
        where
          clash : (u v : Point) → Over α β u v → Over α β v u → ⊥
          clash u v a b = linear⊥ (linear α β u ∷ linear α β v ∷ []) (gap< a ⊞ gap< b) (search quote depth 20) tt

      -- and all points are on the left
      pub standing_all : Scanned α β (Of (map unpacked keys)) (at stack (base + h.height)) (stack_of (λ i. at stack (base + i)) h.height)
      standing_all = scan_of_ends α β (Passed keys R) (Of (map unpacked keys)) _ _ h.scanned
          (λ q r. subst (λ z. In z (map unpacked keys)) (sym r.3) (unpacked_in keys r.0 r.1))
          (λ q m. beside q (in_unpacked keys q m))
          (λ q m. let r = in_unpacked keys q m in
          subst₂ (λ a b. linear α β a ≤ᶻ linear α β b) (sym (bottom_stack (λ i. at stack (base + i)) h.height ∙ ap (at stack) (omega arith) ∙ at_base)) (sym r.2)
          (lowest r.0 r.1))
          (λ q m. let r = in_unpacked keys q m in
          either (way.to_last r.0 r.1)
          (λ e. inl (r.2 ∙ ap (at keys) e ∙ sym standing_top))
          (λ a. inr (subst₂ (Over α β) (sym standing_top) (sym r.2) (way.over last r.0 way.last_in r.1 a))))
        where
          lowest : (j : ℕ) → j < length keys → linear α β (at keys first) ≤ᶻ linear α β (at keys j)
          lowest j l = either (way.from_first j l) (λ e. le_of_equal (ap (λ n. linear α β (at keys n)) (sym e)))
              (λ a. le_of_lt (way.over j first l way.first_in a))

          beside : (q : Point) → (j : ℕ) × (j < length keys) × (q ≡ at keys j) → Beside α β (Passed keys R) (Of (map unpacked keys)) q
          beside q r = let e = way.ends r.0 r.1 in record {
            end = at keys e.0;
            held = (e.0, e.1, ends e.0 e.1 e.2, refl);
            same = ap (λ p. p.y) r.2 ∙ e.3;
            beside = λ u v i j o.
                subst₂ (λ a b. NonNegative ((a.y -ℤ b.y) *ℤ ((at keys e.0).x -ℤ q.x))) (sym i.3) (sym j.3)
                (subst (λ p. NonNegative (((at keys i.0).y -ℤ (at keys j.0).y) *ℤ ((at keys e.0).x -ℤ p.x))) (sym r.2)
                (e.4 i.0 j.0 i.1 j.1 (subst₂ (Over α β) i.3 j.3 o)));
          }
