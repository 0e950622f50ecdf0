-- Any two outcomes that Row ends allows coincide, and so for Row. Assumes nothing.
use mathlib.Core.Path.{◌≡◌, sym, ◌∙◌, ap}
use mathlib.Core.Logic.{inl, inr}
use mathlib.Core.List.{List, [], ◌∷◌}
use Prim.Native.Nat.{ℕ, ◌*◌, ◌-◌, ◌≤◌}
use native.Mathlib.Omega.{arith}
use lib.ListN.{take, drop}
use lib.IntN.{ℤ, pos, negsuc}
use lib.Signed.{◌<ℤ◌}
use Rattle.whole.proofs.Whole.{quote, gap<, ◌⊞◌, ◌⋆≡◌, linear⊥}
use Rattle.lattice.specs.Point.{Point, point, points}
use Rattle.lattice.proofs.Lists.{either}
use Rattle.lattice.proofs.Places.{lt_or_le}
use Rattle.rows.specs.declared.Ends.{Ends}
use Rattle.rows.specs.Row.{Holds, RowEndsPromise, RowPromise}

-- ---- Row ends
below_and_at {ℓ} : {X : Type ℓ} (a y : ℤ) → a <ℤ y → a ≡ y → X
below_and_at a y h e = linear⊥ (a ∷ y ∷ []) (gap< h ⊞ negsuc 0 ⋆≡ e) (search quote depth 20) tt

below_and_above {ℓ} : {X : Type ℓ} (a y : ℤ) → a <ℤ y → y <ℤ a → X
below_and_above a y h g = linear⊥ (a ∷ y ∷ []) (gap< h ⊞ gap< g) (search quote depth 20) tt

above_and_at {ℓ} : {X : Type ℓ} (a y : ℤ) → y <ℤ a → a ≡ y → X
above_and_at a y h e = linear⊥ (a ∷ y ∷ []) (gap< h ⊞ pos 1 ⋆≡ e) (search quote depth 20) tt

module _ (l : List Point) (y : ℤ) (b e b' e' : ℕ) (h : Holds l y b e) (g : Holds l y b' e') where
  begin_le : b ≤ b'
  begin_le =
      either (lt_or_le b' b)
      (λ k. let earlier = h.before b' k in
      either (lt_or_le b' e')
      (λ m. below_and_at (point l b').y y earlier (g.within b' (omega arith) m))
      (λ m. below_and_above (point l b').y y earlier (g.after b' m (omega (arith, h.rising, h.inside)))))
      (λ k. k)

  end_le : e ≤ e'
  end_le =
      either (lt_or_le e' e)
      (λ k. let later = g.after e' (omega arith) (omega (arith, h.inside)) in
      either (lt_or_le e' b)
      (λ m. below_and_above (point l e').y y (h.before e' m) later)
      (λ m. above_and_at (point l e').y y later (h.within e' m k)))
      (λ k. k)

pub row_ends_pinned : (list : List ℤ) (y : ℤ) (a b : Ends) → RowEndsPromise list y a → RowEndsPromise list y b → a ≡ b
row_ends_pinned list y a b (inl h) (inl g) =
    let l = points list in
    let p : a.begin ≡ b.begin = omega (
      arith,
      begin_le l y a.begin a.end b.begin b.end h.1 g.1,
      begin_le l y b.begin b.end a.begin a.end g.1 h.1,
    ) in
    let q : a.end ≡ b.end = omega (
      arith,
      end_le l y a.begin a.end b.begin b.end h.1 g.1,
      end_le l y b.begin b.end a.begin a.end g.1 h.1,
    ) in
    λ i. record { begin = p i; end = q i }
row_ends_pinned list y a b (inl h) (inr g) = absurd (g.0 h.0)
row_ends_pinned list y a b (inr h) (inl g) = absurd (h.0 g.0)
row_ends_pinned list y a b (inr h) (inr g) =
    let p = h.1 ∙ sym g.1 in
    let q = h.2 ∙ sym g.2 in
    λ i. record { begin = p i; end = q i }

-- ---- Row
pub row_pinned : (list : List ℤ) (y : ℤ) (part other : List ℤ) → RowPromise list y part → RowPromise list y other → part ≡ other
row_pinned list y part other h g =
    h.2
    ∙ ap (λ ends. take (2 * ends.end - 2 * ends.begin) (drop (2 * ends.begin) list)) (row_ends_pinned list y h.0 g.0 h.1 g.1)
    ∙ sym g.2
