-- The way up in the array, and the way down on top of it: start, step, end. Assumes nothing.
use mathlib.Core.Path.{◌≡◌, refl, sym, ◌∙◌, ap, subst, subst₂}
use mathlib.Core.Logic.{◌⊎◌, inl, inr}
use mathlib.Core.List.{List, [], ◌∷◌, map}
use Prim.Native.Nat.{ℕ, zero, suc, ◌+◌, ◌-◌, ◌*◌, ◌≤◌, ◌<◌}
use native.Mathlib.Omega.{arith}
use native.Mathlib.Numerals.{add-one}
use lib.ListN.{length, get_or, set, take}
use lib.Seq.{get_or-take, length-take-le}
use lib.IntN.{pos, negsuc, neg_ℤ}
use Rattle.lattice.specs.Point.{InRange, All}
use Rattle.lattice.specs.Hull.{Of, CornerList}
use Rattle.lattice.proofs.Lists.{either, in_all}
use Rattle.lattice.proofs.Places.{lt_or_le, nowhere}
use Rattle.lattice.proofs.RowKey.{range_width, opposite}
use Rattle.lattice.proofs.Stack.{stack as stack_of, front, stack_agrees}
use Rattle.lattice.proofs.BothChains.{Upward, Downward, both_chains}
use Rattle.lattice.proofs.Sandwich.{spans_itself, corner_list_of_spanned}
use Rattle.packed.specs.Packed.{cells, unpacked}
use Rattle.packed.proofs.RowOrder.{unpacked_injective, unpacked_in_range}
use Rattle.packed.specs.Keys.{Below}
use Rattle.packed.proofs.KeyLaws.{in_unpacked}
use Rattle.scan.specs.Scanning.{at, Pushable, Pushed, EndsRow, StartsRow, RowTo, RowFrom, Rising, Climbed, Cornered}
use Rattle.scan.proofs.Ways.{Standing, standing_start, standing_same, standing_pushable, standing_pushed, standing_top, standing_all}
use Rattle.scan.proofs.Rows.{row_at, up, down, up_over}

-- ---- up
-- pushed before place i: the first point, and the last points of rows
abbrev UpTo : List ℕ → ℕ → ℕ → Type 0
UpTo keys i j = (j < i) × ((j ≡ 0) ⊎ EndsRow keys j)

pub record Climbing (keys stack : List ℕ) (top i : ℕ) : Type 0 where
  pub some : 1 ≤ i
  pub upto : i ≤ length keys
  pub few : top ≤ i
  pub starts : at stack 0 ≡ at keys 0
  pub standing : Standing keys (pos 1) (pos range_width) (UpTo keys i) stack 0 top

pub climbing_start : (keys stack : List ℕ) → Rising keys → 0 < length keys → get_or stack 0 0 ≡ get_or keys 0 0 → Climbing keys stack 1 1
climbing_start keys stack h n e = record {
  some = omega arith;
  upto = omega arith;
  few = omega arith;
  starts = ap unpacked e;
  standing = standing_same keys (pos 1) (pos range_width) (λ j. j ≡ 0) stack 0 1
      (standing_start keys (pos 1) (pos range_width) stack 0 0 n (ap unpacked e)
      (λ j l. let d : 0 ≡ j = omega arith in subst (λ k. get_or stack k 0 < cells) d (subst (λ k. k < cells) (sym e) (h.below 0 n))))
      (UpTo keys 1) (λ j d. (omega (arith, d), inl d)) (λ j l u. omega (arith, u.0));
}

module _ (keys stack : List ℕ) (top i : ℕ) (rising : Rising keys) (h : Climbing keys stack top i) (e : ℕ) (row : RowTo keys i (suc e)) where
  up_pushable : length keys ≤ length stack → Pushable stack 0 top (get_or keys e 0)
  up_pushable room =
      standing_pushable keys (pos 1) (pos range_width) (UpTo keys i) stack 0 top h.standing (get_or keys e 0)
      (omega (arith, h.few, row.some, row.upto)) (rising.below e row.upto)

  up_pushed : (after : List ℕ) (r : ℕ) → Pushed stack 0 top (get_or keys e 0) after r → Climbing keys after r (suc e)
  up_pushed after r p = record {
    some = omega arith;
    upto = row.upto;
    few = omega (arith, h.few, p.result, p.under, row.some);
    starts = ap unpacked (p.kept 0 (omega arith)) ∙ h.starts;
    standing = standing_same keys (pos 1) (pos range_width) (λ j. (j ≡ e) ⊎ UpTo keys i j) after 0 r
        (standing_pushed keys (pos 1) (pos range_width) (UpTo keys i) stack 0 top h.standing e row.upto (rising.below e row.upto)
        (λ j n u. up_over keys rising e j row.upto n (omega (arith, u.0, row.some))) after r p)
        (UpTo keys (suc e))
        (λ j m. either m (λ q. (omega (arith, q), inr (subst (EndsRow keys) (sym q) (row.ends e refl)))) (λ u. (omega (arith, u.0, row.some), u.1)))
        (λ j n u. either (lt_or_le j i) (λ v. inr (v, u.1)) (λ v. either (lt_or_le j e) (λ w. absurd (inner j v w u.1)) (λ w. inl (omega (arith, w, u.0)))));
  }
    where
      -- a point of the row behind which another follows is not pushed
      inner : (j : ℕ) → i ≤ j → j < e → (j ≡ 0) ⊎ EndsRow keys j → ⊥
      inner j v w u = either u (λ z. omega (arith, z, h.some)) (λ d. d (omega (arith, row.upto)) (row.same j v (omega arith)))

module _ (keys stack : List ℕ) (top i end : ℕ) (rising : Rising keys) (h : Climbing keys stack top i) (row : RowTo keys i end) where
  suc_e : suc (end - 1) ≡ end
  suc_e = omega (arith, row.some)

  pub climbing_pushable : length keys ≤ length stack → Pushable stack 0 top (get_or keys (end - 1) 0)
  climbing_pushable room = up_pushable keys stack top i rising h (end - 1) (subst (RowTo keys i) (sym suc_e) row) room

  pub climbing_push : (after : List ℕ) (r : ℕ) → Pushed stack 0 top (get_or keys (end - 1) 0) after r → Climbing keys after r end
  climbing_push after r p =
      subst (Climbing keys after r) suc_e (up_pushed keys stack top i rising h (end - 1) (subst (RowTo keys i) (sym suc_e) row) after r p)

-- the first and the last point differ
apart : (keys : List ℕ) → Rising keys → 1 < length keys → at keys 0 ≡ at keys (length keys - 1) → ⊥
apart keys rising n e =
    let l = rising.rises 0 (length keys - 1) (omega arith) (omega arith) in
    omega (arith, l, unpacked_injective (get_or keys 0 0) (get_or keys (length keys - 1) 0) e)

module _ (keys stack : List ℕ) (top i : ℕ) (rising : Rising keys) (n : 1 < length keys) (h : Climbing keys stack top i) (l : length keys ≤ i) where
  at_last : at stack (0 + h.standing.height) ≡ at keys (length keys - 1)
  at_last = standing_top keys (pos 1) (pos range_width) (UpTo keys i) stack 0 top h.standing
      0 (length keys - 1) (EndsRow keys) (up keys rising (omega arith)) (λ j m e. (omega arith, inr e)) h.starts

  pub climbing_end : Climbed keys stack (top - 1)
  climbing_end = by h.standing.height refl
    where
      by : (height : ℕ) → h.standing.height ≡ height → Climbed keys stack (top - 1)
      by zero e = absurd (apart keys rising n (sym h.starts ∙ ap (at stack) (omega (arith, e)) ∙ at_last))
      by (suc m) e = record {
        height = m;
        tops = omega (arith, h.standing.tops, e);
        few = omega (arith, h.few, h.upto, h.standing.tops);
        below = λ j u. h.standing.below j (omega (arith, u, h.standing.tops));
        starts = h.starts;
        ends = ap (at stack) (omega (arith, e)) ∙ at_last;
        chain = subst (λ k. Upward (pos range_width) (Of (map unpacked keys)) (at stack k) (stack_of (at stack) k)) e way_up;
      }
        where
          from_zero : (j : ℕ) → 0 + j ≡ j
          from_zero j = omega arith

          way_up : Upward (pos range_width) (Of (map unpacked keys)) (at stack h.standing.height) (stack_of (at stack) h.standing.height)
          way_up =
              subst₂ (Upward (pos range_width) (Of (map unpacked keys))) (ap (at stack) (from_zero h.standing.height))
              (stack_agrees (at stack) (λ j. at stack (0 + j)) h.standing.height (λ j u. ap (at stack) (from_zero j)))
              (standing_all keys (pos 1) (pos range_width) (UpTo keys i) stack 0 top h.standing
              0 (length keys - 1) (EndsRow keys) (up keys rising (omega arith)) (λ j m e. (omega arith, inr e)) h.starts)

-- ---- down
-- pushed down to place i: the last point, and the first points of rows
abbrev DownTo : List ℕ → ℕ → ℕ → Type 0
DownTo keys i j = (i ≤ j) × ((j ≡ length keys - 1) ⊎ StartsRow keys j)

pub record Descending (keys stack₀ : List ℕ) (base : ℕ) (stack : List ℕ) (top i : ℕ) : Type 0 where
  pub upto : i < length keys
  pub few : top + i ≤ base + length keys
  pub kept : (j : ℕ) → j ≤ base → get_or stack j 0 ≡ get_or stack₀ j 0
  pub standing : Standing keys (negsuc 0) (neg_ℤ (pos range_width)) (DownTo keys i) stack base top

pub descending_start : (keys stack : List ℕ) (base : ℕ) → 0 < length keys → Climbed keys stack base
    → Descending keys stack base stack (base + 1) (length keys - 1)
descending_start keys stack base n c = record {
  upto = omega arith;
  few = omega arith;
  kept = λ j l. refl;
  standing = subst (Standing keys (negsuc 0) (neg_ℤ (pos range_width)) (DownTo keys (length keys - 1)) stack base) (sym (add-one base))
      (standing_same keys (negsuc 0) (neg_ℤ (pos range_width)) (λ j. j ≡ length keys - 1) stack base (suc base)
      (standing_start keys (negsuc 0) (neg_ℤ (pos range_width)) stack base (length keys - 1) (omega arith)
      (ap (at stack) c.tops ∙ c.ends) (λ j l. c.below j (omega arith)))
      (DownTo keys (length keys - 1)) (λ j d. (omega (arith, d), inl d)) (λ j l u. omega (arith, l, u.0)));
}

module _ (keys stack₀ : List ℕ) (base : ℕ) (stack : List ℕ) (top i : ℕ) (rising : Rising keys) (h : Descending keys stack₀ base stack top i)
    (b : ℕ) (row : RowFrom keys b i) where
  pub descending_push : (after : List ℕ) (r : ℕ) → Pushed stack base top (get_or keys b 0) after r → Descending keys stack₀ base after r b
  descending_push after r p = record {
    upto = omega (arith, h.upto, row.some);
    few = omega (arith, h.few, p.result, p.under, row.some);
    kept = λ j u. p.kept j (omega (arith, u, p.from)) ∙ h.kept j u;
    standing = standing_same keys (negsuc 0) (neg_ℤ (pos range_width)) (λ j. (j ≡ b) ⊎ DownTo keys i j) after base r
        (standing_pushed keys (negsuc 0) (neg_ℤ (pos range_width)) (DownTo keys i) stack base top h.standing b (omega (arith, h.upto, row.some))
        (rising.below b (omega (arith, h.upto, row.some)))
        (λ j n u. opposite (pos range_width) (at keys b) (at keys j)
        (up_over keys rising j b n (omega (arith, h.upto, row.some)) (omega (arith, u.0, row.some))))
        after r p)
        (DownTo keys b)
        (λ j m. either m (λ e. (omega (arith, e), inr (subst (StartsRow keys) (sym e) row.starts))) (λ u. (omega (arith, u.0, row.some), u.1)))
        (λ j n u. either (lt_or_le j i) (λ v. either (lt_or_le b j) (λ w. absurd (inner j w v u.1)) (λ w. inl (omega (arith, w, u.0)))) (λ v. inr (v, u.1)));
  }
    where
      -- a point of the row before which another stands is not pushed
      inner : (j : ℕ) → b < j → j < i → (j ≡ length keys - 1) ⊎ StartsRow keys j → ⊥
      inner j w v u =
          let e : suc (j - 1) ≡ j = omega arith in
          either u (λ z. omega (arith, z, h.upto))
          (λ d. d (j - 1) e (subst (λ k. row_at keys (j - 1) ≡ row_at keys k) e (row.same (j - 1) (omega arith) (omega arith))))

-- ---- both
front_unpacked : (stack : List ℕ) (r : ℕ) → r ≤ length stack → front (at stack) r ≡ map unpacked (take r stack)
front_unpacked stack zero h = refl
front_unpacked [] (suc r) h = nowhere r (omega arith)
front_unpacked (k ∷ stack) (suc r) h = ap (λ l. unpacked k ∷ l) (front_unpacked stack r (omega arith))

in_range : (keys : List ℕ) → Below keys → All InRange (map unpacked keys)
in_range keys h = in_all InRange (map unpacked keys) (λ p m.
    let r = in_unpacked keys p m in subst InRange (sym r.2) (unpacked_in_range (get_or keys r.0 0) (h r.0 r.1)))

module _ (keys stack₀ : List ℕ) (base : ℕ) (stack : List ℕ) (top i : ℕ) (rising : Rising keys) (n : 1 < length keys) (room : 2 * length keys ≤ length stack)
    (c : Climbed keys stack₀ base) (h : Descending keys stack₀ base stack top i) (l : i ≤ 0) where
  way_up : Upward (pos range_width) (Of (map unpacked keys)) (at stack (suc c.height)) (stack_of (at stack) (suc c.height))
  way_up =
      let e : stack_of (at stack) (suc c.height) ≡ stack_of (at stack₀) (suc c.height) =
      stack_agrees (at stack₀) (at stack) (suc c.height) (λ j u. ap unpacked (h.kept j (omega (arith, u, c.tops)))) in
      subst (Upward (pos range_width) (Of (map unpacked keys)) (at stack (suc c.height))) (sym e)
      (subst (λ p. Upward (pos range_width) (Of (map unpacked keys)) p (stack_of (at stack₀) (suc c.height)))
      (sym (ap unpacked (h.kept (suc c.height) (omega (arith, c.tops))))) c.chain)

  at_base : at stack base ≡ at keys (length keys - 1)
  at_base = ap unpacked (h.kept base (omega arith)) ∙ ap (at stack₀) c.tops ∙ c.ends

  at_first : at stack (base + h.standing.height) ≡ at keys 0
  at_first = standing_top keys (negsuc 0) (neg_ℤ (pos range_width)) (DownTo keys i) stack base top h.standing
      (length keys - 1) 0 (StartsRow keys) (down keys rising (omega arith)) (λ j m e. (omega arith, inr e)) at_base

  pub descending_end : Cornered keys stack (top - 1)
  descending_end = by h.standing.height refl
    where
      by : (height : ℕ) → h.standing.height ≡ height → Cornered keys stack (top - 1)
      by zero e = absurd (apart keys rising n (sym at_first ∙ ap (at stack) (omega (arith, e)) ∙ at_base))
      by (suc k) e =
          let r : suc c.height + suc k ≡ top - 1 = omega (arith, h.standing.tops, e, c.tops) in
          let wide : top - 1 ≤ length stack = omega (arith, h.few, c.few, room) in
          record {
            few = wide;
            below = λ j u. subst (λ z. z < cells) (sym (get_or-take (top - 1) stack j 0 (omega (arith, u, length-take-le (top - 1) stack wide))))
                (h.standing.below j (omega (arith, u, length-take-le (top - 1) stack wide)));
            corners = subst (CornerList (map unpacked keys)) (ap (front (at stack)) r ∙ front_unpacked stack (top - 1) wide)
                (corner_list_of_spanned (map unpacked keys) (front (at stack) (suc c.height + suc k))
                (both_chains (map unpacked keys) (in_range keys rising.below) (at stack) c.height k way_up (way_down k e)));
          }
        where
          way_down : (k : ℕ) → h.standing.height ≡ suc k
              → Downward (pos range_width) (Of (map unpacked keys)) (at stack 0) (stack_of (λ j. at stack (suc c.height + j)) (suc k))
          way_down k e =
              subst (λ p. Downward (pos range_width) (Of (map unpacked keys)) p (stack_of (λ j. at stack (suc c.height + j)) (suc k)))
              (at_first ∙ sym c.starts ∙ sym (ap unpacked (h.kept 0 (omega arith))))
              (subst (λ m. Downward (pos range_width) (Of (map unpacked keys)) (at stack (base + h.standing.height)) (stack_of (λ j. at stack (suc c.height + j)) m)) e
              (subst (λ b. Downward (pos range_width) (Of (map unpacked keys)) (at stack (base + h.standing.height)) (stack_of (λ j. at stack (b + j)) h.standing.height)) c.tops
              (standing_all keys (negsuc 0) (neg_ℤ (pos range_width)) (DownTo keys i) stack base top h.standing
              (length keys - 1) 0 (StartsRow keys) (down keys rising (omega arith)) (λ j m e. (omega arith, inr e)) at_base)))

-- the array that a stack leaves behind is the stack's
pub array_left : (P : List ℕ → Type 0) {after stack : List ℕ} → after ≡ stack → P stack → P after
array_left P e p = subst P (sym e) p

-- ---- one point
pub cornered_one : (keys stack : List ℕ) → length keys ≡ 1 → Below keys → 0 < length stack → Cornered keys (set stack 0 (get_or keys 0 0)) 1
cornered_one [] stack e h l = absurd (omega arith)
cornered_one (k ∷ []) [] e h l = absurd (omega arith)
cornered_one (k ∷ []) (a ∷ stack) e h l = record {
  few = omega arith;
  below = λ i v. h i v;
  corners = corner_list_of_spanned (unpacked k ∷ []) (unpacked k ∷ []) (spans_itself (unpacked k ∷ []) (record { start = tt; three = (tt, tt) }));
}
cornered_one (k ∷ m ∷ keys) stack e h l = absurd (omega arith)
