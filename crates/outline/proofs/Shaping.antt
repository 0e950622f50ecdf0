-- The shape of the corners, looked at corner by corner: each follows those before it exactly if they are a corner list. Assumes nothing.
use mathlib.Core.Path.{◌≡◌, sym, ◌∙◌, ap, transport, subst, subst₂}
use mathlib.Core.List.{List}
use Prim.Native.Nat.{ℕ, zero, suc, ◌+◌, ◌-◌, ◌≤◌, ◌<◌}
use native.Mathlib.Omega.{arith}
use lib.ListN.{length, get_or}
use lib.IntN.{ℤ, pos}
use lib.Signed.{◌<ℤ◌}
use Rattle.lattice.specs.Point.{InRange, points, point, All, Before}
use Rattle.lattice.specs.Hull.{turn, CornerList}
use Rattle.lattice.proofs.Lists.{either}
use Rattle.lattice.proofs.Places.{lt_or_le}
use Rattle.lattice.proofs.Shape.{ShapeTest}
use Rattle.lattice.proofs.CornerLists.{corner_list_test}
use Rattle.packed.specs.Packed.{cells, unpacked}
use Rattle.packed.specs.Corners.{keys_of}
use Rattle.packed.proofs.RowOrder.{before_unpacked, unpacked_before}
use Rattle.packed.proofs.KeysOf.{keys_many, key_point, keys_below}
use Rattle.outline.specs.Follows.{Follows}

-- ---- all corners
module _ (corners : List ℤ) where
  abbrev key : ℕ → ℕ
  key i = get_or (keys_of corners) i 0

  abbrev many : ℕ
  many = length (keys_of corners)

  -- the third corner behind place i follows
  abbrev Third : ℕ → Type 0
  Third i = Follows (key 0) (key i) (key (suc i)) (key (suc (suc i)))

-- the loop: the corners before place i follow, and the last two of them are at hand
pub record Shaping (corners : List ℤ) (first earlier before i : ℕ) : Type 0 where
  pub from : 2 ≤ i
  pub upto : i ≤ many corners
  pub starts : first ≡ key corners 0
  pub last_but_one : earlier ≡ key corners (i - 2)
  pub last : before ≡ key corners (i - 1)
  pub second : key corners 0 < key corners 1
  pub third : (j : ℕ) → suc (suc j) < i → Third corners j

module _ (corners : List ℤ) (range : All InRange (points corners)) where
  place : (i : ℕ) → i < many corners → unpacked (key corners i) ≡ point (points corners) i
  place = key_point corners range

  turns : (i j k : ℕ) → i < many corners → j < many corners → k < many corners
      → turn (unpacked (key corners i)) (unpacked (key corners j)) (unpacked (key corners k)) ≡ turn (point (points corners) i) (point (points corners) j) (point (points corners) k)
  turns i j k l m n =
      let e = place i l in
      let f = place j m in
      let g = place k n in
      λ d. turn (e d) (f d) (g d)

  -- the linear test, corner by corner
  module _ (listed : CornerList (points corners) (points corners)) where
    test : ShapeTest (points corners)
    test = (corner_list_test (points corners)).1 listed

    pub listed_after : (i : ℕ) → suc i < many corners → key corners 0 < key corners (suc i)
    listed_after i l =
        unpacked_before (key corners 0) (key corners (suc i))
        (subst₂ Before (sym (place 0 (omega arith))) (sym (place (suc i) l)) (test.first i (omega (arith, l, keys_many corners))))

    pub listed_third : (i : ℕ) → suc (suc i) < many corners → Third corners i
    listed_third i l = let n : suc (suc i) < length (points corners) = omega (arith, l, keys_many corners) in record {
      after = listed_after (suc i) l;
      seen = subst (λ z. pos 0 <ℤ z) (sym (turns 0 (suc i) (suc (suc i)) (omega arith) (omega arith) l)) (test.seen i n);
      bends = subst (λ z. pos 0 <ℤ z) (sym (turns i (suc i) (suc (suc i)) (omega arith) (omega arith) l)) (test.bends i n);
    }

  third_listed : (1 < many corners → key corners 0 < key corners 1) → ((i : ℕ) → suc (suc i) < many corners → Third corners i) → CornerList (points corners) (points corners)
  third_listed second third = (corner_list_test (points corners)).0 record {
    first = λ i l. let n : suc i < many corners = omega (arith, l, keys_many corners) in
        subst₂ Before (place 0 (omega arith)) (place (suc i) n) (before_unpacked (key corners 0) (key corners (suc i)) (after i n));
    seen = λ i l. let n : suc (suc i) < many corners = omega (arith, l, keys_many corners) in
        subst (λ z. pos 0 <ℤ z) (turns 0 (suc i) (suc (suc i)) (omega arith) (omega arith) n) (third i n).seen;
    bends = λ i l. let n : suc (suc i) < many corners = omega (arith, l, keys_many corners) in
        subst (λ z. pos 0 <ℤ z) (turns i (suc i) (suc (suc i)) (omega arith) (omega arith) n) (third i n).bends;
  }
    where
      after : (i : ℕ) → suc i < many corners → key corners 0 < key corners (suc i)
      after zero n = second n
      after (suc i) n = (third i n).after

  -- ---- the loop
  module _ {first earlier before i : ℕ} (h : Shaping corners first earlier before i) where
    module _ (l : i < many corners) (corner : ℕ) (e : corner ≡ key corners i) where
      -- the corner at place i and those before it, as the code has them
      same : Follows first earlier before corner ≡ Third corners (i - 2)
      same =
          let d : i - 1 ≡ suc (i - 2) = omega (arith, h.from) in
          let g : i ≡ suc (suc (i - 2)) = omega (arith, h.from) in
          let p = h.last ∙ ap (key corners) d in
          let q = e ∙ ap (key corners) g in
          λ t. Follows (h.starts t) (h.last_but_one t) (p t) (q t)

      pub shaping_below : (first < cells) × (earlier < cells) × (before < cells)
      shaping_below =
          let b = keys_below corners range in
          (omega (arith, h.starts, b 0 (omega arith)), omega (arith, h.last_but_one, b (i - 2) (omega arith)), omega (arith, h.last, b (i - 1) (omega arith)))

      pub shaping_more : Follows first earlier before corner → Shaping corners first before corner (i + 1)
      shaping_more f =
          let d : i - 1 ≡ i + 1 - 2 = omega (arith, h.from) in
          let g : i ≡ i + 1 - 1 = omega arith in record {
            from = omega arith;
            upto = omega arith;
            starts = h.starts;
            last_but_one = h.last ∙ ap (key corners) d;
            last = e ∙ ap (key corners) g;
            second = h.second;
            third = λ j k. either (lt_or_le (suc (suc j)) i) (λ m. h.third j m)
                (λ m. let n : i - 2 ≡ j = omega (arith, h.from) in subst (Third corners) n (transport same f));
          }

      pub shaping_breaks : (Follows first earlier before corner → ⊥) → CornerList (points corners) (points corners) → ⊥
      shaping_breaks n k = n (transport (sym same) (listed_third k (i - 2) (omega (arith, h.from))))

    pub shaping_ends : many corners ≤ i → CornerList (points corners) (points corners)
    shaping_ends l = third_listed (λ k. h.second) (λ j k. h.third j (omega arith))
