-- What a partition and a loop tell of the ends of a row, and that the ends of a sound list hold its row. Assumes nothing.
use mathlib.Core.Path.{◌≡◌, ap, sym, ◌∙◌, subst}
use mathlib.Core.Bool.{Bool, true, false}
use mathlib.Core.Logic.{inl, inr}
use mathlib.Core.List.{List, [], ◌∷◌}
use Prim.Native.Nat.{ℕ, ◌+◌, ◌*◌, ◌-◌, ◌≤◌, ◌<◌}
use native.Mathlib.Omega.{arith}
use borrow.Author.Count.{below_more}
use lib.ListN.{length, get_or, take, drop, length-drop}
use lib.Seq.{length-take-le, get_or-take, get_or-drop}
use lib.IntN.{ℤ, pos}
use lib.Signed.{◌≤ℤ◌, ◌<ℤ◌, lt_z}
use mir.Syntax.{w32}
use mir.Val.{SFits, to_z, of_z}
use Rattle.std.specs.List.Sorted.{IsPartitionedBy, IsPartitionPoint}
use Rattle.std.proofs.lemmas.List.{get_or-map}
use Rattle.std.proofs.lemmas.Int.{ints}
use Rattle.whole.proofs.Whole.{quote, gap≤, gap<, ◌⊞◌, linear≤, linear<, le_or_lt, antisymmetric, le_of_equal}
use Rattle.lattice.specs.Point.{Point, InRange, origin, points, point, Pairs, Before, row, column}
use Rattle.lattice.proofs.Lists.{either}
use Rattle.lattice.proofs.Places.{lt_or_le, all_place, pairs_place}
use Rattle.lattice.proofs.Numbers.{points_length}
use Rattle.packed.proofs.Small.{within_fits}
use Rattle.packed.proofs.Tests.{lt_yes, lt_no, read_back}
use Rattle.range.specs.Pairs.{pair_of, pairs_of}
use Rattle.range.proofs.Chunks.{pairs_length}
use Rattle.rows.specs.declared.Ends.{Ends}
use Rattle.rows.specs.Row.{Sound, Holds, LeadsTo, RunsTo, RowEndsPromise}

-- the points from begin to i are in row y
pub record Running (l : List Point) (y : ℤ) (begin i : ℕ) : Type 0 where
  pub from : begin ≤ i
  pub upto : i ≤ length l
  pub within : (j : ℕ) → begin ≤ j → j < i → (point l j).y ≡ y

module _ (l : List Point) (y : ℤ) (begin i : ℕ) (h : Running l y begin i) where
  pub running_more : i < length l → (point l i).y ≡ y → Running l y begin (i + 1)
  running_more m e = record {
    from = omega (arith, h.from);
    upto = omega arith;
    within = λ j u v. below_more (λ n. begin ≤ n → (point l n).y ≡ y) i (λ n a b. h.within n b a) (λ b. e) j v u;
  }

  pub running_stops : (i < length l → (point l i).y ≡ y → ⊥) → RunsTo l y begin i
  running_stops s = record { from = h.from; upto = h.upto; within = h.within; stops = s }

-- a turn of the loop looks at the pair at place i behind begin, and at its second number v
module _ (list : List ℤ) (pairs : List (List ℤ)) (e : pairs ≡ pairs_of list) (begin i : ℕ) (start : begin ≤ length (points list))
    (h : i < length (take (length pairs - begin) (drop begin pairs))) where
  many : length pairs ≡ length (points list)
  many = ap length e ∙ pairs_length list

  place : i < length pairs - begin
  place = omega (arith, h, length-take-le (length pairs - begin) (drop begin pairs) (omega (arith, length-drop begin pairs)))

  row_is : get_or (get_or (take (length pairs - begin) (drop begin pairs)) i []) 1 (pos 0) ≡ (point (points list) (begin + i)).y
  row_is =
      ap (λ (p : List ℤ). get_or p 1 (pos 0))
      (get_or-take (length pairs - begin) (drop begin pairs) i [] place
      ∙ get_or-drop begin pairs i []
      ∙ ap (λ (l : List (List ℤ)). get_or l (begin + i) []) e
      ∙ get_or-map pair_of (points list) (begin + i) origin [] (omega (arith, place, many)))

  module _ (v y : ℤ) (is : v ≡ get_or (get_or (take (length pairs - begin) (drop begin pairs)) i []) 1 (pos 0)) (f : SFits w32 v) (g : SFits w32 y)
      (end : ℕ) (n : end ≡ begin + i) (r : Running (points list) (to_z w32 (of_z w32 y)) begin end) where
    at_end : v ≡ (point (points list) end).y
    at_end = is ∙ row_is ∙ ap (λ k. (point (points list) k).y) (sym n)

    pub turn_more : of_z w32 v ≡ of_z w32 y → Running (points list) (to_z w32 (of_z w32 y)) begin (end + 1)
    turn_more same =
        running_more (points list) _ begin end r (omega (arith, place, many)) (sym at_end ∙ sym (read_back v f) ∙ ap (to_z w32) same)

    pub turn_stops : (of_z w32 v ≡ of_z w32 y → ⊥) → RunsTo (points list) y begin end
    turn_stops other =
        subst (λ z. RunsTo (points list) z begin end) (read_back y g)
        (running_stops (points list) _ begin end r (λ _ same. other (ap (of_z w32) (at_end ∙ same ∙ read_back y g))))

-- ---- rows do not fall in row order
rows_rise : (a b : Point) → Before a b → a.y ≤ℤ b.y
rows_rise a b (row h) = linear≤ (a.y ∷ b.y ∷ []) (gap< h) (search quote depth 20) tt
rows_rise a b (column e h) = le_of_equal e

rows_along : (l : List Point) → Pairs Before l → (j k : ℕ) → j ≤ k → k < length l → (point l j).y ≤ℤ (point l k).y
rows_along l order j k u v =
    either (lt_or_le j k) (λ h. rows_rise (point l j) (point l k) (pairs_place Before l order j k h v))
    (λ h. let e : j ≡ k = omega arith in le_of_equal (ap (λ n. (point l n).y) e))

-- ---- the rows before y by halves: the test of a pair, and what a partition by it tells
abbrev pub before : ℤ → List ℤ → Bool
before y pair = lt_z (to_z w32 (of_z w32 (get_or pair 1 (pos 0)))) y

module _ (list : List ℤ) (s : Sound list) (y : ℤ) where
  read : (i : ℕ) (d : List ℤ) → i < length (points list) → before y (get_or (pairs_of list) i d) ≡ lt_z (point (points list) i).y y
  read i d h =
      let r = all_place InRange (points list) s.range i h in
      ap (λ (p : List ℤ). before y p) (get_or-map pair_of (points list) i origin d h)
      ∙ ap (λ z. lt_z z y) (read_back _ (within_fits w32 8192 (record { low = r.y_from; high = omega (arith, ints, r.y_to) }) (omega arith)))

  pub parted : IsPartitionedBy (before y) (pairs_of list)
  parted i j d u v e =
      let k : j < length (points list) = omega (arith, pairs_length list) in
      read i d (omega arith)
      ∙ below (rows_along (points list) s.order i j u k) (lt_yes (sym (read j d k) ∙ e))
    where
      below : {a b : ℤ} → a ≤ℤ b → b <ℤ y → lt_z a y ≡ true
      below {a} {b} f g = grind (arith, ints)

  pub leads : (r : ℕ) → IsPartitionPoint (λ p. before y p ≡ true) (λ p. before y p ≡ false) (pairs_of list) r → r ≤ length (pairs_of list)
      → LeadsTo (points list) y r
  leads r (f, g) m = record {
    upto = omega (arith, pairs_length list);
    before = λ i h. lt_yes (sym (read i [] (omega (arith, pairs_length list))) ∙ f i [] (omega arith) h);
    stops = λ h. lt_no (sym (read r [] h) ∙ g r [] (omega arith) (omega (arith, pairs_length list)));
  }

pub ends_hold : (l : List Point) (y : ℤ) (begin end : ℕ) → Pairs Before l → LeadsTo l y begin → RunsTo l y begin end → Holds l y begin end
ends_hold l y begin end order lead run = record {
  rising = run.from;
  inside = run.upto;
  before = lead.before;
  within = run.within;
  after = λ i u v. linear< (y ∷ (point l end).y ∷ (point l i).y ∷ []) (gap< (past (omega arith)) ⊞ gap≤ (rows_along l order end i u v)) (search quote depth 20) tt;
}
  where
    past : end < length l → y <ℤ (point l end).y
    past v =
        let from : y ≤ℤ (point l end).y =
        linear≤ (y ∷ (point l begin).y ∷ (point l end).y ∷ [])
        (gap≤ (lead.stops (omega (arith, run.from))) ⊞ gap≤ (rows_along l order begin end run.from v)) (search quote depth 20) tt in
        either (le_or_lt (point l end).y y) (λ h. absurd (run.stops v (antisymmetric h from))) (λ h. h)

-- ---- the ends of a part lie in the list
pub ends_inside : (list : List ℤ) (y : ℤ) (ends : Ends) → RowEndsPromise list y ends
    → (ends.begin ≤ ends.end) × (2 * ends.end ≤ length list)
ends_inside list y ends (inl h) = (h.1.rising, omega (arith, h.1.inside, points_length list))
ends_inside list y ends (inr h) = (omega (arith, h.1, h.2), omega (arith, h.2))
