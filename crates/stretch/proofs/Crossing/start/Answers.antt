-- In the first row the last edge of the corner list lies to the left, and the first that rises to the right. Assumes nothing.
use mathlib.Core.Path.{◌≡◌, sym, subst}
use mathlib.Core.List.{List}
use native.Mathlib.Omega.{arith}
use Prim.Native.Nat.{ℕ, ◌-◌, ◌/◌, ◌≤◌}
use lib.ListN.{length, get_or}
use lib.IntN.{ℤ}
use Rattle.packed.specs.Packed.{side}
use Rattle.packed.specs.Corners.{keys_of}
use Rattle.packed.proofs.KeysOf.{keys_length}
use Rattle.stretch.specs.Stretch.{HasRow, first_row, Tall, Rises, Falls, FirstRises}
use Rattle.stretch.proofs.Sides.{falling_last}
use Rattle.stretch.proofs.Following.{rising_way, closing_way, right_of, left_of}
use Rattle.stretch.proofs.Crossing.start.Goals as goal

module _ {corners : List ℤ} {peak y : ℕ} (h : HasRow corners peak (first_row corners)) (e : y ≡ first_row corners) where
  is_row : HasRow corners peak y
  is_row = subst (HasRow corners peak) (sym e) h

  module _ (t : Tall (keys_of corners) peak) where
    falls : Falls (keys_of corners) y (length corners / 2 - 1) (get_or (keys_of corners) 0 0)
    falls =
        let d : length (keys_of corners) - 1 ≡ length corners / 2 - 1 = omega (arith, keys_length corners) in
        subst (λ n. Falls (keys_of corners) n (length corners / 2 - 1) (get_or (keys_of corners) 0 0)) (sym e)
        (subst (λ i. Falls (keys_of corners) (first_row corners) i (get_or (keys_of corners) 0 0)) d (falling_last _ _ _ h.peaked t))

    rises : (i : ℕ) → FirstRises (keys_of corners) peak i → Rises (keys_of corners) y i
    rises i r = subst (λ n. Rises (keys_of corners) n i) (sym e) r.rises

tall : (peak y row : ℕ) (keys : List ℕ) → y ≡ get_or keys 0 0 / side → row ≡ get_or keys peak 0 / side → get_or keys 0 0 / side ≤ get_or keys peak 0 / side
    → (y ≡ row → ⊥) → Tall keys peak
tall peak y row keys e f l n = omega arith

pub climb-requires : goal.climb-requires
climb-requires c =
    let t = tall _ _ _ (keys_of c.args.corners.list.now) c.requires.1 c.last_row.ensures.0 c.requires.0.peaked.to_row c.if-y-last_row.false in
    closing_way (is_row c.requires.0 c.requires.1) _ (falls c.requires.0 c.requires.1 t)

pub climb-requires-else-y-last_row : goal.climb-requires-else-y-last_row
climb-requires-else-y-last_row c =
    let t = tall _ _ _ (keys_of c.args.corners.list.now) c.requires.1 c.last_row.ensures.0 c.requires.0.peaked.to_row c.if-y-last_row.false in
    rising_way (is_row c.requires.0 c.requires.1) _ (rises c.requires.0 c.requires.1 t _ c.first_rising-rising.ensures)

pub returns-else-y-last_row : goal.returns-else-y-last_row
returns-else-y-last_row c =
    let t = tall _ _ _ (keys_of c.args.corners.list.now) c.requires.1 c.last_row.ensures.0 c.requires.0.peaked.to_row c.if-y-last_row.false in
    let h = (is_row c.requires.0 c.requires.1).peaked in
    record {
      left = left_of _ _ _ h _ _ (omega (arith, h.peaks.inside, keys_length c.args.corners.list.now)) (falls c.requires.0 c.requires.1 t) t _
          c.climb.ensures.0 c.climb.ensures.1;
      right = right_of _ _ _ h _ c.first_rising-rising.ensures.before (rises c.requires.0 c.requires.1 t _ c.first_rising-rising.ensures) t _
          c.climb-else-y-last_row.ensures.0 c.climb-else-y-last_row.ensures.1;
    }
