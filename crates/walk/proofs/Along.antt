-- A hull gone through by the rows that `Rows` yields. Assumes nothing.
use mathlib.Core.Path.{◌≡◌, ◌∙◌, subst}
use Prim.Native.Nat.{ℕ, ◌+◌, ◌≤◌, ◌<◌}
use lib.IntN.{ℤ}
use mir.Syntax.{w32}
use mir.Val.{SFits, to_z, of_z}
use mathlib.Core.List.{List}
use Rattle.lattice.specs.Point.{points, Pairs, Before}
use Rattle.packed.specs.Packed.{placed}
use Rattle.packed.specs.Corners.{keys_of}
use Rattle.packed.proofs.Tests.{read_back}
use Rattle.rows.specs.Row.{Holds, LeadsTo, RunsTo}
use Rattle.rows.proofs.RowLaws.{ends_hold}
use Rattle.stretch.specs.Stretch.{StretchOf, Peak, last_row}
use Rattle.stretch.specs.declared.Stretch.{Stretch}
use Rattle.stretch.specs.Ahead.{Ahead, IsNext}

-- the rows that are ahead are those of a hull with these corners
pub record Along (corners : List ℤ) (a : Ahead) : Type 0 where
  pub same : a.corners ≡ corners
  pub peak : Peak (keys_of corners) a.peak

abbrev pub ahead : List ℤ → ℕ → ℕ → Ahead
ahead corners peak y = record { corners = corners; peak = peak; y = y }

module _ {corners : List ℤ} {a : Ahead} (l : Along corners a) where
  -- row y is the next of them
  module _ {y : ℕ} {s : Stretch} {b : Ahead} (n : IsNext a y s b) where
    pub row_in : y ≤ last_row corners a.peak
    row_in = subst (λ c. y ≤ last_row c a.peak) l.same n.upto

    pub row_columns : StretchOf (points corners) y s
    row_columns = subst (λ c. StretchOf (points c) y s) l.same n.stretch

    pub along_next : b ≡ ahead corners a.peak (y + 1)
    along_next = subst (λ c. b ≡ ahead c a.peak (y + 1)) l.same n.after

  -- none is
  pub row_past : last_row a.corners a.peak < a.y → last_row corners a.peak < a.y
  row_past u = subst (λ c. last_row c a.peak < a.y) l.same u

-- ---- the points of a list in the row, as the code asks for its end
pub row_held : (list : List ℤ) (y begin end : ℕ) (z : ℤ) → SFits w32 z → z ≡ placed y → Pairs Before (points list) → LeadsTo (points list) (placed y) begin
    → RunsTo (points list) (to_z w32 (of_z w32 z)) begin end → Holds (points list) (placed y) begin end
row_held list y begin end z f e order leads r =
    ends_hold (points list) (placed y) begin end order leads (subst (λ w. RunsTo (points list) w begin end) (read_back z f ∙ e) r)
