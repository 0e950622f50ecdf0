-- What stands at the front of a room that holds some points, and behind it. Assumes nothing.
use mathlib.Core.Path.{◌≡◌, refl, sym, ◌∙◌, ap}
use mathlib.Core.List.{List}
use Prim.Native.Nat.{ℕ, ◌*◌}
use lib.ListN.{length, take, drop}
use lib.Seq.{take_at}
use lib.IntN.{ℤ}
use Rattle.lattice.specs.Point.{Point}
use Rattle.lattice.specs.Room.{numbers, holding}
use Rattle.lattice.proofs.Numbers.{numbers_length}
use Rattle.lattice.proofs.Rooms.{holding_rest}
use Rattle.demands.specs.Demands.{Begins}

-- a room that holds a list of points begins with every list that is the same
pub begins : {o l : List Point} {count : ℕ} {room after : List ℤ} → o ≡ l → count ≡ length o → after ≡ holding o room → Begins l count room after
begins {o} {l} {count} {room} {after} e n w = record {
  counted = n ∙ ap length e;
  front = (λ i. take (2 * n i) (w i)) ∙ take_at (numbers o) (drop (2 * length o) room) (2 * length o) (numbers_length o) ∙ ap numbers e;
  rest = (λ i. drop (2 * n i) (w i)) ∙ holding_rest o (length o) refl room ∙ ap (λ k. drop (2 * k) room) (sym n);
}
