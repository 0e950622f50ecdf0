-- Laws of the parts of a header: the next byte, and white space that is skipped. Assumes nothing.
use mathlib.Core.Path.{◌≡◌, refl, ◌∙◌, ap}
use mathlib.Core.Bool.{Bool, true, false}
use mathlib.Core.List.{List, [], ◌∷◌}
use Prim.Native.Nat.{ℕ, ◌+◌, ◌≤◌, ◌<◌}
use lib.ListN.{length, get_or}
use Rattle.netpbm.specs.Space.{white_space}
use Rattle.header.specs.declared.Reader.{Reader}
use Rattle.header.specs.Bytes.{Placed, placed_at_read}
use Rattle.header.specs.Header.{starts, behind}
use Rattle.header.specs.Steps.{Settled, left}
use Rattle.header.proofs.Reading.{read_byte}

-- ---- a test on the next byte
pub behind_stops : (test : ℕ → Bool) (l : List Placed) → starts test l ≡ false → behind test l ≡ l
behind_stops test [] e = refl
behind_stops test (p ∷ l) e = rw e

module _ (test : ℕ → Bool) (bytes : List ℕ) (i : ℕ) (inside : i < length bytes) (settled : Settled bytes i) where
  pub starts_byte : starts test (placed_at_read bytes i) ≡ test (get_or bytes i 0)
  starts_byte = ap (starts test) (read_byte bytes i inside (settled inside))

  pub behind_goes : test (get_or bytes i 0) ≡ true → behind test (placed_at_read bytes i) ≡ behind test (placed_at_read bytes (i + 1))
  behind_goes e = ap (behind test) (read_byte bytes i inside (settled inside)) ∙ rw e

-- ---- white space is skipped from one place to another
pub record Skipping (old new : Reader) : Type 0 where
  pub same : new.bytes.now ≡ old.bytes.now
  pub reads : behind white_space (left old) ≡ behind white_space (left new)
  pub forward : old.at ≤ new.at
