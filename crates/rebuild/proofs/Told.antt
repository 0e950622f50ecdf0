-- Number, place and count tell Rebuild's answer, so what is promised of them pins the answer itself. Assumes nothing.
use mathlib.Core.Path.{◌≡◌, refl, ap}
use mathlib.Core.List.{List}
use Prim.Native.Nat.{ℕ}
use lib.IntN.{ℤ}
use Rattle.std.specs.Prelude.{Result}
use Rattle.refusal.specs.declared.Refusal.{Refusal}
use Rattle.refusal.proofs.Told.{answer_told}
use Rattle.rebuild.specs.Answer.{rebuilt_of}
use Rattle.rebuild.specs.Rebuild.{RebuildPromise}
use Rattle.rebuild.proofs.Rebuilding.{rebuild_pinned}

pub rebuilt_told : (a b : Result ℕ Refusal) → rebuilt_of a ≡ rebuilt_of b → a ≡ b
rebuilt_told =
    answer_told rebuilt_of (λ s. s.number) (λ s. s.place) (λ a. refl) (λ r. refl) (λ r. refl)
    (λ n m e. ap (λ s. s.points) e)

pub rebuild_answer_pinned : (corners missing room : List ℤ) (a b : Result ℕ Refusal) (after later : List ℤ)
    → RebuildPromise corners missing room (rebuilt_of a) after → RebuildPromise corners missing room (rebuilt_of b) later → (a ≡ b) × (after ≡ later)
rebuild_answer_pinned corners missing room a b after later h g =
    let e = rebuild_pinned corners missing room (rebuilt_of a) (rebuilt_of b) after later h g in (rebuilt_told a b e.0, e.1)
