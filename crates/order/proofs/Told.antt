-- Number, place and count tell Order's answer, so what is promised of them pins the answer itself. Assumes nothing.
use mathlib.Core.Path.{◌≡◌, refl, ap}
use mathlib.Core.List.{List}
use Prim.Native.Nat.{ℕ}
use lib.IntN.{ℤ}
use Rattle.std.specs.Prelude.{Result}
use Rattle.refusal.specs.declared.Refusal.{Refusal}
use Rattle.refusal.proofs.Told.{answer_told}
use Rattle.order.specs.Answer.{ordered_of}
use Rattle.order.specs.Order.{OrderPromise}
use Rattle.order.proofs.Ordering.{order_pinned}

pub ordered_told : (a b : Result ℕ Refusal) → ordered_of a ≡ ordered_of b → a ≡ b
ordered_told =
    answer_told ordered_of (λ s. s.number) (λ s. s.place) (λ a. refl) (λ r. refl) (λ r. refl)
    (λ n m e. ap (λ s. s.points) e)

pub order_answer_pinned : (list room : List ℤ) (a b : Result ℕ Refusal) (after later : List ℤ)
    → OrderPromise list room (ordered_of a) after → OrderPromise list room (ordered_of b) later → (a ≡ b) × (after ≡ later)
order_answer_pinned list room a b after later h g =
    let e = order_pinned list room (ordered_of a) (ordered_of b) after later h g in (ordered_told a b e.0, e.1)
