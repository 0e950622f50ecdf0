-- Number, place and counts tell Hull's answer, so what is promised of them pins the answer itself. Assumes nothing.
use mathlib.Core.Path.{◌≡◌, refl, ap}
use mathlib.Core.List.{List}
use lib.IntN.{ℤ}
use Rattle.std.specs.Prelude.{Result}
use Rattle.refusal.specs.declared.Refusal.{Refusal}
use Rattle.refusal.proofs.Told.{answer_told}
use Rattle.hull.specs.declared.Counts.{Counts}
use Rattle.hull.specs.Answer.{hulled_of}
use Rattle.hull.specs.Hull.{HullPromise}
use Rattle.hull.proofs.Hulling.{hull_pinned}

pub hulled_told : (a b : Result Counts Refusal) → hulled_of a ≡ hulled_of b → a ≡ b
hulled_told =
    answer_told hulled_of (λ s. s.number) (λ s. s.place) (λ a. refl) (λ r. refl) (λ r. refl)
    (λ n m e. ap (λ s. record { points = s.points; corners = s.corners }) e)

pub hull_answer_pinned : (list ordered corners : List ℤ) (a b : Result Counts Refusal) (ordered' ordered'' corners' corners'' : List ℤ)
    → HullPromise list ordered corners (hulled_of a) ordered' corners' → HullPromise list ordered corners (hulled_of b) ordered'' corners''
    → (a ≡ b) × (ordered' ≡ ordered'') × (corners' ≡ corners'')
hull_answer_pinned list ordered corners a b ordered' ordered'' corners' corners'' h g =
    let e = hull_pinned list ordered corners (hulled_of a) (hulled_of b) ordered' ordered'' corners' corners'' h g in
    (hulled_told a b e.0, e.1, e.2)
