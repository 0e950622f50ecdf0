-- A struct with number and place that tells an accepted answer's values tells the answer, a refusal or not. Assumes nothing.
use mathlib.Core.Path.{◌≡◌, sym, ◌∙◌, ap}
use Prim.Native.Nat.{ℕ}
use Rattle.std.specs.Prelude.{Result, Ok, Err}
use Rattle.refusal.specs.declared.Refusal.{Refusal}
use Rattle.refusal.specs.Number.{number_of, place_of}
use Rattle.refusal.proofs.Numbers.{number_some, tells_apart}

-- what a struct has of an answer: number and place, 0 if it is accepted
module _ {A S : Type 0} (of : Result A Refusal → S) (number place : S → ℕ) (accepted : (a : A) → number (of (Ok a)) ≡ 0)
    (numbered : (r : Refusal) → number (of (Err r)) ≡ number_of r) (placed : (r : Refusal) → place (of (Err r)) ≡ place_of r)
    (values : (a b : A) → of (Ok a) ≡ of (Ok b) → a ≡ b) where
  apart : (a : A) (r : Refusal) → of (Ok a) ≡ of (Err r) → ⊥
  apart a r e = number_some r (sym (numbered r) ∙ sym (ap number e) ∙ accepted a)

  pub answer_told : (a b : Result A Refusal) → of a ≡ of b → a ≡ b
  answer_told (Ok a) (Ok b) e = ap Ok (values a b e)
  answer_told (Ok a) (Err r) e = absurd (apart a r e)
  answer_told (Err r) (Ok a) e = absurd (apart a r (sym e))
  answer_told (Err r) (Err q) e =
      ap Err (tells_apart r q (sym (numbered r) ∙ ap number e ∙ numbered q) (sym (placed r) ∙ ap place e ∙ placed q))
