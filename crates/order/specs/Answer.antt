-- The number and the values of each answer of Order (document 01: "If an answer is an enum, a definition gives this paper's number and values
-- for each case."). Assumes nothing.
use Rattle.std.specs.Prelude.{ℕ, Result, Ok, Err}
use Rattle.refusal.specs.declared.Refusal.{Refusal}
use Rattle.refusal.specs.Number.{number_of, place_of}
use Rattle.order.specs.declared.Ordered.{Ordered}

-- "An accepted call has number 0 and place 0. A declined one has its number and place, all counts 0"
abbrev pub ordered_of : Result ℕ Refusal → Ordered
ordered_of (Ok points) = record { number = 0; place = 0; points = points }
ordered_of (Err refusal) = record { number = number_of refusal; place = place_of refusal; points = 0 }
