-- The number and the values of each answer of Rebuild (document 01: "If an answer is an enum, a definition gives this paper's number and values
-- for each case."). Assumes nothing.
use Rattle.std.specs.Prelude.{ℕ, Result, Ok, Err}
use Rattle.refusal.specs.declared.Refusal.{Refusal}
use Rattle.refusal.specs.Number.{number_of, place_of}
use Rattle.rebuild.specs.declared.Rebuilt.{Rebuilt}

-- "An accepted call has number 0 and place 0. A declined one has its number and place, all counts 0"
abbrev pub rebuilt_of : Result ℕ Refusal → Rebuilt
rebuilt_of (Ok points) = record { number = 0; place = 0; points = points }
rebuilt_of (Err refusal) = record { number = number_of refusal; place = place_of refusal; points = 0 }

-- the same where nothing is counted yet
abbrev pub uncounted : {A : Type 0} → Result A Refusal → Rebuilt
uncounted (Ok a) = record { number = 0; place = 0; points = 0 }
uncounted (Err refusal) = record { number = number_of refusal; place = place_of refusal; points = 0 }
