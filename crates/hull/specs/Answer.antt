-- The number and the values of each answer of Hull (document 01: "If an answer is an enum, a definition gives this paper's number and values
-- for each case."). Assumes nothing.
use Rattle.std.specs.Prelude.{Result, Ok, Err}
use Rattle.refusal.specs.declared.Refusal.{Refusal}
use Rattle.refusal.specs.Number.{number_of, place_of}
use Rattle.hull.specs.declared.Counts.{Counts}
use Rattle.hull.specs.declared.Hulled.{Hulled}

-- "An accepted call has number 0 and place 0. A declined one has its number and place, all counts 0"
abbrev pub hulled_of : Result Counts Refusal → Hulled
hulled_of (Ok counts) = record { number = 0; place = 0; points = counts.points; corners = counts.corners }
hulled_of (Err refusal) = record { number = number_of refusal; place = place_of refusal; points = 0; corners = 0 }
