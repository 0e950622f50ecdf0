-- The bytes of a header that document 01 names ("Plain bitmap in, CSV out"), and the bytes of a header as they are read. Assumes nothing.
use Rattle.std.specs.Prelude.{Bool, true, false, cond, ◌&&◌, ◌||◌, List, [], ◌∷◌, ℕ, suc, leb, eqb, drop}

-- "to the next LF or CR"
abbrev pub line_end : ℕ → Bool
line_end b = eqb b 10 || eqb b 13

-- "from #"
abbrev pub hash : ℕ
hash = 35

-- 0 to 9
abbrev pub digit : ℕ → Bool
digit b = leb 48 b && leb b 57

-- a byte and its place in the file
pub record Placed : Type 0 where
  pub byte : ℕ
  pub place : ℕ

-- "In the header a comment, from # to the next LF or CR, is read as that one line end": what is read of the bytes from place i on,
-- outside a comment (false) or in one (true)
abbrev pub read_in : Bool → List ℕ → ℕ → List Placed
read_in comment [] i = []
read_in false (b ∷ rest) i =
    let text = read_in false rest (suc i) in
    let comment = read_in true rest (suc i) in
    cond (eqb b hash) comment (record { byte = b; place = i } ∷ text)
read_in true (b ∷ rest) i =
    let text = read_in false rest (suc i) in
    let comment = read_in true rest (suc i) in
    cond (line_end b) (record { byte = b; place = i } ∷ text) comment

abbrev pub placed_at_read : List ℕ → ℕ → List Placed
placed_at_read bytes i = read_in false (drop i bytes) i
