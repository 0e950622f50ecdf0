-- The header of a bitmap, part by part, and the place where it breaks (document 01, "Plain bitmap in, CSV out"). Assumes nothing.
use Rattle.std.specs.Prelude.{Bool, true, false, cond, ◌&&◌, List, [], ◌∷◌, ℕ, suc, ◌+◌, ◌*◌, ◌-◌, leb, length, Result, Ok, Err}
use Rattle.refusal.specs.declared.Refusal.{Refusal}
use Rattle.refusal.specs.declared.Refusal.TheVariants.{BadHeader}
use Rattle.netpbm.specs.Space.{white_space}
use Rattle.header.specs.declared.Header.{Header}
use Rattle.header.specs.Bytes.{digit, Placed, placed_at_read}

-- whether the next byte passes a test; what is left behind all next bytes that pass it
abbrev pub starts : (ℕ → Bool) → List Placed → Bool
starts test [] = false
starts test (p ∷ l) = test p.byte

abbrev pub behind : (ℕ → Bool) → List Placed → List Placed
behind test [] = []
behind test (p ∷ l) = cond (test p.byte) (behind test l) (p ∷ l)

-- "Width and height are decimal, 1 to 1,024, leading zeros allowed.": the number that the next digits write behind v, 0 where there are none
abbrev pub decimal : ℕ → List Placed → ℕ
decimal v [] = v
decimal v (p ∷ l) = cond (digit p.byte) (decimal (10 * v + (p.byte - 48)) l) v

abbrev pub size : List Placed → ℕ
size l = decimal 0 l

abbrev pub greatest_size : ℕ
greatest_size = 1024

abbrev pub in_size : ℕ → Bool
in_size n = leb 1 n && leb n greatest_size

-- "the first byte that can't continue a header, or the file length if it ended"; of a size, its first digit
abbrev pub place_in : List ℕ → List Placed → ℕ
place_in bytes [] = length bytes
place_in bytes (p ∷ l) = p.place

-- what a header says, or why it is bad
abbrev pub Checked : Type 0
Checked = Result Header Refusal

-- the header goes on where it holds what it must, and else breaks there
abbrev pub unless : Bool → Checked → Checked → Checked
unless true broken rest = rest
unless false broken rest = broken

abbrev pub broken : List ℕ → List Placed → Checked
broken bytes l = Err (BadHeader (place_in bytes l))

-- white space and a size, then the rest; "between the header's parts one or more"; "A size is judged on its whole run of digits, no matter
-- what follows or whether the file ends there."
abbrev pub size_then : List ℕ → List Placed → (ℕ → List Placed → Checked) → Checked
size_then bytes l rest =
    let digits = behind white_space l in
    unless (starts white_space l) (broken bytes l)
    (unless (in_size (size digits)) (broken bytes digits) (rest (size digits) (behind digit digits)))

-- one white space, then the pixels
abbrev pub after_height : List ℕ → ℕ → ℕ → List Placed → Checked
after_height bytes width height l =
    unless (starts white_space l) (broken bytes l) (Ok (record { width = width; height = height; at = suc (place_in bytes l) }))

abbrev pub after_width : List ℕ → ℕ → List Placed → Checked
after_width bytes width l = size_then bytes l (after_height bytes width)

-- "P1, white space, width, white space, height, one white space, then the pixels"
abbrev pub header_of : List ℕ → Checked
header_of bytes = size_then bytes (placed_at_read bytes 2) (after_width bytes)
