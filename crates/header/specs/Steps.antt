-- How the code goes through a header: what each step finds, in the words of the definitions. Assumes nothing.
use Rattle.std.specs.Prelude.{◌≡◌, List, ℕ, suc, ◌≤◌, ◌<◌, min, length, get_or, drop, true, Result, Ok, Err}
use Rattle.refusal.specs.declared.Refusal.{Refusal}
use Rattle.header.specs.declared.Reader.{Reader}
use Rattle.header.specs.Bytes.{hash, digit, Placed, read_in, placed_at_read}
use Rattle.header.specs.Header.{behind, size as size_of, greatest_size, Checked, size_then, after_height}

-- no comment begins at the place
abbrev pub Settled : List ℕ → ℕ → Type 0
Settled bytes i = i < length bytes → get_or bytes i 0 ≡ hash → ⊥

-- what is read from where a reader is on, outside a comment or in one
abbrev pub left : Reader → List Placed
left r = placed_at_read r.bytes.now r.at

abbrev pub comment_left : Reader → List Placed
comment_left r = read_in true (drop r.at r.bytes.now) r.at

-- a reader moves on to where no comment begins, and all of l is left
pub record Leads (l : List Placed) (old new : Reader) : Type 0 where
  pub same : new.bytes.now ≡ old.bytes.now
  pub reads : l ≡ left new
  pub settled : Settled new.bytes.now new.at
  pub forward : old.at ≤ new.at

-- the size that is read, no more than one above the greatest, and the reader behind its digits
pub record RunAt (old : Reader) (size : ℕ) (new : Reader) : Type 0 where
  pub same : new.bytes.now ≡ old.bytes.now
  pub value : size ≡ min (suc greatest_size) (size_of (left old))
  pub reads : behind digit (left old) ≡ left new

-- the header is the size that is found and the rest behind it, or it breaks
abbrev pub Found : Reader → Result ℕ Refusal → Reader → Type 0
Found old (Ok size) new = (rest : ℕ → List Placed → Checked) → size_then old.bytes.now (left old) rest ≡ rest size (left new)
Found old (Err refusal) new = (rest : ℕ → List Placed → Checked) → size_then old.bytes.now (left old) rest ≡ Err refusal

pub record Sized (old : Reader) (r : Result ℕ Refusal) (new : Reader) : Type 0 where
  pub same : new.bytes.now ≡ old.bytes.now
  pub found : Found old r new

-- the header ends behind its height with the white space that is found, or it breaks
abbrev pub Ended : Reader → Result ℕ Refusal → Type 0
Ended old (Ok end) =
    (width height : ℕ) → after_height old.bytes.now width height (left old) ≡ Ok (record { width = width; height = height; at = end })
Ended old (Err refusal) = (width height : ℕ) → after_height old.bytes.now width height (left old) ≡ Err refusal
