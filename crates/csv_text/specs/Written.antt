-- What stands in a room after a text is written to it, and what is answered. Assumes nothing.
use Rattle.std.specs.Prelude.{◌≡◌, cond, List, ◌++◌, ℕ, ◌+◌, ◌<◌, leb, length, take, drop, Result, Ok, Err}
use Rattle.std.proofs.lemmas.List.Edits.{sets}
use Rattle.csv_text.specs.declared.text.Text.{Text}
use Rattle.csv_text.specs.declared.text.Full.{Full}

-- the text, the rest as before; of a text that does not fit, what does
abbrev pub written : List ℕ → List ℕ → List ℕ
written text out = take (length out) (text ++ drop (length text) out)

-- the number of its bytes, 0 for a text that does not fit
abbrev pub fitted : List ℕ → List ℕ → ℕ
fitted text out = cond (leb (length text) (length out)) (length text) 0

pub record WritePromise (text out : List ℕ) (answer : ℕ) (after : List ℕ) : Type 0 where
  pub answers : answer ≡ fitted text out
  pub stands : after ≡ written text out

-- "It has room for 8,192 missing points."
abbrev pub most_missing : ℕ
most_missing = 8192

-- a room that suffices for 4,096 corners and 8,192 missing points in range: 10 bytes of heading, 20 a corner, 21 a missing point, 17 of total
abbrev pub room : ℕ
room = 253979

-- ---- how the code writes: each byte at its place, until one has none
-- the whole text stands from a place on, and the next byte goes behind it
pub record Whole (before : Text) (bytes : List ℕ) (after : Text) : Type 0 where
  pub same : after.room.ghost_name ≡ before.room.ghost_name
  pub stands : after.room.now ≡ sets before.room.now before.at bytes
  pub goes : after.at ≡ before.at + length bytes

-- the room ends before the text does, and what does not fit is left out
pub record Cut (before : Text) (bytes : List ℕ) (after : Text) : Type 0 where
  pub same : after.room.ghost_name ≡ before.room.ghost_name
  pub stands : after.room.now ≡ sets before.room.now before.at bytes
  pub over : length before.room.now < before.at + length bytes

-- what is known of either answer
abbrev pub Puts : Text → List ℕ → Result (Unit {0}) Full → Text → Type 0
Puts before bytes (Ok _) after = Whole before bytes after
Puts before bytes (Err _) after = Cut before bytes after
