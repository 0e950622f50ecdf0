-- What is known of bytes read from a reader, however they come. Assumes nothing.
use Rattle.std.specs.Prelude.{◌≡◌, List, ℕ, ◌≤◌, ◌<◌, length, take, Option}
use Rattle.std.specs.Io.KnownBytes.{Consumes, IsAtEnd}

-- the bytes read stand at the front of the buffer; reading stops before the input ends only where the buffer is full
pub record Reads (before after : Option (List ℕ)) (buffer : List ℕ) (count : ℕ) : Type 0 where
  pub fits : count ≤ length buffer
  pub front : Consumes before after (take count buffer)
  pub whole : count < length buffer → IsAtEnd after
  pub full : (IsAtEnd after → ⊥) → count ≡ length buffer
