-- White space, in the header of a bitmap and between plain pixels (document 01, "Plain bitmap in, CSV out"). Assumes nothing.
use Rattle.std.specs.Prelude.{Bool, ◌||◌, ℕ, eqb}

-- "White space is blank, TAB, LF, CR"
abbrev pub white_space : ℕ → Bool
white_space b = eqb b 32 || eqb b 9 || eqb b 10 || eqb b 13
