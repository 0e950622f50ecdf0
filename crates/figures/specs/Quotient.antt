-- Quotients of whole numbers as doubles (document 01: "Each is a single IEEE 754 division of two whole numbers that are exact as doubles,
-- rounded once."). Assumes the kit's `round`: the double nearest to a fraction, and of two that are as near the even one.
use Rattle.std.specs.Prelude.{true, false, ℕ, suc, ◌^◌, ℤ, pos, negsuc, Float}
use Rattle.std.specs.Float.{binary64}
use Rattle.std.specs.Float.Ieee.{round}

-- whole numbers up to 2^53 by magnitude are exact as doubles
abbrev pub exact : ℕ
exact = 2 ^ 53

-- the double nearest to z / d, for d above 0: the exact quotient with its sign, rounded once
unfoldable pub rounded : ℤ → ℕ → Float
rounded (pos n) d = round binary64 false n d
rounded (negsuc n) d = round binary64 true (suc n) d
