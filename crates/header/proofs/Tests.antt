-- Line ends, digits and # as tests on bytes: what a comparison that came out true or false says of them. Assumes nothing.
use mathlib.Core.Path.{◌≡◌, refl}
use mathlib.Core.Bool.{Bool, true, false, ◌||◌}
use mathlib.Core.Logic.{◌⊎◌, inl, inr}
use Prim.Native.Nat.{ℕ, ◌≤◌, ◌<◌}
use native.Mathlib.Omega.{arith}
use lib.Dec.{eqb}
use borrow.Author.Tests.{eqb-true, le-leb, lt-leb}
use Rattle.header.specs.Bytes.{line_end, hash, digit}

-- LF or CR
abbrev pub Ends : ℕ → Type 0
Ends b = (b ≡ 10) ⊎ (b ≡ 13)

pub line_end_lem : (b : ℕ) → Ends b → line_end b ≡ true
line_end_lem b (inl e) = rw e
line_end_lem b (inr e) = rw e

pub line_end_no_hash : (b : ℕ) → Ends b → b ≡ hash → ⊥
line_end_no_hash b (inl e) h = omega arith
line_end_no_hash b (inr e) h = omega arith

pub ends_of : (b : ℕ) → line_end b ≡ true → Ends b
ends_of b e = by_test (eqb b 10) refl e
  where
    by_test : (t : Bool) → eqb b 10 ≡ t → (t || eqb b 13) ≡ true → Ends b
    by_test true f h = inl (eqb-true b 10 f)
    by_test false f h = inr (eqb-true b 13 h)

-- ---- digits
pub is_digit : (b : ℕ) → 48 ≤ b → b ≤ 57 → digit b ≡ true
is_digit b h g = rw (le-leb 48 b h, le-leb b 57 g)

pub no_digit : (b : ℕ) → (b < 48) ⊎ (57 < b) → digit b ≡ false
no_digit b (inl h) = rw (lt-leb 48 b h)
no_digit b (inr h) = let g : 48 ≤ b = omega arith in rw (le-leb 48 b g, lt-leb b 57 h)

pub line_end_no_digit : (b : ℕ) → Ends b → digit b ≡ false
line_end_no_digit b (inl e) = rw e
line_end_no_digit b (inr e) = rw e
