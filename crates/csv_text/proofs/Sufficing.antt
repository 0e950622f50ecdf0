-- `room` suffices for the report of any grain that a picture can hold, and for any refusal. Assumes nothing.
use mathlib.Core.Path.{◌≡◌, ap}
use mathlib.Core.List.{List, [], ◌∷◌, ◌++◌}
use Prim.Native.Nat.{ℕ, zero, suc, ◌+◌, ◌*◌, ◌/◌, ◌%◌, ◌^◌, ◌≤◌, ◌<◌}
use native.Mathlib.Nat.{mul-suc}
use native.Mathlib.Omega.{arith}
use lib.Dec.{leb→le}
use lib.ListN.{length, length-append}
use lib.IntN.{ℤ, pos, negsuc}
use lib.Signed.{◌≤ℤ◌}
use Rattle.lattice.specs.Point.{Point, least, greatest, InRange, most, All}
use Rattle.lattice.proofs.Lists.{either}
use Rattle.lattice.proofs.Places.{lt_or_le}
use Rattle.csv_text.specs.Text.{natural, whole, line, heading, corner, missing, total, refused, point_lines, text_of, refused_text}
use Rattle.csv_text.specs.Written.{most_missing, room}
use Rattle.csv_text.proofs.Numbers.{natural_one, natural_more}

-- ---- numbers of few digits
abbrev bound : ℕ → ℕ
bound zero = 1
bound (suc k) = 10 * bound k

natural_length : (k n : ℕ) → n < bound (suc k) → length (natural n) ≤ suc k
natural_length zero n h = omega (arith, ap length (natural_one n h))
natural_length (suc k) n h =
    either (lt_or_le n 10)
    (λ g. omega (arith, ap length (natural_one n g)))
    (λ g. omega (arith, ap length (natural_more n g), length-append (natural (n / 10)) ((48 + n % 10) ∷ []), natural_length k (n / 10) (omega arith)))

whole_length : (z : ℤ) → least ≤ℤ z → z ≤ℤ greatest → length (whole z) ≤ 5
whole_length (pos n) h g = let l = leb→le n 8191 g.le in omega (arith, natural_length 3 n (omega arith))
whole_length (negsuc n) h g = let l = leb→le n 8191 h.le in omega (arith, natural_length 3 (suc n) (omega arith))

-- ---- lines
line_length : (a b c : List ℕ) → length (line a b c) ≡ length a + length b + length c + 4
line_length a b c =
    omega (
      arith,
      length-append a (44 ∷ (b ++ 44 ∷ (c ++ 13 ∷ 10 ∷ []))),
      length-append b (44 ∷ (c ++ 13 ∷ 10 ∷ [])),
      length-append c (13 ∷ 10 ∷ []),
    )

lines_length : (kind : List ℕ) (l : List Point) → All InRange l → length (point_lines kind l) ≤ (length kind + 14) * length l
lines_length kind [] h = omega arith
lines_length kind (p ∷ l) h =
    let first = line kind (whole p.x) (whole p.y) in
    omega (
      arith,
      length-append first (point_lines kind l),
      line_length kind (whole p.x) (whole p.y),
      whole_length p.x h.0.x_from h.0.x_to,
      whole_length p.y h.0.y_from h.0.y_to,
      lines_length kind l h.1,
      mul-suc (length kind + 14) (length l),
    )

-- ---- the whole text
pub room_suffices : (corners absent : List Point) (count : ℕ) → length corners ≤ most → length absent ≤ most_missing → count ≤ most
    → All InRange corners → All InRange absent → length (text_of corners absent count) ≤ room
room_suffices corners absent count few less counted h g =
    let last = line total (natural count) (natural (length absent)) in
    omega (
      arith,
      length-append heading (point_lines corner corners ++ (point_lines missing absent ++ last)),
      length-append (point_lines corner corners) (point_lines missing absent ++ last),
      length-append (point_lines missing absent) last,
      line_length total (natural count) (natural (length absent)),
      lines_length corner corners h,
      lines_length missing absent g,
      natural_length 3 count (omega arith),
      natural_length 3 (length absent) (omega arith),
    )

pub room_suffices_refused : (number place : ℕ) → number < 2 ^ 64 → place < 2 ^ 64 → length (refused_text number place) ≤ room
room_suffices_refused number place h g =
    omega (
      arith,
      line_length refused (natural number) (natural place),
      natural_length 19 number (omega arith),
      natural_length 19 place (omega arith),
    )
