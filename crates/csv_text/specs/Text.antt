-- The text of a report and of a refusal, byte by byte (document 01, "Plain bitmap in, CSV out"; RFC 4180). Assumes nothing.
use Rattle.std.specs.Prelude.{cond, List, [], ◌∷◌, ◌++◌, ℕ, zero, suc, ◌+◌, ◌/◌, ◌%◌, ltb, length, ℤ, pos, negsuc}
use Rattle.lattice.specs.Point.{Point, points}

-- the decimal digits of n, no more than k + 1 of them; n + 1 digits are always enough
abbrev pub digits : ℕ → ℕ → List ℕ
digits zero n = (48 + n % 10) ∷ []
digits (suc k) n =
    let front = digits k (n / 10) in
    cond (ltb n 10) ((48 + n) ∷ []) (front ++ (48 + n % 10) ∷ [])

abbrev pub natural : ℕ → List ℕ
natural n = digits n n

-- a minus sign before a number below 0
abbrev pub whole : ℤ → List ℕ
whole (pos n) = natural n
whole (negsuc n) = 45 ∷ natural (suc n)

-- three fields with commas between them, ended by CR LF
abbrev pub line : List ℕ → List ℕ → List ℕ → List ℕ
line a b c = a ++ 44 ∷ (b ++ 44 ∷ (c ++ 13 ∷ 10 ∷ []))

-- kind,x,y
abbrev pub heading : List ℕ
heading = line (107 ∷ 105 ∷ 110 ∷ 100 ∷ []) (120 ∷ []) (121 ∷ [])

-- corner, missing, total, refused
abbrev pub corner : List ℕ
corner = 99 ∷ 111 ∷ 114 ∷ 110 ∷ 101 ∷ 114 ∷ []

abbrev pub missing : List ℕ
missing = 109 ∷ 105 ∷ 115 ∷ 115 ∷ 105 ∷ 110 ∷ 103 ∷ []

abbrev pub total : List ℕ
total = 116 ∷ 111 ∷ 116 ∷ 97 ∷ 108 ∷ []

abbrev pub refused : List ℕ
refused = 114 ∷ 101 ∷ 102 ∷ 117 ∷ 115 ∷ 101 ∷ 100 ∷ []

-- a line for each point
abbrev pub point_lines : List ℕ → List Point → List ℕ
point_lines kind [] = []
point_lines kind (p ∷ l) = line kind (whole p.x) (whole p.y) ++ point_lines kind l

-- "a heading, each corner, each missing point, and a total line with the number of points and of missing points"
abbrev pub text_of : List Point → List Point → ℕ → List ℕ
text_of corners absent count =
    heading ++ (point_lines corner corners ++ (point_lines missing absent ++ line total (natural count) (natural (length absent))))

abbrev pub report_text : List ℤ → List ℤ → ℕ → List ℕ
report_text corners absent count = text_of (points corners) (points absent) count

-- "A declined picture gives one line and no heading: refused, number, place."
abbrev pub refused_text : ℕ → ℕ → List ℕ
refused_text number place = line refused (natural number) (natural place)
