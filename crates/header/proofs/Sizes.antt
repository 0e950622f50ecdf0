-- Laws of the loop that reads the digits of a size, whose value stops growing one above the greatest size. Assumes nothing.
use mathlib.Core.Path.{◌≡◌, refl, sym, ◌∙◌, ap}
use mathlib.Core.Bool.{Bool, true, false, cond}
use mathlib.Core.List.{List, [], ◌∷◌}
use Prim.Native.Nat.{ℕ, suc, ◌+◌, ◌*◌, ◌-◌, ◌≤◌, ◌<◌, min}
use native.Mathlib.Omega.{arith}
use borrow.Author.Tests.{eqb-true, eqb-false}
use lib.Dec.{eqb}
use lib.ListN.{length, get_or, take, drop}
use Rattle.std.proofs.lemmas.List.{take_rest, get_or-drop}
use Rattle.header.specs.Bytes.{line_end, hash, digit, Placed, read_in, placed_at_read}
use Rattle.header.specs.Header.{starts, behind, decimal, size as size_of, greatest_size}
use Rattle.header.proofs.Reading.{read_byte, comment_begins}
use Rattle.header.proofs.Tests.{is_digit, line_end_no_digit, ends_of}
use Rattle.header.proofs.Parts.{behind_stops, behind_goes, starts_byte}

abbrev pub limit : ℕ
limit = suc greatest_size

-- ---- digits
decimal_stops : (v : ℕ) (l : List Placed) → starts digit l ≡ false → decimal v l ≡ v
decimal_stops v [] e = refl
decimal_stops v (p ∷ l) e = rw e

-- values that differ only above the limit stay so
decimal_limited : (l : List Placed) (v w : ℕ) → min limit v ≡ min limit w → min limit (decimal v l) ≡ min limit (decimal w l)
decimal_limited [] v w e = e
decimal_limited (p ∷ l) v w e = by_digit_lem (digit p.byte) (decimal_limited l (10 * v + (p.byte - 48)) (10 * w + (p.byte - 48)) (omega arith))
  where
    by_digit_lem : (t : Bool) → min limit (decimal (10 * v + (p.byte - 48)) l) ≡ min limit (decimal (10 * w + (p.byte - 48)) l)
        → min limit (cond t (decimal (10 * v + (p.byte - 48)) l) v) ≡ min limit (cond t (decimal (10 * w + (p.byte - 48)) l) w)
    by_digit_lem true h = h
    by_digit_lem false h = e

-- a comment is no digit
comment_no_digit : (l : List ℕ) (i : ℕ) → starts digit (read_in true l i) ≡ false
comment_no_digit [] i = refl
comment_no_digit (b ∷ l) i = by_end (line_end b) refl (comment_no_digit l (suc i))
  where
    by_end : (t : Bool) → line_end b ≡ t → starts digit (read_in true l (suc i)) ≡ false
        → starts digit (cond t (record { byte = b; place = i } ∷ read_in false l (suc i)) (read_in true l (suc i))) ≡ false
    by_end true e h = line_end_no_digit b (ends_of b e)
    by_end false e h = h

-- where no digit stands none is read
pub no_digit_read : (bytes : List ℕ) (i : ℕ) → i < length bytes → digit (get_or bytes i 0) ≡ false → starts digit (placed_at_read bytes i) ≡ false
no_digit_read bytes i inside e = by_hash (eqb (get_or bytes i 0) hash) refl
  where
    by_hash : (t : Bool) → eqb (get_or bytes i 0) hash ≡ t → starts digit (placed_at_read bytes i) ≡ false
    by_hash true f =
        ap (starts digit) (comment_begins bytes i inside (eqb-true (get_or bytes i 0) hash f)) ∙ comment_no_digit (drop (i + 1) bytes) (i + 1)
    by_hash false f = starts_byte digit bytes i inside (λ _. eqb-false (get_or bytes i 0) hash f) ∙ e

-- ---- the digits from a place to i make `size`, as far as that matters
pub record Sizing (bytes : List ℕ) (at size i : ℕ) : Type 0 where
  pub value : min limit (decimal size (placed_at_read bytes i)) ≡ min limit (size_of (placed_at_read bytes at))
  pub small : size ≤ limit
  pub reads : behind digit (placed_at_read bytes at) ≡ behind digit (placed_at_read bytes i)
  pub inside : i ≤ length bytes

module _ (bytes : List ℕ) (at size i : ℕ) (h : Sizing bytes at size i) where
  pub sizing_more : i < length bytes → 48 ≤ get_or bytes i 0 → get_or bytes i 0 ≤ 57
      → (r : ℕ) → r ≡ min limit (10 * size + (get_or bytes i 0 - 48)) → Sizing bytes at r (i + 1)
  sizing_more l f g r k =
      let b = get_or bytes i 0 in
      let v = 10 * size + (b - 48) in
      let rest = placed_at_read bytes (i + 1) in
      let settled : b ≡ hash → ⊥ = λ e. omega arith in
      let one : decimal size (placed_at_read bytes i) ≡ decimal v rest = ap (decimal size) (read_byte bytes i l settled) ∙ rw (is_digit b f g) in
      let same : min limit r ≡ min limit v = omega arith in
      record {
        value = decimal_limited rest r v same ∙ ap (min limit) (sym one) ∙ h.value;
        small = omega arith;
        reads = h.reads ∙ behind_goes digit bytes i l (λ _. settled) (is_digit b f g);
        inside = omega arith;
      }

  pub sizing_ends : starts digit (placed_at_read bytes i) ≡ false
      → (size ≡ min limit (size_of (placed_at_read bytes at))) × (behind digit (placed_at_read bytes at) ≡ placed_at_read bytes i)
  sizing_ends e =
      (omega (arith, h.value, h.small, decimal_stops size (placed_at_read bytes i) e), h.reads ∙ behind_stops digit (placed_at_read bytes i) e)

-- the byte that stands at place i behind a place, in what is left of the file there
pub byte_behind : (bytes : List ℕ) (at i : ℕ) → get_or (take (length bytes - at) (drop at bytes)) i 0 ≡ get_or bytes (at + i) 0
byte_behind bytes at i = ap (λ l. get_or l i 0) (take_rest bytes at) ∙ get_or-drop at bytes i 0
