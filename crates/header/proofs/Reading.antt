-- Laws of the bytes of a header as they are read: one byte more, outside a comment and in one. Assumes nothing.
use mathlib.Core.Path.{◌≡◌, refl, sym, ◌∙◌, ap}
use mathlib.Core.Bool.{Bool, true, false, cond}
use mathlib.Core.List.{List, [], ◌∷◌}
use Prim.Native.Nat.{ℕ, suc, ◌+◌, ◌≤◌, ◌<◌}
use native.Mathlib.Numerals.{add-one}
use native.Mathlib.Omega.{arith}
use borrow.Author.Tests.{eq-eqb, ne_eqb}
use lib.ListN.{length, get_or, drop, length-drop}
use lib.Seq.{drop-cons, drop-drop}
use Rattle.std.proofs.lemmas.List.{get_or-drop}
use Rattle.header.specs.Bytes.{line_end, hash, read_in, placed_at_read}
use Rattle.header.specs.Steps.{Settled}
use Rattle.header.proofs.Tests.{line_end_no_hash, ends_of}

-- ---- the byte at i, then those from i + 1 on
module _ (bytes : List ℕ) (i : ℕ) (inside : i < length bytes) where
  abbrev byte_at : ℕ
  byte_at = get_or bytes i 0

  one_more : (c : Bool) → read_in c (drop i bytes) i ≡ read_in c (byte_at ∷ drop (i + 1) bytes) i
  one_more c = rw (add-one, drop-cons bytes i 0)

  pub comment_begins : byte_at ≡ hash → placed_at_read bytes i ≡ read_in true (drop (i + 1) bytes) (i + 1)
  comment_begins e = one_more false ∙ rw (eq-eqb byte_at hash e, add-one)

  pub read_byte : (byte_at ≡ hash → ⊥) → placed_at_read bytes i ≡ record { byte = byte_at; place = i } ∷ placed_at_read bytes (i + 1)
  read_byte n = one_more false ∙ rw (ne_eqb byte_at hash n, add-one)

-- ---- how many bytes of a comment stand before its line end, or before the end of the file
abbrev pub comment_length : List ℕ → ℕ
comment_length [] = 0
comment_length (b ∷ l) = cond (line_end b) 0 (suc (comment_length l))

-- behind them the same is read
comment_passed : (l : List ℕ) (i : ℕ) → read_in true l i ≡ read_in false (drop (comment_length l) l) (i + comment_length l)
comment_passed [] i = refl
comment_passed (b ∷ l) i = by_end (line_end b) refl (comment_passed l (suc i))
  where
    by_end : (t : Bool) → line_end b ≡ t → read_in true l (suc i) ≡ read_in false (drop (comment_length l) l) (suc i + comment_length l)
        → cond t (record { byte = b; place = i } ∷ read_in false l (suc i)) (read_in true l (suc i))
        ≡ read_in false (drop (cond t 0 (suc (comment_length l))) (b ∷ l)) (i + cond t 0 (suc (comment_length l)))
    by_end true e h =
        let z : i ≡ i + 0 = omega arith in
        let text : read_in false (b ∷ l) i ≡ record { byte = b; place = i } ∷ read_in false l (suc i) =
        rw (ne_eqb b hash (line_end_no_hash b (ends_of b e))) in
        sym text ∙ ap (read_in false (b ∷ l)) z
    by_end false e h =
        let z : suc i + comment_length l ≡ i + suc (comment_length l) = omega arith in
        h ∙ ap (read_in false (drop (comment_length l) l)) z

comment_within : (l : List ℕ) → comment_length l ≤ length l
comment_within [] = omega arith
comment_within (b ∷ l) = by_end (line_end b) (comment_within l)
  where
    by_end : (t : Bool) → comment_length l ≤ length l → cond t 0 (suc (comment_length l)) ≤ suc (length l)
    by_end true h = omega arith
    by_end false h = omega arith

-- what stands there is no #
comment_settled : (l : List ℕ) → comment_length l < length l → get_or l (comment_length l) 0 ≡ hash → ⊥
comment_settled [] h e = omega arith
comment_settled (b ∷ l) h e = by_end (line_end b) refl (comment_settled l) h e
  where
    by_end : (t : Bool) → line_end b ≡ t → (comment_length l < length l → get_or l (comment_length l) 0 ≡ hash → ⊥)
        → cond t 0 (suc (comment_length l)) < suc (length l)
        → get_or (b ∷ l) (cond t 0 (suc (comment_length l))) 0 ≡ hash → ⊥
    by_end true f again g k = line_end_no_hash b (ends_of b f) k
    by_end false f again g k = again (omega arith) k

module _ (bytes : List ℕ) (at n : ℕ) (e : comment_length (drop at bytes) ≡ n) where
  pub comment_reads : read_in true (drop at bytes) at ≡ placed_at_read bytes (at + n)
  comment_reads =
      comment_passed (drop at bytes) at ∙ (λ k. read_in false (drop (e k) (drop at bytes)) (at + e k))
      ∙ ap (λ r. read_in false r (at + n)) (drop-drop n at bytes)

  pub comment_stops : Settled bytes (at + n)
  comment_stops h g =
      comment_settled (drop at bytes) (omega (arith, length-drop at bytes))
      (ap (λ k. get_or (drop at bytes) k 0) e ∙ get_or-drop at bytes n 0 ∙ g)
