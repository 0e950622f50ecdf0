-- Laws of tallied bytes: how many pass a test, and what plain pixels they are. Assumes nothing.
use mathlib.Core.Path.{◌≡◌, refl, sym, ◌∙◌, ap, subst}
use mathlib.Core.Bool.{Bool, true, false}
use mathlib.Core.List.{List, [], ◌∷◌}
use Prim.Native.Nat.{ℕ, zero, suc, ◌+◌, ◌-◌, ◌≤◌, ◌<◌}
use native.Mathlib.Omega.{arith}
use borrow.Author.Tests.{eqb-true}
use lib.ListN.{length, get_or, take, drop, length-drop}
use lib.Seq.{drop-drop, length-take-le}
use mir.Val.{bool_byte}
use Rattle.netpbm.specs.Space.{white_space}
use Rattle.netpbm.specs.Raster.{pixels}
use Rattle.netpbm.specs.Steps.{whites, WhiteThen, Passes, counted}
use Rattle.netpbm.proofs.Counting.{counted_black, counted_white}
use Rattle.netpbm.proofs.Writing.{onto_pixels}
use Rattle.plain.specs.declared.Tally.{Tally}
use Rattle.plain.specs.Plain.{plain, plain_at}
use Rattle.plain.specs.Steps.{bad_byte, black_byte, white_byte, number, Tallied}
use Rattle.plain.proofs.Plain.{blank_ignored, black_first, white_first}

-- ---- how many pass a test
pub bool_byte_few : (t : Bool) → bool_byte t ≤ 1
bool_byte_few true = omega arith
bool_byte_few false = omega arith

number_drop : (test : ℕ → Bool) (d : ℕ) (l : List ℕ) → number test (drop d l) ≤ number test l
number_drop test zero l = omega arith
number_drop test (suc d) [] = omega arith
number_drop test (suc d) (b ∷ l) = omega (arith, number_drop test d l)

number_few : (test : ℕ → Bool) (l : List ℕ) → number test l ≤ length l
number_few test [] = omega arith
number_few test (b ∷ l) = omega (arith, number_few test l, bool_byte_few (test b))

number_take : (test : ℕ → Bool) (d : ℕ) (l : List ℕ) → number test l ≡ number test (take d l) + number test (drop d l)
number_take test zero l = omega arith
number_take test (suc d) [] = refl
number_take test (suc d) (b ∷ l) = omega (arith, number_take test d l)

-- a byte more
pub number_next : (test : ℕ → Bool) (l : List ℕ) (i : ℕ) → i < length l
    → number test (take (i + 1) l) ≡ number test (take i l) + bool_byte (test (get_or l i 0))
number_next test [] i h = absurd (omega arith)
number_next test (b ∷ l) zero h = omega arith
number_next test (b ∷ l) (suc i) h =
    let e : suc i + 1 ≡ suc (i + 1) = omega arith in
    ap (λ k. number test (take k (b ∷ l))) e ∙ omega (arith, number_next test l i (omega arith))

-- ---- a byte is white space, a pixel or bad
data Kind (b : ℕ) : Type 0 where
  blank : white_space b ≡ true → black_byte b ≡ false → white_byte b ≡ false → Kind b
  black : b ≡ 49 → Kind b
  white : b ≡ 48 → Kind b
  bad : white_space b ≡ false → black_byte b ≡ false → white_byte b ≡ false → Kind b

kind_of : (b : ℕ) → Kind b
kind_of b = by_pixel (black_byte b) refl (white_byte b) refl
  where
    by_space : (t : Bool) → white_space b ≡ t → black_byte b ≡ false → white_byte b ≡ false → Kind b
    by_space true e f g = blank e f g
    by_space false e f g = bad e f g

    by_pixel : (t : Bool) → black_byte b ≡ t → (u : Bool) → white_byte b ≡ u → Kind b
    by_pixel true f u g = black (eqb-true b 49 f)
    by_pixel false f true g = white (eqb-true b 48 g)
    by_pixel false f false g = by_space (white_space b) refl f g

-- ---- bytes of which none is bad are so many pixels, if these are not too many
counted_numbers : (d : ℕ) (l : List ℕ) (n i c dark light : ℕ) → d ≤ length l → number bad_byte l ≡ number bad_byte (drop d l)
    → number black_byte l ≡ dark + number black_byte (drop d l) → number white_byte l ≡ light + number white_byte (drop d l) → dark + light ≤ n
    → counted c (plain l n i) ≡ counted (c + dark) (plain (drop d l) (n - (dark + light)) (i + d))
counted_numbers zero l n i c dark light long none e f few =
    let x : c ≡ c + dark = omega arith in
    let y : n ≡ n - (dark + light) = omega arith in
    let z : i ≡ i + 0 = omega arith in
    λ j. counted (x j) (plain l (y j) (z j))
counted_numbers (suc d) [] n i c dark light long none e f few = absurd (omega arith)
counted_numbers (suc d) (b ∷ l) n i c dark light long none e f few =
    by_kind (kind_of b) n few (λ n c dark light. counted_numbers d l n (suc i) c dark light (omega arith))
  where
    on : suc i + d ≡ i + suc d
    on = omega arith

    by_kind : Kind b → (n : ℕ) → dark + light ≤ n
        → ((n c dark light : ℕ) → number bad_byte l ≡ number bad_byte (drop d l) → number black_byte l ≡ dark + number black_byte (drop d l)
        → number white_byte l ≡ light + number white_byte (drop d l) → dark + light ≤ n
        → counted c (plain l n (suc i)) ≡ counted (c + dark) (plain (drop d l) (n - (dark + light)) (suc i + d)))
        → counted c (plain (b ∷ l) n i) ≡ counted (c + dark) (plain (drop d l) (n - (dark + light)) (i + suc d))
    by_kind (blank s o z) n few again =
        let v : bool_byte (bad_byte b) ≡ 0 = rw s in
        ap (counted c) (blank_ignored b l n i s)
        ∙ again n c dark light (omega arith) (omega (arith, ap bool_byte o)) (omega (arith, ap bool_byte z)) few
        ∙ ap (λ j. counted (c + dark) (plain (drop d l) (n - (dark + light)) j)) on
    by_kind (black g) zero few again = let o : bool_byte (black_byte b) ≡ 1 = rw g in absurd (omega (arith, number_drop black_byte d l))
    by_kind (black g) (suc n) few again =
        let o : bool_byte (black_byte b) ≡ 1 = rw g in
        let z : bool_byte (white_byte b) ≡ 0 = rw g in
        let v : bool_byte (bad_byte b) ≡ 0 = rw g in
        let some : 1 ≤ dark = omega (arith, number_drop black_byte d l) in
        let x : c + 1 + (dark - 1) ≡ c + dark = omega arith in
        let y : n - (dark - 1 + light) ≡ suc n - (dark + light) = omega arith in
        ap (counted c) (black_first b l n i g) ∙ counted_black c (plain l n (suc i))
        ∙ again n (c + 1) (dark - 1) light (omega arith) (omega arith) (omega arith) (omega arith)
        ∙ (λ j. counted (x j) (plain (drop d l) (y j) (on j)))
    by_kind (white g) zero few again = let z : bool_byte (white_byte b) ≡ 1 = rw g in absurd (omega (arith, number_drop white_byte d l))
    by_kind (white g) (suc n) few again =
        let o : bool_byte (black_byte b) ≡ 0 = rw g in
        let z : bool_byte (white_byte b) ≡ 1 = rw g in
        let v : bool_byte (bad_byte b) ≡ 0 = rw g in
        let some : 1 ≤ light = omega (arith, number_drop white_byte d l) in
        let y : n - (dark + (light - 1)) ≡ suc n - (dark + light) = omega arith in
        ap (counted c) (white_first b l n i g) ∙ counted_white c (plain l n (suc i))
        ∙ again n c dark (light - 1) (omega arith) (omega arith) (omega arith) (omega arith)
        ∙ (λ j. counted (c + dark) (plain (drop d l) (y j) (on j)))
    by_kind (bad s o z) n few again =
        let v : bool_byte (bad_byte b) ≡ 1 = rw (s, o, z) in
        absurd (omega (arith, number_drop bad_byte d l))

-- ---- bytes of which none is a black pixel are white ones, where there is no fault
white_numbers : (d : ℕ) (l : List ℕ) (n i m : ℕ) (q : List Bool) → d ≤ length l → number black_byte l ≡ number black_byte (drop d l)
    → number white_byte l ≡ m + number white_byte (drop d l) → plain l n i ≡ pixels q → WhiteThen (plain (drop d l)) n m (i + d) q
white_numbers zero l n i m q long none e f =
    let z : m ≡ 0 = omega arith in
    let a : n - m ≡ n = omega arith in
    let j : i + 0 ≡ i = omega arith in
    record { fits = omega arith; rest = q; behind = (λ k. plain l (a k) (j k)) ∙ f; same = ap (λ k. whites k q) (sym z) }
white_numbers (suc d) [] n i m q long none e f = absurd (omega arith)
white_numbers (suc d) (b ∷ l) n i m q long none e f = by_kind (kind_of b) n m e f (λ n m q. white_numbers d l n (suc i) m q (omega arith))
  where
    on : (n m : ℕ) (q : List Bool) → WhiteThen (plain (drop d l)) n m (suc i + d) q → WhiteThen (plain (drop d l)) n m (i + suc d) q
    on n m q w = let j : suc i + d ≡ i + suc d = omega arith in subst (λ k. WhiteThen (plain (drop d l)) n m k q) j w

    by_kind : Kind b → (n m : ℕ) → number white_byte (b ∷ l) ≡ m + number white_byte (drop d l) → plain (b ∷ l) n i ≡ pixels q
        → ((n m : ℕ) (q : List Bool) → number black_byte l ≡ number black_byte (drop d l) → number white_byte l ≡ m + number white_byte (drop d l)
        → plain l n (suc i) ≡ pixels q → WhiteThen (plain (drop d l)) n m (suc i + d) q)
        → WhiteThen (plain (drop d l)) n m (i + suc d) q
    by_kind (blank s o z) n m e f again =
        on n m q (again n m q (omega (arith, ap bool_byte o)) (omega (arith, ap bool_byte z)) (sym (blank_ignored b l n i s) ∙ f))
    by_kind (black g) n m e f again = let o : bool_byte (black_byte b) ≡ 1 = rw g in absurd (omega (arith, number_drop black_byte d l))
    by_kind (white g) zero m e f again = absurd (let h = rw g at f in cc)
    by_kind (white g) (suc n) zero e f again = let o : bool_byte (white_byte b) ≡ 1 = rw g in absurd (omega (arith, number_drop white_byte d l))
    by_kind (white g) (suc n) (suc m) e f again =
        let o : bool_byte (black_byte b) ≡ 0 = rw g in
        let z : bool_byte (white_byte b) ≡ 1 = rw g in
        let r = onto_pixels false (plain l n (suc i)) q (sym (white_first b l n i g) ∙ f) in
        let w = on n m r.0 (again n m r.0 (omega arith) (omega arith) r.1) in
        let a : suc n - suc m ≡ n - m = omega arith in
        record {
          fits = omega (arith, w.fits);
          rest = w.rest;
          behind = ap (λ k. plain (drop d l) k (i + suc d)) a ∙ w.behind;
          same = r.2 ∙ ap (λ p. false ∷ p) w.same;
        }
    by_kind (bad s o z) zero m e f again = absurd (let h = rw s at f in cc)
    by_kind (bad s o z) (suc n) m e f again = absurd (let h = rw (s, o, z) at f in cc)

-- ---- a stretch of the file: l holds the d bytes from place i on
module _ (bytes : List ℕ) (i d : ℕ) (l : List ℕ) (inside : i + d ≤ length bytes) (same : l ≡ take d (drop i bytes)) (t : Tally) (h : Tallied l t) where
  behind : drop d (drop i bytes) ≡ drop (i + d) bytes
  behind = drop-drop d i bytes

  long : d ≤ length (drop i bytes)
  long = omega (arith, inside, length-drop i bytes)

  more : (test : ℕ → Bool) → number test (drop i bytes) ≡ number test l + number test (drop d (drop i bytes))
  more test = number_take test d (drop i bytes) ∙ ap (λ k. number test k + number test (drop d (drop i bytes))) (sym same)

  few : length l ≤ d
  few = omega (arith, ap length same, length-take-le d (drop i bytes) long)

  pub part_few : (t.black ≤ d) × (t.white ≤ d)
  part_few = (omega (arith, few, h.black, number_few black_byte l), omega (arith, few, h.white, number_few white_byte l))

  pub counted_part : t.bad ≡ 0 → (n c : ℕ) → t.black + t.white ≤ n
      → counted c (plain_at bytes n i) ≡ counted (c + t.black) (plain_at bytes (n - (t.black + t.white)) (i + d))
  counted_part none n c small =
      counted_numbers d (drop i bytes) n i c t.black t.white long
      (omega (arith, more bad_byte, h.bad))
      (omega (arith, more black_byte, h.black))
      (omega (arith, more white_byte, h.white))
      small
      ∙ ap (λ k. counted (c + t.black) (plain k (n - (t.black + t.white)) (i + d))) behind

  pub passes_part : t.black ≡ 0 → Passes (plain_at bytes) i t.white (i + d)
  passes_part none n m e =
      let w = white_numbers d (drop i bytes) n i t.white m long (omega (arith, more black_byte, h.black)) (omega (arith, more white_byte, h.white)) e in
      record {
        fits = w.fits;
        rest = w.rest;
        behind = ap (λ k. plain k (n - t.white) (i + d)) (sym behind) ∙ w.behind;
        same = w.same;
      }
