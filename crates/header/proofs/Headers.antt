-- Laws of a header part by part: white space and a size, then the rest; and the sizes of a sound header. Assumes nothing.
use mathlib.Core.Path.{◌≡◌, refl, sym, ◌∙◌, ap, subst}
use mathlib.Core.Bool.{Bool, true, false, false≢true, ◌&&◌}
use mathlib.Core.List.{List}
use Prim.Native.Nat.{ℕ, suc, ◌≤◌}
use borrow.Author.Tests.{leb-true}
use lib.Dec.{leb}
use Rattle.std.specs.Prelude.{Ok, Err}
use Rattle.refusal.specs.declared.Refusal.{Refusal}
use Rattle.refusal.specs.declared.Refusal.TheVariants.{BadHeader}
use Rattle.netpbm.specs.Space.{white_space}
use Rattle.header.specs.declared.Header.{Header}
use Rattle.header.specs.declared.Reader.{Reader}
use Rattle.header.specs.Bytes.{digit, Placed, placed_at_read}
use Rattle.header.specs.Header.{starts, behind, size, greatest_size, in_size, place_in, Checked, unless, size_then, after_height, after_width, header_of}
use Rattle.header.specs.Steps.{left, Sized, Ended}

pub in_size_lem : (n : ℕ) → in_size n ≡ true → (1 ≤ n) × (n ≤ greatest_size)
in_size_lem n e = by_test (leb 1 n) refl e
  where
    by_test : (t : Bool) → leb 1 n ≡ t → (t && leb n greatest_size) ≡ true → (1 ≤ n) × (n ≤ greatest_size)
    by_test true f h = (leb-true 1 n f, leb-true n greatest_size h)
    by_test false f h = absurd (false≢true h)

-- ---- the sizes of a sound header are in range
module _ (h : Header) where
  unless_sound : (t : Bool) (refusal : Refusal) (c : Checked) → unless t (Err refusal) c ≡ Ok h → (t ≡ true) × (c ≡ Ok h)
  unless_sound true refusal c e = (refl, e)
  unless_sound false refusal c e = absurd cc

  size_sound : (bytes : List ℕ) (l : List Placed) (rest : ℕ → List Placed → Checked) → size_then bytes l rest ≡ Ok h
      → (n : ℕ) × (m : List Placed) × (in_size n ≡ true) × (rest n m ≡ Ok h)
  size_sound bytes l rest e =
      let a = unless_sound (starts white_space l) _ _ e in
      let b = unless_sound (in_size (size (behind white_space l))) _ _ a.1 in
      (size (behind white_space l), behind digit (behind white_space l), b.0, b.1)

  pub sound_sizes : (bytes : List ℕ) → header_of bytes ≡ Ok h
      → ((1 ≤ h.width) × (h.width ≤ greatest_size)) × ((1 ≤ h.height) × (h.height ≤ greatest_size))
  sound_sizes bytes e =
      let a = size_sound bytes (placed_at_read bytes 2) (after_width bytes) e in
      let b = size_sound bytes a.1 (after_height bytes a.0) a.3 in
      let l = b.1 in
      let found : Header = record { width = a.0; height = b.0; at = suc (place_in bytes l) } in
      let d = unless_sound (starts white_space l) (BadHeader (place_in bytes l)) (Ok found) b.3 in
      let f : found ≡ h = cc in (
        subst (λ n. (1 ≤ n) × (n ≤ greatest_size)) (ap (λ x. x.width) f) (in_size_lem a.0 a.2),
        subst (λ n. (1 ≤ n) × (n ≤ greatest_size)) (ap (λ x. x.height) f) (in_size_lem b.0 b.2),
      )

-- ---- a header from what is found of its parts
module _ (a b : Reader) where
  pub bad_width : (refusal : Refusal) → Sized a (Err refusal) b → Err refusal ≡ size_then a.bytes.now (left a) (after_width a.bytes.now)
  bad_width refusal w = sym (w.found (after_width a.bytes.now))

  module _ (width : ℕ) (w : Sized a (Ok width) b) (c : Reader) where
    behind_width : (r : Checked) → size_then b.bytes.now (left b) (after_height a.bytes.now width) ≡ r
        → r ≡ size_then a.bytes.now (left a) (after_width a.bytes.now)
    behind_width r e =
        sym (w.found (after_width a.bytes.now) ∙ ap (λ l. size_then l (left b) (after_height a.bytes.now width)) (sym w.same) ∙ e)

    pub bad_height : (refusal : Refusal) → Sized b (Err refusal) c → Err refusal ≡ size_then a.bytes.now (left a) (after_width a.bytes.now)
    bad_height refusal h = behind_width (Err refusal) (h.found (after_height a.bytes.now width))

    module _ (height : ℕ) (h : Sized b (Ok height) c) where
      behind_height : (r : Checked) → after_height c.bytes.now width height (left c) ≡ r
          → r ≡ size_then a.bytes.now (left a) (after_width a.bytes.now)
      behind_height r e =
          behind_width r
          (h.found (after_height a.bytes.now width) ∙ ap (λ l. after_height l width height (left c)) (sym (h.same ∙ w.same)) ∙ e)

      pub bad_end : (refusal : Refusal) → Ended c (Err refusal) → Err refusal ≡ size_then a.bytes.now (left a) (after_width a.bytes.now)
      bad_end refusal e = behind_height (Err refusal) (e width height)

      pub a_header : (place : ℕ) → Ended c (Ok place)
          → Ok (record { width = width; height = height; at = place }) ≡ size_then a.bytes.now (left a) (after_width a.bytes.now)
      a_header place e = behind_height (Ok (record { width = width; height = height; at = place })) (e width height)
