-- Laws of a bitmap as a whole: what it says, from what its parts say. Assumes nothing.
use mathlib.Core.Path.{◌≡◌, sym, ◌∙◌, ap}
use mathlib.Core.Bool.{true, false≢true}
use mathlib.Core.List.{List, [], ◌∷◌}
use Prim.Native.Nat.{ℕ, ◌*◌, ◌≤◌, ◌<◌}
use native.Mathlib.Nat.{mul-le-mul}
use native.Mathlib.Omega.{arith}
use borrow.Author.Rules.{rules}
use borrow.Author.Tests.{lt-ltb, le-ltb, tests}
use lib.Dec.{eqb}
use lib.ListN.{length}
use lib.IntN.{ℤ}
use Rattle.lattice.specs.Point.{most}
use Rattle.std.specs.Prelude.{nat_eq, Ok}
use Rattle.std.specs.List.{starts_with}
use Rattle.netpbm.specs.Raster.{Raster, black, black_in}
use Rattle.netpbm.specs.Steps.{counted, Writable}
use Rattle.netpbm.proofs.Counting.{counted_pixels}
use Rattle.header.specs.declared.Header.{Header}
use Rattle.header.specs.Header.{greatest_size, header_of}
use Rattle.header.proofs.Headers.{sound_sizes}
use Rattle.plain.specs.Plain.{plain_at}
use Rattle.bitmap.specs.declared.Picture.{Picture}
use Rattle.bitmap.specs.Picture.{Reading, picture, refused, longest, begins_p1, rastered, headed, reading_of, answer_of, list_after, PicturePromise}

-- ---- a file that starts with the text P1 begins with it
pub begins_so : (bytes : List ℕ) → starts_with nat_eq bytes (80 ∷ 49 ∷ []) ≡ true → begins_p1 bytes ≡ true
begins_so [] e = absurd (false≢true e)
begins_so (a ∷ []) e = search (rules, tests)
begins_so (a ∷ b ∷ l) e = search (rules, tests)

-- ---- the reading, behind a header
pub to_raster : (bytes : List ℕ) → length bytes ≤ longest → begins_p1 bytes ≡ true → (h : Header) → header_of bytes ≡ Ok h
    → reading_of bytes ≡ rastered h.width h.height (plain_at bytes (h.width * h.height) h.at)
to_raster bytes few begins h e =
    let to_header : reading_of bytes ≡ headed bytes (header_of bytes) = rw (le-ltb longest (length bytes) few, begins) in
    to_header ∙ ap (headed bytes) e

-- ---- what the raster makes of it, from its count
module _ (width height : ℕ) (r : Raster) (c : ℕ) (e : Ok c ≡ counted 0 r) where
  counted_length : length (black_in width r) ≡ c
  counted_length = let p = counted_pixels width r c e in ap (λ q. length (black_in width q)) p.1 ∙ p.2

  pub an_answer : record { number = 0; place = 0; points = c; width = width; height = height } ≡ answer_of (picture width height (black_in width r))
  an_answer = λ i. record { number = 0; place = 0; points = sym counted_length i; width = width; height = height }

  pub too_many : most < c → rastered width height r ≡ refused 2 0
  too_many h =
      let p = counted_pixels width r c e in
      let g : most < length (black width 0 p.0) = omega (arith, p.2) in
      ap (rastered width height) p.1 ∙ rw (lt-ltb most (length (black width 0 p.0)) g)

  pub a_picture : c ≤ most → rastered width height r ≡ picture width height (black_in width r)
  a_picture h =
      let p = counted_pixels width r c e in
      let g : length (black width 0 p.0) ≤ most = omega (arith, p.2) in
      ap (rastered width height) p.1 ∙ rw (le-ltb most (length (black width 0 p.0)) g)
      (ap (λ q. picture width height (black_in width q)) (sym p.1))

-- ---- what is asked to write the points
pub pixel_count : (bytes : List ℕ) (h : Header) → header_of bytes ≡ Ok h → h.width * h.height ≤ greatest_size * greatest_size
pixel_count bytes h e = let s = sound_sizes h bytes e in mul-le-mul s.0.1 s.1.1

pub writable : (bytes : List ℕ) (h : Header) → header_of bytes ≡ Ok h
    → (c : ℕ) → Ok c ≡ counted 0 (plain_at bytes (h.width * h.height) h.at) → c ≤ most
    → (list : List ℤ) → 2 * most ≤ length list → Writable (plain_at bytes (h.width * h.height) h.at) h.width (h.width * h.height) list
writable bytes h e c f few list room =
    let r = plain_at bytes (h.width * h.height) h.at in
    let p = counted_pixels h.width r c f in
    record {
      sound = (p.0, p.1);
      few = omega (arith, counted_length h.width h.height r c f);
      wide = (sound_sizes h bytes e).0.0;
      small = omega (arith, pixel_count bytes h e);
      room = room;
    }

-- ---- the promise, from the reading
pub promised : (bytes : List ℕ) (r : Reading) → reading_of bytes ≡ r → (list : List ℤ) (answer : Picture) (after : List ℤ)
    → answer ≡ answer_of r → after ≡ list_after r list → PicturePromise bytes list answer after
promised bytes r e list answer after a s =
    record { answers = a ∙ ap answer_of (sym e); stands = s ∙ ap (λ q. list_after q list) (sym e) }
