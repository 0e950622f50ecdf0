-- The points of an accepted picture are its black pixels, few, in range and strictly in row order, so that the calls over points accept
-- them. Assumes nothing.
use mathlib.Core.Path.{◌≡◌, refl, sym, ◌∙◌, ap, subst}
use mathlib.Core.Bool.{Bool, true, false, cond}
use mathlib.Core.List.{List}
use Prim.Native.Nat.{ℕ, ◌*◌, ◌≤◌, ◌<◌}
use native.Mathlib.Omega.{arith}
use borrow.Author.Tests.{ltb-false}
use lib.Dec.{ltb}
use lib.ListN.{length, take, drop}
use lib.IntN.{ℤ}
use Rattle.lattice.specs.Point.{Point, InRange, most, points, All, Pairs, Before, Lists}
use Rattle.lattice.proofs.Rooms.{holding_points}
use Rattle.std.specs.Prelude.{Ok, Err}
use Rattle.refusal.specs.declared.Refusal.{Refusal}
use Rattle.refusal.specs.declared.Refusal.TheVariants.{OddLength, TooManyPoints, OutOfRange, Repeated, OrderedTooSmall, CornersTooSmall, MissingTooSmall, NoCornerList, Strays, Misplaced, TooManyResult, PointsTooSmall, PictureTooLong, NoP1, BadHeader, BadPixel, PixelsEndEarly, BytesAfterPixels}
use Rattle.refusal.specs.Number.{number_of}
use Rattle.netpbm.specs.Raster.{Raster, pixels, fault, black}
use Rattle.netpbm.proofs.Points.{BlackPixel, black_lists, black_range}
use Rattle.header.specs.declared.Header.{Header}
use Rattle.header.specs.Header.{Checked, header_of}
use Rattle.header.proofs.Headers.{sound_sizes}
use Rattle.plain.specs.Plain.{plain_at}
use Rattle.plain.proofs.Outcome.{plain_length}
use Rattle.bitmap.specs.declared.Picture.{Picture}
use Rattle.bitmap.specs.Picture.{Reading, picture, refused, longest, begins_p1, rastered, headed, reading_of, answer_of, list_after, PicturePromise}

-- ---- a refusal has a number, and a picture's points are its black pixels, as the calls over points want them
pub record Drawn (bytes : List ℕ) (width height : ℕ) (l : List Point) : Type 0 where
  pub at : ℕ
  pub colours : List Bool
  pub header : header_of bytes ≡ Ok (record { width = width; height = height; at = at })
  pub raster : plain_at bytes (width * height) at ≡ pixels colours
  pub lists : Lists (BlackPixel width colours) l
  pub few : length l ≤ most
  pub range : All InRange l

abbrev pub Fair : List ℕ → Reading → Type 0
Fair bytes (picture width height l) = Drawn bytes width height l
Fair bytes (refused number place) = 0 < number

either_fair : (bytes : List ℕ) (t : Bool) (a b : Reading) → (t ≡ true → Fair bytes a) → (t ≡ false → Fair bytes b) → Fair bytes (cond t a b)
either_fair bytes true a b f g = f refl
either_fair bytes false a b f g = g refl

-- a refusal has a number
pub numbered : (refusal : Refusal) → 0 < number_of refusal
numbered OddLength = omega arith
numbered TooManyPoints = omega arith
numbered (OutOfRange place) = omega arith
numbered (Repeated place) = omega arith
numbered OrderedTooSmall = omega arith
numbered CornersTooSmall = omega arith
numbered MissingTooSmall = omega arith
numbered NoCornerList = omega arith
numbered (Strays place) = omega arith
numbered (Misplaced place) = omega arith
numbered TooManyResult = omega arith
numbered PointsTooSmall = omega arith
numbered PictureTooLong = omega arith
numbered NoP1 = omega arith
numbered (BadHeader place) = omega arith
numbered (BadPixel place) = omega arith
numbered (PixelsEndEarly place) = omega arith
numbered (BytesAfterPixels place) = omega arith

reading_fair : (bytes : List ℕ) → Fair bytes (reading_of bytes)
reading_fair bytes =
    either_fair bytes (ltb longest (length bytes)) (refused 20 longest) (cond (begins_p1 bytes) (headed bytes (header_of bytes)) (refused 21 0))
    (λ _. omega arith)
    (λ _. either_fair bytes (begins_p1 bytes) (headed bytes (header_of bytes)) (refused 21 0) (λ _. by_header (header_of bytes) refl) (λ _. omega arith))
  where
    by_raster : (h : Header) → header_of bytes ≡ Ok h
        → (r : Raster) → plain_at bytes (h.width * h.height) h.at ≡ r → Fair bytes (rastered h.width h.height r)
    by_raster h e (pixels l) f =
        let s = sound_sizes h bytes e in
        let points = black h.width 0 l in
        either_fair bytes (ltb most (length points)) (refused 2 0) (picture h.width h.height points) (λ _. omega arith)
        (λ g. record {
          at = h.at;
          colours = l;
          header = e;
          raster = f;
          lists = black_lists h.width l s.0.0;
          few = ltb-false most (length points) g;
          range =
              black_range h.width h.height l s.0.0 (omega (arith, s.0.1)) (omega (arith, s.1.1))
              (plain_length (drop h.at bytes) (h.width * h.height) h.at l f);
        })
    by_raster h e (fault refusal) f = numbered refusal

    by_header : (c : Checked) → header_of bytes ≡ c → Fair bytes (headed bytes c)
    by_header (Ok h) e = by_raster h e (plain_at bytes (h.width * h.height) h.at) refl
    by_header (Err refusal) e = numbered refusal

-- ---- over the promise
module _ (bytes : List ℕ) (list : List ℤ) (answer : Picture) (after : List ℤ) (h : PicturePromise bytes list answer after)
    (accepted : answer.number ≡ 0) where
  -- the points that stand at the front of the list
  abbrev pub front : List Point
  front = points (take (2 * answer.points) after)

  read_as : (r : Reading) → reading_of bytes ≡ r → Fair bytes r → reading_of bytes ≡ picture answer.width answer.height front
  read_as (picture width height l) e f =
      e ∙ (λ i. picture (sym (told (λ a. a.width)) i) (sym (told (λ a. a.height)) i) (sym same i))
    where
      told : (part : Picture → ℕ) → part answer ≡ part (answer_of (picture width height l))
      told part = ap part (h.answers ∙ ap answer_of e)

      same : front ≡ l
      same =
          ap (λ a. points (take (2 * answer.points) a)) (h.stands ∙ ap (λ r. list_after r list) e)
          ∙ holding_points l list answer.points (told (λ a. a.points))
  read_as (refused number place) e f = absurd (never (sym (ap (λ a. a.number) (h.answers ∙ ap answer_of e))))
    where
      never : number ≡ answer.number → ⊥
      never g = omega (arith, g, accepted, f)

  -- they are what is read
  pub picture_read : reading_of bytes ≡ picture answer.width answer.height front
  picture_read = read_as (reading_of bytes) refl (reading_fair bytes)

  -- the points are the black pixels, each once, in row order
  pub picture_points_drawn : Drawn bytes answer.width answer.height front
  picture_points_drawn = subst (Fair bytes) picture_read (reading_fair bytes)

  pub picture_points_counted : length front ≡ answer.points
  picture_points_counted = sym (ap (λ a. a.points) (h.answers ∙ ap answer_of picture_read))

  pub picture_points_few : length front ≤ most
  picture_points_few = picture_points_drawn.few

  pub picture_points_in_range : All InRange front
  picture_points_in_range = picture_points_drawn.range

  pub picture_points_in_row_order : Pairs Before front
  picture_points_in_row_order = picture_points_drawn.lists.order

-- a declined picture is read as the refusal that is answered
pub picture_refused : (bytes : List ℕ) (list : List ℤ) (answer : Picture) (after : List ℤ) → PicturePromise bytes list answer after
    → (answer.number ≡ 0 → ⊥) → reading_of bytes ≡ refused answer.number answer.place
picture_refused bytes list answer after h declined = by_reading (reading_of bytes) refl
  where
    by_reading : (r : Reading) → reading_of bytes ≡ r → reading_of bytes ≡ refused answer.number answer.place
    by_reading (picture width height l) e = absurd (declined (ap (λ a. a.number) (h.answers ∙ ap answer_of e)))
    by_reading (refused number place) e =
        let told = sym (h.answers ∙ ap answer_of e) in e ∙ (λ i. refused (told i).number (told i).place)
