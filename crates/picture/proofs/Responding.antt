-- From the reading of a picture to what is written for it. Assumes nothing.
use mathlib.Core.Path.{◌≡◌, refl, sym, ◌∙◌, ap, subst}
use mathlib.Core.List.{List}
use Prim.Native.Nat.{ℕ, ◌*◌, ◌≤◌}
use native.Mathlib.Omega.{arith}
use lib.ListN.{length, take, drop, length-append}
use lib.Seq.{length-take-le}
use lib.IntN.{ℤ}
use Rattle.lattice.specs.Point.{most}
use Rattle.lattice.proofs.Rooms.{holding_length}
use Rattle.rows.specs.Row.{Sound}
use Rattle.bitmap.specs.declared.Picture.{Picture}
use Rattle.bitmap.specs.Picture.{reading_of, list_after, PicturePromise}
use Rattle.bitmap.proofs.Accepted.{front, picture_read, picture_refused, picture_points_counted, picture_points_few, picture_points_in_range, picture_points_in_row_order}
use Rattle.csv_text.specs.Text.{refused_text}
use Rattle.picture.specs.Response.{Reports, Responds, Writes, ResponsePromise}

module _ (bytes : List ℕ) (list : List ℤ) (answer : Picture) (after : List ℤ) (p : PicturePromise bytes list answer after) where
  pub reading_declined : (answer.number ≡ 0 → ⊥) → Responds (reading_of bytes) (refused_text answer.number answer.place)
  reading_declined n =
      subst (λ r. Responds r (refused_text answer.number answer.place)) (sym (picture_refused bytes list answer after p n)) refl

  module _ (e : answer.number ≡ 0) where
    pub reading_few : answer.points ≤ most
    reading_few = omega (arith, picture_points_few bytes list answer after p e, picture_points_counted bytes list answer after p e)

    -- they stand in the list, which is as long as before
    pub reading_inside : length list ≡ 2 * most → 2 * answer.points ≤ length after
    reading_inside long =
        let l = front bytes list answer after p e in
        let n = picture_points_counted bytes list answer after p e in
        let w = holding_length l list (omega (arith, long, n, reading_few)) in
        omega (arith, long, n, reading_few, w, ap length (p.stands ∙ ap (λ r. list_after r list) (picture_read bytes list answer after p e)))

    pub reading_sound : length list ≡ 2 * most → Sound (take (2 * answer.points) after)
    reading_sound long = record {
      even = λ odd. omega (arith, odd, length-take-le (2 * answer.points) after (reading_inside long));
      few = picture_points_few bytes list answer after p e;
      range = picture_points_in_range bytes list answer after p e;
      order = picture_points_in_row_order bytes list answer after p e;
    }

    pub reading_reported : (out : List ℕ) (r : ℕ) (out' : List ℕ) → Writes (Reports (front bytes list answer after p e)) out r out'
        → ResponsePromise bytes out r out'
    reading_reported out r out' h = record {
      text = h.text;
      right = subst (λ r. Responds r h.text) (sym (picture_read bytes list answer after p e)) h.right;
      answers = h.answers;
      stands = h.stands;
    }

-- ---- for callers: the answer counts bytes of the room
pub writes_inside : {Right : List ℕ → Type 0} {out : List ℕ} {answer : ℕ} {after : List ℕ} → Writes Right out answer after → answer ≤ length after
writes_inside {Right} {out} h = omega (arith, h.answers, ap length h.stands, length-append h.text (drop (length h.text) out))
