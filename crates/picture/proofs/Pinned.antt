-- For every string of bytes there is one text and only one, so any two outcomes that `respond` allows coincide: every byte that the report
-- program writes is told by the bytes it reads. Assumes nothing.
use mathlib.Core.Path.{◌≡◌, refl, sym, ◌∙◌, ap}
use mathlib.Core.List.{List, ◌++◌}
use Prim.Native.Nat.{ℕ}
use lib.ListN.{length, drop}
use Rattle.lattice.specs.Point.{Point}
use Rattle.lattice.proofs.CornerLists.{corner_list_exists, corner_list_unique}
use Rattle.lattice.proofs.MissingLists.{missing_list_exists, missing_list_unique}
use Rattle.bitmap.specs.Picture.{Reading, picture, refused, reading_of}
use Rattle.csv_text.specs.Text.{refused_text}
use Rattle.picture.specs.Response.{report_of, Reports, Responds, ResponsePromise}

reports_equal : (s : List Point) (text other : List ℕ) → Reports s text → Reports s other → text ≡ other
reports_equal s text other h g =
    let c = corner_list_unique s h.corners g.corners h.corner g.corner in
    let m = missing_list_unique s h.missing g.missing h.missed g.missed in
    h.text_is ∙ (λ i. report_of s (c i) (m i)) ∙ sym g.text_is

pub responds_equal : (r : Reading) (text other : List ℕ) → Responds r text → Responds r other → text ≡ other
responds_equal (picture width height s) text other h g = reports_equal s text other h g
responds_equal (refused number place) text other h g = h ∙ sym g

pub response_exists : (bytes : List ℕ) → (text : List ℕ) × Responds (reading_of bytes) text
response_exists bytes = by_reading (reading_of bytes)
  where
    by_reading : (r : Reading) → (text : List ℕ) × Responds r text
    by_reading (picture width height s) =
        let c = corner_list_exists s in
        let m = missing_list_exists s in
        (report_of s c.0 m.0, record { corners = c.0; corner = c.1; missing = m.0; missed = m.1; text_is = refl })
    by_reading (refused number place) = (refused_text number place, refl)

pub response_pinned : (bytes out : List ℕ) (answer other : ℕ) (after later : List ℕ)
    → ResponsePromise bytes out answer after → ResponsePromise bytes out other later → (answer ≡ other) × (after ≡ later)
response_pinned bytes out answer other after later h g =
    let e = responds_equal (reading_of bytes) h.text g.text h.right g.right in
    (h.answers ∙ ap length e ∙ sym g.answers, h.stands ∙ ap (λ t. t ++ drop (length t) out) e ∙ sym g.stands)
