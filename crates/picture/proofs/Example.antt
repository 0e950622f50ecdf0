-- The example of document 01 from end to end: for the bytes of its ring, the promise allows its text and no other. Assumes nothing.
use mathlib.Core.Path.{◌≡◌, refl}
use mathlib.Core.List.{List, [], ◌∷◌}
use Prim.Native.Nat.{ℕ}
use lib.IntN.{pos}
use Rattle.lattice.specs.Point.{Point, In}
use Rattle.lattice.specs.Hull.{Of, Missing, CornerList, MissingList}
use Rattle.lattice.specs.Grains.{at}
use Rattle.lattice.proofs.Lists.{all_in}
use Rattle.lattice.proofs.Decide.{Decided, both, in_words, le?, lt?, all?, missing?, corner_list?}
use Rattle.lattice.proofs.Frame.{Framed, hull_framed, listed_by_frame}
use Rattle.bitmap.specs.Picture.{reading_of}
use Rattle.bitmap.proofs.Example.{ring}
use Rattle.csv_text.specs.Text.{text_of}
use Rattle.picture.specs.Response.{Responds}
use Rattle.picture.proofs.Pinned.{responds_equal}

abbrev pixels : List Point
pixels = at 0 0 ∷ at 1 0 ∷ at 2 0 ∷ at 0 1 ∷ at 2 1 ∷ at 0 2 ∷ at 1 2 ∷ at 2 2 ∷ []

abbrev corners : List Point
corners = at 0 0 ∷ at 2 0 ∷ at 2 2 ∷ at 0 2 ∷ []

abbrev missing : List Point
missing = at 1 1 ∷ []

-- ---- by computed tests, the missing points among the nine of the frame
abbrev Inside : Point → Type 0
Inside p = Framed (pos 0) (pos 0) 3 3 p

abbrev inside? : (p : Point) → Decided (Inside p)
inside? p =
    in_words (λ h. record { left = h.0.0; right = h.0.1; low = h.1.0; high = h.1.1 })
    (λ h. ((h.left, h.right), (h.low, h.high)))
    (both (both (le? (pos 0) p.x) (lt? p.x (pos 3))) (both (le? (pos 0) p.y) (lt? p.y (pos 3))))

framed : (p : Point) → In p pixels → Inside p
framed = all_in Inside pixels ((all? Inside inside? pixels).sound tt)

ring_corners : CornerList pixels corners
ring_corners = (corner_list? pixels corners).sound tt

ring_missing : MissingList pixels missing
ring_missing =
    listed_by_frame (Missing pixels) (missing? pixels) (pos 0) (pos 0) 3 3
    (λ p m. hull_framed (pos 0) (pos 0) 3 3 (Of pixels) framed p m.within)

pub ring_answered : (text : List ℕ) → Responds (reading_of ring) text → text ≡ text_of corners missing 8
ring_answered text h = responds_equal (reading_of ring) text (text_of corners missing 8) h (record {
  corners = corners;
  corner = ring_corners;
  missing = missing;
  missed = ring_missing;
  text_is = refl;
})
