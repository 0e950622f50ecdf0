-- What the walk finds lacking where Hull has written are the missing points of the grain: the first of them, all of them. Assumes nothing.
use mathlib.Core.Path.{◌≡◌, refl, sym, subst}
use mathlib.Core.List.{List, [], ◌∷◌}
use Prim.Native.Nat.{ℕ, ◌*◌, ◌/◌, ◌≤◌, ◌<◌}
use native.Mathlib.Omega.{arith}
use lib.ListN.{length, take}
use lib.IntN.{ℤ}
use Rattle.lattice.specs.Point.{Point, InRange, origin, points, In, Before}
use Rattle.lattice.specs.Hull.{InHull, member, Of, Missing}
use Rattle.lattice.proofs.Lists.{either, all_in, in_all}
use Rattle.lattice.proofs.Places.{lt_or_le}
use Rattle.lattice.proofs.CornerLists.{hull_of_corners}
use Rattle.lattice.proofs.Frame.{hull_in_range}
use Rattle.lattice.proofs.MissingLists.{missing_list_exists, first_missing}
use Rattle.lattice.proofs.SameMembers.{lists_same}
use Rattle.packed.specs.Packed.{cells, packed, unpacked}
use Rattle.packed.proofs.RowOrder.{packed_below, unpacked_packed, unpacked_before}
use Rattle.hull.specs.Within.{MoreMissing}
use Rattle.hull.proofs.Standing.{Stands, corners_range, corners_own}
use Rattle.walk.specs.Walk.{Walked, Lacking, FirstOf, Takes, Puts}
use Rattle.report.specs.Report.{no, yes, verdict_of, Judges}

module _ (s : List Point) (n count : ℕ) (ordered corners : List ℤ) (h : Stands s n count ordered corners) where
  -- the parts that the walk reads
  abbrev held : List ℤ
  held = take (2 * n) ordered

  abbrev outline : List ℤ
  outline = take (2 * count) corners

  inside : (p : Point) → InHull (Of s) p → InHull (Of (points outline)) p
  inside p = (hull_of_corners s (points outline) h.corner p).0

  pub walked : Walked outline held
  walked = record {
    outline = record { range = corners_range h; listed = corners_own h };
    order = h.order.order;
    inside = in_all (InHull (Of (points outline))) (points held) (λ p m. inside p (member (h.order.only p m)));
  }

  lacking_missing : (p : Point) → Lacking outline held p → Missing s p
  lacking_missing p l = record { within = (hull_of_corners s (points outline) h.corner p).1 l.within; lacks = λ m. l.kept (h.order.every p m) }

  missing_lacking : (p : Point) → Missing s p → Lacking outline held p
  missing_lacking p m = record { within = inside p m.within; kept = λ i. m.lacks (h.order.only p i) }

  -- ---- all of them
  pub missing_takes : (missing : List ℤ) → (MoreMissing s (length missing / 2) → ⊥) → Takes (Lacking outline held) missing
  missing_takes missing enough =
      let m = missing_list_exists s in (
        m.0,
        lists_same (Missing s) (Lacking outline held) missing_lacking lacking_missing m.0 m.1,
        either (lt_or_le (length missing / 2) (length m.0)) (λ l. absurd (enough (record { missing = m.0; listed = m.1; more = l }))) (λ l. omega arith),
      )

  pub missing_puts : (missing : List ℤ) (r : ℕ) (missing' : List ℤ) → Puts (Lacking outline held) missing r missing' → Puts (Missing s) missing r missing'
  missing_puts missing r missing' p = (p.0, lists_same (Lacking outline held) (Missing s) lacking_missing missing_lacking p.0 p.1, p.2, p.3)

  -- ---- the verdict by the first of them
  module _ (r : ℕ) (f : FirstOf (Lacking outline held) r) where
    -- a missing point is some packed point
    as_packed : (q : Point) → Missing s q → (packed q < cells) × (unpacked (packed q) ≡ q)
    as_packed q m =
        let i = hull_in_range (Of s) (λ p k. all_in InRange s h.range p k) q m.within in
        (packed_below q i, unpacked_packed q i)

    none_earlier : (q : Point) → Missing s q → packed q < r → ⊥
    none_earlier q m l = f.earlier (packed q) l (subst (Lacking outline held) (sym (as_packed q m).1) (missing_lacking q m))

    pub judges_no : r < cells → Judges s no (unpacked r)
    judges_no l = let m = missing_list_exists s in record {
      missing = m.0;
      listed = m.1;
      verdict_is = some m.0 (m.1.every (unpacked r) here);
      first_is = sym (first_missing s m.0 (unpacked r) m.1 here earlier);
    }
      where
        here : Missing s (unpacked r)
        here = lacking_missing (unpacked r) (f.here l)

        some : (m : List Point) → In (unpacked r) m → no ≡ verdict_of m
        some [] i = absurd i
        some (p ∷ m) i = refl

        earlier : (q : Point) → Missing s q → Before q (unpacked r) → ⊥
        earlier q m b = none_earlier q m (unpacked_before (packed q) r (subst (λ z. Before z (unpacked r)) (sym (as_packed q m).1) b))

    pub judges_yes : cells ≤ r → Judges s yes origin
    judges_yes l = record {
      missing = [];
      listed = record { every = λ q m. none_earlier q m (omega (arith, l, (as_packed q m).0)); only = λ q m. absurd m; order = tt };
      verdict_is = refl;
      first_is = refl;
    }
