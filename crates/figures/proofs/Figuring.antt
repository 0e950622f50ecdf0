-- From what Hull promises to what Figures promises. Assumes nothing.
use mathlib.Core.Path.{◌≡◌, ap}
use mathlib.Core.List.{List}
use Prim.Native.Nat.{◌*◌}
use native.Mathlib.Omega.{arith}
use lib.ListN.{length, take, drop_of_length-le}
use lib.IntN.{ℤ}
use lib.Ieee.{Float}
use Rattle.lattice.specs.Point.{points}
use Rattle.lattice.specs.Refusal.{accepted, Gives}
use Rattle.lattice.proofs.Tables.{place_zero}
use Rattle.hull.specs.declared.Hulled.{Hulled}
use Rattle.hull.specs.Hull.{hull_rows, HullPromise}
use Rattle.hull.proofs.Standing.{Stands, accepted_hulls, accepted_gives, accepted_stands, corners_range}
use Rattle.figures.specs.declared.Centroid.{Centroid}
use Rattle.figures.specs.declared.Figured.TheVariants.{Refused, None, Given}
use Rattle.figures.specs.Figure.{centroid_of, Solidity, Summable, Outlines}
use Rattle.figures.specs.Figures.{FiguresPromise}

module _ {list ordered corners : List ℤ} {answer : Hulled} {ordered' corners' : List ℤ} (f : HullPromise list ordered corners answer ordered' corners') where
  pub figures_declined : (answer.number ≡ 0 → ⊥) → FiguresPromise list ordered corners (Refused answer.number answer.place) ordered' corners'
  figures_declined e = record { gives = f.gives; points_count = answer.points; corners_count = answer.corners; hull = f.result; figures = e }

  -- ---- an accepted list
  module _ (e : answer.number ≡ 0) where
    pub stands : Stands (points list) answer.points answer.corners ordered' corners'
    stands = accepted_stands list ordered corners accepted answer ordered' corners' f.gives f.result e

    pub summable : (answer.points ≡ 0 → ⊥) → Summable list
    summable some = record { some = omega (arith, some, stands.all); few = omega (arith, stands.all, stands.few); range = stands.range }

    pub outlines : Outlines (points list) (take (2 * answer.corners) corners')
    outlines = record { range = corners_range stands; corner = stands.corner }

    gives : Gives (hull_rows list ordered corners accepted) 0 0
    gives = place_zero (hull_rows list ordered corners accepted) (tt, (tt, (tt, (tt, (tt, (tt, tt)))))) answer.place (accepted_gives list ordered corners accepted answer ordered' corners' f.gives f.result e)

    pub figures_none : answer.points ≡ 0 → FiguresPromise list ordered corners None ordered' corners'
    figures_none none = record {
      gives = gives;
      points_count = answer.points;
      corners_count = answer.corners;
      hull = accepted_hulls list ordered corners accepted answer ordered' corners' f.gives f.result e;
      figures = drop_of_length-le (points list) {i = 0} (omega (arith, none, stands.all));
    }

    pub figures_given : (answer.points ≡ 0 → ⊥) → {centroid : Centroid} {solidity : Float} → centroid ≡ centroid_of (points list)
        → Solidity (points list) solidity → FiguresPromise list ordered corners (Given centroid solidity) ordered' corners'
    figures_given some c s = record {
      gives = gives;
      points_count = answer.points;
      corners_count = answer.corners;
      hull = accepted_hulls list ordered corners accepted answer ordered' corners' f.gives f.result e;
      figures = ((λ z. some (omega (arith, ap length z, stands.all))), c, s);
    }
