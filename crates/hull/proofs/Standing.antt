-- What an accepted Hull leaves in its rooms, for a call that reads on there: the points in row order and the corner list at their fronts. Assumes nothing.
use mathlib.Core.Path.{◌≡◌, refl, sym, ◌∙◌, ap, subst}
use mathlib.Core.Logic.{inl, inr}
use mathlib.Core.List.{List}
use Prim.Native.Nat.{ℕ, zero, suc, ◌*◌, ◌/◌, ◌≤◌}
use native.Mathlib.Omega.{arith}
use lib.ListN.{length, take}
use lib.IntN.{ℤ}
use Rattle.lattice.specs.Point.{Point, InRange, most, points, All, Lists}
use Rattle.lattice.specs.Hull.{Of, CornerList}
use Rattle.lattice.specs.Refusal.{Table, accepted, ◌when◌else◌, Gives, Whole, list_rows}
use Rattle.lattice.specs.Room.{TooSmall}
use Rattle.lattice.proofs.Lists.{either, all_in, in_all}
use Rattle.lattice.proofs.Places.{lt_or_le}
use Rattle.lattice.proofs.RowLists.{row_order_length}
use Rattle.lattice.proofs.CornerLists.{corner_list_of_some}
use Rattle.lattice.proofs.Rooms.{holding_length, holding_points}
use Rattle.lattice.proofs.Tables.{list_passes, both_accept}
use Rattle.hull.specs.declared.Hulled.{Hulled}
use Rattle.hull.specs.Hull.{FewerThanCorners, hull_rows, Hulls, HullResult}

-- the n points of s in row order stand at the front of one list, its count corners at the front of the other
pub record Stands (s : List Point) (n count : ℕ) (ordered corners : List ℤ) : Type 0 where
  pub all : n ≡ length s
  pub few : n ≤ most
  pub range : All InRange s
  pub ordered_long : 2 * n ≤ length ordered
  pub corners_long : 2 * count ≤ length corners
  pub order : Lists (Of s) (points (take (2 * n) ordered))
  pub corner : CornerList s (points (take (2 * count) corners))

-- the rooms have place
room_pairs : (room : List ℤ) (n : ℕ) → (TooSmall room n → ⊥) → 2 * n ≤ length room
room_pairs room n h = either (lt_or_le (length room / 2) n) (λ l. absurd (h l)) (λ l. omega arith)

module _ (list ordered corners : List ℤ) (later : Table) (place : ℕ) (g : Gives (hull_rows list ordered corners later) 0 place) where
  abbrev room_rows : Table → Table
  room_rows rest =
      5 when Whole (TooSmall ordered (length (points list))) else 6 when Whole (FewerThanCorners (points list) corners) else rest

  -- neither room's row applies
  rooms_pass : Gives (room_rows accepted) 0 0
  rooms_pass =
      let rooms = (both_accept (list_rows list accepted) (room_rows later) (tt, (tt, (tt, (tt, tt)))) place g).1 in
      (both_accept (room_rows accepted) later (tt, (tt, tt)) place rooms).0

  fits : Gives (room_rows accepted) 0 0
      → (2 * length (points list) ≤ length ordered) × ((c : List Point) → CornerList (points list) c → 2 * length c ≤ length corners)
  fits (inl h) = absurd (omega (arith, h.0))
  fits (inr (five, inl h)) = absurd (omega (arith, h.0))
  fits (inr (five, inr (six, h))) = (
    room_pairs ordered (length (points list)) (λ small. five 0 (refl, small)),
    λ c l. room_pairs corners (length c) (λ small. six 0 (refl, record { corners = c; listed = l; small = small })),
  )

  ordered_fits : 2 * length (points list) ≤ length ordered
  ordered_fits = (fits rooms_pass).0

  corners_fit : (c : List Point) → CornerList (points list) c → 2 * length c ≤ length corners
  corners_fit = (fits rooms_pass).1

  pub hulls_stand : (n count : ℕ) (ordered' corners' : List ℤ) → Hulls (points list) ordered corners n count ordered' corners'
      → Stands (points list) n count ordered' corners'
  hulls_stand n count ordered' corners' h =
      let passes = list_passes list (room_rows later) place g in
      let long = row_order_length (points list) h.in_order passes.once h.order in
      let wide = corners_fit h.corner_list h.corner in
      record {
        all = h.points ∙ long;
        few = omega (arith, h.points, long, passes.few);
        range = passes.range;
        ordered_long = omega (
          arith,
          h.points,
          long,
          ordered_fits,
          ap length h.ordered_room,
          holding_length h.in_order ordered (omega (arith, long, ordered_fits)),
        );
        corners_long = omega (arith, h.corners_count, wide, ap length h.corner_room, holding_length h.corner_list corners wide);
        order = subst (Lists (Of (points list))) (sym (ap (λ l. points (take (2 * n) l)) h.ordered_room ∙ holding_points h.in_order ordered n h.points)) h.order;
        corner = subst (CornerList (points list)) (sym (ap (λ l. points (take (2 * count) l)) h.corner_room ∙ holding_points h.corner_list corners count h.corners_count)) h.corner;
      }

-- ---- an accepted answer
hulls_of : (list ordered corners ordered' corners' : List ℤ) (number n count : ℕ) → number ≡ 0 → HullResult list ordered corners number n count ordered' corners'
    → Hulls (points list) ordered corners n count ordered' corners'
hulls_of list ordered corners ordered' corners' zero n count e h = h
hulls_of list ordered corners ordered' corners' (suc number) n count e h = absurd (omega (arith, e))

module _ (list ordered corners : List ℤ) (later : Table) (answer : Hulled) (ordered' corners' : List ℤ)
    (g : Gives (hull_rows list ordered corners later) answer.number answer.place)
    (h : HullResult list ordered corners answer.number answer.points answer.corners ordered' corners') (e : answer.number ≡ 0) where
  pub accepted_hulls : Hulls (points list) ordered corners answer.points answer.corners ordered' corners'
  accepted_hulls = hulls_of list ordered corners ordered' corners' answer.number _ _ e h

  pub accepted_gives : Gives (hull_rows list ordered corners later) 0 answer.place
  accepted_gives = subst (λ n. Gives (hull_rows list ordered corners later) n answer.place) e g

  pub accepted_stands : Stands (points list) answer.points answer.corners ordered' corners'
  accepted_stands = hulls_stand list ordered corners later answer.place accepted_gives _ _ _ _ accepted_hulls

-- ---- the corners that stand there
module _ {s : List Point} {n count : ℕ} {ordered corners : List ℤ} (h : Stands s n count ordered corners) where
  abbrev outline : List Point
  outline = points (take (2 * count) corners)

  pub corners_range : All InRange outline
  corners_range = in_all InRange outline (λ p m. all_in InRange s h.range p (h.corner.only p m).held)

  pub corners_own : CornerList outline outline
  corners_own = (corner_list_of_some outline).1 (s, h.corner)
