-- From what Order's find tells to what Hull's find tells, from there to what Hull promises, and that the promise pins the outcome. Assumes nothing.
use mathlib.Core.Path.{◌≡◌, refl, sym, ◌∙◌, ap, subst}
use mathlib.Core.Bool.{Bool, true, false}
use mathlib.Core.Logic.{◌⊎◌, inl, inr}
use mathlib.Core.List.{List, map}
use Prim.Native.Nat.{ℕ, zero, suc, ◌+◌, ◌/◌, ◌≤◌}
use native.Mathlib.Omega.{arith}
use lib.Dec.{ltb}
use borrow.Author.Tests.{ltb-true, ltb-false}
use lib.ListN.{length, take, length-map}
use lib.Seq.{length-take-le}
use lib.IntN.{ℤ}
use Rattle.lattice.specs.Point.{Point, InRange, points, Lists}
use Rattle.lattice.specs.Hull.{InHull, Of, CornerList, Missing, MissingList}
use Rattle.lattice.specs.Refusal.{Table, accepted, ◌when◌else◌, Gives, Whole, list_rows}
use Rattle.lattice.specs.Room.{holding, TooSmall}
use Rattle.lattice.proofs.Lists.{all_in}
use Rattle.lattice.proofs.Frame.{hull_in_range}
use Rattle.lattice.proofs.Refusals.{gives_unique}
use Rattle.lattice.proofs.SameMembers.{lists_unique, lists_same}
use Rattle.lattice.proofs.MissingLists.{missing_list_exists, missing_count, hull_list_exists}
use Rattle.lattice.proofs.CornerLists.{corner_list_unique, corner_list_same, corner_list_of_some, hull_of_corners}
use Rattle.lattice.proofs.Tables.{passed_before, first_or_later, whole_first, whole_never, Passes, list_passes}
use Rattle.packed.specs.Packed.{Tells, cells, unpacked}
use Rattle.packed.proofs.KeyLaws.{lists_small, packed_hull_range}
use Rattle.packed.specs.Corners.{HullOf, Cornered as PackedCorners, CountOf}
use Rattle.order.specs.declared.Ordered.{Ordered}
use Rattle.order.proofs.Ordering.{FoundKeys}
use Rattle.hull.specs.declared.Hulled.{Hulled}
use Rattle.scan.specs.Scanning.{Cornered}
use Rattle.hull.specs.Hull.{FewerThanCorners, hull_rows, Hulls, HullResult, HullPromise}
use Rattle.hull.specs.Within.{MoreMissing, within_rows, WithinPromise, HasMore, FindsHull}

abbrev hulled_answer : ℕ → ℕ → ℕ → ℕ → Hulled
hulled_answer number place n count = record { number = number; place = place; points = n; corners = count }

-- the rows after those of the list
abbrev missing_row : List ℤ → ℕ → Table
missing_row list limit = 7 when Whole (MoreMissing (points list) limit) else accepted

abbrev room_rows : List ℤ → List ℤ → List ℤ → Table → Table
room_rows list ordered corners later =
    5 when Whole (TooSmall ordered (length (points list))) else 6 when Whole (FewerThanCorners (points list) corners) else later

module _ (list ordered corners : List ℤ) (limit : ℕ) (keys stack : List ℕ) where
  module _ {answer : Ordered} (f : FoundKeys list answer keys) where
    later : (n i : ℕ) → Gives (room_rows list ordered corners (missing_row list limit)) n i → Gives (within_rows list ordered corners limit) n i
    later n i g = passed_before (list_rows list accepted) (room_rows list ordered corners (missing_row list limit)) (tt, (tt, (tt, (tt, tt)))) answer.place n i f.passed g

    module _ {r : ℕ} (h : Cornered (take answer.points keys) stack r) where
      listed : CornerList (points list) (map unpacked (take r stack))
      listed = corner_list_same (map unpacked (take answer.points keys)) (points list)
          ((λ p m. f.keys_are.lists.only p m), (λ p m. f.keys_are.lists.every p m))
          (map unpacked (take r stack)) h.corners

      long : length (map unpacked (take r stack)) ≡ r
      long = length-map (take r stack) unpacked ∙ length-take-le r stack h.few

      pub corners_listed : PackedCorners (take r stack)
      corners_listed = record { below = h.below; listed = (corner_list_of_some (map unpacked (take r stack))).1 (points list, listed) }

      -- the lattice points of the hull are the points and the missing points
      counted : (l m : List Point) → Lists (HullOf (take r stack)) l → MissingList (points list) m → length l ≡ answer.points + length m
      counted l m all missing =
          let hull = hull_of_corners (points list) (map unpacked (take r stack)) listed in
          let split = missing_count (points list) l (map unpacked (take answer.points keys)) m
          (lists_same (HullOf (take r stack)) (InHull (Of (points list))) (λ p. (hull p).1) (λ p. (hull p).0) l all) f.keys_are.lists missing in
          omega (arith, split, length-map (take answer.points keys) unpacked, f.long)

      module _ (wide : answer.points ≤ length ordered / 2) where
        room_later : (n i : ℕ) → Gives (6 when Whole (FewerThanCorners (points list) corners) else missing_row list limit) n i
            → Gives (within_rows list ordered corners limit) n i
        room_later n i g = later n i (inr (whole_never (λ small. omega (arith, small, wide, f.all)), g))

        pub find_corners_small : TooSmall corners r → FindsHull list ordered corners limit (hulled_answer 6 0 0 0) keys stack
        find_corners_small small = record {
          gives = room_later 6 0 (inl (
            refl,
            whole_first (record {
              corners = map unpacked (take r stack);
              listed = listed;
              small = subst (TooSmall corners) (sym long) small;
            }),
          ));
          result = (refl, refl);
        }

        module _ (room : r ≤ length corners / 2) where
          missing_later : (n i : ℕ) → Gives (missing_row list limit) n i → Gives (within_rows list ordered corners limit) n i
          missing_later n i g = room_later n i (inr (
            whole_never (λ w. omega (
              arith,
              room,
              long,
              w.small,
              ap length (corner_list_unique (points list) w.corners (map unpacked (take r stack)) w.listed listed),
            )),
            g,
          ))

          pub find_missing_small : HasMore (take r stack) (answer.points + limit) → FindsHull list ordered corners limit (hulled_answer 7 0 0 0) keys stack
          find_missing_small more = record {
            gives = missing_later 7 0 (inl (
              refl,
              whole_first (let m = missing_list_exists (points list) in record {
                missing = m.0;
                listed = m.1;
                more = omega (arith, more.2, counted more.0 m.0 more.1 m.1);
              }),
            ));
            result = (refl, refl);
          }

          pub find_found : (HasMore (take r stack) (answer.points + limit) → ⊥)
              → FindsHull list ordered corners limit (hulled_answer 0 0 answer.points r) keys stack
          find_found enough = record {
            gives = missing_later 0 0 (inr (
              whole_never (λ w. let l = hull_list_exists (map unpacked (take r stack)) in
                  enough (l.0, l.1, omega (arith, w.more, counted l.0 w.missing l.1 w.listed))),
              (refl, refl),
            ));
            result = record {
              points = f.all;
              keys_long = f.inside;
              keys_are = f.keys_are;
              stack_long = h.few;
              stack_below = h.below;
              corner = listed;
              ordered_room = λ small. omega (arith, small, wide);
              corner_room = λ small. omega (arith, small, room);
            };
          }

  -- ---- the rooms written
  pub within_declined : (number place n count : ℕ) → (number ≡ 0 → ⊥) → FindsHull list ordered corners limit (hulled_answer number place n count) keys stack
      → WithinPromise list ordered corners limit (hulled_answer number place n count) ordered corners
  within_declined zero place n count e f = absurd (e refl)
  within_declined (suc number) place n count e f = record { gives = f.gives; result = (f.result.0, f.result.1, refl, refl) }

  pub within_done : (number place n count : ℕ) → number ≡ 0 → FindsHull list ordered corners limit (hulled_answer number place n count) keys stack
      → (ordered' corners' : List ℤ) → (ordered' ≡ holding (map unpacked (take n keys)) ordered) × (corners' ≡ holding (map unpacked (take count stack)) corners)
      → WithinPromise list ordered corners limit (hulled_answer number place n count) ordered' corners'
  within_done (suc number) place n count z f ordered' corners' stand = absurd (omega (arith, z))
  within_done zero place n count z f ordered' corners' stand = record {
    gives = f.gives;
    result = record {
      in_order = map unpacked (take n keys);
      order = f.result.keys_are.lists;
      points = sym (length-map (take n keys) unpacked ∙ length-take-le n keys f.result.keys_long);
      ordered_room = stand.0;
      corner_list = map unpacked (take count stack);
      corner = f.result.corner;
      corners_count = sym (length-map (take count stack) unpacked ∙ length-take-le count stack f.result.stack_long);
      corner_room = stand.1;
    };
  }

-- ---- an accepted list passes rows 1 to 4
pub hull_passes : (list ordered corners : List ℤ) (place : ℕ) → Gives (hull_rows list ordered corners accepted) 0 place → Passes list
hull_passes list ordered corners place g = list_passes list (room_rows list ordered corners accepted) place g

-- ---- a hull's lattice points beside a bound
pub none_more : (corners : List ℕ) → PackedCorners corners → (n : ℕ) → cells ≤ n → HasMore corners n → ⊥
none_more corners h n large more = omega (arith, large, more.2, lists_small (HullOf corners) (packed_hull_range corners h.below) more.0 more.1)

pub tells_more : (corners : List ℕ) (count n : ℕ) → CountOf (HullOf corners) count → Tells (ltb n count) (HasMore corners n)
tells_more corners count n c = by_test (ltb n count) refl
  where
    by_test : (t : Bool) → ltb n count ≡ t → Tells t (HasMore corners n)
    by_test true e = (c.0, c.1, omega (arith, ltb-true n count e, c.2))
    by_test false e = λ more. omega (arith, ltb-false n count e, c.2, more.2, ap length (lists_unique (HullOf corners) more.0 c.0 more.1 c.1))

-- ---- no limit: no grain has as many missing points as the range has points
few_missing : (list : List ℤ) → Passes list → (m : List Point) → MissingList (points list) m → length m ≤ cells
few_missing list passes m l = lists_small (Missing (points list)) (λ p h. hull_in_range (Of (points list)) (λ q i. all_in InRange (points list) passes.range q i) p h.within) m l

pub without_limit : (list ordered corners : List ℤ) (limit : ℕ) (answer : Hulled) (ordered' corners' : List ℤ) → cells ≤ limit
    → WithinPromise list ordered corners limit answer ordered' corners' → HullPromise list ordered corners answer ordered' corners'
without_limit list ordered corners limit answer ordered' corners' large h = record {
  gives = by_rows (first_or_later (hull_rows list ordered corners accepted) (missing_row list limit) (tt, (tt, (tt, (tt, (tt, (tt, tt)))))) answer.number answer.place h.gives);
  result = h.result;
}
  where
    by_rows : ((answer.number ≡ 0 → ⊥) × Gives (hull_rows list ordered corners accepted) answer.number answer.place)
        ⊎ (Gives (hull_rows list ordered corners accepted) 0 0 × Gives (missing_row list limit) answer.number answer.place)
        → Gives (hull_rows list ordered corners accepted) answer.number answer.place
    by_rows (inl g) = g.1
    by_rows (inr (g, inl (e, w))) =
        let more = w.here.1 in
        absurd (omega (arith, large, more.more, few_missing list (hull_passes list ordered corners 0 g) more.missing more.listed))
    by_rows (inr (g, inr (never, (e, d)))) =
        subst (λ n. Gives (hull_rows list ordered corners accepted) n answer.place) (sym e)
        (subst (λ i. Gives (hull_rows list ordered corners accepted) 0 i) (sym d) g)

-- ---- any two outcomes coincide
pub hulls_equal : (s : List Point) (ordered corners : List ℤ) (n m count total : ℕ) (ordered' ordered'' corners' corners'' : List ℤ)
    → Hulls s ordered corners n count ordered' corners' → Hulls s ordered corners m total ordered'' corners''
    → (n ≡ m) × (count ≡ total) × (ordered' ≡ ordered'') × (corners' ≡ corners'')
hulls_equal s ordered corners n m count total ordered' ordered'' corners' corners'' h g =
    let e = lists_unique (Of s) h.in_order g.in_order h.order g.order in
    let d = corner_list_unique s h.corner_list g.corner_list h.corner g.corner in (
      h.points ∙ ap length e ∙ sym g.points,
      h.corners_count ∙ ap length d ∙ sym g.corners_count,
      h.ordered_room ∙ ap (λ l. holding l ordered) e ∙ sym g.ordered_room,
      h.corner_room ∙ ap (λ l. holding l corners) d ∙ sym g.corner_room,
    )

pub results_equal : (list ordered corners : List ℤ) (number n m count total : ℕ) (ordered' ordered'' corners' corners'' : List ℤ)
    → HullResult list ordered corners number n count ordered' corners' → HullResult list ordered corners number m total ordered'' corners''
    → (n ≡ m) × (count ≡ total) × (ordered' ≡ ordered'') × (corners' ≡ corners'')
results_equal list ordered corners zero n m count total ordered' ordered'' corners' corners'' h g =
    hulls_equal (points list) ordered corners n m count total ordered' ordered'' corners' corners'' h g
results_equal list ordered corners (suc number) n m count total ordered' ordered'' corners' corners'' h g =
    (h.0 ∙ sym g.0, h.1 ∙ sym g.1, h.2 ∙ sym g.2, h.3 ∙ sym g.3)

pub hull_pinned : (list ordered corners : List ℤ) (a b : Hulled) (ordered' ordered'' corners' corners'' : List ℤ)
    → HullPromise list ordered corners a ordered' corners' → HullPromise list ordered corners b ordered'' corners''
    → (a ≡ b) × (ordered' ≡ ordered'') × (corners' ≡ corners'')
hull_pinned list ordered corners a b ordered' ordered'' corners' corners'' h g =
    let e = gives_unique (hull_rows list ordered corners accepted) a.number b.number a.place b.place h.gives g.gives in
    let r = results_equal list ordered corners b.number a.points b.points a.corners b.corners ordered' ordered'' corners' corners''
    (subst (λ n. HullResult list ordered corners n a.points a.corners ordered' corners') e.0 h.result) g.result in
    ((λ i. record { number = e.0 i; place = e.1 i; points = r.0 i; corners = r.1 i }), r.2, r.3)
