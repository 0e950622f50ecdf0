-- What Report tells of a picture's points: 7 is the only number that it gives, and what it leaves in its rooms makes the text. Assumes nothing.
use mathlib.Core.Path.{◌≡◌, refl, ◌∙◌, ap}
use mathlib.Core.Logic.{inl, inr}
use mathlib.Core.List.{List}
use Prim.Native.Nat.{ℕ, zero, suc, ◌*◌, ◌≤◌, ◌<◌}
use native.Mathlib.Omega.{arith}
use borrow.Author.Tests.{lt-ltb, le-ltb}
use lib.ListN.{length, take}
use lib.IntN.{ℤ}
use Rattle.lattice.specs.Point.{Point, InRange, most, points, In, Lists}
use Rattle.lattice.specs.Hull.{Of, CornerList, MissingList}
use Rattle.lattice.specs.Refusal.{accepted, ◌when◌else◌, Gives, Whole}
use Rattle.lattice.specs.Room.{holding}
use Rattle.lattice.proofs.Lists.{either, all_in, in_all}
use Rattle.lattice.proofs.Places.{lt_or_le}
use Rattle.lattice.proofs.Rooms.{holding_points}
use Rattle.lattice.proofs.Frame.{hull_in_range}
use Rattle.lattice.proofs.Tables.{none_out_of_range, none_repeats}
use Rattle.lattice.proofs.SameMembers.{lists_unique}
use Rattle.lattice.proofs.CornerLists.{corner_list_exists, corners_fewer}
use Rattle.rows.specs.Row.{Sound}
use Rattle.hull.specs.Hull.{HullResult}
use Rattle.report.specs.declared.Reported.{Reported}
use Rattle.report.specs.Report.{FewerThanMissing, report_rows, MissingResult, ReportPromise}
use Rattle.csv_text.specs.Text.{text_of, report_text, refused_text}
use Rattle.csv_text.specs.Written.{most_missing, room, WritePromise}
use Rattle.csv_text.proofs.Pinned.{text_stands}
use Rattle.csv_text.proofs.Sufficing.{room_suffices}
use Rattle.picture.specs.Response.{Reports, Writes}

-- a text that is right and fits is put
pub writes : (Right : List ℕ → Type 0) (text out : List ℕ) (answer : ℕ) (after : List ℕ) → Right text → length text ≤ room → room ≤ length out
    → WritePromise text out answer after → Writes Right out answer after
writes Right text out answer after right fits wide h =
    let s = text_stands text out answer after h (omega (arith, fits, wide)) in
    record { text = text; right = right; answers = s.0; stands = s.1 }

-- what is right for one reason is right for another
pub writes_as : (Right Other : List ℕ → Type 0) {out : List ℕ} {answer : ℕ} {after : List ℕ} → ((text : List ℕ) → Right text → Other text)
    → Writes Right out answer after → Writes Other out answer after
writes_as Right Other f h = record { text = h.text; right = f h.text h.right; answers = h.answers; stands = h.stands }

module _ (list : List ℤ) (h : Sound list) where
  abbrev s : List Point
  s = points list

  itself : Lists (Of s) s
  itself = record { every = λ p m. m; only = λ p m. m; order = h.order }

  -- what an accepted Report leaves
  pub record Told (corners missing : List ℤ) (n count k : ℕ) (corners' missing' : List ℤ) : Type 0 where
    pub corner_list : List Point
    pub corner : CornerList s corner_list
    pub missing_list : List Point
    pub missed : MissingList s missing_list
    pub points_count : n ≡ length s
    pub corners_count : count ≡ length corner_list
    pub missing_count : k ≡ length missing_list
    pub corners_few : length corner_list ≤ most
    pub missing_few : length missing_list ≤ most_missing
    pub corner_room : corners' ≡ holding corner_list corners
    pub missing_room : missing' ≡ holding missing_list missing

  module _ (ordered corners missing : List ℤ) (wide : length ordered ≡ 2 * most) (broad : length corners ≡ 2 * most)
      (deep : length missing ≡ 2 * most_missing) where
    -- no row but the last applies
    last_row : (n i : ℕ) → Gives (report_rows list ordered corners missing accepted) n i
        → Gives (7 when Whole (FewerThanMissing s missing) else accepted) n i
    last_row n i (inl g) = absurd (h.even g.1.here.1)
    last_row n i (inr (odd, inl g)) = absurd (omega (arith, g.1.here.1, h.few))
    last_row n i (inr (odd, inr (many, inl g))) = absurd (none_out_of_range s h.range i g.1.here)
    last_row n i (inr (odd, inr (many, inr (outside, inl g)))) = absurd (none_repeats s h.order i g.1.here)
    last_row n i (inr (odd, inr (many, inr (outside, inr (twice, inl g))))) = absurd (omega (arith, g.1.here.1, wide, h.few))
    last_row n i (inr (odd, inr (many, inr (outside, inr (twice, inr (small, inl g)))))) =
        let w = g.1.here.1 in
        absurd (omega (arith, w.small, broad, h.few, corners_fewer s s w.corners itself w.listed))
    last_row n i (inr (odd, inr (many, inr (outside, inr (twice, inr (small, inr (fewer, g))))))) = g

    module _ (answer : Reported) (ordered' corners' missing' : List ℤ)
        (p : ReportPromise list ordered corners missing answer ordered' corners' missing') where
      -- ---- an accepted answer
      told : (number place n count k : ℕ) → number ≡ 0 → Gives (report_rows list ordered corners missing accepted) number place
          → HullResult list ordered corners number n count ordered' corners' → MissingResult s missing number k missing'
          → Told corners missing n count k corners' missing'
      told (suc number) place n count k e g a m = absurd (omega (arith, e))
      told zero place n count k e g a m = record {
        corner_list = a.corner_list;
        corner = a.corner;
        missing_list = m.0;
        missed = m.1;
        points_count = a.points ∙ ap length (lists_unique (Of s) a.in_order s a.order itself);
        corners_count = a.corners_count;
        missing_count = m.2;
        corners_few = omega (arith, h.few, corners_fewer s s a.corner_list itself a.corner);
        missing_few = either (lt_or_le most_missing (length m.0)) (λ l. absurd (no_fault (last_row 0 place g) m.0 m.1 l)) (λ l. l);
        corner_room = a.corner_room;
        missing_room = m.3;
      }
        where
          no_fault : Gives (7 when Whole (FewerThanMissing s missing) else accepted) 0 place
              → (m : List Point) → MissingList s m → most_missing < length m → ⊥
          no_fault (inl f) m l g = omega (arith, f.0)
          no_fault (inr f) m l g = f.0 0 (refl, record { missing = m; listed = l; small = omega (arith, deep, g) })

      pub report_told : answer.number ≡ 0 → Told corners missing answer.points answer.corners answer.missing corners' missing'
      report_told e =
          told answer.number answer.place answer.points answer.corners answer.missing e p.gives p.hull p.listed

      -- ---- a declined answer
      seven : (number place : ℕ) → (number ≡ 0 → ⊥) → Gives (7 when Whole (FewerThanMissing s missing) else accepted) number place
          → Reports s (refused_text number place)
      seven number place n (inr f) = absurd (n f.1.0)
      seven number place n (inl f) =
          let c = corner_list_exists s in
          let w = f.1.here.1 in
          let l : most_missing < length w.missing = omega (arith, deep, w.small) in
          record {
            corners = c.0;
            corner = c.1;
            missing = w.missing;
            missed = w.listed;
            text_is =
                (λ i. refused_text (f.0 i) (f.1.here.0 i)) ∙ rw (lt-ltb most_missing (length w.missing) l);
          }

      pub report_declined : (answer.number ≡ 0 → ⊥) → Reports s (refused_text answer.number answer.place)
      report_declined n = seven answer.number answer.place n (last_row answer.number answer.place p.gives)

  -- ---- the text of an accepted answer
  module _ (corners missing : List ℤ) (n count k : ℕ) (corners' missing' : List ℤ) (t : Told corners missing n count k corners' missing') where
    text_same : report_text (take (2 * count) corners') (take (2 * k) missing') n ≡ text_of t.corner_list t.missing_list (length s)
    text_same = λ i. text_of
        ((ap (λ r. points (take (2 * count) r)) t.corner_room ∙ holding_points t.corner_list corners count t.corners_count) i)
        ((ap (λ r. points (take (2 * k) r)) t.missing_room ∙ holding_points t.missing_list missing k t.missing_count) i)
        (t.points_count i)

    pub told_right : Reports s (report_text (take (2 * count) corners') (take (2 * k) missing') n)
    told_right = record {
      corners = t.corner_list;
      corner = t.corner;
      missing = t.missing_list;
      missed = t.missed;
      text_is = text_same ∙ rw (le-ltb most_missing (length t.missing_list) t.missing_few);
    }

    pub told_fits : length (report_text (take (2 * count) corners') (take (2 * k) missing') n) ≤ room
    told_fits =
        let f = room_suffices t.corner_list t.missing_list (length s) t.corners_few t.missing_few h.few
        (in_all InRange t.corner_list (λ q m. in_range q (t.corner.only q m).held))
        (in_all InRange t.missing_list (λ q m. hull_in_range (Of s) in_range q (t.missed.only q m).within)) in
        omega (arith, f, ap length text_same)
      where
        in_range : (q : Point) → In q s → InRange q
        in_range = all_in InRange s h.range
