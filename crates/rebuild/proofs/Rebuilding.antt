-- From what the steps tell to what Rebuild promises, and that the promise pins the outcome. Assumes nothing.
use mathlib.Core.Path.{◌≡◌, refl, sym, ◌∙◌, ap, subst}
use mathlib.Core.Logic.{inl, inr}
use mathlib.Core.List.{List}
use Prim.Native.Nat.{ℕ, zero, suc, ◌+◌, ◌-◌, ◌/◌, ◌≤◌, ◌<◌}
use native.Mathlib.Omega.{arith}
use lib.ListN.{length}
use lib.IntN.{ℤ}
use Rattle.lattice.specs.Point.{Point, most, points, In, Lists}
use Rattle.lattice.specs.Hull.{InHull, Of, Kept}
use Rattle.lattice.specs.Refusal.{Table, accepted, Gives, Misplaced, rebuild_rows}
use Rattle.lattice.specs.Room.{holding}
use Rattle.lattice.proofs.Lists.{either, all_in, all_map}
use Rattle.lattice.proofs.Decide.{yes_or_no, in?, hull?}
use Rattle.lattice.proofs.Refusals.{gives_unique, within_range}
use Rattle.lattice.proofs.Tables.{◌then◌, Numbered, declined_before, passed_before, whole_first, whole_never}
use Rattle.lattice.proofs.SameMembers.{lists_unique, lists_same}
use Rattle.lattice.proofs.RowLists.{lists_split}
use Rattle.lattice.proofs.MissingLists.{kept_list_exists}
use Rattle.lattice.proofs.Demand.{rebuild_accepts}
use Rattle.packed.specs.Corners.{CountOf}
use Rattle.walk.specs.Walk.{Walked, Lacking, Puts}
use Rattle.rebuild.specs.declared.Rebuilt.{Rebuilt}
use Rattle.rebuild.specs.Rebuild.{input_rows, Results, result_rows, RebuildResult, point_rows, rebuild_table, RebuildPromise}
use Rattle.rebuild.specs.Looking.{Taken, Looks, Foreseen}
use Rattle.rebuild.proofs.Refusing.{answer}

-- ---- lists that pass rows 1 to 3
taken : (corners missing : List ℤ) (place : ℕ) → Gives (input_rows corners missing accepted) 0 place → Taken corners missing
taken corners missing place (inl h) = absurd (omega (arith, h.0))
taken corners missing place (inr (odd, inl h)) = absurd (omega (arith, h.0))
taken corners missing place (inr (odd, inr (more, inl h))) = absurd (omega (arith, h.0))
taken corners missing place (inr (odd, inr (more, inr (corner, inl h)))) = absurd (omega (arith, h.0))
taken corners missing place (inr (odd, inr (more, inr (corner, inr (missing-point, h))))) = record {
  corners_range = within_range (points corners) corner;
  missing_range = within_range (points missing) missing-point;
}

-- ---- corners and missing points that pass rows 8 to 10
walked : (corners missing : List ℤ) → Taken corners missing → (place : ℕ) → Gives (rebuild_rows (points corners) (points missing) accepted) 0 place
    → Walked corners missing
walked corners missing t place g =
    let r = rebuild_accepts (points corners) (points missing) accepted 0 place g (λ e. omega arith) (λ e. omega arith) (λ e. omega arith) in
    record {
      outline = record { range = t.corners_range; listed = r.0 };
      order = r.1;
      inside = all_map (λ p. Misplaced (points corners) p → ⊥) (InHull (Of (points corners)))
          (λ p n. either (yes_or_no (hull? (points corners) p)) (λ h. h) (λ k. absurd (n (inl k)))) (points missing) r.2;
    }

-- ---- what results
module _ {corners missing : List ℤ} (w : Walked corners missing) {count : ℕ} (n : CountOf (InHull (Of (points corners))) count) where
  abbrev c : List Point
  c = points corners

  abbrev m : List Point
  m = points missing

  -- the lattice points of the hull are the missing points and those that are kept
  result_count : (s : List Point) → Lists (Kept c m) s → count ≡ length m + length s
  result_count s k =
      n.2
      ∙ lists_split (InHull (Of c)) (Of m) (λ p. in? p m) n.0 m s n.1
      (record { every = λ p i. i.1; only = λ p i. (all_in (InHull (Of c)) m w.inside p i, i); order = w.order })
      (lists_same (Kept c m) (λ p. InHull (Of c) p × (In p m → ⊥)) (λ p i. (i.within, i.kept)) (λ p i. record { within = i.0; kept = i.1 }) s k)

  kept : (s : List Point) × Lists (Kept c m) s
  kept = kept_list_exists c m

  pub missing_fewer : length m ≤ count
  missing_fewer = omega (arith, result_count kept.0 kept.1)

  module _ (room : List ℤ) where
    abbrev Ends : Rebuilt → Type 0
    Ends = Foreseen (result_rows c m room accepted) corners missing room

    pub too_many : most < count - length m → Ends (answer 11 0)
    too_many g = record {
      gives = inl (refl, whole_first (kept.0, kept.1, omega (arith, g, result_count kept.0 kept.1)));
      declined = λ _. refl;
      passed = λ e. absurd (omega (arith, e));
    }

    module _ (few : count - length m ≤ most) where
      not_many : Results c m (λ n. most < n) → ⊥
      not_many (s, k, g) = omega (arith, g, few, result_count s k)

      pub room_small : length room / 2 < count - length m → Ends (answer 12 0)
      room_small g = record {
        gives = inr (whole_never not_many, inl (refl, whole_first (kept.0, kept.1, omega (arith, g, result_count kept.0 kept.1))));
        declined = λ _. refl;
        passed = λ e. absurd (omega (arith, e));
      }

      pub room_takes : count - length m ≤ length room / 2 → (r : ℕ) → r ≡ count - length m → Ends (record { number = 0; place = 0; points = r })
      room_takes wide r e = record {
        gives = inr (whole_never not_many, inr (whole_never (λ (s, k, g). omega (arith, g, wide, result_count s k)), (refl, refl)));
        declined = λ f. absurd (f refl);
        passed = λ _. record {
          walked = w;
          takes = (kept.0, kept.1, omega (arith, wide, result_count kept.0 kept.1));
          counted = omega (arith, e, result_count kept.0 kept.1);
        };
      }

-- ---- rows that decline, rows that let pass
module _ (t later : Table) {corners missing room : List ℤ} where
  rows_decline : {a : Rebuilt} → Looks t a → (a.number ≡ 0 → ⊥) → Foreseen (t then later) corners missing room a
  rows_decline {a} h n = record { gives = before a.number n h.gives; declined = λ _. h.uncounted; passed = λ e. absurd (n e) }
    where
      before : (number : ℕ) → (number ≡ 0 → ⊥) → Gives t number a.place → Gives (t then later) number a.place
      before zero f g = absurd (f refl)
      before (suc number) f g = declined_before t later number a.place g

  rows_pass : Numbered t → (place : ℕ) → Gives t 0 place → {a : Rebuilt} → Foreseen later corners missing room a → Foreseen (t then later) corners missing room a
  rows_pass n place g {a} h = record {
    gives = passed_before t later n place a.number a.place g h.gives;
    declined = h.declined;
    passed = h.passed;
  }

-- both lists, then corners and missing points
module _ (corners missing room : List ℤ) where
  pub lists_declined : {a : Rebuilt} → Looks (input_rows corners missing accepted) a → (a.number ≡ 0 → ⊥)
      → Foreseen (rebuild_table corners missing room) corners missing room a
  lists_declined = rows_decline (input_rows corners missing accepted) (point_rows corners missing room)

  module _ {l : Rebuilt} (h : Looks (input_rows corners missing accepted) l) (e : l.number ≡ 0) where
    passes : Gives (input_rows corners missing accepted) 0 l.place
    passes = subst (λ n. Gives (input_rows corners missing accepted) n l.place) e h.gives

    pub lists_taken : Taken corners missing
    lists_taken = taken corners missing l.place passes

    behind : {a : Rebuilt} → Foreseen (point_rows corners missing room) corners missing room a → Foreseen (rebuild_table corners missing room) corners missing room a
    behind = rows_pass (input_rows corners missing accepted) (point_rows corners missing room) (tt, (tt, (tt, (tt, tt)))) l.place passes

    abbrev later : Table
    later = result_rows (points corners) (points missing) room accepted

    pub points_declined : {a : Rebuilt} → Looks (rebuild_rows (points corners) (points missing) accepted) a → (a.number ≡ 0 → ⊥)
        → Foreseen (rebuild_table corners missing room) corners missing room a
    points_declined g n = behind (rows_decline (rebuild_rows (points corners) (points missing) accepted) later g n)

    module _ {p : Rebuilt} (g : Looks (rebuild_rows (points corners) (points missing) accepted) p) (f : p.number ≡ 0) where
      pass : Gives (rebuild_rows (points corners) (points missing) accepted) 0 p.place
      pass = subst (λ n. Gives (rebuild_rows (points corners) (points missing) accepted) n p.place) f g.gives

      pub points_walked : Walked corners missing
      points_walked = walked corners missing lists_taken p.place pass

      pub points_passed : {a : Rebuilt} → Foreseen later corners missing room a → Foreseen (rebuild_table corners missing room) corners missing room a
      points_passed k = behind (rows_pass (rebuild_rows (points corners) (points missing) accepted) later (tt, (tt, (tt, tt))) p.place pass k)

-- ---- what was foreseen, written or not
module _ {corners missing room : List ℤ} {a : Rebuilt} (h : Foreseen (rebuild_table corners missing room) corners missing room a) where
  pub rebuilt_written : a.number ≡ 0 → (r : ℕ) (after : List ℤ) → Puts (Lacking corners missing) room r after → RebuildPromise corners missing room a after
  rebuilt_written e r after (l, k, d, f) =
      let y = h.passed e in
      let s = lists_unique (Lacking corners missing) y.takes.0 l y.takes.1 k in
      record {
        gives = h.gives;
        result = subst (λ n. RebuildResult (points corners) (points missing) room n a.points after) (sym e) (l, k, y.counted ∙ ap length s, f);
      }

-- ---- any two outcomes coincide
results_equal : (c m : List Point) (room : List ℤ) (number count other : ℕ) (after after' : List ℤ)
    → RebuildResult c m room number count after → RebuildResult c m room number other after' → (count ≡ other) × (after ≡ after')
results_equal c m room zero count other after after' (s, h, n, w) (t, g, k, v) =
    let e = lists_unique (Kept c m) s t h g in
    (n ∙ ap length e ∙ sym k, w ∙ ap (λ l. holding l room) e ∙ sym v)
results_equal c m room (suc number) count other after after' h g = (h.0 ∙ sym g.0, h.1 ∙ sym g.1)

pub rebuild_pinned : (corners missing room : List ℤ) (a b : Rebuilt) (after later : List ℤ)
    → RebuildPromise corners missing room a after → RebuildPromise corners missing room b later → (a ≡ b) × (after ≡ later)
rebuild_pinned corners missing room a b after after' h g =
    let e = gives_unique (rebuild_table corners missing room) a.number b.number a.place b.place h.gives g.gives in
    let r = results_equal (points corners) (points missing) room b.number a.points b.points after after'
    (subst (λ n. RebuildResult (points corners) (points missing) room n a.points after) e.0 h.result) g.result in
    ((λ i. record { number = e.0 i; place = e.1 i; points = r.0 i }), r.1)
