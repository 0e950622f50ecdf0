-- From what Hull and the walk tell to what Verdict and Report promise. Assumes nothing.
use mathlib.Core.Path.{◌≡◌, refl, sym, ◌∙◌, ap, subst}
use mathlib.Core.Logic.{inl, inr}
use mathlib.Core.List.{List, [], ◌∷◌}
use Prim.Native.Nat.{ℕ, suc, ◌*◌, ◌/◌, ◌≤◌, ◌<◌}
use native.Mathlib.Omega.{arith}
use lib.ListN.{length, take}
use lib.IntN.{ℤ}
use Rattle.std.specs.Prelude.{Option, Some, None, IfSome, IsSomeAnd, MatchOption, Ok}
use Rattle.lattice.specs.Point.{Point, points}
use Rattle.lattice.specs.Hull.{Missing}
use Rattle.lattice.specs.Grains.{first_of}
use Rattle.lattice.specs.Refusal.{Table, accepted, ◌when◌else◌, Gives, Whole}
use Rattle.lattice.specs.Room.{holding}
use Rattle.lattice.proofs.MissingLists.{missing_list_unique}
use Rattle.lattice.proofs.Rooms.{holding_length}
use Rattle.lattice.proofs.Tables.{other_later, both_accept, place_zero}
use Rattle.packed.specs.Packed.{cells, unpacked}
use Rattle.hull.specs.declared.Hulled.{Hulled}
use Rattle.hull.specs.Hull.{hull_rows, HullPromise}
use Rattle.hull.specs.Within.{MoreMissing, within_rows, WithinPromise}
use Rattle.hull.proofs.Standing.{Stands, accepted_hulls, accepted_gives, accepted_stands}
use Rattle.walk.specs.Walk.{Lacking, FirstIn, Takes, Puts}
use Rattle.report.specs.Answer.{judged_of, reported_of, verdict_by, first_by, first_in}
use Rattle.report.proofs.Missing.{judges_no, judges_yes, missing_takes, missing_puts}
use Rattle.report.specs.declared.Judged.{Judged}
use Rattle.report.specs.declared.Reported.{Reported}
use Rattle.report.specs.Report.{verdict_of, VerdictPromise, FewerThanMissing, report_rows, ReportPromise}

-- accepted answers
abbrev judged : ℕ → ℕ → Option Point → Judged
judged n count first = judged_of (Ok (record { counts = record { points = n; corners = count }; first_missing = first }))

abbrev reported : ℕ → ℕ → ℕ → Option Point → Reported
reported n count missing first =
    reported_of (Ok (record { counts = record { points = n; corners = count }; missing = missing; first_missing = first }))

-- the point that a packed one stands for
abbrev pub unpacked_in : Option ℕ → Option Point
unpacked_in None = None
unpacked_in (Some k) = Some (unpacked k)

-- ---- Verdict
module _ (list ordered corners : List ℤ) {answer : Hulled} {ordered' corners' : List ℤ} (f : HullPromise list ordered corners answer ordered' corners') where
  module _ (e : answer.number ≡ 0) where
    pub verdict_stands : Stands (points list) answer.points answer.corners ordered' corners'
    verdict_stands = accepted_stands list ordered corners accepted answer ordered' corners' f.gives f.result e

    gives : Gives (hull_rows list ordered corners accepted) 0 0
    gives = place_zero (hull_rows list ordered corners accepted) (tt, (tt, (tt, (tt, (tt, (tt, tt)))))) answer.place (accepted_gives list ordered corners accepted answer ordered' corners' f.gives f.result e)

    pub verdict_done : (first : Option ℕ) → FirstIn (Lacking (take (2 * answer.corners) corners') (take (2 * answer.points) ordered')) first
        → VerdictPromise list ordered corners (judged answer.points answer.corners (unpacked_in first)) ordered' corners'
    verdict_done (Some first) d = record {
      gives = gives;
      hull = accepted_hulls list ordered corners accepted answer ordered' corners' f.gives f.result e;
      verdict = judges_no _ _ _ _ _ verdict_stands first d.1 d.0;
    }
    verdict_done None d = record {
      gives = gives;
      hull = accepted_hulls list ordered corners accepted answer ordered' corners' f.gives f.result e;
      verdict = judges_yes _ _ _ _ _ verdict_stands cells d (omega arith);
    }

-- what `map` makes of a packed point, if there is one
pub mapped : (o : Option ℕ) (r : Option Point) → MatchOption o (r ≡ None) (λ k. IsSomeAnd r (λ p. p ≡ unpacked k)) → r ≡ unpacked_in o
mapped None r h = h
mapped (Some k) None h = absurd h
mapped (Some k) (Some p) h = ap Some h

-- a first missing point is a packed one
pub first_small : (P : Point → Type 0) (first : Option ℕ) → FirstIn P first → IfSome first (λ k. k < cells)
first_small P (Some first) d = d.0
first_small P None d = tt

-- ---- the first of some points
abbrev first_held : List Point → Option Point
first_held [] = None
first_held (p ∷ m) = Some p

first_verdict : (m : List Point) → verdict_by (first_held m) ≡ verdict_of m
first_verdict [] = refl
first_verdict (p ∷ m) = refl

first_point : (m : List Point) → first_by (first_held m) ≡ first_of m
first_point [] = refl
first_point (p ∷ m) = refl

-- a room that holds them begins with it
first_of_room : (m : List Point) (room : List ℤ) → first_in (take (2 * length m) (holding m room)) ≡ first_held m
first_of_room [] room = refl
first_of_room (p ∷ m) room = ap (λ k. first_in (take k (holding (p ∷ m) room))) (two_more (length m))
  where
    two_more : (n : ℕ) → 2 * suc n ≡ suc (suc (2 * n))
    two_more n = omega arith

-- ---- Report
-- 7 by the room is 7 by its pairs
abbrev by_pairs : List Point → ℕ → Table
by_pairs s limit = 7 when Whole (MoreMissing s limit) else accepted

by_room : (s : List Point) (room : List ℤ) (n i : ℕ) → Gives (by_pairs s (length room / 2)) n i → Gives (7 when Whole (FewerThanMissing s room) else accepted) n i
by_room s room n i (inl (e, w)) =
    inl (
      e,
      record {
        here = (w.here.0, record { missing = w.here.1.missing; listed = w.here.1.listed; small = w.here.1.more });
        earlier = λ j l h. w.earlier j l (h.0, record { missing = h.1.missing; listed = h.1.listed; more = h.1.small });
      },
    )
by_room s room n i (inr (never, g)) = inr ((λ j h. never j (h.0, record { missing = h.1.missing; listed = h.1.listed; more = h.1.small })), g)

module _ (list ordered corners missing : List ℤ) {answer : Hulled} {ordered' corners' : List ℤ}
    (f : WithinPromise list ordered corners (length missing / 2) answer ordered' corners') where
  report_gives : Gives (report_rows list ordered corners missing accepted) answer.number answer.place
  report_gives =
      other_later (hull_rows list ordered corners accepted) (by_pairs (points list) (length missing / 2)) (7 when Whole (FewerThanMissing (points list) missing) else accepted)
      (by_room (points list) missing) answer.number answer.place f.gives

  module _ (e : answer.number ≡ 0) where
    passes : Gives (within_rows list ordered corners (length missing / 2)) 0 answer.place
    passes = accepted_gives list ordered corners (by_pairs (points list) (length missing / 2)) answer ordered' corners' f.gives f.result e

    pub report_stands : Stands (points list) answer.points answer.corners ordered' corners'
    report_stands = accepted_stands list ordered corners (by_pairs (points list) (length missing / 2)) answer ordered' corners' f.gives f.result e

    enough : MoreMissing (points list) (length missing / 2) → ⊥
    enough more = none (both_accept (hull_rows list ordered corners accepted) (by_pairs (points list) (length missing / 2)) (tt, (tt, (tt, (tt, (tt, (tt, tt)))))) answer.place passes).1
      where
        none : Gives (by_pairs (points list) (length missing / 2)) 0 answer.place → ⊥
        none (inl h) = omega (arith, h.0)
        none (inr h) = h.0 0 (refl, more)

    abbrev lacking : Point → Type 0
    lacking = Lacking (take (2 * answer.corners) corners') (take (2 * answer.points) ordered')

    pub report_takes : Takes lacking missing
    report_takes = missing_takes (points list) _ _ _ _ report_stands missing enough

    module _ (missing' : List ℤ) (written : ℕ) (w : Puts lacking missing written missing') where
      p : Puts (Missing (points list)) missing written missing'
      p = missing_puts (points list) _ _ _ _ report_stands missing written missing' w

      -- the missing points are as many as fit
      fits : 2 * length p.0 ≤ length missing
      fits =
          let t = missing_puts (points list) _ _ _ _ report_stands missing (length report_takes.0) (holding report_takes.0 missing)
          (report_takes.0, report_takes.1, refl, refl) in
          omega (arith, report_takes.2, ap length (missing_list_unique (points list) t.0 p.0 t.1 p.1))

      pub report_front : 2 * written ≤ length missing'
      report_front = omega (arith, fits, p.2, ap length p.3, holding_length p.0 missing fits)

      pub report_done : ReportPromise list ordered corners missing (reported answer.points answer.corners written (first_in (take (2 * written) missing'))) ordered' corners' missing'
      report_done =
          subst (λ r. ReportPromise list ordered corners missing r ordered' corners' missing') (sym shown) record {
            gives = place_zero (report_rows list ordered corners missing accepted) (tt, (tt, (tt, (tt, (tt, (tt, (tt, tt))))))) answer.place
                (subst (λ n. Gives (report_rows list ordered corners missing accepted) n answer.place) e report_gives);
            hull = accepted_hulls list ordered corners (by_pairs (points list) (length missing / 2)) answer ordered' corners' f.gives f.result e;
            verdict = record { missing = p.0; listed = p.1; verdict_is = first_verdict p.0; first_is = first_point p.0 };
            listed = (p.0, p.1, refl, p.3);
          }
        where
          shown : reported answer.points answer.corners written (first_in (take (2 * written) missing'))
              ≡ reported answer.points answer.corners (length p.0) (first_held p.0)
          shown =
              (λ i. reported answer.points answer.corners (p.2 i) (first_in (take (2 * p.2 i) (p.3 i))))
              ∙ ap (reported answer.points answer.corners (length p.0)) (first_of_room p.0 missing)
