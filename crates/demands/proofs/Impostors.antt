-- "Five impostors have to be caught." Each is a Report whose outcome no promise allows, at the grain that document 01 names: A is empty,
-- B is (5,5), D is (0,0) (2,4) with missing point (1,2). The corners and the missing points of these grains are those of the table of lettered
-- grains. Assumes nothing.
use mathlib.Core.Path.{◌≡◌, sym, ◌∙◌, ap}
use mathlib.Core.List.{List, [], ◌∷◌}
use Prim.Native.Nat.{◌*◌, ◌≤◌}
use native.Mathlib.Omega.{arith}
use lib.Dec.{T}
use lib.ListN.{length, take}
use lib.IntN.{ℤ}
use Rattle.lattice.specs.Point.{Point, InRange, most, points, Before}
use Rattle.lattice.specs.Hull.{CornerList, MissingList}
use Rattle.lattice.specs.Refusal.{Odd}
use Rattle.lattice.specs.Room.{numbers}
use Rattle.lattice.specs.Grains.{at, grains}
use Rattle.lattice.proofs.Decide.{all?, pairs?, before?}
use Rattle.lattice.proofs.Refusals.{range?}
use Rattle.lattice.proofs.RowLists.{row_order_exists}
use Rattle.lattice.proofs.CornerLists.{corner_list_exists}
use Rattle.lattice.proofs.Grains.{grains_hold}
use Rattle.rows.specs.Row.{Sound}
use Rattle.report.specs.declared.Reported.{Reported}
use Rattle.report.specs.Report.{ReportPromise}
use Rattle.demands.specs.Demands.{RoomFor, Begins}
use Rattle.demands.proofs.Published.{report_published, report_of_sound}

-- ---- the grains
abbrev pub grain_a : List ℤ
grain_a = []

abbrev pub grain_b : List ℤ
grain_b = numbers (at 5 5 ∷ [])

abbrev pub grain_d : List ℤ
grain_d = numbers (at 0 0 ∷ at 2 4 ∷ [])

a_corners : CornerList (points grain_a) []
unfolding grains
a_corners = grains_hold.0.0

a_missing : MissingList (points grain_a) []
unfolding grains
a_missing = grains_hold.0.1

b_corners : CornerList (points grain_b) (at 5 5 ∷ [])
unfolding grains
b_corners = grains_hold.1.0.0

b_missing : MissingList (points grain_b) []
unfolding grains
b_missing = grains_hold.1.0.1

d_corners : CornerList (points grain_d) (at 0 0 ∷ at 2 4 ∷ [])
unfolding grains
d_corners = grains_hold.1.1.1.0.0

d_missing : MissingList (points grain_d) (at 1 2 ∷ [])
unfolding grains
d_missing = grains_hold.1.1.1.0.1

sound_by_test : (list : List ℤ) → (Odd list → ⊥) → length (points list) ≤ most → T (all? InRange range? (points list)).test
    → T (pairs? Before before? (points list)).test → Sound list
sound_by_test list even few range order = record {
  even = even;
  few = few;
  range = (all? InRange range? (points list)).sound range;
  order = (pairs? Before before? (points list)).sound order;
}

a_sound : Sound grain_a
a_sound = sound_by_test grain_a (λ h. omega (arith, h)) (omega arith) tt tt

b_sound : Sound grain_b
b_sound = sound_by_test grain_b (λ h. omega (arith, h)) (omega arith) tt tt

d_sound : Sound grain_d
d_sound = sound_by_test grain_d (λ h. omega (arith, h)) (omega arith) tt tt

-- ---- what Report has to answer and write, whatever it finds in its rooms
module _ (ordered corners missing : List ℤ) (a : Reported) (ordered' corners' missing' : List ℤ) where
  of_B : RoomFor 1 ordered → RoomFor 1 corners → ReportPromise grain_b ordered corners missing a ordered' corners' missing'
      → (a.number ≡ 0) × Begins (at 5 5 ∷ []) a.corners corners corners'
  of_B wide corner_wide h =
      let r = report_of_sound grain_b ordered corners missing (at 5 5 ∷ []) [] b_sound b_corners b_missing wide corner_wide (omega arith)
      a ordered' corners' missing' h in
      (r.0, r.2)

  of_D : RoomFor 2 ordered → RoomFor 2 corners → RoomFor 1 missing → ReportPromise grain_d ordered corners missing a ordered' corners' missing'
      → Begins (at 0 0 ∷ at 2 4 ∷ []) a.corners corners corners' × Begins (at 1 2 ∷ []) a.missing missing missing'
  of_D wide corner_wide missing_wide h =
      let r = report_of_sound grain_d ordered corners missing (at 0 0 ∷ at 2 4 ∷ []) (at 1 2 ∷ []) d_sound d_corners d_missing
      wide corner_wide missing_wide a ordered' corners' missing' h in
      (r.2, r.3)

  -- "One that declines everything: the table says when each number is given and that it isn't given otherwise, under demand 1."
  pub declining_everything_caught : RoomFor 1 ordered → RoomFor 1 corners → (a.number ≡ 0 → ⊥)
      → ReportPromise grain_b ordered corners missing a ordered' corners' missing' → ⊥
  declining_everything_caught wide corner_wide declines h = declines (of_B wide corner_wide h).0

  -- "One that reports every grain alike: demand 2 at A and B": no outcome is allowed for both, in whatever rooms
  pub reporting_alike_caught : ReportPromise grain_a ordered corners missing a ordered' corners' missing'
      → ReportPromise grain_b ordered corners missing a ordered' corners' missing' → ⊥
  reporting_alike_caught h g =
      let r = report_of_sound grain_a ordered corners missing [] [] a_sound a_corners a_missing (omega arith) (omega arith) (omega arith)
      a ordered' corners' missing' h in
      let o = row_order_exists (points grain_b) in
      let s = report_published grain_b ordered corners missing a ordered' corners' missing' g r.0 o.0 (at 5 5 ∷ []) [] o.1 b_corners b_missing in
      omega (arith, r.2.counted, s.1.counted)

  -- "One whose missing count is invented: the count is the length of the defined list, demand 2."
  pub invented_count_caught : (list : List ℤ) (m : List Point) → MissingList (points list) m → (a.missing ≡ length m → ⊥) → a.number ≡ 0
      → ReportPromise list ordered corners missing a ordered' corners' missing' → ⊥
  invented_count_caught list m k other e h =
      let o = row_order_exists (points list) in
      let c = corner_list_exists (points list) in
      other (report_published list ordered corners missing a ordered' corners' missing' h e o.0 c.0 m o.1 c.1 k).2.counted

  pub invented_count_at_D_caught : RoomFor 2 ordered → RoomFor 2 corners → RoomFor 1 missing → (a.missing ≡ 1 → ⊥)
      → ReportPromise grain_d ordered corners missing a ordered' corners' missing' → ⊥
  invented_count_at_D_caught wide corner_wide missing_wide other h = other (of_D wide corner_wide missing_wide h).1.counted

  -- "The fifth orders the points in Report and only claims corners and missing points: demand 2 at D": whatever it claims, D's corners and D's
  -- missing point have to stand in the rooms
  pub only_claiming_caught : RoomFor 2 ordered → RoomFor 2 corners → RoomFor 1 missing
      → ((take 4 corners' ≡ numbers (at 0 0 ∷ at 2 4 ∷ [])) × (take 2 missing' ≡ numbers (at 1 2 ∷ [])) → ⊥)
      → ReportPromise grain_d ordered corners missing a ordered' corners' missing' → ⊥
  only_claiming_caught wide corner_wide missing_wide unwritten h =
      let r = of_D wide corner_wide missing_wide h in
      unwritten (
        ap (λ n. take (2 * n) corners') (sym r.0.counted) ∙ r.0.front,
        ap (λ n. take (2 * n) missing') (sym r.1.counted) ∙ r.1.front,
      )

-- "One that writes nothing: the corners of B under demand 2": the corner room reads as before, and did not begin with (5,5)
pub writing_nothing_caught : (ordered corners missing : List ℤ) (a : Reported) (ordered' missing' : List ℤ) → RoomFor 1 ordered → RoomFor 1 corners
    → (take 2 corners ≡ numbers (at 5 5 ∷ []) → ⊥) → ReportPromise grain_b ordered corners missing a ordered' corners missing' → ⊥
writing_nothing_caught ordered corners missing a ordered' missing' wide corner_wide other h =
    let b = (of_B ordered corners missing a ordered' corners missing' wide corner_wide h).1 in
    other (ap (λ n. take (2 * n) corners) (sym b.counted) ∙ b.front)
