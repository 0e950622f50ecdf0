-- A table gives number 0 exactly if none of its rows applies, and then place 0; so with lists that rows 1 to 4 let pass. Assumes nothing.
use mathlib.Core.Path.{refl, ap}
use mathlib.Core.Logic.{inl, inr}
use mathlib.Core.List.{List}
use Prim.Native.Nat.{ℕ}
use native.Mathlib.Omega.{arith}
use lib.ListN.{length}
use lib.IntN.{ℤ}
use Rattle.lattice.specs.Point.{Point, points}
use Rattle.lattice.specs.Hull.{CornerList, MissingList}
use Rattle.lattice.specs.Refusal.{Table, accepted, ◌when◌else◌, Gives, list_rows}
use Rattle.lattice.proofs.CornerLists.{corner_list_unique}
use Rattle.lattice.proofs.MissingLists.{missing_list_unique}
use Rattle.lattice.proofs.Tables.{Numbered, unnumbered, whole_never, none_out_of_range, none_repeats}
use Rattle.rows.specs.Row.{Sound}
use Rattle.report.specs.Report.{report_rows}
use Rattle.demands.specs.Demands.{NoneApplies, RoomFor}

-- ---- tables
pub none_applies : (t : Table) → Numbered t → (i : ℕ) → Gives t 0 i → NoneApplies t
none_applies accepted n i h = tt
none_applies (k when P else t) n i (inl h) = absurd (unnumbered k h.0 n.0)
none_applies (k when P else t) n i (inr h) = (h.0, none_applies t n.1 i h.1)

pub all_pass : (t : Table) → NoneApplies t → Gives t 0 0
all_pass accepted h = (refl, refl)
all_pass (k when P else t) h = inr (h.0, all_pass t h.1)

-- ---- lists
pub sound_passes : (list : List ℤ) → Sound list → NoneApplies (list_rows list accepted)
sound_passes list h = (
  whole_never h.even,
  (
    whole_never (λ more. omega (arith, more, h.few)),
    (none_out_of_range (points list) h.range, (none_repeats (points list) h.order, tt)),
  ),
)

-- given room, Report declines no list that rows 1 to 4 let pass
pub report_accepts : (list ordered corners missing : List ℤ) (c m : List Point) → NoneApplies (list_rows list accepted)
    → CornerList (points list) c → MissingList (points list) m
    → RoomFor (length (points list)) ordered → RoomFor (length c) corners → RoomFor (length m) missing
    → NoneApplies (report_rows list ordered corners missing accepted)
report_accepts list ordered corners missing c m (odd, (more, (outside, (repeats, t)))) h g wide corner_wide missing_wide = (
  odd,
  (
    more,
    (
      outside,
      (
        repeats,
        (
          whole_never (λ small. omega (arith, small, wide)),
          (
            whole_never (λ w. omega (arith, w.small, corner_wide, ap length (corner_list_unique (points list) w.corners c w.listed h))),
            (whole_never (λ w. omega (arith, w.small, missing_wide, ap length (missing_list_unique (points list) w.missing m w.listed g))), tt),
          ),
        ),
      ),
    ),
  ),
)
