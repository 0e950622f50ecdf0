-- Beside the row, at one of its ends, or between them. Assumes nothing.
use Rattle.std.proofs.Common.{arith, sym, subst, inl, inr, ◌∙◌, ◌<◌, false}
use Rattle.std.proofs.lemmas.Bool.{eqb-false}
use Rattle.lattice.specs.Point.{points, point, In}
use Rattle.lattice.proofs.Lists.{either}
use Rattle.lattice.proofs.Places.{place_in}
use Rattle.packed.specs.Packed.{Tells}
use Rattle.missing.specs.Missing.{MisplacedAt}
use Rattle.missing.proofs.Known.{row_known}
use Rattle.missing.proofs.Misplacing.{as_read, range_at, beside_row, at_corner, between_row}
use Rattle.missing.proofs.Row.is_misplaced.Goals as goal
use Rattle.missing.proofs.Row.is_misplaced.Goals.{then-not-self+then-x-from-2, then-not-self+else-x-from-2, else-not-self}

pub column_at-x-requires : goal.column_at-x-requires
column_at-x-requires c =
    let r = c.args.self.now in
    let h = row_known r.corners.now r.stretch (points r.missing.now) r.begin r.end r.in_one_row in
    (omega (arith, h.inside), range_at r.corners.now r.stretch (points r.missing.now) r.begin r.end h c.args.i c.requires.1)

pub returns-then-x-from : goal.returns-then-x-from
returns-then-x-from c =
    let r = c.args.self.now in
    let l = points r.missing.now in
    let h = row_known r.corners.now r.stretch l r.begin r.end r.in_one_row in
    beside_row r.corners.now r.stretch l r.begin r.end h c.args.i c.requires.0 c.requires.1 c.column_at-x.result c.column_at-x.ensures.0
    (either c.then-x-from.either (λ b. inl b) (λ b. inr (omega (arith, b.1))))

pub returns-then-x-to : goal.returns-then-x-to
returns-then-x-to c =
    let r = c.args.self.now in
    let l = points r.missing.now in
    let h = row_known r.corners.now r.stretch l r.begin r.end r.in_one_row in
    let read = as_read r.missing.now c.args.i (omega (arith, h.inside)) (range_at r.corners.now r.stretch l r.begin r.end h c.args.i c.requires.1) in
    at_corner r.corners.now r.stretch l r.begin r.end h c.args.i c.requires.0 c.requires.1 c.column_at-x.result c.column_at-x.ensures.0 c.if-x-from.false (omega arith)
    c.is_corner.result (subst (λ p. Tells c.is_corner.result (In p (points r.corners.now))) read c.is_corner.ensures)

pub returns-else-x-to : goal.returns-else-x-to
returns-else-x-to c =
    let r = c.args.self.now in
    let l = points r.missing.now in
    let h = row_known r.corners.now r.stretch l r.begin r.end r.in_one_row in
    let to : c.column_at-x.result < r.stretch.to = omega arith in
    let Fault = MisplacedAt r.corners.now r.missing.now c.args.i in
    let told = λ (n : Fault → ⊥). subst (λ b. Tells b Fault) (sym c.if-x-to.false) n in
    elim c.if-not-self.branch [
      | then-not-self+then-x-from-2 w ↦ absurd (eqb-false _ _ (sym w.value-is ∙ c.if-x-to.false) w.if-x-from-2.true)
      | then-not-self+else-x-from-2 w ↦
          told (between_row r.corners.now r.stretch l r.begin r.end h c.args.i c.requires.0 c.requires.1 c.column_at-x.result c.column_at-x.ensures.0 c.if-x-from.false to
          (λ e. omega (arith, e, w.if-x-from-2.false)) (eqb-false _ _ (sym w.value-is ∙ c.if-x-to.false)))
      | else-not-self w ↦
          told (at_corner r.corners.now r.stretch l r.begin r.end h c.args.i c.requires.0 c.requires.1 c.column_at-x.result c.column_at-x.ensures.0 c.if-x-from.false to false
          (λ m. r.known_apart w.if-not-self.false (point l c.args.i) m (place_in l c.args.i (omega (arith, h.inside)))))
    ]
