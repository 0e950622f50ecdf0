-- "For every input, declined ones too, the promise of a public call determines the answer and the later contents of each list lent to it. Show that
-- any two outcomes allowed by it coincide." An outcome is what a call answers, as document 01 numbers it, and what stands in each lent
-- list that it may write. A list that is lent to be read can't change. That there is an outcome is what the proof of the call itself shows. Assumes nothing.
use mathlib.Core.List.{List}
use lib.IntN.{ℤ}
use Rattle.order.specs.declared.Ordered.{Ordered}
use Rattle.rows.specs.declared.Ends.{Ends}
use Rattle.order.specs.Order.{OrderPromise}
use Rattle.rows.specs.Row.{RowEndsPromise, RowPromise}
use Rattle.order.proofs.Ordering.{order_pinned}
use Rattle.rows.proofs.Pinned.{row_ends_pinned, row_pinned}
use Rattle.hull.specs.declared.Hulled.{Hulled}
use Rattle.hull.specs.Hull.{HullPromise}
use Rattle.hull.proofs.Hulling.{hull_pinned}
use Rattle.report.specs.declared.Judged.{Judged}
use Rattle.report.specs.declared.Reported.{Reported}
use Rattle.report.specs.Report.{VerdictPromise, ReportPromise}
use Rattle.report.proofs.Pinned.{verdict_pinned, report_pinned}
use Rattle.figures.specs.declared.Figured.{Figured}
use Rattle.figures.specs.Figures.{FiguresPromise}
use Rattle.figures.proofs.Promised.{figures_pinned}
use Rattle.rebuild.specs.declared.Rebuilt.{Rebuilt}
use Rattle.rebuild.specs.Rebuild.{RebuildPromise}
use Rattle.rebuild.proofs.Rebuilding.{rebuild_pinned}
use Rattle.demands.specs.Demands.{Pinned}

pub record EveryCallPinned : Type 0 where
  pub order : (list room : List ℤ) → Pinned (Ordered × List ℤ) (λ r. OrderPromise list room r.0 r.1)
  pub row_ends : (list : List ℤ) (y : ℤ) → Pinned Ends (RowEndsPromise list y)
  pub row : (list : List ℤ) (y : ℤ) → Pinned (List ℤ) (RowPromise list y)
  pub hull : (list ordered corners : List ℤ)
      → Pinned (Hulled × List ℤ × List ℤ) (λ r. HullPromise list ordered corners r.0 r.1 r.2)
  pub verdict : (list ordered corners : List ℤ)
      → Pinned (Judged × List ℤ × List ℤ) (λ r. VerdictPromise list ordered corners r.0 r.1 r.2)
  pub report : (list ordered corners missing : List ℤ)
      → Pinned (Reported × List ℤ × List ℤ × List ℤ) (λ r. ReportPromise list ordered corners missing r.0 r.1 r.2 r.3)
  pub figures : (list ordered corners : List ℤ)
      → Pinned (Figured × List ℤ × List ℤ) (λ r. FiguresPromise list ordered corners r.0 r.1 r.2)
  pub rebuild : (corners missing room : List ℤ) → Pinned (Rebuilt × List ℤ) (λ r. RebuildPromise corners missing room r.0 r.1)

pub every_call_pinned : EveryCallPinned
every_call_pinned = record {
  order = λ list room a b h g. let e = order_pinned list room a.0 b.0 a.1 b.1 h g in λ i. (e.0 i, e.1 i);
  row_ends = row_ends_pinned;
  row = row_pinned;
  hull = λ list ordered corners a b h g.
      let e = hull_pinned list ordered corners a.0 b.0 a.1 b.1 a.2 b.2 h g in λ i. (e.0 i, e.1 i, e.2 i);
  verdict = λ list ordered corners a b h g.
      let e = verdict_pinned list ordered corners a.0 b.0 a.1 b.1 a.2 b.2 h g in λ i. (e.0 i, e.1 i, e.2 i);
  report = λ list ordered corners missing a b h g.
      let e = report_pinned list ordered corners missing a.0 b.0 a.1 b.1 a.2 b.2 a.3 b.3 h g in
      λ i. (e.0 i, e.1 i, e.2 i, e.3 i);
  figures = λ list ordered corners a b h g.
      let e = figures_pinned list ordered corners a.0 b.0 a.1 b.1 a.2 b.2 h g in λ i. (e.0 i, e.1 i, e.2 i);
  rebuild = λ corners missing room a b h g. let e = rebuild_pinned corners missing room a.0 b.0 a.1 b.1 h g in λ i. (e.0 i, e.1 i);
}
