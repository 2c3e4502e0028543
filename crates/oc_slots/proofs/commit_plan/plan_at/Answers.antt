use Rattle.std.proofs.Common.{◌∙◌, ◌++◌, sym, ap, slice_index_or}
use Rattle.oc_layout.specs.declared.cells.Header.{Header}
use Rattle.oc_log.specs.Log.{with_log}
use Rattle.oc_pages.specs.Pages.{no_cell}
use Rattle.oc_slots.specs.Attaching.{with_cells}
use Rattle.oc_slots.specs.Pointings.{writes_of}
use Rattle.oc_slots.specs.Turnovers.{root_writes}
use Rattle.oc_slots.proofs.commit_plan.plan_at.Goals as goal

pub returns-clause-log : goal.returns-clause-log
returns-clause-log c =
    let named : Header = record (with_log c.args.header.now (slice_index_or c.args.cells.now c.len-2.result no_cell)) { gate = 0 } in
    record {
      added = c.in_ok-added.ensures;
      place = ap (λ n. slice_index_or c.args.cells.now n no_cell) c.len-2.ensures;
      writes = c.in_ok-of.ensures.writes ∙ c.in_ok-writes.ensures ∙ (λ i. root_writes c.args.header.now (c.deref.ensures.value i) ++ writes_of (c.deref-2.ensures.value i));
      wide = c.in_ok-of.ensures.wide;
      unit = c.in_ok-of.ensures.unit;
      header = c.with_cells-after.ensures ∙ ap (with_cells named) (c.deref-3.ensures.value ∙ sym c.in_ok-of.ensures.writes);
    }
