use Rattle.std.proofs.Common.{◌∙◌, ℕ, ◌<◌, ◌++◌, List, Option, None, length, ap, arith}
use Rattle.std.specs.Prelude.{flat_map}
use Rattle.std.proofs.lemmas.List.{take_all}
use Rattle.oc_layout.specs.declared.cells.Cell.{Cell}
use Rattle.oc_slots.specs.declared.turnover.Pointing.{Pointing}
use Rattle.oc_slots.specs.Turnovers.{slot_at, other_pointed, other_freed}
use Rattle.oc_slots.proofs.TurnoverLists.{one_more}
use Rattle.oc_slots.proofs.turnover.Turnover.point_others.Goals as goal

pub loop-index-preserved : goal.loop-index-preserved
loop-index-preserved c =
    let es = c.of-changes.result.now.entries in
    let i = c.loop-index.index in
    let lt : i < length es = omega (arith, c.loop-index-test.true, c.len-index-end.ensures.len) in
    let f : ℕ × Option Cell → List Pointing = λ e. other_pointed c.args.pages.now.unit c.args.pages.now.pages c.args.named.now (slot_at c.args.space e.0) e.1 in
    let g : ℕ × Option Cell → List Cell = λ e. other_freed c.args.pages.now.pages c.args.named.now (slot_at c.args.space e.0) e.1 in
    record {
      pointings = c.in_ok-point_other.ensures.pointings ∙ (λ j. c.loop-index.invariant.pointings j ++ f (c.change_at-number.ensures j)) ∙ one_more f c.args.self.now.pointings.items es i (0, None) lt;
      freed = c.in_ok-point_other.ensures.freed ∙ (λ j. c.loop-index.invariant.freed j ++ g (c.change_at-number.ensures j)) ∙ one_more g c.args.self.now.freed.items es i (0, None) lt;
      fits = λ all. c.in_ok-point_other.ensures.fits (c.loop-index.invariant.fits all);
    }

pub returns-clause-pointings : goal.returns-clause-pointings
returns-clause-pointings c =
    let f : ℕ × Option Cell → List Pointing = λ e. other_pointed c.args.pages.now.unit c.args.pages.now.pages c.args.named.now (slot_at c.args.space e.0) e.1 in
    c.loop-index.invariant.pointings
    ∙ ap (λ l. c.args.self.now.pointings.items ++ flat_map f l) (take_all c.loop-index.index c.of-changes.result.now.entries (omega (arith, c.loop-index-test.false, c.len-index-end.ensures.len)) ∙ c.of-changes.ensures)

pub returns-clause-freed : goal.returns-clause-freed
returns-clause-freed c =
    let g : ℕ × Option Cell → List Cell = λ e. other_freed c.args.pages.now.pages c.args.named.now (slot_at c.args.space e.0) e.1 in
    c.loop-index.invariant.freed
    ∙ ap (λ l. c.args.self.now.freed.items ++ flat_map g l) (take_all c.loop-index.index c.of-changes.result.now.entries (omega (arith, c.loop-index-test.false, c.len-index-end.ensures.len)) ∙ c.of-changes.ensures)
