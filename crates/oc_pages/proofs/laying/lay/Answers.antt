use Rattle.std.proofs.Common.{◌≡◌, ◌∙◌, ℕ, List, length, take, get_or, sym, ap, arith}
use Rattle.std.proofs.lemmas.List.{take_all}
use Rattle.oc_layout.specs.declared.cells.CellWrite.{CellWrite}
use Rattle.oc_layout.specs.Layout.{cell_bytes}
use Rattle.oc_host.specs.Disk.{over}
use Rattle.oc_log.specs.Log.{slice, put_cells}
use Rattle.oc_log.proofs.Touches.{none}
use Rattle.oc_pages.proofs.LaidCells.{within_at, length-first, put_more}
use Rattle.oc_pages.proofs.laying.lay.Goals as goal

pub loop-cell-preserved : goal.loop-cell-preserved
unfolding none
loop-cell-preserved c = record {
  size = c.lay_one.auto.bytes ∙ c.loop-cell.invariant.size;
  laid = λ image within inside is.
      let ws = c.args.cells.now in
      let k = c.loop-cell.cell-index in
      let at = c.args.at in
      let n = length c.args.bytes.now in
      let so_far = put_cells (take k ws) image in
      let long = length-first ws k image within in
      let size = c.loop-cell.invariant.size in
      let was : c.loop-cell.bytes ≡ slice at (length c.loop-cell.bytes) so_far =
      c.loop-cell.invariant.laid image within inside is ∙ ap (λ (m : ℕ). slice at m so_far) (sym size) in
      c.lay_one.ensures so_far (omega (arith, long, within_at (length image) ws k none within c.loop-cell-test.true)) (omega (arith, long, size, inside)) was
      ∙ ap (λ (m : ℕ). slice at m (over (get_or ws k none).target (cell_bytes (get_or ws k none).cell) so_far)) size
      ∙ ap (slice at n) (put_more ws k none image c.loop-cell-test.true);
}

pub returns : goal.returns
returns c image within inside is =
    let ws = c.args.cells.now in
    c.loop-cell.invariant.laid image within inside is
    ∙ ap (λ (l : List CellWrite). slice c.args.at (length c.args.bytes.now) (put_cells l image)) (take_all c.loop-cell.cell-index ws c.loop-cell-test.false)
