use Rattle.std.proofs.Common.{◌≡◌, ◌≤◌, ◌+◌, ℕ, List, length, take}
use Rattle.oc_log.specs.Log.{slice, put_cells, AllWithin}
use Rattle.oc_pages.proofs.laying.lay.Given as goal

abbrev pub invariant-loop-cell : goal.invariant-loop-cell
invariant-loop-cell l = record {
  size : length l.bytes ≡ length l.fn.bytes;
  laid : (image : List ℕ) → AllWithin (length image) l.cells → l.at + length l.fn.bytes ≤ length image → l.fn.bytes ≡ slice l.at (length l.fn.bytes) image → l.bytes ≡ slice l.at (length l.fn.bytes) (put_cells (take l.cell-index l.cells) image);
}
