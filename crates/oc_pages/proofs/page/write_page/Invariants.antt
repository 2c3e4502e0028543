use Rattle.std.proofs.Common.{◌≡◌, ◌++◌, ◌+◌, ◌*◌, take, length}
use Rattle.std.specs.Prelude.{All, flat_map}
use Rattle.oc_layout.specs.Layout.{cell_bytes, FitsCell}
use Rattle.oc_pages.proofs.Bytes.{head_bytes}
use Rattle.oc_pages.proofs.page.write_page.Given as goal

abbrev pub invariant-loop-k : goal.invariant-loop-k
invariant-loop-k l = record {
  front : take (16 + 8 * l.k) l.bytes ≡ head_bytes l.page ++ flat_map cell_bytes (take l.k l.page.cells);
  fits : All FitsCell (take l.k l.page.cells);
  size : length l.bytes ≡ 1024;
}
