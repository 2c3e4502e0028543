use Rattle.std.proofs.Common.{◌≡◌, ◌++◌, ◌+◌, ◌*◌, ◌-◌, take, drop, length}
use Rattle.oc_pages.specs.Chains.{cells_from}
use Rattle.oc_pages.proofs.page.cells_of.Given as goal

abbrev pub invariant-loop-k : goal.invariant-loop-k
invariant-loop-k l = record {
  read : take l.k l.cells ++ cells_from (126 - l.k) l.rest ≡ cells_from 126 (drop 16 l.bytes);
  room : length l.rest + 8 * l.k ≡ 1008;
  size : length l.cells ≡ 126;
}
