use Rattle.std.proofs.Common.{◌≡◌, ◌++◌, drop}
use Rattle.std.specs.Prelude.{All}
use Rattle.oc_layout.specs.Layout.{log_bytes, writes_bytes, FitsWrite}
use Rattle.oc_layout.proofs.log.write_log.Given as goal

abbrev pub invariant-loop-write : goal.invariant-loop-write
invariant-loop-write l = record {
  bytes : l.out.items ++ writes_bytes l.wide (drop l.write-index l.cells) ≡ log_bytes l.wide l.cells;
  fits : All (FitsWrite l.wide) (drop l.write-index l.cells);
}
