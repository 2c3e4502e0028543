use Rattle.std.proofs.Common.{◌≡◌, ◌++◌, ◌-◌, ◌*◌, length}
use Rattle.std.specs.Prelude.{All}
use Rattle.oc_layout.specs.Layout.{write_len, first_writes, writes_bytes, FitsWrite}
use Rattle.oc_layout.proofs.log.writes_from.Given as goal

abbrev pub invariant-loop : goal.invariant-loop
invariant-loop l = record {
  read : l.cells.items ++ first_writes l.wide (l.count - l.counter) l.rest ≡ first_writes l.wide l.count l.bytes;
  fits : All (FitsWrite l.wide) l.cells.items;
  spelled : l.bytes ≡ writes_bytes l.wide l.cells.items ++ l.rest;
  size : length l.rest ≡ write_len l.wide * (l.count - l.counter);
}
