use Rattle.std.proofs.Common.{◌≡◌, ◌++◌, drop, IsTrue}
use Rattle.std.specs.Prelude.{flat_map}
use Rattle.std.specs.List.{list_all}
use Rattle.oc_catalog.proofs.parts.write_row.Given as goal

abbrev pub invariant-loop-part : goal.invariant-loop-part
invariant-loop-part g l = record {
  bytes : l.out.items ++ flat_map g.P.Part.spell (drop l.part-index l.parts) ≡ l.fn.out.items ++ flat_map g.P.Part.spell l.parts;
  each : IsTrue (list_all g.P.Part.test (drop l.part-index l.parts));
}
