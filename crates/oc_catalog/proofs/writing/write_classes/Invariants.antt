use Rattle.std.proofs.Common.{◌≡◌, ◌++◌, drop}
use Rattle.std.specs.Prelude.{flat_map}
use Rattle.std.specs.Int.{w16}
use Rattle.oc_model.specs.Spelling.{class_bytes, counted}
use Rattle.oc_catalog.proofs.writing.write_classes.Given as goal

abbrev pub invariant-loop-place : goal.invariant-loop-place
invariant-loop-place l = l.out.items ++ flat_map class_bytes (drop l.place l.schema.classes) ≡ l.fn.out.items ++ counted w16 class_bytes l.schema.classes
