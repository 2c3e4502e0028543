use Rattle.std.proofs.Common.{◌<◌, ◌+◌, ◌≡◌, ◌++◌, length, rules}
use Rattle.std.specs.Prelude.{IfSome}
use Rattle.std.specs.Int.{w16}
use Rattle.oc_model.specs.Schemas.{class_at}
use Rattle.oc_model.specs.Spelling.{class_bytes, counted}
use Rattle.oc_catalog.proofs.Numbered.{written_on}
use Rattle.oc_catalog.proofs.writing.write_classes.Goals as goal

pub loop-place-preserved : goal.loop-place-preserved
loop-place-preserved c =
    let s = c.args.schema.now in
    let lt : c.loop-place.place < length s.classes = search rules in
    let more : IfSome (class_at s (c.loop-place.place + 1)) (λ d. c.write_class.new.out.items ≡ c.loop-place.out.items ++ class_bytes d) = search rules in
    written_on class_bytes s c.loop-place.place lt c.loop-place.out.items c.write_class.new.out.items (c.args.out.now.items ++ counted w16 class_bytes s.classes) more c.loop-place.invariant
