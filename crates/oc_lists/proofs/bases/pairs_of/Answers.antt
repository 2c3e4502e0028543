use Rattle.std.proofs.Common.{◌<◌, ◌+◌, ◌≡◌, ◌++◌, length, rules}
use Rattle.std.specs.Prelude.{IfSome}
use Rattle.oc_model.specs.declared.schema.ClassDef.{ClassDef}
use Rattle.oc_model.specs.Schemas.{class_at}
use Rattle.oc_lists.proofs.IndexedKinds.{bases_of_fields, class_more}
use Rattle.oc_lists.proofs.bases.pairs_of.Goals as goal

pub loop-place-preserved : goal.loop-place-preserved
loop-place-preserved c =
    let s = c.args.schema.now in
    let lt : c.loop-place.place < length s.classes = search rules in
    let more : IfSome (class_at s (c.loop-place.place + 1)) (λ (d : ClassDef). c.push_class.new.pairs.items ≡ c.loop-place.pairs.items ++ bases_of_fields d.fields) = search rules in
    class_more s c.loop-place.place lt c.loop-place.pairs.items c.push_class.new.pairs.items more c.loop-place.invariant
