use Rattle.std.proofs.Common.{◌≡◌, ◌++◌, drop, map}
use Rattle.oc_schema.proofs.distinct.push_ids.Given as goal

abbrev pub invariant-loop-field : goal.invariant-loop-field
invariant-loop-field l = l.ids.items ++ map (λ f. f.id) (drop l.field-index l.fields) ≡ l.fn.ids.items ++ map (λ f. f.id) l.fields
