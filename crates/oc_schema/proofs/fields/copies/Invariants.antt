use Rattle.std.proofs.Common.{◌≡◌, ◌++◌, drop, map}
use Rattle.oc_schema.proofs.fields.copies.Given as goal

abbrev pub invariant-loop-field : goal.invariant-loop-field
invariant-loop-field l = l.copies.items ++ map (λ f. f.now) (drop l.field-index l.fields) ≡ map (λ f. f.now) l.fields
