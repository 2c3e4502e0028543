use Rattle.std.proofs.Common.{◌≡◌, ◌++◌, drop, map, flat_map}
use Rattle.oc_schema.proofs.distinct.have_distinct_ids.Given as goal

abbrev pub invariant-loop-class : goal.invariant-loop-class
invariant-loop-class l = l.ids.items ++ map (λ f. f.id) (flat_map (λ c. c.fields) (drop l.class-index l.classes)) ≡ map (λ f. f.id) (flat_map (λ c. c.fields) l.classes)
