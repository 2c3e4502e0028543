use Rattle.std.proofs.Common.{◌≡◌, ◌++◌, drop, map, filter}
use Rattle.oc_model.specs.Schemas.{current}
use Rattle.oc_lists.proofs.indexed.push_own.Given as goal

abbrev pub invariant-loop-field : goal.invariant-loop-field
invariant-loop-field l = map (λ f. f.now) l.fields.items ++ filter (λ f. f.indexed) (current (drop l.field-index l.own)) ≡ map (λ f. f.now) l.fn.fields.items ++ filter (λ f. f.indexed) (current l.own)
