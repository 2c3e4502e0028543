use Rattle.std.proofs.Common.{◌≡◌, ◌∷◌, drop}
use Rattle.oc_model.specs.SchemaRules.{are_in_order}
use Rattle.oc_schema.proofs.class_rules.are_in_order.Given as goal

abbrev pub invariant-loop-next : goal.invariant-loop-next
invariant-loop-next l = are_in_order (l.before ∷ drop l.next-index l.rest) ≡ are_in_order l.fields
