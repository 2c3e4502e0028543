-- It has no objects, and the empty schema computes.
use Rattle.std.proofs.Common.{◌≡◌, refl, true, Some, None}
use Rattle.oc_model.specs.declared.value.Rec.{Rec}
use Rattle.oc_model.specs.Schemas.{empty_schema}
use Rattle.oc_model.specs.SchemaRules.{keeps_rules}
use Rattle.oc_model.proofs.laws_stores.empty_store_keeps_rules.Goals as goal

empty_keeps : keeps_rules empty_schema ≡ true
unfolding keeps_rules
empty_keeps = refl

nothing : (P : Type 0) (r : Rec) → None ≡ Some r → P
nothing P r e = absurd (cc)

pub returns : goal.returns
returns c first a b =
    record {
      schema = empty_keeps;
      some_next = a;
      small_next = b;
      by_number = refl;
      from_one = λ n r e. nothing _ r e;
      below_next = λ n r e. nothing _ r e;
      suit = λ n r e. nothing _ r e;
    }
