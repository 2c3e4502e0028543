-- The class behind the others, and its number at its name.
use Rattle.std.proofs.Common.{◌≡◌, ◌+◌, ◌++◌, ◌∷◌, [], true, length, sym, ap, subst, ◌∙◌, arith}
use Rattle.oc_model.specs.Schemas.{Schema}
use Rattle.oc_model.specs.SchemaRules.{keeps_rules}
use Rattle.oc_schema.specs.Drafts.{schema_of, IsTable}
use Rattle.oc_shared.specs.Tables.{with_value}
use Rattle.oc_schema.proofs.Names.{table_last}
use Rattle.oc_schema.proofs.Parting.{few_last, distinct_classes}
use Rattle.oc_schema.proofs.schema.Schema.with_class.Goals as goal

pub overflow_cast-number : goal.overflow_cast-number
overflow_cast-number c =
    let few = few_last c.args.self.now.classes c.args.class c.args.next_field c.requires in
    let same : length c.self.inside.draft.classes ≡ length c.args.self.now.classes = ap (λ (s : Schema). length s.classes) c.self.view_is in
    omega (arith, few, same, c.len.ensures)

pub overflow_add-number : goal.overflow_add-number
overflow_add-number c =
    let few = few_last c.args.self.now.classes c.args.class c.args.next_field c.requires in
    let same : length c.self.inside.draft.classes ≡ length c.args.self.now.classes = ap (λ (s : Schema). length s.classes) c.self.view_is in
    omega (arith, few, same, c.len.ensures)

pub invariant_of-result : goal.invariant_of-result
invariant_of-result c =
    let cs = c.self.inside.draft.classes in
    let class = c.args.class in
    let next = c.args.next_field in
    let rules = subst (λ (s : Schema). keeps_rules (schema_of (s.classes ++ class ∷ []) next) ≡ true) (sym c.self.view_is) c.requires in
    let named = c.in_ok-numbers.ensures ∙ ap (λ k. with_value c.self.inside.numbers k (c.len.result + 1)) c.as_slice.ensures in
    let number : c.len.result + 1 ≡ length cs + 1 = omega (arith, c.len.ensures) in
    let table = table_last c.self.inside.numbers c.in_ok-numbers.numbers cs class (c.len.result + 1) number named (distinct_classes _ rules) c.self.invariant.table in
    record {
      rules = subst (λ s. keeps_rules s ≡ true) (sym c.in_ok-draft.ensures) rules;
      table = subst (λ (s : Schema). IsTable c.in_ok-numbers.numbers s.classes) (sym c.in_ok-draft.ensures) table;
    }
