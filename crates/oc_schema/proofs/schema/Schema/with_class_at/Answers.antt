-- The class in its place, and its number at its name.
use Rattle.std.proofs.Common.{◌≡◌, ◌+◌, ◌-◌, ◌≤◌, true, Some, is_some, slice_set, sym, ap, subst, ◌∙◌, arith}
use Rattle.oc_model.specs.Schemas.{Schema}
use Rattle.oc_model.specs.SchemaRules.{keeps_rules}
use Rattle.oc_schema.specs.Drafts.{schema_of, IsTable, IsRenamed}
use Rattle.oc_shared.specs.Tables.{value_at}
use Rattle.oc_schema.proofs.Names.{number_here, table_set}
use Rattle.oc_schema.proofs.Sharing.{class_found}
use Rattle.oc_schema.proofs.Parting.{class_there, distinct_classes}
use Rattle.oc_schema.proofs.schema.Schema.with_class_at.Goals as goal

pub renamed-requires : goal.renamed-requires
renamed-requires c =
    let s = c.self.inside.draft in
    let n = c.args.number in
    let old = c.in-Some.old.now in
    let some : 1 ≤ n = class_there s n (ap is_some (sym c.in-Some.ensures)) in
    let number : 1 + (n - 1) ≡ n = omega (arith, some) in
    ap (value_at c.self.inside.numbers) c.as_slice.ensures
    ∙ c.self.invariant.table old.name
    ∙ number_here 1 s.classes (n - 1) old (distinct_classes s c.self.invariant.rules) (class_found s n some ∙ sym c.in-Some.ensures)
    ∙ ap Some number

pub invariant_of-result : goal.invariant_of-result
invariant_of-result c =
    let s = c.self.inside.draft in
    let n = c.args.number in
    let old = c.in-Some.old.now in
    let class = c.args.class in
    let next = c.args.next_field in
    let some : 1 ≤ n = class_there s n (ap is_some (sym c.in-Some.ensures)) in
    let number : n ≡ 1 + (n - 1) = omega (arith, some) in
    let rules = subst (λ (t : Schema). keeps_rules (schema_of (slice_set t.classes (n - 1) class) next) ≡ true) (sym c.self.view_is) c.requires.rules in
    let renamed =
    subst (λ to. IsRenamed c.self.inside.numbers n old.name to c.in_ok-numbers.numbers) c.as_slice-2.ensures
    (subst (λ from. IsRenamed c.self.inside.numbers n from c.as_slice-2.result.now c.in_ok-numbers.numbers) c.as_slice.ensures c.in_ok-numbers.ensures) in
    let table =
    table_set c.self.inside.numbers c.in_ok-numbers.numbers s.classes n (n - 1) old class number (class_found s n some ∙ sym c.in-Some.ensures) renamed
    (distinct_classes s c.self.invariant.rules) (distinct_classes _ rules) c.self.invariant.table in
    record {
      rules = subst (λ t. keeps_rules t ≡ true) (sym c.in_ok-draft.ensures) rules;
      table = subst (λ (t : Schema). IsTable c.in_ok-numbers.numbers t.classes) (sym c.in_ok-draft.ensures) table;
    }
