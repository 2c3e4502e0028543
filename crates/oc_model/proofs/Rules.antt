-- The rules of a schema, one by one.
use Rattle.std.proofs.Common.{◌≡◌, true}
use Rattle.std.proofs.lemmas.Bool.{and_parts}
use Rattle.oc_model.specs.Schemas.{Schema}
use Rattle.oc_model.specs.SchemaRules.{has_names, has_distinct_classes, has_earlier_parents, has_distinct_names, has_distinct_ids, has_drawn_ids, has_ordered_fields, has_no_past_index, has_no_array_index, has_few_classes, has_few_ancestors, has_few_fields, has_few_own_fields, has_few_ids, is_within_limits, keeps_rules}

pub record Limits (s : Schema) : Type 0 where
  pub classes : has_few_classes s ≡ true
  pub ancestors : has_few_ancestors s ≡ true
  pub fields : has_few_fields s ≡ true
  pub own_fields : has_few_own_fields s ≡ true
  pub ids : has_few_ids s ≡ true

pub record Rules (s : Schema) : Type 0 where
  pub names : has_names s ≡ true
  pub classes : has_distinct_classes s ≡ true
  pub parents : has_earlier_parents s ≡ true
  pub field_names : has_distinct_names s ≡ true
  pub ids : has_distinct_ids s ≡ true
  pub drawn : has_drawn_ids s ≡ true
  pub order : has_ordered_fields s ≡ true
  pub past : has_no_past_index s ≡ true
  pub arrays : has_no_array_index s ≡ true
  pub within : is_within_limits s ≡ true

pub limits_kept : (s : Schema) → is_within_limits s ≡ true → Limits s
unfolding is_within_limits
limits_kept s h =
    let ids = and_parts _ (has_few_ids s) h in
    let own = and_parts _ (has_few_own_fields s) ids.0 in
    let fields = and_parts _ (has_few_fields s) own.0 in
    let classes = and_parts (has_few_classes s) (has_few_ancestors s) fields.0 in
    record { classes = classes.0; ancestors = classes.1; fields = fields.1; own_fields = own.1; ids = ids.1 }

pub rules_kept : (s : Schema) → keeps_rules s ≡ true → Rules s
unfolding keeps_rules
rules_kept s h =
    let limits = and_parts _ (is_within_limits s) h in
    let arrays = and_parts _ (has_no_array_index s) limits.0 in
    let past = and_parts _ (has_no_past_index s) arrays.0 in
    let order = and_parts _ (has_ordered_fields s) past.0 in
    let drawn = and_parts _ (has_drawn_ids s) order.0 in
    let ids = and_parts _ (has_distinct_ids s) drawn.0 in
    let field_names = and_parts _ (has_distinct_names s) ids.0 in
    let parents = and_parts _ (has_earlier_parents s) field_names.0 in
    let classes = and_parts (has_names s) (has_distinct_classes s) parents.0 in
    record {
      names = classes.0;
      classes = classes.1;
      parents = parents.1;
      field_names = field_names.1;
      ids = ids.1;
      drawn = drawn.1;
      order = order.1;
      past = past.1;
      arrays = arrays.1;
      within = limits.1;
    }
