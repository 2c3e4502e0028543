use Rattle.std.proofs.Common.{◌≡◌, ◌∙◌, ap, sym, subst, refl, map, drop, length, None, Some, [], ◌<◌, ◌≤◌, ◌+◌, arith, IsTrue}
use Rattle.std.specs.List.{list_all}
use Rattle.std.proofs.lemmas.List.{drop_all}
use Rattle.oc_model.specs.declared.schema.FieldDef.{FieldDef}
use Rattle.oc_model.specs.Maps.{is_in}
use Rattle.oc_model.specs.SchemaRules.{are_apart}
use Rattle.oc_lists.proofs.IndexedIds.{at_turn, passes_at}
use Rattle.oc_lists.proofs.Moved.{moved_ids, moved_self, moved_then}
use Rattle.oc_lists.proofs.Refiled.{Comes, comes_first, comes_last, comes_more}
use Rattle.oc_lists.proofs.indexing.enter_fields.Goals as goal

pub loop-field-init : goal.loop-field-init
loop-field-init c = record {
  moved = moved_self c.args.indexes.now;
  extents = refl;
  entries = comes_first c.args.number None (Some c.args.rec.now) (map (λ f. f.now) c.args.fields.now) c.args.indexes.now;
}

pub enter_field-requires-clause-apart : goal.enter_field-requires-clause-apart
enter_field-requires-clause-apart c = subst (λ ns. IsTrue (are_apart ns)) (sym (moved_ids c.args.indexes.now c.loop-field.indexes c.loop-field.invariant.moved)) c.requires.apart

pub enter_field-requires-clause-there : goal.enter_field-requires-clause-there
enter_field-requires-clause-there c =
    subst (λ ns. IsTrue (is_in ns c.field-item.result.now.id)) (sym (moved_ids c.args.indexes.now c.loop-field.indexes c.loop-field.invariant.moved))
    (passes_at (λ (f : FieldDef). is_in (map (λ g. g.0) c.args.indexes.now.fields) f.id) c.args.fields.now c.loop-field.field-index c.field-item.result (omega arith) c.field-item.is c.requires.there)

pub returns-in_err-enter_field-clause-moved : goal.returns-in_err-enter_field-clause-moved
returns-in_err-enter_field-clause-moved c = moved_then c.args.indexes.now c.loop-field.indexes c.enter_field.new.indexes c.loop-field.invariant.moved c.enter_field.ensures.moved

pub loop-field-preserved : goal.loop-field-preserved
loop-field-preserved c =
    let fs = map (λ f. f.now) c.args.fields.now in
    let rest = map (λ f. f.now) (drop (c.loop-field.field-index + 1) c.args.fields.now) in
    let turn = at_turn c.args.fields.now c.loop-field.field-index c.field-item.result (omega arith) c.field-item.is in
    record {
      moved = moved_then c.args.indexes.now c.loop-field.indexes c.enter_field.new.indexes c.loop-field.invariant.moved c.enter_field.ensures.moved;
      extents = c.enter_field.ensures.extents ∙ c.loop-field.invariant.extents;
      entries = comes_more c.args.number None (Some c.args.rec.now) c.field-item.result.now rest fs c.args.indexes.now c.loop-field.indexes c.enter_field.new.indexes
          (subst (λ l. Comes c.args.number None (Some c.args.rec.now) l fs c.args.indexes.now c.loop-field.indexes) turn c.loop-field.invariant.entries) c.in_ok-enter_field.ensures.entries;
    }

pub returns-clause-entries : goal.returns-clause-entries
returns-clause-entries c =
    let fs = map (λ f. f.now) c.args.fields.now in
    comes_last c.args.number None (Some c.args.rec.now) fs c.args.indexes.now c.loop-field.indexes
    (subst (λ l. Comes c.args.number None (Some c.args.rec.now) (map (λ f. f.now) l) fs c.args.indexes.now c.loop-field.indexes) (drop_all c.loop-field.field-index c.args.fields.now (omega arith)) c.loop-field.invariant.entries)
