use Rattle.std.proofs.Common.{◌≡◌, ◌∙◌, ◌<◌, ◌^◌, arith, ap, subst, filter, map, None, Some, ℕ, List}
use Rattle.oc_model.specs.declared.value.Base.{Base}
use Rattle.oc_model.specs.declared.schema.FieldDef.{FieldDef}
use Rattle.oc_model.specs.Maps.{is_in}
use Rattle.oc_lists.specs.Refiling.{indexed_in, refiled, Refiles}
use Rattle.oc_lists.proofs.Entering.{entering_goes_on}
use Rattle.oc_lists.proofs.IndexedIds.{ids_apart, indexes_among}
use Rattle.oc_lists.proofs.Moved.{kept_moved, moved_self, numbered_moved}
use Rattle.oc_lists.proofs.Started.{lists_entered}
use Rattle.oc_lists.proofs.indexing.enter_record.Goals as goal

pub returns-in_err-fields-clause-moved : goal.returns-in_err-fields-clause-moved
returns-in_err-fields-clause-moved c = moved_self c.args.indexes.now

pub enter_fields-requires-clause-apart : goal.enter_fields-requires-clause-apart
enter_fields-requires-clause-apart c = ids_apart c.args.schema.now c.args.indexes.now c.keeps_rules.ensures c.requires

pub enter_fields-requires-clause-there : goal.enter_fields-requires-clause-there
enter_fields-requires-clause-there c =
    indexes_among c.args.schema.now c.args.indexes.now c.args.rec.now.class (map (λ e. e.0) c.args.started.now) (map (λ f. f.now) c.as_slice.result.now) c.requires (ap (map (λ f. f.now)) c.as_slice.ensures.value ∙ c.in_ok-fields.ensures)

pub returns-clause-entries : goal.returns-clause-entries
returns-clause-entries c =
    subst (λ fs. Refiles (refiled c.args.number None (Some c.args.rec.now) fs) c.args.indexes.now c.enter_fields.new.indexes)
    (ap (map (λ f. f.now)) c.as_slice.ensures.value ∙ c.in_ok-fields.ensures) c.in_ok-enter_fields.ensures.entries

pub returns-clause-kept : goal.returns-clause-kept
returns-clause-kept c h = kept_moved c.args.indexes.now c.enter_fields.new.indexes c.enter_fields.ensures.moved h

pub returns-clause-numbered : goal.returns-clause-numbered
returns-clause-numbered c has_slot h = numbered_moved has_slot c.args.indexes.now c.enter_fields.new.indexes c.enter_fields.ensures.moved h

pub returns-clause-lists : goal.returns-clause-lists
returns-clause-lists c suits is h =
    lists_entered c.args.schema.now c.args.indexes.now c.enter_fields.new.indexes (map (λ e. e.0) c.args.started.now) c.args.number c.args.rec.now c.keeps_rules.ensures (omega arith) suits is c.enter_fields.ensures.moved c.enter_fields.ensures.extents
    (returns-clause-entries c) h

pub returns-clause-goes_on : goal.returns-clause-goes_on
returns-clause-goes_on c s done are up none a =
    entering_goes_on c.args.indexes.now c.enter_fields.new.indexes s c.args.schema.now done c.args.number c.args.rec.now c.keeps_rules.ensures a up none c.enter_fields.ensures.extents
    (subst (λ (es : List (ℕ × Base)). Refiles (refiled c.args.number None (Some c.args.rec.now) (filter (λ (f : FieldDef). is_in (map (λ (e : ℕ × Base). e.0) es) f.id) (indexed_in c.args.schema.now c.args.rec.now.class))) c.args.indexes.now c.enter_fields.new.indexes) are (returns-clause-entries c))
