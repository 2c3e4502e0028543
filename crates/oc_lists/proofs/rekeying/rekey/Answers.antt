use Rattle.std.proofs.Common.{◌∙◌, ap, subst, map}
use Rattle.std.specs.List.{list_all}
use Rattle.oc_lists.specs.Refiling.{indexed_for, refiled, Refiles}
use Rattle.oc_lists.specs.Staying.{is_off, keeps_key, Stay}
use Rattle.oc_lists.proofs.IndexedIds.{ids_apart, indexes_there}
use Rattle.oc_lists.proofs.Moved.{moved_self}
use Rattle.oc_lists.proofs.Staying.{stay_self}
use Rattle.oc_lists.proofs.rekeying.rekey.Goals as goal

pub returns-in_err-fields-clause-moved : goal.returns-in_err-fields-clause-moved
returns-in_err-fields-clause-moved c = moved_self c.args.indexes.now

pub rekey_fields-requires-clause-apart : goal.rekey_fields-requires-clause-apart
rekey_fields-requires-clause-apart c = ids_apart c.args.schema.now c.args.indexes.now c.keeps_rules.ensures c.requires

pub rekey_fields-requires-clause-there : goal.rekey_fields-requires-clause-there
rekey_fields-requires-clause-there c =
    indexes_there c.args.schema.now c.args.indexes.now c.class_of.result (map (λ f. f.now) c.as_slice.result.now) c.requires (ap (map (λ f. f.now)) c.as_slice.ensures.value ∙ c.in_ok-fields.ensures)

pub returns-clause-entries : goal.returns-clause-entries
returns-clause-entries c =
    subst (λ fs. Refiles (refiled c.args.number c.args.old.now c.args.new.now fs) c.args.indexes.now c.rekey_fields.new.indexes)
    (ap (map (λ f. f.now)) c.as_slice.ensures.value ∙ c.in_ok-fields.ensures ∙ ap (indexed_for c.args.schema.now) c.class_of.ensures) c.in_ok-rekey_fields.ensures.entries

pub returns-in_err-fields-clause-stays : goal.returns-in_err-fields-clause-stays
returns-in_err-fields-clause-stays c = stay_self (λ id. keeps_key c.args.schema.now id c.args.old.now c.args.new.now) c.args.indexes.now

pub returns-in_err-rekey_fields-clause-stays : goal.returns-in_err-rekey_fields-clause-stays
returns-in_err-rekey_fields-clause-stays c =
    subst (λ fs. Stay (λ id. list_all (is_off id c.args.old.now c.args.new.now) fs) c.args.indexes.now c.rekey_fields.new.indexes)
    (ap (map (λ f. f.now)) c.as_slice.ensures.value ∙ c.in_ok-fields.ensures ∙ ap (indexed_for c.args.schema.now) c.class_of.ensures) c.rekey_fields.ensures.stays

pub returns-clause-stays : goal.returns-clause-stays
returns-clause-stays c =
    subst (λ fs. Stay (λ id. list_all (is_off id c.args.old.now c.args.new.now) fs) c.args.indexes.now c.rekey_fields.new.indexes)
    (ap (map (λ f. f.now)) c.as_slice.ensures.value ∙ c.in_ok-fields.ensures ∙ ap (indexed_for c.args.schema.now) c.class_of.ensures) c.rekey_fields.ensures.stays
