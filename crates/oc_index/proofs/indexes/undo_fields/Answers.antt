use Rattle.std.proofs.Common.{◌∙◌, ◌≤◌, ap, sym, refl, subst, flat_map}
use Rattle.oc_index.specs.Indexed.{ids_of, undone_field, now_of, then_of}
use Rattle.oc_index.proofs.Slots.{undone_now, undone_then, kept_then}
use Rattle.oc_chunks.specs.Ascending.{Pairs}
use Rattle.oc_index.proofs.Ordered.{filter_order, map_ids}
use Rattle.oc_index.proofs.indexes.undo_fields.Goals as goal

pub returns-clause-fields : goal.returns-clause-fields
returns-clause-fields c = ap (flat_map now_of) c.undo_in.ensures ∙ undone_now c.keep_there.new.fields.items ∙ ap (flat_map then_of) c.keep_there.ensures ∙ kept_then c.args.fields.now.items

pub returns-clause-marked : goal.returns-clause-marked
returns-clause-marked c = ap (flat_map then_of) c.undo_in.ensures ∙ undone_then c.keep_there.new.fields.items ∙ ap (flat_map then_of) c.keep_there.ensures ∙ kept_then c.args.fields.now.items

pub returns-clause-order : goal.returns-clause-order
returns-clause-order c =
    subst (Pairs (λ m n. m ≤ n)) (sym (ap ids_of c.undo_in.ensures ∙ map_ids undone_field (λ f. refl) c.keep_there.new.fields.items ∙ ap ids_of c.keep_there.ensures)) (filter_order (λ f. f.was_there) c.args.fields.now.items c.requires)
