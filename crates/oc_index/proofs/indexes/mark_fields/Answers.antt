use Rattle.std.proofs.Common.{◌∙◌, ◌≤◌, ap, sym, refl, subst, map, flat_map}
use Rattle.oc_index.specs.Indexed.{ids_of, marked_field, now_of, then_of}
use Rattle.oc_index.proofs.Slots.{all_marked, marked_then}
use Rattle.oc_chunks.specs.Ascending.{Pairs}
use Rattle.oc_index.proofs.Ordered.{filter_order, map_ids}
use Rattle.oc_index.proofs.indexes.mark_fields.Goals as goal

pub returns-clause-fields : goal.returns-clause-fields
returns-clause-fields c = ap (flat_map now_of) (c.mark_in.ensures ∙ ap (map marked_field) c.keep_here.ensures) ∙ all_marked c.args.fields.now.items

pub returns-clause-marked : goal.returns-clause-marked
returns-clause-marked c = ap (flat_map then_of) c.mark_in.ensures ∙ marked_then c.keep_here.new.fields.items ∙ sym (ap (flat_map now_of) c.mark_in.ensures)

pub returns-clause-order : goal.returns-clause-order
returns-clause-order c =
    subst (Pairs (λ m n. m ≤ n)) (sym (ap ids_of c.mark_in.ensures ∙ map_ids marked_field (λ f. refl) c.keep_here.new.fields.items ∙ ap ids_of c.keep_here.ensures)) (filter_order (λ f. f.is_here) c.args.fields.now.items c.requires)
