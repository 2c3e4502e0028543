use Rattle.std.proofs.Common.{◌∙◌, ap, [], flat_map}
use Rattle.oc_model.specs.Lists.{placed}
use Rattle.oc_index.specs.Indexed.{field_cmp, now_of, then_of, undone}
use Rattle.oc_index.proofs.Ordered.{placed_seen, unseen}
use Rattle.oc_index.proofs.indexes.Indexes.start_field.Goals as goal

pub returns-clause-fields : goal.returns-clause-fields
returns-clause-fields c =
    let x = c.started.result in
    ap (flat_map now_of) c.in_ok-put_in_order.ensures.ok
    ∙ placed_seen (λ f. f.is_here) (λ f. f.index) x c.self.inside.fields.items c.self.invariant (ap (λ f. f.is_here) c.started.ensures)
    ∙ ap (λ f. placed field_cmp (f.id, f.index) (flat_map now_of c.self.inside.fields.items)) c.started.ensures
    ∙ ap (λ l. placed field_cmp (c.args.id, record { base = c.args.base; chunks = []; marked = [] }) l.fields) c.self.view_is

pub returns-clause-marked : goal.returns-clause-marked
returns-clause-marked c =
    ap (flat_map then_of) c.in_ok-put_in_order.ensures.ok
    ∙ unseen (λ f. f.was_there) (λ f. undone f.index) c.started.result c.self.inside.fields.items (ap (λ f. f.was_there) c.started.ensures)
    ∙ ap (λ l. l.marked) c.self.view_is
