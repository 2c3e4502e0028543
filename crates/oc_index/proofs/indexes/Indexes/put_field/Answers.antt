use Rattle.std.proofs.Common.{◌∙◌, ap, flat_map}
use Rattle.oc_model.specs.Lists.{placed}
use Rattle.oc_index.specs.Indexed.{field_cmp, now_of, then_of, undone}
use Rattle.oc_index.proofs.Ordered.{placed_seen}
use Rattle.oc_index.proofs.indexes.Indexes.put_field.Goals as goal

pub returns-clause-fields : goal.returns-clause-fields
returns-clause-fields c =
    let x = c.read.result in
    ap (flat_map now_of) c.in_ok-put_in_order.ensures.ok
    ∙ placed_seen (λ f. f.is_here) (λ f. f.index) x c.self.inside.fields.items c.self.invariant (ap (λ f. f.is_here) c.read.ensures)
    ∙ ap (λ f. placed field_cmp (f.id, f.index) (flat_map now_of c.self.inside.fields.items)) c.read.ensures
    ∙ ap (λ l. placed field_cmp (c.args.id, c.args.index) l.fields) c.self.view_is

pub returns-clause-marked : goal.returns-clause-marked
returns-clause-marked c =
    let x = c.read.result in
    ap (flat_map then_of) c.in_ok-put_in_order.ensures.ok
    ∙ placed_seen (λ f. f.was_there) (λ f. undone f.index) x c.self.inside.fields.items c.self.invariant (ap (λ f. f.was_there) c.read.ensures)
    ∙ ap (λ f. placed field_cmp (f.id, undone f.index) (flat_map then_of c.self.inside.fields.items)) c.read.ensures
    ∙ ap (λ l. placed field_cmp (c.args.id, undone c.args.index) l.marked) c.self.view_is
