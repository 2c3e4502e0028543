use Rattle.std.proofs.Common.{sym, ap, ◌∙◌, subst, ◌<◌, length}
use Rattle.oc_model.specs.Stores.{entered}
use Rattle.oc_heap.specs.Heaps.{with_entries}
use Rattle.oc_heap.proofs.Handles.{refilled_at}
use Rattle.oc_heap.proofs.heap.Heap.set_field.Goals as goal

pub returns-clause-ok : goal.returns-clause-ok
returns-clause-ok c =
    refilled_at c.self.inside.first c.args.handle c.place_of-place.result c.self.inside.objects.items c.index_mut.result.now (entered c.args.entry) c.enter.new.entries (sym c.place_of-place.ensures.place) (subst (λ os. c.place_of-place.result < length os) c.as_slice.ensures.value c.place_of-place.ensures.within) c.index_mut.ensures.value c.in_ok-enter.ensures.ok
    ∙ ap (λ h. with_entries h c.args.handle (entered c.args.entry)) c.self.view_is
