use Rattle.std.proofs.Common.{refl, sym, ap, ◌∙◌, subst, ◌<◌, length}
use Rattle.oc_heap.specs.Heaps.{with_entries}
use Rattle.oc_heap.proofs.Handles.{refilled_at}
use Rattle.oc_heap.proofs.heap.Heap.fill.Goals as goal

pub returns : goal.returns
returns c =
    refilled_at c.self.inside.first c.args.handle c.place_of-place.result c.self.inside.objects.items c.index_mut.result.now (λ _. c.args.entries) c.args.entries (sym c.place_of-place.ensures.place) (subst (λ os. c.place_of-place.result < length os) c.as_slice.ensures.value c.place_of-place.ensures.within) c.index_mut.ensures.value refl
    ∙ ap (λ h. with_entries h c.args.handle (λ _. c.args.entries)) c.self.view_is
