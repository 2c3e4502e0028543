use Rattle.std.proofs.Common.{sym, ap, ◌∙◌, subst, ◌<◌, length, filter}
use Rattle.oc_model.specs.Maps.{is_in}
use Rattle.oc_heap.specs.Heaps.{with_entries}
use Rattle.oc_heap.proofs.Handles.{refilled_at}
use Rattle.oc_heap.proofs.heap.Heap.keep_fields.Goals as goal

pub returns : goal.returns
returns c =
    refilled_at c.self.inside.first c.args.handle c.place_of-place.result c.self.inside.objects.items c.index_mut.result.now (filter (λ e. is_in c.args.ids.now e.id)) c.keep.new.entries (sym c.place_of-place.ensures.place) (subst (λ os. c.place_of-place.result < length os) c.as_slice.ensures.value c.place_of-place.ensures.within) c.index_mut.ensures.value c.keep.ensures
    ∙ ap (λ h. with_entries h c.args.handle (filter (λ e. is_in c.args.ids.now e.id))) c.self.view_is
