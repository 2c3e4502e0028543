use Rattle.std.proofs.Common.{◌-◌, sym, ap, ◌∙◌, arith}
use Rattle.std.specs.List.{slice_get}
use Rattle.oc_model.specs.Maps.{at}
use Rattle.oc_heap.specs.Heaps.{Objects}
use Rattle.oc_heap.proofs.Handles.{at_below, at_place}
use Rattle.oc_heap.proofs.heap.Heap.get.Goals as goal

pub returns-then-handle-self : goal.returns-then-handle-self
returns-then-handle-self c =
    sym (at_below c.self.inside.first c.args.handle c.self.inside.objects.items c.if-handle-self.true) ∙ ap (λ (h : Objects). at h.live c.args.handle) c.self.view_is

pub returns : goal.returns
returns c =
    let place = c.args.handle - c.self.inside.first in
    c.at.ensures ∙ ap (λ os. slice_get os place) c.as_slice.ensures.value
    ∙ sym (at_place c.self.inside.first place c.args.handle c.self.inside.objects.items (omega arith)) ∙ ap (λ (h : Objects). at h.live c.args.handle) c.self.view_is
