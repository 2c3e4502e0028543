use Rattle.std.proofs.Common.{◌-◌, ◌+◌, ◌≤◌, ap, ◌∙◌, arith, length}
use Rattle.oc_heap.specs.Heaps.{Objects, back_to}
use Rattle.oc_heap.proofs.Handles.{undone}
use Rattle.oc_heap.proofs.heap.Heap.undo_to.Goals as goal

pub returns : goal.returns
returns c =
    let first = c.self.inside.first in
    let os = c.self.inside.objects.items in
    let from : first ≤ c.args.handle = omega (arith, ap (λ (h : Objects). h.first) c.self.view_is, c.requires.from) in
    let to : c.args.handle ≤ first + length os = omega (arith, ap (λ (h : Objects). h.next) c.self.view_is, c.requires.to) in
    undone first c.args.handle (c.args.handle - first) os c.truncate.new.self.items (omega arith) (omega arith) c.truncate.ensures.items ∙ ap (λ h. back_to h c.args.handle) c.self.view_is
