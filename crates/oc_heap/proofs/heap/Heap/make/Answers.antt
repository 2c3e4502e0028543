use Rattle.std.proofs.Common.{ap, ◌∙◌, ◌∷◌, ◌++◌, []}
use Rattle.oc_heap.specs.Heaps.{with_new}
use Rattle.oc_heap.proofs.Handles.{made}
use Rattle.oc_heap.proofs.heap.Heap.make.Goals as goal

pub returns-clause-ok : goal.returns-clause-ok
returns-clause-ok c =
    made c.self.inside.first c.args.class c.self.inside.objects.items c.push.new.self.items (c.in_ok-push.ensures.items ∙ ap (λ es. c.self.inside.objects.items ++ (record { class = c.args.class; entries = es }) ∷ []) c.new-entries.ensures)
    ∙ ap (λ h. with_new h c.args.class) c.self.view_is
