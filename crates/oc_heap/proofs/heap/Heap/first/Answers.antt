use Rattle.std.proofs.Common.{subst}
use Rattle.oc_heap.specs.Heaps.{HasHandles}
use Rattle.oc_heap.proofs.Handles.{handles_of}
use Rattle.oc_heap.proofs.heap.Heap.first.Goals as goal

pub returns-clause-handles : goal.returns-clause-handles
returns-clause-handles c = subst HasHandles c.self.view_is (handles_of c.self.inside.first c.self.inside.objects.items c.self.invariant)
