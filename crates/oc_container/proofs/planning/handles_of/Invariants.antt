use Rattle.std.proofs.Common.{◌≡◌, ◌++◌, drop}
use Rattle.oc_machine.specs.Memory.{handles_in}
use Rattle.oc_container.proofs.planning.handles_of.Given as goal

-- those so far, and those of the nodes that are left
abbrev pub invariant-loop-node : goal.invariant-loop-node
invariant-loop-node l = l.handles.items ++ handles_in (drop l.node-index l.reached) ≡ handles_in l.reached
