use Rattle.std.proofs.Common.{◌≡◌, ◌++◌, drop, map}
use Rattle.oc_catalog.specs.declared.catalog.ListEntry.{ListEntry}
use Rattle.oc_catalog.proofs.rules.ids_of.Given as goal

abbrev pub invariant-loop-list : goal.invariant-loop-list
invariant-loop-list l = l.ids.items ++ map (λ (e : ListEntry). e.id) (drop l.list-index l.lists) ≡ map (λ (e : ListEntry). e.id) l.lists
