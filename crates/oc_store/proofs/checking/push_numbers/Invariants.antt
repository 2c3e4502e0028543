use Rattle.std.proofs.Common.{◌≡◌, ◌++◌, drop, map}
use Rattle.oc_index.specs.declared.items.ExtentItem.{ExtentItem}
use Rattle.oc_store.proofs.checking.push_numbers.Given as goal

abbrev pub invariant-loop-entry : goal.invariant-loop-entry
invariant-loop-entry l = l.numbers.items ++ map (λ (e : ExtentItem). e.number) (drop l.entry-index l.entries) ≡ l.fn.numbers.items ++ map (λ (e : ExtentItem). e.number) l.entries
