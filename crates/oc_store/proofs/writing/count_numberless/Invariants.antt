use Rattle.std.proofs.Common.{◌≡◌, ◌+◌, drop}
use Rattle.oc_store.specs.Last.{numberless_in, numberless_of}
use Rattle.oc_store.proofs.writing.count_numberless.Given as goal

abbrev pub invariant-loop-id : goal.invariant-loop-id
invariant-loop-id l = l.count + numberless_in (drop l.id-index l.lists.fields) ≡ numberless_of l.lists
