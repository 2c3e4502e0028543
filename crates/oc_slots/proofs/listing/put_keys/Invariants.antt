use Rattle.std.proofs.Common.{◌≡◌, ◌++◌, map, take}
use Rattle.oc_slots.proofs.Numbers.{key_of}
use Rattle.oc_slots.proofs.listing.put_keys.Given as goal

abbrev pub invariant-loop-index : goal.invariant-loop-index
invariant-loop-index l = l.numbers.items ≡ l.fn.numbers.items ++ map key_of (take l.index l.changes.entries)
