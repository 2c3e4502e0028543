use Rattle.std.proofs.Common.{ℕ, take}
use Rattle.std.specs.Prelude.{◌↔◌, Contains, IsSome}
use Rattle.oc_slots.specs.Stores.{session_place}
use Rattle.oc_slots.proofs.store.SlotStore.only_there.Given as goal

abbrev pub invariant-loop-number : goal.invariant-loop-number
invariant-loop-number l = (n : ℕ) → Contains l.there.items n ↔ (Contains (take l.number-index l.numbers) n × IsSome (session_place l.self (record { space = l.space; number = n })))
