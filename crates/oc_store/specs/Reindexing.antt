-- What another schema makes of a store, and how much is read for its indexes.
use Rattle.std.specs.Prelude.{ℕ, List, sum_by}
use Rattle.oc_model.specs.Schemas.{Schema}
use Rattle.oc_model.specs.Stores.{Store}
use Rattle.oc_slots.specs.declared.slot.Side.TheVariants.{Session}
use Rattle.oc_slots.specs.Stores.{length_on, Slots}
use Rattle.oc_store.specs.Stands.{object_slot}

-- the store under this schema
abbrev pub with_schema : Schema → Store → Store
with_schema schema s = record { schema = schema; next = s.next; records = s.records }

-- how long the records are that these objects have in the session
abbrev pub objects_len : Slots → List ℕ → ℕ
objects_len s numbers = sum_by (λ n. length_on Session s (object_slot n)) numbers
