-- What changes of objects make of a store.
use Rattle.std.specs.Prelude.{◌≡◌, ◌≤◌, ◌<◌, ℕ, ◌==◌, not, nat_le, Bool, false, IsTrue, is_some, List, [], ◌∷◌, flat_map, map, filter, Option, All, AllPairs, IfSome, if◌then◌else◌}
use Rattle.std.specs.List.{list_all}
use Rattle.std.specs.Option.{option_map_or}
use Rattle.oc_model.specs.declared.value.Rec.{Rec}
use Rattle.oc_model.specs.Maps.{at, with_at, Map}
use Rattle.oc_model.specs.References.{refs_in}
use Rattle.oc_model.specs.Schemas.{Schema}
use Rattle.oc_model.specs.StoreRules.{Suits}
use Rattle.oc_model.specs.Stores.{record_len, Store}
use Rattle.oc_marshal.specs.Records.{has_texts}
use Rattle.oc_lists.specs.declared.record.RecChange.{RecChange}

-- ---- the store after changes

-- the map without a key
abbrev pub without_at : {X : Type 0} → ℕ → Map X → Map X
without_at n m = filter (λ e. not (e.0 == n)) m

-- the records with one changed
abbrev pub record_changed : RecChange → Map Rec → Map Rec
record_changed c m = option_map_or (with_at m c.number) c.rec (without_at c.number m)

-- the records with these changed, one after the other
abbrev pub records_changed : List RecChange → Map Rec → Map Rec
records_changed [] m = m
records_changed (c ∷ cs) m = records_changed cs (record_changed c m)

-- the store with these objects changed, whose next object gets this number
abbrev pub store_changed : ℕ → List RecChange → Store → Store
store_changed next changes s = record { schema = s.schema; next = next; records = records_changed changes s.records }

-- whether the object is there after the changes, where this tells whether it was before
abbrev pub there_after : List RecChange → ℕ → Bool → Bool
there_after [] n before = before
there_after (c ∷ cs) n before = if c.number == n then is_some c.rec else there_after cs n before

-- ---- which changes may be made

-- A record that a store of this schema may take: it suits the schema, takes at most 262,144 bytes, its references are at most 2,147,483,646, and its texts are UTF-8.
pub record IsStorable (s : Schema) (r : Rec) : Type 0 where
  pub suits : Suits s r
  pub short : record_len r ≤ 262144
  pub references : IsTrue (list_all (λ n. nat_le n 2147483646) (flat_map (λ e. refs_in e.value) r.entries))
  pub texts : IsTrue (list_all (λ e. has_texts e.value) r.entries)

-- Each object is named once, by a number from 1 on that is below the next one. A new record may be stored, and is of the object's class, if it has one by now. The next number doesn't fall.
pub record AreRecChanges (s : Schema) (class_of : ℕ → Option ℕ) (old next : ℕ) (changes : List RecChange) : Type 0 where
  pub distinct : AllPairs (λ a b. (a.number == b.number) ≡ false) changes
  pub numbers : All (λ c. (1 ≤ c.number) × (c.number < next)) changes
  pub later : old ≤ next
  pub small : next ≤ 2147483647
  pub storable : All (λ c. IfSome c.rec (IsStorable s)) changes
  pub class : All (λ c. IfSome c.rec (λ r. IfSome (class_of c.number) (λ k. k ≡ r.class))) changes

-- these are the records that the changed objects had
abbrev pub AreOld : Map Rec → List RecChange → List (Option Rec) → Type 0
AreOld m changes olds = olds ≡ map (λ c. at m c.number) changes
