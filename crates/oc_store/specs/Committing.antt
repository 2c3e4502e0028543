-- What a commit of a store changes last.
use Rattle.std.specs.Prelude.{◌≡◌, ◌⊎◌, ◌<◌, ◌≤◌, ℕ, is_some, List, [], length, map, None, IsTrue}
use Rattle.oc_layout.specs.declared.cells.Space.TheVariants.{System}
use Rattle.oc_model.specs.Lists.{IsOneOf}
use Rattle.oc_chunks.specs.Ascending.{Each}
use Rattle.oc_catalog.specs.Catalogs.{SpellsCatalog}
use Rattle.oc_slots.specs.declared.slot.SlotChange.{SlotChange}
use Rattle.oc_slots.specs.Maps.{changed, has_after, SlotMap}
use Rattle.oc_slots.specs.Stores.{committed_place, AreChanges}
use Rattle.oc_lists.specs.Keeping.{list_numbers, AreNumbered}
use Rattle.oc_lists.specs.Lists.{lists_then, IsMarked}
use Rattle.oc_store.specs.Filed.{FiledStore}
use Rattle.oc_store.specs.Last.{are_small, last_changes, lists_written, numberless_of, system_change}
use Rattle.oc_store.specs.Lists.{system_slot}
use Rattle.oc_store.specs.Numbering.{AreRising, IsSegmentNumber}
use Rattle.oc_store.specs.Outlines.{named_lists, IsOutline}

-- what is changed last: nothing, where nothing has changed, or else the segments that are to be written or are gone, and the catalog of the session
abbrev pub AreLast : FiledStore → List SlotChange → List ℕ → Type 0
AreLast v last numbers =
    (v.session ≡ v.committed) × IsMarked v.lists × (last ≡ []) × (numbers ≡ [])
    ⊎ ((catalog : List ℕ)
    × SpellsCatalog (record { next = (v.session).next; schema = (v.session).schema; lists = named_lists (lists_written numbers v.lists) }) catalog
    × (last ≡ map system_change (last_changes numbers v.lists catalog)))

-- These changes lead from the committed side's outline to that of the session, where the chunks without a number have got these numbers: slots of the system
-- alone change, and then there is a slot for the number of each chunk. The numbers are the least from 2 on of which the committed side has no slot.
pub record IsLast (v : FiledStore) (last : List SlotChange) (numbers : List ℕ) : Type 0 where
  pub are : AreLast v last numbers
  pub changes : AreChanges last
  pub system : Each (λ c. c.id.space ≡ System) last
  pub outline : (first : ℕ) (m : SlotMap) → IsOutline first m (v.committed).next (v.committed).schema (lists_then v.lists)
      → IsOutline first (changed last m) (v.session).next (v.session).schema (lists_written numbers v.lists)
  pub numbered : AreNumbered (λ n. has_after last (system_slot n) (is_some (committed_place v.slots (system_slot n)))) (lists_written numbers v.lists)
  pub small : IsTrue (are_small (list_numbers (lists_written numbers v.lists)))
  pub count : length numbers ≡ numberless_of v.lists
  pub rising : AreRising numbers
  pub range : Each IsSegmentNumber numbers
  pub unused : Each (λ n. committed_place v.slots (system_slot n) ≡ None) numbers
  pub least : (m n : ℕ) → IsOneOf n numbers → 2 ≤ m → m < n → IsTrue (is_some (committed_place v.slots (system_slot m))) ⊎ IsOneOf m numbers
