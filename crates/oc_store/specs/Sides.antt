-- What holds of each side of a store, whatever the file is.
use Rattle.std.specs.Prelude.{◌≡◌, ℕ, is_some, IsTrue, Option}
use Rattle.oc_layout.specs.declared.cells.Cell.{Cell}
use Rattle.oc_model.specs.Schemas.{Schema}
use Rattle.oc_catalog.specs.Catalogs.{IsNext}
use Rattle.oc_chunks.specs.Ascending.{Each}
use Rattle.oc_chunks.specs.Chunks.{joined, Chunk}
use Rattle.oc_index.specs.Indexed.{StoreLists}
use Rattle.oc_slots.specs.declared.slot.SlotId.{SlotId}
use Rattle.oc_lists.specs.Keeping.{list_numbers, AreListsOf, AreNumbered}
use Rattle.oc_store.specs.Last.{are_small}
use Rattle.oc_store.specs.Lists.{chunk_kept, system_slot}
use Rattle.oc_store.specs.Outlines.{HasJust}
use Rattle.oc_store.specs.Stands.{object_slot}

-- the next number and the schema of a side
pub record Heading : Type 0 where
  pub next : ℕ
  pub schema : Schema

-- The side of these places, with this heading and these lists: its next number can be written, it has slots for just the objects of its extents, its lists are
-- such as its schema has, and their numbers are those of slots, at most 2,147,483,646.
pub record IsSide (place : SlotId → Option Cell) (h : Heading) (l : StoreLists) : Type 0 where
  pub next : IsNext h.next
  pub just : HasJust (λ n. is_some (place (object_slot n))) (joined (l.extents).chunks) h.next
  pub lists : AreListsOf h.schema l
  pub numbered : AreNumbered (λ n. is_some (place (system_slot n))) l
  pub small : IsTrue (are_small (list_numbers l))

-- the chunk is written: it has a number, and hasn't changed since
abbrev pub IsWritten : {X : Type 0} → Chunk X → Type 0
IsWritten c = (n : ℕ) × (c ≡ chunk_kept n c.entries)

-- Each chunk is written, and so it is at the mark.
pub record AreWritten (l : StoreLists) : Type 0 where
  pub extents : Each IsWritten (l.extents).chunks
  pub fields : Each (λ f. Each IsWritten (f.1).chunks) l.fields
  pub marked : Each (λ f. (f.1).marked ≡ (f.1).chunks) l.fields
