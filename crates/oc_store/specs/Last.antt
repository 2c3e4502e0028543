-- What a commit writes of the lists, and what it leaves of them.
use Rattle.std.specs.Prelude.{ℕ, nat_le, Bool, not, ◌+◌, ◌||◌, is_some, List, [], ◌∷◌, ◌++◌, length, filter, map, flat_map, sum_by, Option, None, Some}
use Rattle.std.specs.List.{list_all}
use Rattle.oc_model.specs.Maps.{is_in}
use Rattle.oc_model.specs.Spelling.{segment_bytes}
use Rattle.oc_chunks.specs.Ascending.{Each}
use Rattle.oc_chunks.specs.Chunks.{Chunk, numbers}
use Rattle.oc_chunks.specs.Opening.{number_from, spare_behind, spare_of, written, IsList}
use Rattle.oc_index.specs.declared.items.ExtentItem.{ExtentItem}
use Rattle.oc_index.specs.Fields.{FieldList}
use Rattle.oc_index.specs.Indexed.{written_fields, StoreLists}
use Rattle.oc_index.specs.Items.{extent_cmp, index_cmp}
use Rattle.oc_segments.specs.Items.{extent_spelling, index_spelling}
use Rattle.oc_slots.specs.declared.slot.SlotChange.{SlotChange}
use Rattle.oc_lists.specs.Keeping.{list_numbers}
use Rattle.oc_lists.specs.Lists.{lists_then}
use Rattle.oc_store.specs.Lists.{system_slot}

-- ---- the lists once they are written

-- the indexes, where their chunks without a number have got those of these numbers that the extents leave
abbrev pub indexes_written : List ℕ → StoreLists → List (ℕ × FieldList)
indexes_written ns l = written_fields (spare_of ns (l.extents).chunks) l.fields

-- the lists, where the chunks without a number have got the next of these, and the mark with them
abbrev pub lists_written : List ℕ → StoreLists → StoreLists
lists_written ns l = record {
  extents = record { chunks = written ns (l.extents).chunks; marked = written ns (l.extents).chunks };
  fields = indexes_written ns l;
  marked = indexes_written ns l;
}

module _ {X : Type 0} where
  -- how many chunks have no number
  abbrev pub numberless : List (Chunk X) → ℕ
  numberless cs = length (filter (λ c. not (is_some c.number)) cs)

  -- the numbers of the chunks that haven't changed
  abbrev pub unchanged_numbers : List (Chunk X) → List ℕ
  unchanged_numbers cs = numbers (filter (λ c. not c.changed) cs)

-- how many chunks of these indexes have no number
abbrev pub numberless_in : List (ℕ × FieldList) → ℕ
numberless_in fs = sum_by (λ f. numberless (f.1).chunks) fs

-- how many chunks of all lists have none
abbrev pub numberless_of : StoreLists → ℕ
numberless_of l = numberless (l.extents).chunks + numberless_in l.fields

-- the numbers of the chunks of all lists that haven't changed
abbrev pub unchanged_of : StoreLists → List ℕ
unchanged_of l = unchanged_numbers (l.extents).chunks ++ flat_map (λ f. unchanged_numbers (f.1).chunks) l.fields

-- ---- segments

-- a chunk as a segment: its number if it has one, its bytes, and whether it changed since it was written
pub record Segment : Type 0 where
  pub number : Option ℕ
  pub bytes : List ℕ
  pub changed : Bool

-- a segment once all have numbers, and whether it is to be written
pub record Planned : Type 0 where
  pub number : ℕ
  pub bytes : List ℕ
  pub is_due : Bool

-- a segment is to be written if it has changed, or has no number
abbrev pub is_due : Segment → Bool
is_due s = s.changed || not (is_some s.number)

-- the segment with this number, if there is one
abbrev pub planned_as : Option ℕ → Segment → List Planned
planned_as None s = []
planned_as (Some n) s = record { number = n; bytes = s.bytes; is_due = is_due s } ∷ []

-- the segments, where those without a number get the next of these
abbrev pub planned : List ℕ → List Segment → List Planned
planned spare [] = []
planned spare (s ∷ ss) = planned_as (number_from s.number spare) s ++ planned (spare_behind s.number spare) ss

-- the numbers that are left of these then
abbrev pub spare_left : List ℕ → List Segment → List ℕ
spare_left spare [] = spare
spare_left spare (s ∷ ss) = spare_left (spare_behind s.number spare) ss

-- the chunk as a segment, which has these bytes
abbrev pub segment_of : {X : Type 0} → (List X → List ℕ) → Chunk X → Segment
segment_of bytes c = record { number = c.number; bytes = bytes c.entries; changed = c.changed }

-- the segments of the extents
abbrev pub extent_segments : List (Chunk ExtentItem) → List Segment
extent_segments cs = map (segment_of (segment_bytes (extent_spelling None))) cs

-- the segments of an index
abbrev pub index_segments : FieldList → List Segment
index_segments f = map (segment_of (segment_bytes (index_spelling (Some f.base)))) f.chunks

-- the segments of these indexes
abbrev pub field_segments : List (ℕ × FieldList) → List Segment
field_segments fs = flat_map (λ f. index_segments f.1) fs

-- the segments of all lists
abbrev pub list_segments : StoreLists → List Segment
list_segments l = extent_segments (l.extents).chunks ++ field_segments l.fields

-- ---- changes of the system's slots

-- the slot of this number gets these bytes, or goes
abbrev pub system_change : ℕ × Option (List ℕ) → SlotChange
system_change e = record { id = system_slot e.0; bytes = e.1 }

-- the segments that are to be written, each under its number
abbrev pub written_segments : List Planned → List (ℕ × Option (List ℕ))
written_segments ps = map (λ p. (p.number, Some p.bytes)) (filter (λ p. p.is_due) ps)

-- the slots of these numbers go
abbrev pub gone_segments : List ℕ → List (ℕ × Option (List ℕ))
gone_segments ns = map (λ n. (n, None)) ns

-- of these numbers, those that are none of the others
abbrev pub numbers_off : List ℕ → List ℕ → List ℕ
numbers_off kept ns = filter (λ n. not (is_in kept n)) ns

-- what a commit changes: the segments that are to be written, those of the mark that are gone, and the catalog, which has these bytes
abbrev pub last_changes : List ℕ → StoreLists → List ℕ → List (ℕ × Option (List ℕ))
last_changes ns l catalog =
    written_segments (planned ns (list_segments l)) ++ (gone_segments (numbers_off (list_numbers (lists_written ns l)) (list_numbers (lists_then l))) ++ (1, Some catalog) ∷ [])

-- each of these numbers is one that a slot may have
abbrev pub are_small : List ℕ → Bool
are_small ns = list_all (λ n. nat_le n 2147483646) ns

-- each list is one in chunks: each chunk has 1 to 512 entries, and all its entries ascend
pub record AreInChunks (l : StoreLists) : Type 0 where
  pub extents : IsList extent_cmp (l.extents).chunks
  pub fields : Each (λ f. IsList index_cmp (f.1).chunks) l.fields
