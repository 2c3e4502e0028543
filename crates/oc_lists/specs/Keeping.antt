-- What holds of the lists that a store keeps in memory.
use Rattle.std.specs.Prelude.{◌≡◌, ◌⊎◌, ℕ, nat_le, Bool, true, IsTrue, is_some, List, [], ◌++◌, Option, None, Some, flat_map}
use Rattle.std.specs.BTreeMap.{is_at}
use Rattle.std.specs.List.{list_all}
use Rattle.std.specs.Map.{lookup}
use Rattle.std.specs.Option.{option_map_or}
use Rattle.std.specs.Ordering.{nat_cmp}
use Rattle.oc_model.specs.Lists.{IsOneOf}
use Rattle.oc_model.specs.SchemaRules.{are_apart}
use Rattle.oc_model.specs.Schemas.{Schema, class_at}
use Rattle.oc_chunks.specs.Ascending.{Each}
use Rattle.oc_chunks.specs.Chunks.{Chunk, joined, numbers}
use Rattle.oc_index.specs.declared.items.ExtentItem.{ExtentItem}
use Rattle.oc_index.specs.Indexed.{undone, StoreLists}
use Rattle.oc_segments.specs.Items.{extent_fits, index_stands}
use Rattle.oc_lists.specs.Lists.{class_in, HasIndexes}

-- ---- the lists of a schema

-- the class of the object is in the schema
abbrev pub extent_suits : Schema → ExtentItem → Bool
extent_suits s e = is_some (class_at s e.class)

-- each entry can be written in a segment
pub record AreWritable (l : StoreLists) : Type 0 where
  pub extents : IsTrue (list_all (extent_fits None) (joined (l.extents).chunks))
  pub fields : Each (λ f. IsTrue (list_all (index_stands (Some (f.1).base)) (joined (f.1).chunks))) l.fields

-- The lists are those that a store of this schema may have.
pub record AreListsOf (s : Schema) (l : StoreLists) : Type 0 where
  pub indexes : HasIndexes s l
  pub classes : IsTrue (list_all (extent_suits s) (joined (l.extents).chunks))
  pub writable : AreWritable l

-- ---- the numbers of the chunks

-- the numbers that the chunks have, list by list
abbrev pub list_numbers : StoreLists → List ℕ
list_numbers l = numbers (l.extents).chunks ++ flat_map (λ f. numbers (f.1).chunks) l.fields

-- Each number is from 2 on, no two chunks have one number, and there is a slot of each number.
pub record AreNumbered (has_slot : ℕ → Bool) (l : StoreLists) : Type 0 where
  pub from_2 : IsTrue (list_all (nat_le 2) (list_numbers l))
  pub once : IsTrue (are_apart (list_numbers l))
  pub there : IsTrue (list_all has_slot (list_numbers l))

-- ---- what changed since the mark

-- a chunk has changed, or is one that stood there at the mark
abbrev pub StandAsThen : {X : Type 0} → List (Chunk X) → List (Chunk X) → Type 0
StandAsThen marked now = Each (λ c. (c.changed ≡ true) ⊎ IsOneOf c marked) now

-- Each chunk that hasn't changed stood there at the mark, in the same list. An index that changed since some chunk had been marked was there at the mark.
pub record AreKept (l : StoreLists) : Type 0 where
  pub extents : StandAsThen (l.extents).marked (l.extents).chunks
  pub fields : Each (λ f. StandAsThen (f.1).marked (f.1).chunks) l.fields
  pub then : Each (λ f. ((f.1).marked ≡ []) ⊎ IsOneOf (f.0, undone f.1) l.marked) l.fields

-- of each object that changed since the mark, the class that it had then, or none
abbrev pub Noted : Type 0
Noted = List (ℕ × Option ℕ)

-- the class that the object had at the mark: as it was noted if the object changed, and else as it is now
abbrev pub class_noted : Noted → Option ℕ → ℕ → Option ℕ
class_noted classes now n = option_map_or (λ o. o) (lookup (is_at (nat_cmp n)) classes) now

-- the classes that were noted lead from the extents as they are to those of the mark
abbrev pub AreNoted : Noted → List ExtentItem → List ExtentItem → Type 0
AreNoted classes now then = (n : ℕ) → class_in then n ≡ class_noted classes (class_in now n) n
