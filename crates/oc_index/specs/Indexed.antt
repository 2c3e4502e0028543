-- The lists of a store, as contracts see them.
use Rattle.std.specs.Prelude.{◌≡◌, ℕ, ◌≤◌, map, Bool, true, false, ◌&&◌, ◌==◌, List, [], ◌∷◌, ◌++◌, length, flat_map, Option, Some, option_map, if◌then◌else◌}
use Rattle.std.specs.List.{find}
use Rattle.std.specs.Ordering.{nat_cmp, on}
use Rattle.std.specs.declared.cmp.Ordering.{Ordering}
use Rattle.oc_model.specs.declared.value.Atom.{Atom}
use Rattle.oc_chunks.specs.Ascending.{entered, Each, Pairs}
use Rattle.oc_chunks.specs.Chunks.{Chunked, joined, numbers, IsCutFrom, left}
use Rattle.oc_chunks.specs.Joining.{Joins, NoneSmall}
use Rattle.oc_chunks.specs.Opening.{spare_of, written}
use Rattle.oc_index.specs.declared.items.ExtentItem.{ExtentItem}
use Rattle.oc_index.specs.declared.indexes.Field.{Field}
use Rattle.oc_index.specs.Fields.{FieldList}
use Rattle.oc_index.specs.Items.{index_bytes, index_cmp}
use Rattle.oc_index.specs.Ranges.{is_entry}

-- a field's index as it is taken to be at the mark
abbrev pub marked_now : FieldList → FieldList
marked_now f = record { base = f.base; chunks = f.chunks; marked = f.chunks }

-- a field's index as it was at the mark
abbrev pub undone : FieldList → FieldList
undone f = record { base = f.base; chunks = f.marked; marked = f.marked }

-- the index that is there, with the id of its field
abbrev pub now_of : Field → List (ℕ × FieldList)
now_of f = if f.is_here then (f.id, f.index) ∷ [] else []

-- the index that was there at the mark, with the id of its field
abbrev pub then_of : Field → List (ℕ × FieldList)
then_of f = if f.was_there then (f.id, undone f.index) ∷ [] else []

-- the first index of the field of this id, if there is one
abbrev pub field_at : ℕ → List (ℕ × FieldList) → Option FieldList
field_at id fs = option_map (λ f. f.1) (find (λ f. f.0 == id) fs)

-- the list with this index in place of the first of the field of this id
abbrev pub with_field : ℕ → FieldList → List (ℕ × FieldList) → List (ℕ × FieldList)
with_field id g [] = []
with_field id g (f ∷ fs) = if f.0 == id then (f.0, g) ∷ fs else f ∷ with_field id g fs

-- the index of the field of this id came to another, and all others stay
pub record Changes (id : ℕ) (R : FieldList → FieldList → Type 0) (old new : List (ℕ × FieldList)) : Type 0 where
  pub field : FieldList
  pub now : FieldList
  pub was : field_at id old ≡ Some field
  pub is : new ≡ with_field id now old
  pub change : R field now

-- an object is entered with its value
pub record Enters (key : Atom) (number : ℕ) (old new : FieldList) : Type 0 where
  pub base : new.base ≡ old.base
  pub entries : joined new.chunks ≡ entered index_cmp (record { key = key; number = number }) (joined old.chunks)
  pub segments : numbers new.chunks ≡ numbers old.chunks
  pub chunks : IsCutFrom index_bytes 128 old.chunks new.chunks
  pub marked : new.marked ≡ old.marked

-- an entry is taken out, if it is there
pub record Leaves (key : Atom) (number : ℕ) (old new : FieldList) : Type 0 where
  pub base : new.base ≡ old.base
  pub chunks : new.chunks ≡ flat_map (left (is_entry key number)) old.chunks
  pub marked : new.marked ≡ old.marked

-- some neighbours of the index's chunks are joined
pub record JoinsList (old new : FieldList) : Type 0 where
  pub base : new.base ≡ old.base
  pub entries : joined new.chunks ≡ joined old.chunks
  pub chunks : Joins index_bytes 128 old.chunks new.chunks
  pub marked : new.marked ≡ old.marked

-- the same fields, of each of whose indexes some neighbours are joined
abbrev pub JoinsFields : List (ℕ × FieldList) → List (ℕ × FieldList) → Type 0
JoinsFields [] [] = Unit {0}
JoinsFields [] (g ∷ gs) = ⊥
JoinsFields (f ∷ fs) [] = ⊥
JoinsFields (f ∷ fs) (g ∷ gs) = (g.0 ≡ f.0) × JoinsList f.1 g.1 × JoinsFields fs gs

-- no two neighbours of the index's chunks are to be joined
abbrev pub IsJoined : ℕ × FieldList → Type 0
IsJoined f = NoneSmall index_bytes 128 f.1.chunks

-- the extents, and the index of each indexed field with the field's id, as they are and as they were at the mark
pub record StoreLists : Type 0 where
  pub extents : Chunked ExtentItem
  pub fields : List (ℕ × FieldList)
  pub marked : List (ℕ × FieldList)

-- a place of the fields at which an index of this id is there
abbrev pub is_of : ℕ → Field → Bool
is_of id f = f.is_here && (f.id == id)

-- the first place at which there is one
pub record IsPlace (id : ℕ) (fs : List Field) (at : ℕ) : Type 0 where
  pub before : List Field
  pub field : Field
  pub after : List Field
  pub split : fs ≡ before ++ field ∷ after
  pub index : length before ≡ at
  pub none : Each (λ f. is_of id f ≡ false) before
  pub here : is_of id field ≡ true

-- the index of this id is no longer there
abbrev pub ended : ℕ → Field → Field
ended id f = record { id = f.id; index = f.index; is_here = if f.id == id then false else f.is_here; was_there = f.was_there }

-- what is there becomes what was there at the mark
abbrev pub marked_field : Field → Field
marked_field f = record { id = f.id; index = marked_now f.index; is_here = f.is_here; was_there = f.is_here }

-- what was there at the mark is there again
abbrev pub undone_field : Field → Field
undone_field f = record { id = f.id; index = undone f.index; is_here = f.was_there; was_there = f.was_there }

-- the ids of the fields, also of those whose index is no longer there or wasn't there at the mark
abbrev pub ids_of : List Field → List ℕ
ids_of = map (λ f. f.id)

-- the fields stand in the order of their ids
abbrev pub AreInOrder : List Field → Type 0
AreInOrder fs = Pairs (λ m n. m ≤ n) (ids_of fs)

-- by the id of the field
abbrev pub id_cmp : Field → Field → Ordering
id_cmp = on (λ f. f.id) nat_cmp

-- by the id of the field, of an index that is there or was there
abbrev pub field_cmp : ℕ × FieldList → ℕ × FieldList → Ordering
field_cmp = on (λ f. f.0) nat_cmp

-- a field's index once it is written, and the mark with it: its chunks without a number have got the next of these
abbrev pub written_list : List ℕ → FieldList → FieldList
written_list spare f = record { base = f.base; chunks = written spare f.chunks; marked = written spare f.chunks }

-- the indexes once they are written one after the other
abbrev pub written_fields : List ℕ → List (ℕ × FieldList) → List (ℕ × FieldList)
written_fields spare [] = []
written_fields spare (f ∷ fs) = (f.0, written_list spare f.1) ∷ written_fields (spare_of spare f.1.chunks) fs

-- the numbers that are left of these once the chunks of the indexes have got theirs
abbrev pub spare_over : List ℕ → List (ℕ × FieldList) → List ℕ
spare_over spare [] = spare
spare_over spare (f ∷ fs) = spare_over (spare_of spare f.1.chunks) fs
