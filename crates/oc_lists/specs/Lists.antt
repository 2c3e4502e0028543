-- The lists of a store: that of all its objects, and the index of each indexed field.
use Rattle.std.specs.Prelude.{◌≡◌, ℕ, List, map, Option, option_map, find}
use Rattle.std.specs.Ordering.{nat_cmp}
use Rattle.oc_model.specs.declared.value.Atom.{Atom}
use Rattle.oc_model.specs.declared.value.Base.{Base}
use Rattle.oc_model.specs.declared.value.Rec.{Rec}
use Rattle.oc_model.specs.declared.schema.FieldDef.{FieldDef}
use Rattle.oc_model.specs.Candidates.{index_of, single}
use Rattle.oc_model.specs.Lengths.{indexed_fields}
use Rattle.oc_model.specs.Lists.{sorted, IsOneOf}
use Rattle.oc_model.specs.Schemas.{Schema}
use Rattle.oc_model.specs.Stores.{Store, base_of, value_in}
use Rattle.oc_chunks.specs.Ascending.{Each}
use Rattle.oc_chunks.specs.Chunks.{joined}
use Rattle.oc_index.specs.declared.items.ExtentItem.{ExtentItem}
use Rattle.oc_index.specs.declared.items.IndexItem.{IndexItem}
use Rattle.oc_index.specs.Fields.{FieldList}
use Rattle.oc_index.specs.Indexed.{StoreLists}
use Rattle.oc_index.specs.Items.{index_cmp}
use Rattle.oc_index.specs.Ranges.{is_numbered}
use Rattle.oc_catalog.specs.Catalogs.{indexed_ids}

-- ---- what lists a store has

-- the objects of the store with their classes, by number
abbrev pub extents_of : Store → List ExtentItem
extents_of s = map (λ e. record { number = e.0; class = (e.1).class }) s.records

-- the index of a field: by the value, and equal values by the object's number
abbrev pub entries_of : Store → FieldDef → List IndexItem
entries_of s f = sorted index_cmp (map (λ e. record { key = e.0; number = e.1 }) (index_of s f))

-- the value that a record has under the field, as the field's index has it
abbrev pub key_in : FieldDef → Rec → Atom
key_in f r = single (value_in r.entries f.id f.kind)

-- the class of the object of this number among these
abbrev pub class_in : List ExtentItem → ℕ → Option ℕ
class_in extents n = option_map (λ e. e.class) (find (is_numbered n) extents)

-- The lists in memory are those of the store.
pub record HasLists (l : StoreLists) (s : Store) : Type 0 where
  pub extents : joined (l.extents).chunks ≡ extents_of s
  pub indexes : (f : FieldDef) → IsOneOf f (indexed_fields s.schema) → (i : FieldList) → IsOneOf (f.id, i) l.fields → joined i.chunks ≡ entries_of s f

-- ---- which indexes there are

-- the indexed fields, each with the kind of its values
abbrev pub bases_in : Schema → List (ℕ × Base)
bases_in s = map (λ f. (f.id, base_of f.kind)) (indexed_fields s)

-- There is just one index for each indexed field, in the order of their ids, and of the field's kind.
pub record HasIndexes (s : Schema) (l : StoreLists) : Type 0 where
  pub ids : map (λ f. f.0) l.fields ≡ sorted nat_cmp (indexed_ids s.classes)
  pub bases : Each (λ f. IsOneOf (f.0, (f.1).base) (bases_in s)) l.fields

-- ---- the mark

-- the lists as they were at the mark
abbrev pub lists_then : StoreLists → StoreLists
lists_then l = record { extents = record { chunks = (l.extents).marked; marked = (l.extents).marked }; fields = l.marked; marked = l.marked }

-- nothing changed in the lists since the mark
pub record IsMarked (l : StoreLists) : Type 0 where
  pub extents : (l.extents).marked ≡ (l.extents).chunks
  pub fields : l.marked ≡ l.fields
  pub each : Each (λ f. (f.1).marked ≡ (f.1).chunks) l.fields
