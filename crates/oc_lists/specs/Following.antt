-- A store's schema gives way to another one: what is asked of the two, and what becomes of the indexes.
use Rattle.std.specs.Prelude.{◌≡◌, ◌==◌, if◌then◌else◌, ℕ, Bool, false, not, List, [], filter, fold, map, is_some, IsTrue}
use Rattle.std.specs.List.{list_any}
use Rattle.oc_model.specs.declared.value.Base.{Base}
use Rattle.oc_model.specs.declared.value.Rec.{Rec}
use Rattle.oc_model.specs.declared.schema.FieldDef.{FieldDef}
use Rattle.oc_model.specs.Candidates.{has_field}
use Rattle.oc_model.specs.Lengths.{indexed_fields}
use Rattle.oc_model.specs.Lists.{placed, IsOneOf}
use Rattle.oc_model.specs.Maps.{is_in, Map}
use Rattle.oc_model.specs.Schemas.{Schema, class_at}
use Rattle.oc_model.specs.SchemaRules.{keeps_rules}
use Rattle.oc_model.specs.StoreRules.{Suits}
use Rattle.oc_model.specs.Stores.{Store}
use Rattle.oc_chunks.specs.Chunks.{joined}
use Rattle.oc_index.specs.declared.items.ExtentItem.{ExtentItem}
use Rattle.oc_index.specs.Fields.{FieldList}
use Rattle.oc_index.specs.Indexed.{field_cmp, StoreLists}
use Rattle.oc_catalog.specs.Catalogs.{indexed_ids}
use Rattle.oc_lists.specs.Lists.{bases_in, entries_of, extents_of}
use Rattle.oc_lists.specs.Refiling.{indexed_in}

-- ---- which schema may follow

-- the two are of one kind, and the same classes of the old schema have them
pub record AreAlike (old new : Schema) (f g : FieldDef) : Type 0 where
  pub kind : f.kind ≡ g.kind
  pub classes : (c : ℕ) → IsTrue (is_some (class_at old c)) → has_field old f c ≡ has_field new g c

-- The new schema keeps the rules, and each record that suits the old one suits the new one. A field that has an index in both stays as it is.
pub record MayFollow (old new : Schema) : Type 0 where
  pub rules : IsTrue (keeps_rules new)
  pub suits : (r : Rec) → Suits old r → Suits new r
  pub indexed : (f g : FieldDef) → IsOneOf f (indexed_fields old) → IsOneOf g (indexed_fields new) → f.id ≡ g.id → AreAlike old new f g

-- ---- the indexes

-- the schema has an index for the field of this id
abbrev pub has_index : Schema → ℕ → Bool
has_index s id = is_in (indexed_ids s.classes) id

-- the ids of the fields that have an index in the new schema and none in the old one, each with the kind of its values
abbrev pub newly_indexed : Schema → Schema → List (ℕ × Base)
newly_indexed old new = filter (λ e. not (has_index old e.0)) (bases_in new)

-- the class has an indexed field of one of these ids
abbrev pub has_one_of : List ℕ → Schema → ℕ → Bool
has_one_of ids s c = list_any (λ f. is_in ids f.id) (indexed_in s c)

-- the class has a newly indexed field
abbrev pub is_reindexed : Schema → Schema → ℕ → Bool
is_reindexed old new c = has_one_of (map (λ e. e.0) (newly_indexed old new)) new c

-- the numbers of the objects whose classes have one
abbrev pub reindexed : Schema → Schema → List ExtentItem → List ℕ
reindexed old new extents = map (λ e. e.number) (filter (λ e. is_reindexed old new e.class) extents)

-- an index of no objects, that wasn't there at the mark
abbrev pub empty_index : Base → FieldList
empty_index base = record { base = base; chunks = []; marked = [] }

-- the indexes with an empty one for each of these fields
abbrev pub with_started : List (ℕ × Base) → List (ℕ × FieldList) → List (ℕ × FieldList)
with_started fields indexes = fold (λ (is : List (ℕ × FieldList)) e. placed field_cmp (e.0, empty_index e.1) is) indexes fields

-- the indexes of fields that the schema has an index for
abbrev pub with_these : Schema → List (ℕ × FieldList) → List (ℕ × FieldList)
with_these s indexes = filter (λ i. has_index s i.0) indexes

-- the indexes without that of this id, unless it stays
abbrev pub ended_unless : Bool → ℕ → List (ℕ × FieldList) → List (ℕ × FieldList)
ended_unless stays id indexes = if stays then indexes else filter (λ i. not (i.0 == id)) indexes

-- ---- while the objects are entered

-- the records of these objects
abbrev pub records_of : List ℕ → Map Rec → Map Rec
records_of ns m = filter (λ e. is_in ns e.0) m

-- The lists are those of the store under the new schema, but each newly indexed field has the entries of these objects only.
pub record AreEntering (l : StoreLists) (s : Store) (new : Schema) (done : Map Rec) : Type 0 where
  pub extents : joined (l.extents).chunks ≡ extents_of s
  pub kept : (f : FieldDef) → IsOneOf f (indexed_fields new) → IsTrue (has_index s.schema f.id) → (i : FieldList) → IsOneOf (f.id, i) l.fields → joined i.chunks ≡ entries_of (record s { schema = new }) f
  pub entered : (f : FieldDef) → IsOneOf f (indexed_fields new) → has_index s.schema f.id ≡ false → (i : FieldList) → IsOneOf (f.id, i) l.fields → joined i.chunks ≡ entries_of (record { schema = new; next = s.next; records = done }) f
