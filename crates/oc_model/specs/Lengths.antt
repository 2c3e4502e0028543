-- Lengths: the bytes of a store's catalog and of its lists, as a commit reckons with them.
use Rattle.std.specs.Prelude.{ℕ, ◌+◌, List, [], filter, length, sum_by}
use Rattle.oc_model.specs.declared.schema.FieldDef.{FieldDef}
use Rattle.oc_model.specs.Schemas.{Schema}
use Rattle.oc_model.specs.SchemaRules.{all_fields}
use Rattle.oc_model.specs.Stores.{Store, base_of}
use Rattle.oc_model.specs.Spelling.{extent_bytes, index_bytes, catalog_bytes}
use Rattle.oc_model.specs.Candidates.{index_of}

-- the fields that have an index
abbrev pub indexed_fields : Schema → List FieldDef
indexed_fields s = filter (λ f. f.indexed) (all_fields s)

-- What a list takes at most: 8 bytes in the catalog, and for each entry its own bytes and 6 more, as if it were alone in its segment.
abbrev pub list_len : {X : Type 0} → (X → List ℕ) → List X → ℕ
list_len bytes entries = 8 + sum_by (λ e. length (bytes e) + 6) entries

-- the list of all objects
abbrev pub extents_len : Store → ℕ
extents_len s = list_len (λ e. extent_bytes e.0 (e.1).class) s.records

-- the list of a field with an index
abbrev pub index_len : Store → FieldDef → ℕ
index_len s f = list_len (λ e. index_bytes (base_of f.kind) e.0 e.1) (index_of s f)

-- The catalog without lists, and what the lists take at most: that of all objects, and one for each field with an index.
unfoldable pub catalog_len : Store → ℕ
unfolding catalog_bytes index_of
catalog_len s = length (catalog_bytes s.next s.schema []) + extents_len s + sum_by (index_len s) (indexed_fields s.schema)

-- how many entries all lists have
unfoldable pub entry_count : Store → ℕ
unfolding index_of
entry_count s = length s.records + sum_by (λ f. length (index_of s f)) (indexed_fields s.schema)
