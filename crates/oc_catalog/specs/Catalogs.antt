-- Which bytes are a catalog.
use Rattle.std.specs.Prelude.{◌≡◌, ◌≤◌, ◌&&◌, ℕ, nat_le, Bool, IsTrue, List, ◌∷◌, map, filter, flat_map}
use Rattle.std.specs.List.{list_all}
use Rattle.std.specs.Ordering.{nat_cmp}
use Rattle.oc_model.specs.Lists.{sorted}
use Rattle.oc_model.specs.Schemas.{Schema}
use Rattle.oc_model.specs.declared.schema.ClassDef.{ClassDef}
use Rattle.oc_model.specs.Maps.{same}
use Rattle.oc_model.specs.SchemaRules.{are_apart, keeps_rules}
use Rattle.oc_model.specs.Spelling.{catalog_bytes}
use Rattle.oc_catalog.specs.declared.catalog.Catalog.{Catalog}
use Rattle.oc_catalog.specs.declared.catalog.ListEntry.{ListEntry}
use Rattle.oc_catalog.specs.Drafts.{are_many, is_entry, list_of}

-- the ids of the indexed fields
abbrev pub indexed_ids : List ClassDef → List ℕ
indexed_ids classes = map (λ f. f.id) (filter (λ f. f.indexed) (flat_map (λ c. c.fields) classes))

-- the ids of the lists that there are, ascending: 0 for the list of all objects, and one for each indexed field
abbrev pub list_ids : List ClassDef → List ℕ
list_ids classes = sorted nat_cmp (0 ∷ indexed_ids classes)

-- the numbers of all segments, list by list
abbrev pub segments_of : List ListEntry → List ℕ
segments_of lists = flat_map (λ l. l.segments) lists

-- The lists are those of the schema, by id. Each segment's number is from 2 on, and no two segments have one number. All counts and numbers have 32 bits.
pub record AreLists (s : Schema) (lists : List ListEntry) : Type 0 where
  pub small : IsTrue (are_many is_entry lists)
  pub ids : map (λ l. l.id) lists ≡ list_ids s.classes
  pub from_2 : IsTrue (list_all (nat_le 2) (segments_of lists))
  pub once : IsTrue (are_apart (segments_of lists))

-- the lists are those of the classes, by id, and each segment's number is from 2 on and comes once
abbrev pub lists_keep : List ClassDef → List ListEntry → Bool
lists_keep classes lists = same (map (λ l. l.id) lists) (list_ids classes) && (list_all (nat_le 2) (segments_of lists) && are_apart (segments_of lists))

-- the next number is 1 to 2,147,483,647
abbrev pub IsNext : ℕ → Type 0
IsNext n = (1 ≤ n) × (n ≤ 2147483647)

-- A catalog of the grammar: its next number is one, its schema keeps the rules, and its lists are those of the schema.
pub record IsOfGrammar (c : Catalog) : Type 0 where
  pub next : IsNext c.next
  pub schema : IsTrue (keeps_rules c.schema)
  pub lists : AreLists c.schema c.lists

-- the bytes are those of the catalog, with nothing behind them
pub record SpellsCatalog (c : Catalog) (b : List ℕ) : Type 0 where
  pub is : IsOfGrammar c
  pub bytes : b ≡ catalog_bytes c.next c.schema (map list_of c.lists)
