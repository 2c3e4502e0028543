-- What a change of one object makes of the entries of the lists.
use Rattle.std.specs.Prelude.{◌≡◌, ℕ, ◌==◌, not, Bool, false, List, [], ◌∷◌, filter, Option, None, Some, option_map, if◌then◌else◌}
use Rattle.std.specs.Ordering.{is_eq}
use Rattle.oc_model.specs.declared.value.Atom.{Atom}
use Rattle.oc_model.specs.declared.value.Rec.{Rec}
use Rattle.oc_model.specs.declared.schema.FieldDef.{FieldDef}
use Rattle.oc_model.specs.Orders.{compare}
use Rattle.oc_model.specs.Schemas.{Schema, fields_of}
use Rattle.oc_chunks.specs.Ascending.{entered, replaced}
use Rattle.oc_chunks.specs.Chunks.{joined}
use Rattle.oc_index.specs.declared.items.ExtentItem.{ExtentItem}
use Rattle.oc_index.specs.declared.items.IndexItem.{IndexItem}
use Rattle.oc_index.specs.Indexed.{StoreLists}
use Rattle.oc_index.specs.Items.{extent_cmp, index_cmp}
use Rattle.oc_index.specs.Ranges.{is_entry, is_numbered}
use Rattle.oc_lists.specs.Lists.{key_in}
use Rattle.oc_lists.specs.Moving.{AreFields}

-- ---- the extents

-- the objects with the one of this number of this class, or gone
abbrev pub relisted : ℕ → Option ℕ → List ExtentItem → List ExtentItem
relisted n None es = filter (λ e. not (is_numbered n e)) es
relisted n (Some class) es = replaced extent_cmp (record { number = n; class = class }) es

-- ---- an index

-- the entries without the object's of this value
abbrev pub without_key : ℕ → Option Atom → List IndexItem → List IndexItem
without_key n None es = es
without_key n (Some key) es = filter (λ e. not (is_entry key n e)) es

-- the entries with the object under this value
abbrev pub with_key : ℕ → Option Atom → List IndexItem → List IndexItem
with_key n None es = es
with_key n (Some key) es = entered index_cmp (record { key = key; number = n }) es

-- the value is there before and after, and is the same
abbrev pub is_kept : Option Atom → Option Atom → Bool
is_kept (Some a) (Some b) = is_eq (compare a b)
is_kept _ _ = false

-- the entries once the object's value went from the one to the other
abbrev pub rekeyed : ℕ → Option Atom → Option Atom → List IndexItem → List IndexItem
rekeyed n old new es = if is_kept old new then es else with_key n new (without_key n old es)

-- ---- the indexes

-- what changes the index of this id alone
abbrev pub at_field : ℕ → (List IndexItem → List IndexItem) → ℕ → List IndexItem → List IndexItem
at_field id change i es = if id == i then change es else es

-- the value that the object's record has under the field
abbrev pub key_under : FieldDef → Option Rec → Option Atom
key_under f o = option_map (key_in f) o

-- the entries of the index of an id, once the object's record went from the one to the other, where these are the indexed fields of its class
abbrev pub refiled : ℕ → Option Rec → Option Rec → List FieldDef → ℕ → List IndexItem → List IndexItem
refiled n old new [] id es = es
refiled n old new (f ∷ fs) id es = refiled n old new fs id (at_field f.id (rekeyed n (key_under f old) (key_under f new)) id es)

-- the entries of each index have so changed
abbrev pub Refiles : (ℕ → List IndexItem → List IndexItem) → StoreLists → StoreLists → Type 0
Refiles change old new = AreFields (λ id i j. joined j.chunks ≡ change id (joined i.chunks)) old.fields new.fields

-- ---- the fields of a class

-- the fields of an object of this class that have an index
abbrev pub indexed_in : Schema → ℕ → List FieldDef
indexed_in s class = filter (λ f. f.indexed) (fields_of s class)

-- the class of the record, if there is one
abbrev pub class_of_rec : Option Rec → Option ℕ
class_of_rec o = option_map (λ r. r.class) o

-- the class of the object's record after the change, or else before it
abbrev pub class_for : Option Rec → Option Rec → Option ℕ
class_for old (Some r) = Some r.class
class_for old None = class_of_rec old

-- the indexed fields of the class, if there is one
abbrev pub indexed_for : Schema → Option ℕ → List FieldDef
indexed_for s None = []
indexed_for s (Some class) = indexed_in s class
