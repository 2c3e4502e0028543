-- Stores: a schema, a next number, and records by number.
use Rattle.std.specs.Prelude.{ℕ, ◌+◌, nat_lt, List, [], ◌∷◌, fold, length, sum_by, Option, Some, None, option_map, find, ◌==◌, unwrap_or, if◌then◌else◌}
use Rattle.oc_model.specs.declared.value.Base.{Base}
use Rattle.oc_model.specs.declared.value.Base.TheVariants as base
use Rattle.oc_model.specs.declared.value.Kind.{Kind}
use Rattle.oc_model.specs.declared.value.Kind.TheVariants as kind
use Rattle.oc_model.specs.declared.value.Atom.{Atom}
use Rattle.oc_model.specs.declared.value.Atom.TheVariants as atom
use Rattle.oc_model.specs.declared.value.Value.{Value}
use Rattle.oc_model.specs.declared.value.Value.TheVariants as value
use Rattle.oc_model.specs.declared.value.Entry.{Entry}
use Rattle.oc_model.specs.declared.value.Rec.{Rec}
use Rattle.oc_model.specs.declared.schema.FieldDef.{FieldDef}
use Rattle.oc_model.specs.Maps.{Map, at}
use Rattle.oc_model.specs.Values.{default}
use Rattle.oc_model.specs.Schemas.{Schema, empty_schema, fields_of}

pub record Store : Type 0 where
  pub schema : Schema
  pub next : ℕ
  pub records : Map Rec

-- the store of a new container, whose first object gets this number
abbrev pub empty_store : ℕ → Store
empty_store first = record { schema = empty_schema; next = first; records = [] }

-- ---- records

-- the value that the entries have under a field's id
abbrev pub entry_of : ℕ → List Entry → Option Value
entry_of id entries = option_map (λ e. e.value) (find (λ e. e.id == id) entries)

-- the value under a field's id, or the default of its kind
abbrev pub value_in : List Entry → ℕ → Kind → Value
value_in entries id kind = unwrap_or (entry_of id entries) (default kind)

-- the entries with this one, in its place by id, instead of one with its id
abbrev pub entered : Entry → List Entry → List Entry
entered e [] = e ∷ []
entered e (f ∷ fs) = if e.id == f.id then e ∷ fs else if nat_lt e.id f.id then e ∷ f ∷ fs else f ∷ entered e fs

-- a field's value as an entry
abbrev pub entry_for : FieldDef → Value → Entry
entry_for f v = record { id = f.id; value = v; kind = f.kind }

-- each current field of the class from these values, and the other entries of the record as they were
unfoldable pub written : Schema → ℕ → List Entry → List Entry → List Entry
unfolding fields_of
written s c values old = fold (λ es f. entered (entry_for f (value_in values f.id f.kind)) es) old (fields_of s c)

-- the class of an object
abbrev pub class_of : Store → ℕ → Option ℕ
class_of s n = option_map (λ r. r.class) (at s.records n)

-- ---- how many bytes a record takes

-- of a number of this kind
abbrev pub width_of : Base → ℕ
width_of base.Bool = 1
width_of base.I8 = 1
width_of base.I16 = 2
width_of base.I32 = 4
width_of base.I64 = 8
width_of base.U64 = 8
width_of base.I128 = 16
width_of _ = 4

-- A text takes one byte for whether it is null, and else four more for its length and then its bytes.
abbrev pub atom_len : Base → Atom → ℕ
atom_len b (atom.Text None) = 1
atom_len b (atom.Text (Some t)) = 5 + length t
atom_len b _ = width_of b

-- the base of a single value's kind or of an array's items
abbrev pub base_of : Kind → Base
base_of (kind.One b) = b
base_of (kind.Many b) = b

-- An array takes one byte for whether it is null, and else four more for its length and then its elements.
abbrev pub value_len : Base → Value → ℕ
value_len b (value.One a) = atom_len b a
value_len b (value.Many None) = 1
value_len b (value.Many (Some items)) = 5 + sum_by (atom_len b) items

-- the field's id, the tag of its kind, and the value
abbrev pub entry_len : Entry → ℕ
entry_len e = 5 + value_len (base_of e.kind) e.value

-- the class, how many entries, and the entries
abbrev pub record_len : Rec → ℕ
record_len r = 6 + sum_by entry_len r.entries
