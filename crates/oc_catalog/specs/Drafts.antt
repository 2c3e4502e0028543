-- A catalog whose classes and lists nobody has judged yet, and the parts of its bytes.
use Rattle.std.specs.Prelude.{◌≡◌, ℕ, ◌+◌, ◌&&◌, nat_le, Bool, IsTrue, List, [], ◌∷◌, ◌++◌, length, if◌then◌else◌}
use Rattle.std.specs.List.{list_all}
use Rattle.std.specs.Int.{w16, w32, to_be_bytes}
use Rattle.oc_model.specs.declared.schema.FieldDef.{FieldDef}
use Rattle.oc_model.specs.declared.schema.ClassDef.{ClassDef}
use Rattle.oc_model.specs.Maps.{Text}
use Rattle.oc_model.specs.Spelling.{counted, class_bytes, list_bytes, is_word}
use Rattle.oc_model.specs.declared.value.Kind.{Kind}
use Rattle.oc_marshal.specs.Places.{any, is_pair, is_short, pair_bytes}
use Rattle.oc_marshal.specs.Records.{kind_bytes}
use Rattle.oc_catalog.specs.declared.catalog.ListEntry.{ListEntry}
use Rattle.oc_catalog.specs.declared.reading.Draft.{Draft}

-- ---- names, fields and classes

-- the name's length is one byte
abbrev pub is_short_name : Text → Bool
is_short_name name = nat_le (length name) 255

-- 1 for a current field, and 2 more for one that is indexed
abbrev pub flags_bytes : Bool × Bool → List ℕ
flags_bytes p = ((if p.0 then 1 else 0) + (if p.1 then 2 else 0)) ∷ []

-- a field's id, its flags and its kind
abbrev pub label_bytes : ℕ × ((Bool × Bool) × Kind) → List ℕ
label_bytes = pair_bytes (to_be_bytes w32) (pair_bytes flags_bytes kind_bytes)

-- the id has 32 bits
abbrev pub is_label : ℕ × ((Bool × Bool) × Kind) → Bool
is_label = is_pair is_word (is_pair any any)

-- so few that a number of 16 bits counts them, and each passes the test
abbrev pub are_few : {X : Type 0} → (X → Bool) → List X → Bool
are_few test xs = is_short (length xs) && list_all test xs

-- so few that a number of 32 bits counts them, and each passes the test
abbrev pub are_many : {X : Type 0} → (X → Bool) → List X → Bool
are_many test xs = is_word (length xs) && list_all test xs

-- a field that the bytes can hold
abbrev pub is_field : FieldDef → Bool
is_field f = is_word f.id && is_short_name f.name

-- a class that the bytes can hold
abbrev pub is_class : ClassDef → Bool
is_class c = is_word c.parent && (is_short_name c.name && are_few is_field c.fields)

-- ---- lists

-- a list as the catalog names it: its id, and the numbers of its segments
abbrev pub list_of : ListEntry → ℕ × List ℕ
list_of l = (l.id, l.segments)

-- the bytes of a list
abbrev pub entry_bytes : ListEntry → List ℕ
entry_bytes l = list_bytes (list_of l)

-- a list that the bytes can hold
abbrev pub is_entry : ListEntry → Bool
is_entry l = is_word l.id && are_many is_word l.segments

-- ---- the whole

-- the next object's number and the next field's id, behind a byte 1
abbrev pub head_bytes : ℕ × ℕ → List ℕ
head_bytes h = 1 ∷ to_be_bytes w32 h.0 ++ to_be_bytes w32 h.1

-- the next object's number is 1 to 2,147,483,647, and the next field's id has 32 bits
abbrev pub is_head : ℕ × ℕ → Bool
is_head h = (nat_le 1 h.0 && nat_le h.0 2147483647) && is_word h.1

-- a draft that the bytes can hold
abbrev pub is_draft : Draft → Bool
is_draft d = is_head (d.next, d.next_field) && (are_few is_class d.classes && are_many is_entry d.lists)

-- the bytes of a draft
abbrev pub draft_bytes : Draft → List ℕ
draft_bytes d = head_bytes (d.next, d.next_field) ++ (counted w16 class_bytes d.classes ++ counted w32 entry_bytes d.lists)

-- the bytes are those of the draft, with nothing behind them
pub record SpellsDraft (d : Draft) (b : List ℕ) : Type 0 where
  pub is : IsTrue (is_draft d)
  pub bytes : b ≡ draft_bytes d
