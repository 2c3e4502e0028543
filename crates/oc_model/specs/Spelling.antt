-- The bytes of a record, of the entries of lists, and of the catalog, and which of them a file can hold. Numbers stand with their highest byte first.
use Rattle.std.specs.Prelude.{◌≡◌, ◌^◌, ℕ, ◌+◌, ◌&&◌, nat_lt, nat_le, Bool, true, IsTrue, List, [], ◌∷◌, ◌++◌, flat_map, length, Some, None, if◌then◌else◌}
use Rattle.std.specs.List.{list_all}
use Rattle.std.specs.Int.{Width, w16, w32, w128, to_be_bytes, bytes_high_first, cast_unsigned}
use Rattle.oc_model.specs.declared.value.Base.{Base}
use Rattle.oc_model.specs.declared.value.Kind.{Kind}
use Rattle.oc_model.specs.declared.value.Atom.{Atom}
use Rattle.oc_model.specs.declared.value.Atom.TheVariants as atom
use Rattle.oc_model.specs.declared.value.Value.{Value}
use Rattle.oc_model.specs.declared.value.Value.TheVariants as value
use Rattle.oc_model.specs.declared.value.Entry.{Entry}
use Rattle.oc_model.specs.declared.value.Rec.{Rec}
use Rattle.oc_model.specs.declared.schema.FieldDef.{FieldDef}
use Rattle.oc_model.specs.declared.schema.ClassDef.{ClassDef}
use Rattle.oc_model.specs.Maps.{Text}
use Rattle.oc_model.specs.Values.{fits, fits_base}
use Rattle.oc_model.specs.Kinds.{kind_tag}
use Rattle.oc_model.specs.Schemas.{Schema}
use Rattle.oc_model.specs.SchemaRules.{keeps_rules}
use Rattle.oc_model.specs.Stores.{width_of, base_of}

-- how many there are, in a word of this width, and then the bytes of each
abbrev pub counted : {X : Type 0} → Width → (X → List ℕ) → List X → List ℕ
counted w bytes xs = to_be_bytes w (length xs) ++ flat_map bytes xs

-- ---- values

-- A number takes as many bytes as its kind is wide, in two's complement; one that isn't negative stands there as it is.
-- Before a text stands whether it is null, and then how many bytes it has.
abbrev pub atom_bytes : Base → Atom → List ℕ
atom_bytes b (atom.Bool x) = (if x then 1 else 0) ∷ []
atom_bytes b (atom.Int n) = bytes_high_first (width_of b) (cast_unsigned w128 n)
atom_bytes b (atom.Text None) = 0 ∷ []
atom_bytes b (atom.Text (Some t)) = 1 ∷ to_be_bytes w32 (length t) ++ t
atom_bytes b (atom.Ref n) = to_be_bytes w32 n

-- Before an array stands whether it is null, and then how many elements it has.
abbrev pub value_bytes : Kind → Value → List ℕ
value_bytes k (value.One a) = atom_bytes (base_of k) a
value_bytes k (value.Many None) = 0 ∷ []
value_bytes k (value.Many (Some items)) = 1 ∷ counted w32 (atom_bytes (base_of k)) items

-- ---- records

-- the field's id, the tag of its kind, and the value
abbrev pub entry_bytes : Entry → List ℕ
entry_bytes e = to_be_bytes w32 e.id ++ kind_tag e.kind ∷ value_bytes e.kind e.value

-- the class, how many entries there are, and the entries
unfoldable pub record_bytes : Rec → List ℕ
record_bytes r = to_be_bytes w32 r.class ++ counted w16 entry_bytes r.entries

-- the value in the entry is of the entry's kind
abbrev pub entry_fits : Entry → Bool
entry_fits e = fits e.kind e.value

-- ---- lists of objects

-- an object in the list of all objects: its number and its class
abbrev pub extent_bytes : ℕ → ℕ → List ℕ
extent_bytes number class = to_be_bytes w32 number ++ to_be_bytes w32 class

-- an object in the list of a field of this base kind: the field's value and the object's number
abbrev pub index_bytes : Base → Atom → ℕ → List ℕ
index_bytes b key number = atom_bytes b key ++ to_be_bytes w32 number

-- one segment of a list: how many entries it has, and the entries
abbrev pub segment_bytes : {X : Type 0} → (X → List ℕ) → List X → List ℕ
segment_bytes = counted w16

-- ---- the catalog

-- how many bytes the name has, and the bytes
abbrev pub name_bytes : Text → List ℕ
name_bytes name = length name ∷ name

-- 1 for a current field, and 2 more for one that is indexed
abbrev pub field_flags : FieldDef → ℕ
field_flags f = (if f.current then 1 else 0) + (if f.indexed then 2 else 0)

-- the field's id, its flags, the tag of its kind, and its name
abbrev pub field_bytes : FieldDef → List ℕ
field_bytes f = to_be_bytes w32 f.id ++ field_flags f ∷ kind_tag f.kind ∷ name_bytes f.name

-- the parent's number, the name, how many own fields there are, and the fields
abbrev pub class_bytes : ClassDef → List ℕ
class_bytes c = to_be_bytes w32 c.parent ++ name_bytes c.name ++ counted w16 field_bytes c.fields

-- the list's id, how many segments it has, and their numbers
abbrev pub list_bytes : ℕ × List ℕ → List ℕ
list_bytes l = to_be_bytes w32 l.0 ++ counted w32 (to_be_bytes w32) l.1

-- The byte 1, the next object's number, the next field's id, the classes, and the lists: each with its id and the numbers of its segments.
unfoldable pub catalog_bytes : ℕ → Schema → List (ℕ × List ℕ) → List ℕ
catalog_bytes next schema lists =
    1 ∷ to_be_bytes w32 next ++ to_be_bytes w32 schema.next_field ++ counted w16 class_bytes schema.classes ++ counted w32 list_bytes lists

-- ---- what can be spelled, and what the bytes tell

-- The bytes tell what they spell, whatever stands behind them: of two values with the same bytes in front both are one, and the same stands behind.
abbrev pub Tells : {X : Type 0} → (X → Type 0) → (X → List ℕ) → Type 0
Tells {X} P bytes = (x y : X) (rest more : List ℕ) → P x → P y → bytes x ++ rest ≡ bytes y ++ more → (x ≡ y) × (rest ≡ more)

-- A text has fewer than 2^32 bytes, and a reference is at most 2,147,483,646.
abbrev pub is_small_atom : Atom → Bool
is_small_atom (atom.Text (Some t)) = nat_lt (length t) (2 ^ 32)
is_small_atom (atom.Ref n) = nat_le n 2147483646
is_small_atom _ = true

-- An array has fewer than 2^32 elements, each of them small.
abbrev pub is_small : Value → Bool
is_small (value.One a) = is_small_atom a
is_small (value.Many None) = true
is_small (value.Many (Some items)) = nat_lt (length items) (2 ^ 32) && list_all is_small_atom items

-- the number has 32 bits
abbrev pub is_word : ℕ → Bool
is_word n = nat_lt n (2 ^ 32)

-- the number is from 1 on and has 32 bits
abbrev pub is_id : ℕ → Bool
is_id n = nat_le 1 n && is_word n

-- A record that a file can hold: its class and its ids are from 1 on and have 32 bits, its entries are few, and its values are small and of their entries' kinds.
pub record IsSpellable (r : Rec) : Type 0 where
  pub class : IsTrue (is_id r.class)
  pub few : IsTrue (nat_le (length r.entries) 65535)
  pub ids : IsTrue (list_all (λ e. is_id e.id) r.entries)
  pub fits : IsTrue (list_all entry_fits r.entries)
  pub small : IsTrue (list_all (λ e. is_small e.value) r.entries)

-- Entries that one segment can hold: they are few, and each passes the test.
pub record IsSegment {X : Type 0} (test : X → Bool) (entries : List X) : Type 0 where
  pub few : IsTrue (nat_le (length entries) 65535)
  pub each : IsTrue (list_all test entries)

-- an entry of the list of all objects: the number and the class have 32 bits
abbrev pub is_extent : ℕ × ℕ → Bool
is_extent e = is_word e.0 && is_word e.1

-- an entry of a field's list: the value is a small one of the base kind, and the number has 32 bits
abbrev pub is_indexed : Base → Atom × ℕ → Bool
is_indexed b e = fits_base b e.0 && is_small_atom e.0 && is_word e.1

-- a list as the catalog names it: its id, the count of its segments and their numbers have 32 bits
abbrev pub is_list : ℕ × List ℕ → Bool
is_list l = is_word l.0 && is_word (length l.1) && list_all is_word l.1

-- A catalog that a file can hold: the schema keeps its rules, the next number and the count of the lists have 32 bits, and so have the numbers in the lists.
pub record IsCatalog (n : ℕ) (s : Schema) (ls : List (ℕ × List ℕ)) : Type 0 where
  pub next : IsTrue (is_word n)
  pub schema : IsTrue (keeps_rules s)
  pub few : IsTrue (is_word (length ls))
  pub lists : IsTrue (list_all is_list ls)
