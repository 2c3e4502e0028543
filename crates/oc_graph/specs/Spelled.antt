-- What the bytes of a record name: each entry's id with the references in its value. All else is passed over.
use Rattle.std.specs.Prelude.{ℕ, zero, suc, ◌==◌, List, [], ◌∷◌, ◌++◌, map, flat_map, take, drop, find, option_map, unwrap_or}
use Rattle.std.specs.Int.{w16, w32, from_be_bytes}
use Rattle.oc_model.specs.declared.value.Atom.TheVariants as atom
use Rattle.oc_model.specs.declared.value.Base.{Base}
use Rattle.oc_model.specs.declared.value.Base.TheVariants as base
use Rattle.oc_model.specs.declared.value.Kind.{Kind}
use Rattle.oc_model.specs.declared.value.Kind.TheVariants as kind
use Rattle.oc_model.specs.declared.schema.FieldDef.{FieldDef}
use Rattle.oc_model.specs.Kinds.{kind_tag}
use Rattle.oc_model.specs.References.{refs_in_atom}
use Rattle.oc_model.specs.Stores.{width_of}

-- what stands first in bytes, and what stands behind it
abbrev pub Front : Type 0 → Type 0
Front X = X × List ℕ

-- ---- numbers and kinds

-- the number in the first four bytes
abbrev pub word : List ℕ → ℕ
word bytes = from_be_bytes w32 (take 4 bytes)

-- the number in the first two bytes
abbrev pub short : List ℕ → ℕ
short bytes = from_be_bytes w16 (take 2 bytes)

-- the first byte, 0 where there is none
abbrev pub first : List ℕ → ℕ
first [] = 0
first (byte ∷ bytes) = byte

-- the base kinds
abbrev pub bases : List Base
bases = base.Bool ∷ base.I8 ∷ base.I16 ∷ base.I32 ∷ base.I64 ∷ base.Text ∷ base.Ref ∷ base.U64 ∷ base.I128 ∷ []

-- the kind of this byte
abbrev pub kind_of : ℕ → Kind
kind_of tag = unwrap_or (find (λ k. kind_tag k == tag) (map kind.One bases ++ map kind.Many bases)) (kind.One base.Bool)

-- ---- values

-- what stands behind a text that stands first
abbrev pub behind_text : List ℕ → List ℕ
behind_text [] = []
behind_text (zero ∷ bytes) = bytes
behind_text (suc n ∷ bytes) = drop (word bytes) (drop 4 bytes)

-- what a single value of the base kind names, which stands first
abbrev pub atom_front : Base → List ℕ → Front (List ℕ)
atom_front base.Ref bytes = (refs_in_atom (atom.Ref (word bytes)), drop 4 bytes)
atom_front base.Text bytes = ([], behind_text bytes)
atom_front b bytes = ([], drop (width_of b) bytes)

-- so many things that stand first, one behind another
abbrev pub row_front : {X : Type 0} → (List ℕ → Front X) → ℕ → List ℕ → Front (List X)
row_front one zero bytes = ([], bytes)
row_front one (suc count) bytes = ((one bytes).0 ∷ (row_front one count (one bytes).1).0, (row_front one count (one bytes).1).1)

-- what the elements of these bytes name, before which stands how many they are
abbrev pub items_front : Base → List ℕ → Front (List ℕ)
items_front b bytes = let row = row_front (atom_front b) (word bytes) (drop 4 bytes) in (flat_map (λ named. named) row.0, row.1)

-- what an array names, which stands first
abbrev pub array_front : Base → List ℕ → Front (List ℕ)
array_front b [] = ([], [])
array_front b (zero ∷ bytes) = ([], bytes)
array_front b (suc n ∷ bytes) = items_front b bytes

-- what a value of the kind names, which stands first
abbrev pub value_front : Kind → List ℕ → Front (List ℕ)
value_front (kind.One b) bytes = atom_front b bytes
value_front (kind.Many b) bytes = array_front b bytes

-- ---- records

-- the field's id, and what the value names
abbrev pub Named : Type 0
Named = ℕ × List ℕ

-- an entry that stands first: its id, and behind the byte of its kind the value
abbrev pub entry_front : List ℕ → Front Named
entry_front bytes = let value = value_front (kind_of (first (drop 4 bytes))) (drop 5 bytes) in ((word bytes, value.0), value.1)

-- the entries of a record, before which stand its class and how many they are
abbrev pub named_of : List ℕ → List Named
named_of bytes = (row_front entry_front (short (drop 4 bytes)) (drop 6 bytes)).0

-- what is named under the field's id, nothing where it isn't there
abbrev pub under : List Named → FieldDef → List ℕ
under named f = unwrap_or (option_map (λ (e : Named). e.1) (find (λ (e : Named). e.0 == f.id) named)) []
