-- Which bytes are a record.
use Rattle.std.specs.Prelude.{◌≡◌, ◌^◌, ◌&&◌, ℕ, nat_lt, Bool, true, IsTrue, pos, List, [], ◌∷◌, ◌++◌, length, Some, None}
use Rattle.std.specs.List.{list_all}
use Rattle.std.specs.Str.{is_utf8}
use Rattle.std.specs.Int.{w32, to_be_bytes}
use Rattle.oc_model.specs.declared.value.Base.{Base}
use Rattle.oc_model.specs.declared.value.Kind.{Kind}
use Rattle.oc_model.specs.declared.value.Atom.{Atom}
use Rattle.oc_model.specs.declared.value.Atom.TheVariants as atom
use Rattle.oc_model.specs.declared.value.Value.{Value}
use Rattle.oc_model.specs.declared.value.Value.TheVariants as value
use Rattle.oc_model.specs.declared.value.Entry.{Entry}
use Rattle.oc_model.specs.declared.value.Rec.{Rec}
use Rattle.oc_model.specs.Values.{fits, fits_base}
use Rattle.oc_model.specs.Kinds.{kind_tag}
use Rattle.oc_model.specs.Spelling.{is_small, is_small_atom, is_id, record_bytes, IsSpellable}

-- a text is UTF-8
abbrev pub is_text : Atom → Bool
is_text (atom.Text (Some t)) = is_utf8 t
is_text _ = true

-- each text in the value is UTF-8
abbrev pub has_texts : Value → Bool
has_texts (value.One a) = is_text a
has_texts (value.Many None) = true
has_texts (value.Many (Some items)) = list_all is_text items

-- the first id, if there is one, is greater
abbrev pub is_below : ℕ → List Entry → Bool
is_below id [] = true
is_below id (e ∷ es) = nat_lt id e.id

-- each id is less than the next
abbrev pub is_ascending : List Entry → Bool
is_ascending [] = true
is_ascending (e ∷ es) = is_below e.id es && is_ascending es

-- A record of the grammar: it can be spelled, its ids ascend, and its texts are UTF-8.
pub record IsRecord (r : Rec) : Type 0 where
  pub spellable : IsSpellable r
  pub ascending : IsTrue (is_ascending r.entries)
  pub texts : IsTrue (list_all (λ e. has_texts e.value) r.entries)

-- the bytes are those of the record, with nothing behind them
pub record SpellsRecord (r : Rec) (b : List ℕ) : Type 0 where
  pub is : IsRecord r
  pub bytes : b ≡ record_bytes r

-- ---- the parts of a record

-- a single value of the base kind that can stand in a record
abbrev pub is_atom : Base → Atom → Bool
is_atom b a = fits_base b a && (is_small_atom a && is_text a)

-- a value of the kind that can stand in a record
abbrev pub is_value : Kind → Value → Bool
is_value k v = fits k v && (is_small v && has_texts v)

-- an entry that can stand in a record
abbrev pub is_entry : Entry → Bool
is_entry e = is_id e.id && is_value e.kind e.value

-- a text that can stand in a record
abbrev pub is_string : List ℕ → Bool
is_string t = nat_lt (length t) (2 ^ 32) && is_utf8 t

-- the length of a text, and the text
abbrev pub string_bytes : List ℕ → List ℕ
string_bytes t = to_be_bytes w32 (length t) ++ t

-- elements that can stand in one array
abbrev pub are_items : Base → List Atom → Bool
are_items b items = nat_lt (length items) (2 ^ 32) && list_all (is_atom b) items

-- 0 is of the kind, so it is one of whole numbers
abbrev pub IsWhole : Base → Type 0
IsWhole b = IsTrue (fits_base b (atom.Int (pos 0)))

-- the byte of a kind
abbrev pub kind_bytes : Kind → List ℕ
kind_bytes k = kind_tag k ∷ []
