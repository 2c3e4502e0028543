-- The lines that an answer says.
use Rattle.std.specs.Prelude.{ℕ, ◌+◌, ◌/◌, ◌%◌, true, false, ◌||◌, ◌==◌, nat_lt, List, [], ◌∷◌, ◌++◌, map, flat_map, codes, decimal, Some, None, if◌then◌else◌, length}
use Rattle.std.specs.Fmt.{signed_decimal}
use Rattle.oc_model.specs.declared.answer.Mark.{Mark}
use Rattle.oc_model.specs.declared.answer.Mark.TheVariants as mark
use Rattle.oc_model.specs.declared.answer.ShownAtom.{ShownAtom}
use Rattle.oc_model.specs.declared.answer.ShownAtom.TheVariants as atom
use Rattle.oc_model.specs.declared.answer.ShownValue.{ShownValue}
use Rattle.oc_model.specs.declared.answer.ShownValue.TheVariants as value
use Rattle.oc_model.specs.declared.answer.ShownField.{ShownField}
use Rattle.oc_model.specs.declared.answer.Shown.{Shown}
use Rattle.oc_model.specs.declared.answer.Shown.TheVariants as shown
use Rattle.oc_model.specs.declared.answer.ObjectLine.{ObjectLine}
use Rattle.oc_model.specs.declared.answer.NameLine.{NameLine}
use Rattle.oc_model.specs.declared.answer.Word.{Word}
use Rattle.oc_model.specs.declared.answer.Word.TheVariants as word
use Rattle.oc_model.specs.declared.answer.Answer.{Answer}
use Rattle.oc_model.specs.declared.answer.Answer.TheVariants as answer
use Rattle.oc_model.specs.Maps.{Text}
use Rattle.oc_model.specs.Opened.{decimals}

-- ---- values

-- one of `0` to `9` and `a` to `f`
abbrev pub hex : ℕ → ℕ
hex d = if nat_lt d 10 then 48 + d else 87 + d

-- how a byte stands in a text
abbrev pub escape : ℕ → Text
escape c =
    if c == 34 || c == 92 then 92 ∷ c ∷ []
    else if c == 10 then codes "\\n"
    else if c == 13 then codes "\\r"
    else if c == 9 then codes "\\t"
    else if nat_lt c 32 || c == 127 then codes "\\x" ++ hex (c / 16) ∷ hex (c % 16) ∷ []
    else c ∷ []

-- a text in quotes, with its escapes
abbrev pub quoted : Text → Text
quoted t = codes "\"" ++ flat_map escape t ++ codes "\""

-- `~` and the number, or `!` and the handle of an unsaved object
abbrev pub mark_text : Mark → Text
mark_text (mark.Number n) = codes "~" ++ decimal n
mark_text (mark.Handle h) = codes "!" ++ decimal h

-- a single value as it is printed
abbrev pub atom_text : ShownAtom → Text
atom_text (atom.Bool true) = codes "true"
atom_text (atom.Bool false) = codes "false"
atom_text (atom.Int n) = signed_decimal n
atom_text (atom.Text None) = codes "null"
atom_text (atom.Text (Some t)) = quoted t
atom_text (atom.Ref None) = codes "null"
atom_text (atom.Ref (Some m)) = mark_text m

-- the texts with a separator between each two
abbrev pub joined : Text → List Text → Text
joined sep [] = []
joined sep (t ∷ []) = t
joined sep (t ∷ u ∷ ts) = t ++ sep ++ joined sep (u ∷ ts)

-- a single value, or an array in brackets
abbrev pub value_text : ShownValue → Text
value_text (value.One a) = atom_text a
value_text (value.Many None) = codes "null"
value_text (value.Many (Some items)) = codes "[" ++ joined (codes ", ") (map atom_text items) ++ codes "]"

-- a field's name and value, with a blank before it
abbrev pub field_text : ShownField → Text
field_text f = codes " " ++ f.name ++ codes ": " ++ value_text f.value

-- ---- lines

-- a text with the end of its line
abbrev pub line : Text → Text
line t = t ++ 10 ∷ []

-- the fields in braces, or `stub`
abbrev pub fields_text : Shown → Text
fields_text shown.Stub = codes " stub"
fields_text (shown.Fields fs) = codes " {" ++ joined (codes ",") (map field_text fs) ++ codes " }"

-- the mark, the class, and the fields in braces
unfoldable pub object_line : ObjectLine → Text
unfolding decimals
object_line o = line (mark_text o.mark ++ codes " " ++ o.class ++ fields_text o.fields)

-- the word of a refusal
abbrev pub word_text : Word → Text
word_text word.Syntax = codes "syntax"
word_text word.Long = codes "long"
word_text word.Deep = codes "deep"
word_text word.Class = codes "class"
word_text word.Field = codes "field"
word_text word.Kind = codes "kind"
word_text word.Name = codes "name"
word_text word.Exists = codes "exists"
word_text word.Parent = codes "parent"
word_text word.Past = codes "past"
word_text word.Live = codes "live"
word_text word.Stub = codes "stub"
word_text word.Cycle = codes "cycle"
word_text word.Size = codes "size"
word_text word.Numbers = codes "numbers"
word_text (word.Full need len limit) = codes "full"

-- a bound name, its object, and whether that is active
abbrev pub state_text : NameLine → Text
state_text n = elim n.mark [
  | mark.Handle h ↦ codes "unsaved"
  | mark.Number k ↦ if n.active then codes "active" else codes "stub"
]

-- the line of a bound name
unfoldable pub name_line : NameLine → Text
unfolding decimals
name_line n = line (n.name ++ codes " " ++ mark_text n.mark ++ codes " " ++ state_text n)

-- a word and a number behind it
abbrev pub counted : Text → ℕ → Text
counted word n = line (word ++ codes " " ++ decimal n)

-- the lines that an answer says
unfoldable pub answer_text : Answer → Text
unfolding decimals object_line name_line
answer_text answer.Done = line (codes "ok")
answer_text (answer.Stored n k) = line (codes "stored ~" ++ decimal n ++ codes " " ++ decimal k)
answer_text (answer.Deleted k) = counted (codes "deleted") k
answer_text (answer.Activated k) = counted (codes "activated") k
answer_text (answer.Deactivated k) = counted (codes "deactivated") k
answer_text (answer.Refreshed k) = counted (codes "refreshed") k
answer_text (answer.Converted k) = counted (codes "converted") k
answer_text (answer.Found os) = flat_map object_line os ++ counted (codes "found") (length os)
answer_text (answer.Shown os) = flat_map object_line os ++ counted (codes "shown") (length os)
answer_text (answer.Peeked os) = flat_map object_line os ++ counted (codes "peeked") (length os)
answer_text (answer.Names ns) = flat_map name_line ns ++ counted (codes "names") (length ns)
answer_text (answer.Committed k) = counted (codes "committed") k
answer_text answer.RolledBack = line (codes "rolled back")
answer_text answer.Closed = line (codes "closed")
answer_text (answer.Refused w) = line (codes "error " ++ word_text w)
