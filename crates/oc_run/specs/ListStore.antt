-- What the lists of a run's store stand for, and the commands over such lists.
use Rattle.std.specs.Prelude.{ℕ, zero, suc, ◌+◌, ◌≤◌, ◌<◌, ◌≡◌, Bool, true, false, not, ◌&&◌, nat_lt, nat_le, List, [], ◌∷◌, ◌++◌, map, length, slice_set, slice_get, Option, Some, None, is_some, unwrap_or, Ok, if◌then◌else◌, ◌==◌}
use Rattle.std.specs.List.{AllByRecursion, list_all}
use Rattle.std.specs.HashMap.{HashMap, get_by}
use Rattle.std.specs.Global.{Vec}
use Rattle.oc_model.specs.declared.value.Kind.{Kind}
use Rattle.oc_model.specs.declared.value.Value.{Value}
use Rattle.oc_model.specs.declared.value.Value.TheVariants as value
use Rattle.oc_model.specs.declared.value.Atom.TheVariants as atom
use Rattle.oc_model.specs.declared.value.Entry.{Entry}
use Rattle.oc_model.specs.declared.value.Rec.{Rec}
use Rattle.oc_model.specs.declared.schema.FieldDef.{FieldDef}
use Rattle.oc_model.specs.declared.schema.ClassDef.{ClassDef}
use Rattle.oc_model.specs.declared.command.Single.TheVariants as single
use Rattle.oc_model.specs.declared.command.ValueText.{ValueText}
use Rattle.oc_model.specs.declared.command.ValueText.TheVariants as valued
use Rattle.oc_model.specs.declared.command.Decl.{Decl}
use Rattle.oc_model.specs.declared.command.Given.{Given}
use Rattle.oc_model.specs.declared.answer.Mark.{Mark}
use Rattle.oc_model.specs.declared.answer.Mark.TheVariants as mark
use Rattle.oc_model.specs.declared.answer.ShownField.{ShownField}
use Rattle.oc_model.specs.declared.answer.Shown.TheVariants as shown
use Rattle.oc_model.specs.declared.answer.ObjectLine.{ObjectLine}
use Rattle.oc_model.specs.declared.answer.Word.TheVariants as word
use Rattle.oc_model.specs.declared.answer.Answer.TheVariants as answer
use Rattle.oc_model.specs.Maps.{Map, Text, with_at, same, are_distinct}
use Rattle.oc_model.specs.Refusals.{Checked, ◌>>=◌, ◌>>◌, unless, or_refuse}
use Rattle.oc_model.specs.Values.{fits, default}
use Rattle.oc_model.specs.Schemas.{Schema, number_from}
use Rattle.oc_model.specs.SchemaRules.{is_within_limits}
use Rattle.oc_model.specs.SchemaSteps.{new_field}
use Rattle.oc_model.specs.Stores.{empty_store, entry_for, record_len}
use Rattle.oc_model.specs.States.{State, Live, start_settings}
use Rattle.oc_machine.specs.Outcomes.{Outcome, done}
use Rattle.oc_machine.specs.Values.{null_of}
use Rattle.oc_machine.specs.Showing.{shown_value_by}
use Rattle.oc_machine.specs.SchemaLines.{set_schema}
use Rattle.oc_machine.specs.Runs.{is_built_kind}

-- ---- the state

-- records under the numbers from n on
abbrev pub numbered : ℕ → List Rec → Map Rec
numbered n [] = []
numbered n (r ∷ rs) = (n, r) ∷ numbered (n + 1) rs

abbrev pub schema_of : List ClassDef → ℕ → Schema
schema_of classes next_field = record { classes = classes; next_field = next_field }

-- The object in memory that a record was made of: it stays, and is active. It has the same entries, since they name no objects.
abbrev pub live_of : ℕ → Rec → Live
live_of n r = record { class = r.class; number = Some n; active = true; entries = r.entries }

-- the objects of such records, under handles that are their numbers
abbrev pub live_from : ℕ → List Rec → Map Live
live_from n [] = []
live_from n (r ∷ rs) = (n, live_of n r) ∷ live_from (n + 1) rs

-- Nothing is committed before the closing, no name is bound, and nothing is set.
abbrev pub state_of : List ClassDef → ℕ → List Rec → State
state_of classes next_field records =
    record {
      committed = empty_store 1;
      session = record { schema = schema_of classes next_field; next = length records + 1; records = numbered 1 records };
      live = live_from 1 records;
      next_handle = length records + 1;
      names = [];
      settings = start_settings;
      commits = 0;
    }

-- ---- what the lists keep

-- each field is current, and the ids ascend, from this one on or later
abbrev pub Ascends : ℕ → List FieldDef → Type 0
Ascends low [] = Unit {0}
Ascends low (f ∷ fs) = (low ≤ f.id) × (f.current ≡ true) × Ascends (f.id + 1) fs

-- No class is above this one. It has no past field, and no field of another kind than the program has. No two of its fields have one name.
pub record IsFlat (c : ClassDef) : Type 0 where
  pub alone : c.parent ≡ 0
  pub ascends : Ascends 0 c.fields
  pub plain : list_all (λ f. is_built_kind f.kind) c.fields ≡ true
  pub distinct : are_distinct (map (λ f. f.name) c.fields) ≡ true

-- the class of a number
abbrev pub class_of : List ClassDef → ℕ → Option ClassDef
class_of classes zero = None
class_of classes (suc n) = slice_get classes n

abbrev pub field_ids : Option ClassDef → List ℕ
field_ids None = []
field_ids (Some c) = map (λ f. f.id) c.fields

-- a number or a text, which names no object
abbrev pub is_plain : Value → Bool
is_plain (value.One (atom.Int n)) = true
is_plain (value.One (atom.Text t)) = true
is_plain v = false

-- The record's class is there, and its entries are those of the class's fields, in their order.
pub record IsKept (classes : List ClassDef) (r : Rec) : Type 0 where
  pub class : is_some (class_of classes r.class) ≡ true
  pub ids : map (λ e. e.id) r.entries ≡ field_ids (class_of classes r.class)

-- the number that the table has for a name
abbrev pub number_in : {S : Type 0} → HashMap (Vec ℕ) ℕ S → Text → Option ℕ
number_in numbers name = get_by (λ k. same name k.items) numbers

pub record IsStore {S : Type 0} (classes : List ClassDef) (next_field : ℕ) (records : List Rec) (numbers : HashMap (Vec ℕ) ℕ S) : Type 0 where
  pub few_classes : length classes ≤ 65535
  pub few_records : length records ≤ 2147483646
  pub limits : is_within_limits (schema_of classes next_field) ≡ true
  pub flat : AllByRecursion IsFlat classes
  pub kept : AllByRecursion (IsKept classes) records
  pub names : (name : Text) → number_in numbers name ≡ number_from 1 classes name

-- ---- a new class

-- the fields of a new class, with ids from this one on
abbrev pub new_fields : ℕ → List Decl → List FieldDef
new_fields id [] = []
new_fields id (d ∷ ds) = new_field id d ∷ new_fields (id + 1) ds

-- with a new class, which has no parent
abbrev pub with_class : Schema → Text → List Decl → Schema
with_class s name ds =
    record {
      classes = s.classes ++ record { name = name; parent = 0; fields = new_fields s.next_field ds } ∷ [];
      next_field = s.next_field + length ds;
    }

-- 65,535 classes, 255 fields of a class, and 4,294,967,294 field ids
abbrev pub has_room : Schema → List Decl → Bool
has_room s ds = nat_lt (length s.classes) 65535 && nat_le (length ds) 255 && nat_le (s.next_field + length ds) 4294967295

-- The refusals of a class that is new: a field name given twice, and the limits.
abbrev pub declare : Schema → Text → List Decl → Checked Schema
declare s name ds =
    unless (are_distinct (map (λ d. d.name) ds)) word.Exists >>
    unless (has_room s ds) word.Size >>
    Ok (with_class s name ds)

-- the line of a class that is new and has no parent
abbrev pub new_class_step : State → Text → List Decl → Checked Outcome
new_class_step m name ds = declare m.session.schema name ds >>= λ s. done (set_schema m s)

-- ---- a new record

-- The value that is written for a field of this kind. A value that the program hasn't is taken for null.
abbrev pub value_of : Kind → ValueText → Value
value_of k (valued.One (single.Int n)) = value.One (atom.Int n)
value_of k (valued.One (single.Text t)) = value.One (atom.Text (Some t))
value_of k x = null_of k

-- the place and the kind of the first field of this name, where the first of the list has place n
abbrev pub placed_from : ℕ → List FieldDef → Text → Option (ℕ × Kind)
placed_from n [] name = None
placed_from n (f ∷ fs) name = if same f.name name then Some (n, f.kind) else placed_from (n + 1) fs name

-- the values given so far, each in the place of its field
abbrev pub SlotList : Type 0
SlotList = List (Option Value)

abbrev pub is_filled : SlotList → ℕ → Bool
is_filled [] i = false
is_filled (v ∷ vs) zero = is_some v
is_filled (v ∷ vs) (suc i) = is_filled vs i

-- with one value more
abbrev pub with_given : List FieldDef → SlotList → Given → Checked SlotList
with_given fs vs g =
    or_refuse (placed_from 0 fs g.name) word.Field >>= λ p.
    unless (not (is_filled vs p.0)) word.Exists >>
    unless (fits p.1 (value_of p.1 g.value)) word.Kind >>
    Ok (slice_set vs p.0 (Some (value_of p.1 g.value)))

abbrev pub with_all_given : List FieldDef → SlotList → List Given → Checked SlotList
with_all_given fs vs [] = Ok vs
with_all_given fs vs (g ∷ gs) = with_given fs vs g >>= λ ws. with_all_given fs ws gs

-- no value yet
abbrev pub blank : List FieldDef → SlotList
blank [] = []
blank (f ∷ fs) = None ∷ blank fs

-- the entries of the given values
abbrev pub chosen : List FieldDef → SlotList → List Entry
chosen [] vs = []
chosen (f ∷ fs) [] = []
chosen (f ∷ fs) (None ∷ vs) = chosen fs vs
chosen (f ∷ fs) (Some v ∷ vs) = entry_for f v ∷ chosen fs vs

-- an entry for each field, with the given value or the default
abbrev pub filled : List FieldDef → SlotList → List Entry
filled [] vs = []
filled (f ∷ fs) [] = []
filled (f ∷ fs) (v ∷ vs) = entry_for f (unwrap_or v (default f.kind)) ∷ filled fs vs

-- the entries of a record with the given values
abbrev pub entries_given : List FieldDef → List Given → Checked (List Entry)
entries_given fs gs = with_all_given fs (blank fs) gs >>= λ vs. Ok (filled fs vs)

-- With a record under the next number, and the object that it was made of under the next handle.
abbrev pub with_record : State → Rec → State
with_record m r =
    record m {
      session = record m.session { next = m.session.next + 1; records = with_at m.session.records m.session.next r };
      live = with_at m.live m.next_handle (live_of m.session.next r);
      next_handle = m.next_handle + 1;
    }

-- Stores a new object that names none: a record of at most 262,144 bytes, under a number of at most 2,147,483,646.
abbrev pub record_step : State → Rec → Checked Outcome
record_step m r =
    unless (nat_le (record_len r) 262144) word.Size >>
    unless (nat_le m.session.next 2147483646) word.Numbers >>
    Ok (with_record m r, answer.Stored m.session.next 1)

-- what is left of so many bytes when this many are taken, if there are enough
abbrev pub Pays : ℕ → ℕ → Option ℕ → Type 0
Pays room cost None = room < cost
Pays room cost (Some left) = left + cost ≡ room

-- ---- what a query shows

-- how a reference is shown where this many records are stored
abbrev pub mark_within : ℕ → ℕ → Option Mark
mark_within count n = if nat_le 1 n && nat_le n count then Some (mark.Number n) else None

-- the fields, each with the value of the entry in its place
abbrev pub shown_in_order : ℕ → List FieldDef → List Entry → List ShownField
shown_in_order count [] es = []
shown_in_order count (f ∷ fs) [] = []
shown_in_order count (f ∷ fs) (e ∷ es) = record { name = f.name; value = shown_value_by (mark_within count) e.value } ∷ shown_in_order count fs es

-- the line of record n, whose class this is
abbrev pub line_of : ℕ → ClassDef → ℕ → Rec → ObjectLine
line_of count d n r = record { mark = mark.Number n; class = d.name; fields = shown.Fields (shown_in_order count d.fields r.entries) }

-- the lines of the records of class c, where the first of the list has number n
abbrev pub lines_from : ℕ → ClassDef → ℕ → ℕ → List Rec → List ObjectLine
lines_from count d c n [] = []
lines_from count d c n (r ∷ rs) = if r.class == c then line_of count d n r ∷ lines_from count d c (n + 1) rs else lines_from count d c (n + 1) rs
