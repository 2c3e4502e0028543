-- What each command that changes a schema makes of it, or why it is refused.
use Rattle.std.specs.Prelude.{ℕ, ◌+◌, Bool, true, false, not, ◌&&◌, ◌||◌, ◌==◌, nat_lt, List, [], ◌∷◌, ◌++◌, map, filter, find, fold, length, Option, Some, None, Ok, is_some, is_none, option_map, unwrap_or, if◌then◌else◌}
use Rattle.std.specs.Option.{option_or}
use Rattle.std.specs.List.{list_any}
use Rattle.oc_model.specs.declared.value.Kind.{Kind}
use Rattle.oc_model.specs.declared.schema.FieldDef.{FieldDef}
use Rattle.oc_model.specs.declared.schema.ClassDef.{ClassDef}
use Rattle.oc_model.specs.declared.command.Decl.{Decl}
use Rattle.oc_model.specs.declared.answer.Word.TheVariants as word
use Rattle.oc_model.specs.Maps.{Map, with_at, Text, same, is_in, are_distinct}
use Rattle.oc_model.specs.Kinds.{same_kind, is_array}
use Rattle.oc_model.specs.Schemas.{Schema, class_at, class_named, parent_of, current, own_fields, fields_of, field_named, is_sub}
use Rattle.oc_model.specs.SchemaRules.{numbered, is_above, is_within_limits}
use Rattle.oc_model.specs.Refusals.{Checked, ◌>>=◌, ◌>>◌, unless, or_refuse}

-- ---- fields of a class

-- the own fields of a class, past ones too
abbrev pub stored_fields : Option ClassDef → List FieldDef
stored_fields None = []
stored_fields (Some c) = c.fields

-- the field has this name
abbrev pub is_called : Text → FieldDef → Bool
is_called name f = same f.name name

-- the own current field of this name
abbrev pub own_field : Schema → ℕ → Text → Option FieldDef
own_field s c name = find (is_called name) (own_fields (class_at s c))

-- an ancestor or a descendant of the class has a current field of this name
abbrev pub is_taken_around : Schema → ℕ → Text → Bool
is_taken_around s c name = list_any (λ e. (is_above s e.0 c || is_above s c e.0) && list_any (is_called name) (current (e.1).fields)) (numbered s)

-- the field with the greater id
abbrev pub later_field : Option FieldDef → FieldDef → Option FieldDef
later_field None f = Some f
later_field (Some g) f = if nat_lt g.id f.id then Some f else Some g

-- of these fields the past ones of this name and kind
abbrev pub past_fields : List FieldDef → Text → Kind → List FieldDef
past_fields fields name kind = filter (λ f. not f.current && same f.name name && same_kind f.kind kind) fields

-- the one among those with the greatest id
abbrev pub past_field : List FieldDef → Text → Kind → Option FieldDef
past_field fields name kind = fold later_field None (past_fields fields name kind)

-- ---- class: the fields that a declaration leaves

-- the current field of the declared name and kind
abbrev pub kept_field : List FieldDef → Decl → Option FieldDef
kept_field own d = find (λ f. f.current && same f.name d.name && same_kind f.kind d.kind) own

-- current again, and without an index
abbrev pub made_current : FieldDef → FieldDef
made_current f = record f { current = true; indexed = false }

-- past, and without an index
abbrev pub made_past : FieldDef → FieldDef
made_past f = record f { current = false; indexed = false }

-- A field that is there already for a declaration: the current one of this name and kind as it is, else the past one, returned.
abbrev pub field_for : List FieldDef → Decl → Option FieldDef
field_for own d = option_or (kept_field own d) (option_map made_current (past_field own d.name d.kind))

-- no field is there for the declaration, so it needs a new id
abbrev pub is_new : List FieldDef → Decl → Bool
is_new own d = is_none (field_for own d)

-- a field that wasn't there
abbrev pub new_field : ℕ → Decl → FieldDef
new_field id d = record { id = id; name = d.name; kind = d.kind; current = true; indexed = false }

-- The current fields, in the order of the declarations. Those that are new get ids from this one on.
abbrev pub stated_fields : List FieldDef → ℕ → List Decl → List FieldDef
stated_fields own id [] = []
stated_fields own id (d ∷ ds) = unwrap_or (field_for own d) (new_field id d) ∷ stated_fields own (if is_new own d then id + 1 else id) ds

-- ascending by id
abbrev pub by_id : List FieldDef → List FieldDef
by_id fields = map (λ e. e.1) (fold (λ (m : Map FieldDef) f. with_at m f.id f) [] fields)

-- the own fields that aren't among the stated ones
abbrev pub unstated_fields : List FieldDef → List FieldDef → List FieldDef
unstated_fields own stated = filter (λ f. not (is_in (map (λ g. g.id) stated) f.id)) own

-- the stated fields and behind them the past ones
abbrev pub declared_fields : List FieldDef → ℕ → List Decl → List FieldDef
declared_fields own id ds = let stated = stated_fields own id ds in stated ++ by_id (map made_past (unstated_fields own stated))

-- ---- class: the schema

-- with the class of this number changed
abbrev pub with_class_at : Schema → ℕ → (ClassDef → ClassDef) → List ClassDef
with_class_at s c change = map (λ e. if e.0 == c then change e.1 else e.1) (numbered s)

-- with a new class behind the others
abbrev pub with_new_class : Schema → Text → ℕ → List Decl → Schema
with_new_class s name p ds =
    record {
      classes = s.classes ++ record { name = name; parent = p; fields = declared_fields [] s.next_field ds } ∷ [];
      next_field = s.next_field + length ds;
    }

-- with the fields of a class declared anew
abbrev pub with_declared : Schema → ℕ → List Decl → Schema
with_declared s c ds =
    let own = stored_fields (class_at s c) in
    record {
      classes = with_class_at s c (λ d. record d { fields = declared_fields own s.next_field ds });
      next_field = s.next_field + length (filter (is_new own) ds);
    }

-- the number of the parent that is stated, 0 where none is
abbrev pub parent_number : Schema → Option Text → Checked ℕ
parent_number s None = Ok 0
parent_number s (Some name) = or_refuse (class_named s name) word.Class

-- the schema, where it is within the limits
abbrev pub within_limits : Schema → Checked Schema
within_limits s = unless (is_within_limits s) word.Size >> Ok s

-- the names that are declared
abbrev pub names_of : List Decl → List Text
names_of ds = map (λ d. d.name) ds

-- a class that is new
abbrev pub declared_new : Schema → Text → ℕ → List Decl → Checked Schema
declared_new s name p ds =
    unless (are_distinct (names_of ds) && not (list_any (λ n. is_some (field_named s p n)) (names_of ds))) word.Exists >>
    within_limits (with_new_class s name p ds)

-- a class that is there
abbrev pub declared_again : Schema → ℕ → ℕ → List Decl → Checked Schema
declared_again s c p ds =
    unless (p == parent_of (class_at s c)) word.Parent >>
    unless (are_distinct (names_of ds) && not (list_any (is_taken_around s c) (names_of ds))) word.Exists >>
    within_limits (with_declared s c ds)

-- a class that is there, where it has a number, else a new one
abbrev pub declared_under : Option ℕ → Schema → Text → ℕ → List Decl → Checked Schema
declared_under None s name p ds = declared_new s name p ds
declared_under (Some c) s name p ds = declared_again s c p ds

-- class
unfoldable pub declared : Schema → Text → Option Text → List Decl → Checked Schema
unfolding fields_of field_named is_sub is_within_limits
declared s name parent ds = parent_number s parent >>= λ p. declared_under (class_named s name) s name p ds

-- ---- rename

-- with the field of this id changed
abbrev pub with_field : Schema → ℕ → (FieldDef → FieldDef) → Schema
with_field s id change = record s { classes = map (λ (c : ClassDef). record c { fields = map (λ f. if f.id == id then change f else f) c.fields }) s.classes }

-- rename of a class
unfoldable pub class_renamed : Schema → Text → Text → Checked Schema
class_renamed s name to =
    or_refuse (class_named s name) word.Class >>= λ c.
    unless (is_none (class_named s to)) word.Exists >>
    Ok (record s { classes = with_class_at s c (λ d. record d { name = to }) })

-- rename of an own field
unfoldable pub field_renamed : Schema → Text → Text → Text → Checked Schema
unfolding is_sub
field_renamed s class name to =
    or_refuse (class_named s class) word.Class >>= λ c.
    or_refuse (own_field s c name) word.Field >>= λ f.
    unless (not (is_some (own_field s c to) || is_taken_around s c to)) word.Exists >>
    Ok (with_field s f.id (λ g. record g { name = to }))

-- ---- index and unindex

-- the field, wherever it is declared, with an index or without one
unfoldable pub index_set : Schema → Text → Text → Bool → Checked Schema
unfolding field_named
index_set s class name on =
    or_refuse (class_named s class) word.Class >>= λ c.
    or_refuse (field_named s c name) word.Field >>= λ f.
    unless (not (on && is_array f.kind)) word.Kind >>
    Ok (with_field s f.id (λ g. record g { indexed = on }))

-- ---- convert

-- The values under a past field's id are converted to its successor's kind, for the objects of a class and its subclasses.
pub record Conversion : Type 0 where
  pub class : ℕ
  pub past : ℕ
  pub current : ℕ
  pub from : Kind
  pub to : Kind

-- what convert is asked to do
unfoldable pub conversion_of : Schema → Text → Text → Kind → Checked Conversion
conversion_of s class name from =
    or_refuse (class_named s class) word.Class >>= λ c.
    or_refuse (own_field s c name) word.Field >>= λ f.
    or_refuse (past_field (stored_fields (class_at s c)) name from) word.Past >>= λ p.
    Ok (record { class = c; past = p.id; current = f.id; from = from; to = f.kind })
