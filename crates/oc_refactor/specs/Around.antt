-- The classes above a class and below it.
use Rattle.std.specs.Prelude.{ℕ, ◌+◌, Bool, not, ◌&&◌, ◌||◌, nat_le, List, [], ◌∷◌, map, filter, length, Option, Some, None, if◌then◌else◌}
use Rattle.std.specs.List.{list_all, list_any}
use Rattle.oc_model.specs.declared.command.Decl.{Decl}
use Rattle.oc_model.specs.Maps.{are_distinct}
use Rattle.oc_model.specs.SchemaSteps.{is_taken_around, names_of}
use Rattle.oc_model.specs.declared.schema.ClassDef.{ClassDef}
use Rattle.oc_model.specs.Schemas.{Schema, class_at, own_fields, fields_of, is_sub}
use Rattle.oc_model.specs.SchemaRules.{numbered, is_above}

-- one of the two classes is an ancestor of the other
abbrev pub is_related : Schema → ℕ → ℕ → Bool
is_related s c n = is_above s n c || is_above s c n

-- the ancestors and the descendants of a class
abbrev pub classes_around : Schema → ℕ → List ClassDef
classes_around s c = map (λ e. e.1) (filter (λ e. is_related s c e.0) (numbered s))

-- the class alone, where the test holds and it is there
abbrev pub kept_where : Bool → Option ClassDef → List ClassDef
kept_where b None = []
kept_where b (Some d) = if b then d ∷ [] else []

-- Class m has at most 255 fields, where class c has so many of its own in place of those that are there.
abbrev pub fits_below : Schema → ℕ → ℕ → ℕ → Bool
fits_below s c count m = not (is_sub s m c) || nat_le (length (fields_of s m) + count) (255 + length (own_fields (class_at s c)))

-- so each class
abbrev pub all_fit_below : Schema → ℕ → ℕ → Bool
all_fit_below s c count = list_all (λ e. fits_below s c count e.0) (numbered s)

-- no name is given twice, and no ancestor or descendant of the class has a field of one of them
abbrev pub names_are_free : Schema → ℕ → List Decl → Bool
names_are_free s c ds = are_distinct (names_of ds) && not (list_any (is_taken_around s c) (names_of ds))
