-- Which records suit a schema, and which values a file can hold.
use Rattle.std.specs.Prelude.{◌≡◌, refl, true, false, pos, [], ◌∷◌, codes}
use Rattle.oc_model.specs.declared.value.Base.TheVariants as base
use Rattle.oc_model.specs.declared.value.Kind.TheVariants as kind
use Rattle.oc_model.specs.declared.value.Rec.{Rec}
use Rattle.oc_model.specs.declared.schema.FieldDef.{FieldDef}
use Rattle.oc_model.specs.Schemas.{Schema}
use Rattle.oc_model.specs.SchemaRules.{keeps_rules}
use Rattle.oc_model.specs.Stores.{entry_for}
use Rattle.oc_model.specs.Spelling.{IsSpellable, IsSegment, IsCatalog, is_extent}
use Rattle.oc_model.specs.StoreRules.{known_fields, is_known, are_ascending, Suits}
use Rattle.oc_model.specs.Examples.Building.{field, class, whole, text}

-- ---- two classes: A has a current field n and a past field t, and B below it has m

number : FieldDef
number = field 2 (codes "n") (kind.One base.I32)

past : FieldDef
past = record (field 1 (codes "t") (kind.One base.Text)) { current = false }

more : FieldDef
more = field 3 (codes "m") (kind.One base.I32)

-- a class and one below it
unfoldable two : Schema
unfolding number past more
two = record { classes = class 0 (codes "A") (number ∷ past ∷ []) ∷ class 1 (codes "B") (more ∷ []) ∷ []; next_field = 4 }

two_keep : keeps_rules two ≡ true
unfolding keeps_rules two
two_keep = refl

-- the second class has the fields of both, past ones too
fields_of_both : known_fields two 2 ≡ number ∷ past ∷ more ∷ []
unfolding known_fields two
fields_of_both = refl

-- ---- records

-- of class B, with an entry of each field
whole_record : Rec
unfolding number past more
whole_record = record { class = 2; entries = entry_for past (text (codes "old")) ∷ entry_for number (whole (pos 7)) ∷ entry_for more (whole (pos 8)) ∷ [] }

it_suits : Suits two whole_record
unfolding known_fields two whole_record
it_suits = record { class = refl; known = refl; fits = refl; by_id = refl }

it_is_spellable : IsSpellable whole_record
unfolding whole_record
it_is_spellable = record { class = refl; few = refl; ids = refl; fits = refl; small = refl }

-- the field of a class below isn't known, and no field is of another kind
not_above : is_known two 1 (entry_for more (whole (pos 8))) ≡ false
unfolding known_fields two more
not_above = refl

other_kind : is_known two 2 (record { id = 2; value = text (codes "7"); kind = kind.One base.Text }) ≡ false
unfolding known_fields two
other_kind = refl

-- ids ascend, and none comes twice
descending : are_ascending (2 ∷ 1 ∷ []) ≡ false
descending = refl

twice : are_ascending (1 ∷ 2 ∷ 2 ∷ []) ≡ false
twice = refl

-- ---- segments and the catalog

segment : IsSegment is_extent ((3, 1) ∷ (258, 2) ∷ [])
segment = record { few = refl; each = refl }

catalog : IsCatalog 5 two ((0, 2 ∷ 4 ∷ []) ∷ [])
unfolding two
catalog = record { next = refl; schema = two_keep; few = refl; lists = refl }
