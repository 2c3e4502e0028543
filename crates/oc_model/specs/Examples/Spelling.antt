-- The bytes of records, entries of lists, and catalogs.
use Rattle.std.specs.Prelude.{◌≡◌, refl, codes, ℕ, ◌-◌, ◌^◌, true, false, pos, negsuc, [], ◌∷◌, ◌++◌, Some, None, length}
use Rattle.oc_model.specs.declared.value.Base.TheVariants.{Bool, I8, I16, I32, I64, U64, I128, Text, Ref}
use Rattle.oc_model.specs.declared.value.Kind.TheVariants as kind
use Rattle.oc_model.specs.declared.value.Atom.TheVariants as atom
use Rattle.oc_model.specs.declared.value.Value.TheVariants as value
use Rattle.oc_model.specs.declared.value.Rec.{Rec}
use Rattle.oc_model.specs.Stores.{record_len}
use Rattle.oc_model.specs.Schemas.{Schema, empty_schema}
use Rattle.oc_model.specs.Kinds.{kind_tag}
use Rattle.oc_model.specs.Spelling.{atom_bytes, value_bytes, record_bytes, extent_bytes, index_bytes, segment_bytes, field_bytes, catalog_bytes}

-- ---- records

-- a text and a number
pilot : Rec
pilot = record {
  class = 1;
  entries =
      record { id = 1; value = value.One (atom.Text (Some (codes "Michael"))); kind = kind.One Text }
      ∷ record { id = 2; value = value.One (atom.Int (pos 100)); kind = kind.One I32 }
      ∷ [];
}

pilot_bytes : record_bytes pilot ≡
    0 ∷ 0 ∷ 0 ∷ 1 ∷ 0 ∷ 2 ∷ 0 ∷ 0 ∷ 0 ∷ 1 ∷ 6 ∷ 1 ∷ 0 ∷ 0 ∷ 0 ∷ 7 ∷ codes "Michael" ++ 0 ∷ 0 ∷ 0 ∷ 2 ∷ 4 ∷ 0 ∷ 0 ∷ 0 ∷ 0x64 ∷ []
unfolding record_bytes pilot
pilot_bytes = refl

pilot_len : length (record_bytes pilot) ≡ 32
unfolding record_bytes pilot
pilot_len = refl

-- the greatest number of u64
greatest : Rec
greatest = record { class = 1; entries = record { id = 1; value = value.One (atom.Int (pos (2 ^ 64 - 1))); kind = kind.One U64 } ∷ [] }

greatest_bytes : record_bytes greatest ≡ 0 ∷ 0 ∷ 0 ∷ 1 ∷ 0 ∷ 1 ∷ 0 ∷ 0 ∷ 0 ∷ 1 ∷ 8 ∷ 255 ∷ 255 ∷ 255 ∷ 255 ∷ 255 ∷ 255 ∷ 255 ∷ 255 ∷ []
unfolding record_bytes greatest
greatest_bytes = refl

greatest_len : record_len greatest ≡ 19
unfolding greatest
greatest_len = refl

-- a record without entries
bare : record_bytes (record { class = 65536; entries = [] }) ≡ 0 ∷ 1 ∷ 0 ∷ 0 ∷ 0 ∷ 0 ∷ []
unfolding record_bytes
bare = refl

-- ---- values

truth : atom_bytes Bool (atom.Bool true) ≡ 1 ∷ []
truth = refl

falsehood : atom_bytes Bool (atom.Bool false) ≡ 0 ∷ []
falsehood = refl

minus_one : atom_bytes I8 (atom.Int (negsuc 0)) ≡ 255 ∷ []
minus_one = refl

least_i8 : atom_bytes I8 (atom.Int (negsuc 127)) ≡ 128 ∷ []
least_i8 = refl

minus_two_of_i16 : atom_bytes I16 (atom.Int (negsuc 1)) ≡ 255 ∷ 254 ∷ []
minus_two_of_i16 = refl

least_i64 : atom_bytes I64 (atom.Int (negsuc (2 ^ 63 - 1))) ≡ 128 ∷ 0 ∷ 0 ∷ 0 ∷ 0 ∷ 0 ∷ 0 ∷ 0 ∷ []
least_i64 = refl

least_i128 : atom_bytes I128 (atom.Int (negsuc (2 ^ 127 - 1))) ≡ 128 ∷ 0 ∷ 0 ∷ 0 ∷ 0 ∷ 0 ∷ 0 ∷ 0 ∷ 0 ∷ 0 ∷ 0 ∷ 0 ∷ 0 ∷ 0 ∷ 0 ∷ 0 ∷ []
least_i128 = refl

null_text : atom_bytes Text (atom.Text None) ≡ 0 ∷ []
null_text = refl

empty_text : atom_bytes Text (atom.Text (Some [])) ≡ 1 ∷ 0 ∷ 0 ∷ 0 ∷ 0 ∷ []
empty_text = refl

null_reference : atom_bytes Ref (atom.Ref 0) ≡ 0 ∷ 0 ∷ 0 ∷ 0 ∷ []
null_reference = refl

greatest_reference : atom_bytes Ref (atom.Ref 2147483646) ≡ 0x7f ∷ 0xff ∷ 0xff ∷ 0xfe ∷ []
greatest_reference = refl

null_array : value_bytes (kind.Many I32) (value.Many None) ≡ 0 ∷ []
null_array = refl

empty_array : value_bytes (kind.Many I32) (value.Many (Some [])) ≡ 1 ∷ 0 ∷ 0 ∷ 0 ∷ 0 ∷ []
empty_array = refl

-- a null, and a text
array_of_texts : value_bytes (kind.Many Text) (value.Many (Some (atom.Text None ∷ atom.Text (Some (codes "a")) ∷ []))) ≡
    1 ∷ 0 ∷ 0 ∷ 0 ∷ 2 ∷ 0 ∷ 1 ∷ 0 ∷ 0 ∷ 0 ∷ 1 ∷ 97 ∷ []
array_of_texts = refl

-- tags of arrays
array_tags : (kind_tag (kind.Many Bool) ∷ kind_tag (kind.Many Ref) ∷ kind_tag (kind.Many U64) ∷ kind_tag (kind.Many I128) ∷ []) ≡ 17 ∷ 23 ∷ 24 ∷ 25 ∷ []
array_tags = refl

-- ---- lists

-- object 3 of class 1, and object 258 of class 2
two_objects : segment_bytes (λ (e : ℕ × ℕ). extent_bytes e.0 e.1) ((3, 1) ∷ (258, 2) ∷ []) ≡
    0 ∷ 2 ∷ 0 ∷ 0 ∷ 0 ∷ 3 ∷ 0 ∷ 0 ∷ 0 ∷ 1 ∷ 0 ∷ 0 ∷ 1 ∷ 2 ∷ 0 ∷ 0 ∷ 0 ∷ 2 ∷ []
two_objects = refl

number_in_index : index_bytes I16 (atom.Int (negsuc 0)) 7 ≡ 255 ∷ 255 ∷ 0 ∷ 0 ∷ 0 ∷ 7 ∷ []
number_in_index = refl

null_in_index : index_bytes Text (atom.Text None) 1 ≡ 0 ∷ 0 ∷ 0 ∷ 0 ∷ 1 ∷ []
null_in_index = refl

-- ---- the catalog

-- no class, and no lists
empty_catalog : catalog_bytes 1 empty_schema [] ≡ 1 ∷ 0 ∷ 0 ∷ 0 ∷ 1 ∷ 0 ∷ 0 ∷ 0 ∷ 1 ∷ 0 ∷ 0 ∷ 0 ∷ 0 ∷ 0 ∷ 0 ∷ []
unfolding catalog_bytes
empty_catalog = refl

-- class A with a current field n of i32 that is indexed, and a past field t, once an array of texts; class B below it
two_classes : Schema
two_classes = record {
  classes =
      record {
        name = codes "A";
        parent = 0;
        fields =
            record { id = 2; name = codes "n"; kind = kind.One I32; current = true; indexed = true }
            ∷ record { id = 1; name = codes "t"; kind = kind.Many Text; current = false; indexed = false }
            ∷ [];
      }
      ∷ record { name = codes "Bc"; parent = 1; fields = [] }
      ∷ [];
  next_field = 3;
}

-- the next object is 5; the list of all objects has system slots 2 and 4, and that of field 2 has slot 3
with_lists : catalog_bytes 5 two_classes ((0, 2 ∷ 4 ∷ []) ∷ (2, 3 ∷ []) ∷ []) ≡
    1 ∷ 0 ∷ 0 ∷ 0 ∷ 5 ∷ 0 ∷ 0 ∷ 0 ∷ 3
    ∷ 0 ∷ 2
    ∷ 0 ∷ 0 ∷ 0 ∷ 0 ∷ 1 ∷ 65 ∷ 0 ∷ 2
    ∷ 0 ∷ 0 ∷ 0 ∷ 2 ∷ 3 ∷ 4 ∷ 1 ∷ 110
    ∷ 0 ∷ 0 ∷ 0 ∷ 1 ∷ 0 ∷ 22 ∷ 1 ∷ 116
    ∷ 0 ∷ 0 ∷ 0 ∷ 1 ∷ 2 ∷ 66 ∷ 99 ∷ 0 ∷ 0
    ∷ 0 ∷ 0 ∷ 0 ∷ 2
    ∷ 0 ∷ 0 ∷ 0 ∷ 0 ∷ 0 ∷ 0 ∷ 0 ∷ 2 ∷ 0 ∷ 0 ∷ 0 ∷ 2 ∷ 0 ∷ 0 ∷ 0 ∷ 4
    ∷ 0 ∷ 0 ∷ 0 ∷ 2 ∷ 0 ∷ 0 ∷ 0 ∷ 1 ∷ 0 ∷ 0 ∷ 0 ∷ 3 ∷ []
unfolding catalog_bytes two_classes
with_lists = refl

-- a current field without an index
plain_field : field_bytes (record { id = 1; name = codes "r"; kind = kind.One Ref; current = true; indexed = false }) ≡ 0 ∷ 0 ∷ 0 ∷ 1 ∷ 1 ∷ 7 ∷ 1 ∷ 114 ∷ []
plain_field = refl
