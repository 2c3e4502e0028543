-- Conversion, for each sort of value and at the edges.
use Rattle.std.specs.Prelude.{◌≡◌, refl, codes, ℕ, ◌-◌, ◌^◌, true, false, ℤ, pos, negsuc, List, [], ◌∷◌, ◌++◌, map, replicate, Option, Some, None}
use Rattle.oc_model.specs.declared.value.Base.{Base}
use Rattle.oc_model.specs.declared.value.Base.TheVariants.{Bool, I8, I16, I32, I64, U64, I128, Text, Ref}
use Rattle.oc_model.specs.declared.value.Kind.TheVariants.{One, Many}
use Rattle.oc_model.specs.declared.value.Atom.{Atom}
use Rattle.oc_model.specs.declared.value.Atom.TheVariants as atom
use Rattle.oc_model.specs.declared.value.Value.{Value}
use Rattle.oc_model.specs.declared.value.Value.TheVariants as value
use Rattle.oc_model.specs.Conversions.{converted, some_text}

-- a single value of a kind as one of each of the nine: bool, i8, i16, i32, i64, u64, i128, text, ref
abbrev as_each : Base → Atom → List (Option Value)
as_each from a = map (λ to. converted (One from) (One to) (value.One a)) (Bool ∷ I8 ∷ I16 ∷ I32 ∷ I64 ∷ U64 ∷ I128 ∷ Text ∷ Ref ∷ [])

-- there is a conversion, to this single value
abbrev one : Atom → Option Value
one a = Some (value.One a)

-- there is a conversion, to this whole number
abbrev whole : ℤ → Option Value
whole n = one (atom.Int n)

-- there is a conversion, to this text
abbrev said : List ℕ → Option Value
said t = one (some_text t)

-- nothing but the text itself
abbrev only_text : List ℕ → List (Option Value)
only_text t = replicate 7 None ++ said t ∷ None ∷ []

-- ---- truth values

from_true : as_each Bool (atom.Bool true) ≡ one (atom.Bool true) ∷ replicate 6 (whole (pos 1)) ++ said (codes "true") ∷ None ∷ []
unfolding converted
from_true = refl

from_false : as_each Bool (atom.Bool false) ≡ one (atom.Bool false) ∷ replicate 6 (whole (pos 0)) ++ said (codes "false") ∷ None ∷ []
unfolding converted
from_false = refl

-- ---- numbers

from_0 : as_each I8 (atom.Int (pos 0)) ≡ one (atom.Bool false) ∷ replicate 6 (whole (pos 0)) ++ said (codes "0") ∷ None ∷ []
unfolding converted
from_0 = refl

from_1 : as_each I16 (atom.Int (pos 1)) ≡ one (atom.Bool true) ∷ replicate 6 (whole (pos 1)) ++ said (codes "1") ∷ None ∷ []
unfolding converted
from_1 = refl

from_2 : as_each I32 (atom.Int (pos 2)) ≡ None ∷ replicate 6 (whole (pos 2)) ++ said (codes "2") ∷ None ∷ []
unfolding converted
from_2 = refl

-- one more than fits i8
from_128 : as_each I16 (atom.Int (pos 128)) ≡ None ∷ None ∷ replicate 5 (whole (pos 128)) ++ said (codes "128") ∷ None ∷ []
unfolding converted
from_128 = refl

-- the least of i8, and one less
from_least_i8 : as_each I8 (atom.Int (negsuc 127)) ≡ None ∷ replicate 4 (whole (negsuc 127)) ++ None ∷ whole (negsuc 127) ∷ said (codes "-128") ∷ None ∷ []
unfolding converted
from_least_i8 = refl

from_under_i8 : as_each I64 (atom.Int (negsuc 128)) ≡ None ∷ None ∷ replicate 3 (whole (negsuc 128)) ++ None ∷ whole (negsuc 128) ∷ said (codes "-129") ∷ None ∷ []
unfolding converted
from_under_i8 = refl

from_greatest_u64 : as_each U64 (atom.Int (pos (2 ^ 64 - 1))) ≡ replicate 5 None ++ whole (pos (2 ^ 64 - 1)) ∷ whole (pos (2 ^ 64 - 1)) ∷ said (codes "18446744073709551615") ∷ None ∷ []
unfolding converted
from_greatest_u64 = refl

from_least_i128 : as_each I128 (atom.Int (negsuc (2 ^ 127 - 1))) ≡ replicate 6 None ++ whole (negsuc (2 ^ 127 - 1)) ∷ said (codes "-170141183460469231731687303715884105728") ∷ None ∷ []
unfolding converted
from_least_i128 = refl

-- ---- texts

from_word_true : as_each Text (some_text (codes "true")) ≡ one (atom.Bool true) ∷ replicate 6 None ++ said (codes "true") ∷ None ∷ []
unfolding converted
from_word_true = refl

from_word_false : as_each Text (some_text (codes "false")) ≡ one (atom.Bool false) ∷ replicate 6 None ++ said (codes "false") ∷ None ∷ []
unfolding converted
from_word_false = refl

from_word_True : as_each Text (some_text (codes "True")) ≡ only_text (codes "True")
unfolding converted
from_word_True = refl

-- A text of a digit is no truth value.
from_digit : as_each Text (some_text (codes "1")) ≡ None ∷ replicate 6 (whole (pos 1)) ++ said (codes "1") ∷ None ∷ []
unfolding converted
from_digit = refl

from_minus_zero : as_each Text (some_text (codes "-0")) ≡ None ∷ replicate 6 (whole (pos 0)) ++ said (codes "-0") ∷ None ∷ []
unfolding converted
from_minus_zero = refl

from_leading_zeros : as_each Text (some_text (codes "007")) ≡ None ∷ replicate 6 (whole (pos 7)) ++ said (codes "007") ∷ None ∷ []
unfolding converted
from_leading_zeros = refl

from_minus_128 : as_each Text (some_text (codes "-128")) ≡ None ∷ replicate 4 (whole (negsuc 127)) ++ None ∷ whole (negsuc 127) ∷ said (codes "-128") ∷ None ∷ []
unfolding converted
from_minus_128 = refl

from_text_128 : as_each Text (some_text (codes "128")) ≡ None ∷ None ∷ replicate 5 (whole (pos 128)) ++ said (codes "128") ∷ None ∷ []
unfolding converted
from_text_128 = refl

-- texts that spell no number
no_numbers : map (λ t. as_each Text (some_text t)) (codes "12x" ∷ codes "" ∷ codes "-" ∷ codes "--1" ∷ codes "+1" ∷ codes " 1" ∷ codes "1 " ∷ codes "1.0" ∷ [])
    ≡ map only_text (codes "12x" ∷ codes "" ∷ codes "-" ∷ codes "--1" ∷ codes "+1" ∷ codes " 1" ∷ codes "1 " ∷ codes "1.0" ∷ [])
unfolding converted
no_numbers = refl

-- 39 digits, with a `-` too, and 40
abbrev seven : ℕ → List ℕ
seven zeros = replicate zeros 48 ++ codes "7"

from_39_digits : as_each Text (some_text (seven 38)) ≡ None ∷ replicate 6 (whole (pos 7)) ++ said (seven 38) ∷ None ∷ []
unfolding converted
from_39_digits = refl

from_minus_39_digits : converted (One Text) (One I8) (value.One (some_text (codes "-" ++ seven 38))) ≡ whole (negsuc 6)
unfolding converted
from_minus_39_digits = refl

from_40_digits : as_each Text (some_text (seven 39)) ≡ only_text (seven 39)
unfolding converted
from_40_digits = refl

-- the greatest and the least of i128, and one past each
from_greatest_i128 : as_each Text (some_text (codes "170141183460469231731687303715884105727"))
    ≡ replicate 6 None ++ whole (pos (2 ^ 127 - 1)) ∷ said (codes "170141183460469231731687303715884105727") ∷ None ∷ []
unfolding converted
from_greatest_i128 = refl

from_over_i128 : as_each Text (some_text (codes "170141183460469231731687303715884105728")) ≡ only_text (codes "170141183460469231731687303715884105728")
unfolding converted
from_over_i128 = refl

from_text_least_i128 : converted (One Text) (One I128) (value.One (some_text (codes "-170141183460469231731687303715884105728"))) ≡ whole (negsuc (2 ^ 127 - 1))
unfolding converted
from_text_least_i128 = refl

from_under_i128 : as_each Text (some_text (codes "-170141183460469231731687303715884105729")) ≡ only_text (codes "-170141183460469231731687303715884105729")
unfolding converted
from_under_i128 = refl

-- ---- nulls and references

from_null_text : as_each Text (atom.Text None) ≡ replicate 7 None ++ one (atom.Text None) ∷ None ∷ []
unfolding converted
from_null_text = refl

from_null_reference : as_each Ref (atom.Ref 0) ≡ replicate 8 None ++ one (atom.Ref 0) ∷ []
unfolding converted
from_null_reference = refl

from_reference : as_each Ref (atom.Ref 7) ≡ replicate 8 None ++ one (atom.Ref 7) ∷ []
unfolding converted
from_reference = refl

-- ---- arrays

null_array : converted (Many Text) (Many I32) (value.Many None) ≡ Some (value.Many None)
unfolding converted
null_array = refl

-- also between kinds whose values have no conversion
null_array_of_references : converted (Many Ref) (Many Bool) (value.Many None) ≡ Some (value.Many None)
unfolding converted
null_array_of_references = refl

empty_array : converted (Many Ref) (Many Bool) (value.Many (Some [])) ≡ Some (value.Many (Some []))
unfolding converted
empty_array = refl

each_element : converted (Many Text) (Many I32) (value.Many (Some (some_text (codes "1") ∷ some_text (codes "-2") ∷ []))) ≡ Some (value.Many (Some (atom.Int (pos 1) ∷ atom.Int (negsuc 1) ∷ [])))
unfolding converted
each_element = refl

one_element_without : converted (Many Text) (Many I32) (value.Many (Some (some_text (codes "1") ∷ some_text (codes "x") ∷ some_text (codes "2") ∷ []))) ≡ None
unfolding converted
one_element_without = refl

null_element : converted (Many Text) (Many I32) (value.Many (Some (some_text (codes "1") ∷ atom.Text None ∷ []))) ≡ None
unfolding converted
null_element = refl

null_element_stays : converted (Many Text) (Many Text) (value.Many (Some (atom.Text None ∷ []))) ≡ Some (value.Many (Some (atom.Text None ∷ [])))
unfolding converted
null_element_stays = refl

array_to_single : converted (Many I32) (One I32) (value.Many (Some (atom.Int (pos 1) ∷ []))) ≡ None
unfolding converted
array_to_single = refl

null_array_to_text : converted (Many Text) (One Text) (value.Many None) ≡ None
unfolding converted
null_array_to_text = refl

single_to_array : converted (One I32) (Many I32) (value.One (atom.Int (pos 1))) ≡ None
unfolding converted
single_to_array = refl
