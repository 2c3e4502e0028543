-- Numbers that texts spell, as values of a kind.
use Rattle.std.proofs.Common.{◌≡◌, ◌∙◌, ap, refl, Bool, true, false, Option, Some, None}
use Rattle.std.specs.Prelude.{ℤ, if◌then◌else◌}
use Rattle.std.specs.Option.{option_and_then}
use Rattle.oc_model.specs.declared.value.Base.{Base}
use Rattle.oc_model.specs.declared.value.Base.TheVariants as base
use Rattle.oc_model.specs.Maps.{Text}
use Rattle.oc_model.specs.Conversions.{from_text, in_range, number_spelled}
use Rattle.oc_convert.specs.Ranges.{in_128_bits, IsWhole}

passed : (test : Bool) (m n : ℤ) → (if test then Some m else None) ≡ Some n → Some m ≡ Some n
passed true m n e = e
passed false m n e = cc

bits_only : (o : Option ℤ) (n : ℤ) → option_and_then in_128_bits o ≡ Some n → o ≡ Some n
bits_only None n e = cc
bits_only (Some m) n e = passed _ m n e

from_whole : (b : Base) (t : Text) → IsWhole b → from_text b t ≡ option_and_then (in_range b) (number_spelled t)
from_whole base.Bool t h = cc
from_whole base.Text t h = cc
from_whole base.Ref t h = cc
from_whole b t h = refl

pub spelled_number : (b : Base) (t : Text) (n : ℤ) → IsWhole b → option_and_then in_128_bits (number_spelled t) ≡ Some n → from_text b t ≡ in_range b n
spelled_number b t n h e = from_whole b t h ∙ ap (option_and_then (in_range b)) (bits_only (number_spelled t) n e)
