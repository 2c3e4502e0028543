-- Conversion: a value of one kind as a value of another.
use Rattle.std.specs.Prelude.{ℕ, zero, suc, ◌+◌, ◌-◌, ◌*◌, Bool, true, false, ◌&&◌, ◌==◌, nat_le, ℤ, pos, neg_ℤ, List, [], ◌∷◌, fold, codes, length, Option, Some, None, option_map, if◌then◌else◌}
use Rattle.std.specs.List.{list_all}
use Rattle.std.specs.Char.{is_ascii_digit}
use Rattle.std.specs.Fmt.{signed_decimal}
use Rattle.std.specs.Option.{option_zip, option_and_then}
use Rattle.oc_model.specs.declared.value.Base.{Base}
use Rattle.oc_model.specs.declared.value.Base.TheVariants as base
use Rattle.oc_model.specs.declared.value.Kind.{Kind}
use Rattle.oc_model.specs.declared.value.Kind.TheVariants as kind
use Rattle.oc_model.specs.declared.value.Atom.{Atom}
use Rattle.oc_model.specs.declared.value.Atom.TheVariants as atom
use Rattle.oc_model.specs.declared.value.Value.{Value}
use Rattle.oc_model.specs.declared.value.Value.TheVariants as value
use Rattle.oc_model.specs.Maps.{Text, same}
use Rattle.oc_model.specs.Values.{fits_base}
use Rattle.oc_model.specs.Opened.{decimals}

-- ---- texts and what they spell

-- the text as a value
abbrev pub some_text : Text → Atom
some_text t = atom.Text (Some t)

-- `true` or `false`
abbrev pub truth_text : Bool → Text
truth_text true = codes "true"
truth_text false = codes "false"

-- the truth value that the text spells
abbrev pub truth_spelled : Text → Option Bool
truth_spelled t = if same t (codes "true") then Some true else if same t (codes "false") then Some false else None

-- the number that decimal digits spell
abbrev pub number : Text → ℕ
number digits = fold (λ n d. 10 * n + (d - 48)) 0 digits

-- the number that the text spells, if it is 1 to 39 decimal digits
abbrev pub natural_spelled : Text → Option ℕ
natural_spelled t =
    if nat_le 1 (length t) && nat_le (length t) 39 && list_all is_ascii_digit t then Some (number t) else None

-- the number that the text spells, if it is such digits, with or without a `-` in front
abbrev pub number_spelled : Text → Option ℤ
number_spelled [] = None
number_spelled (c ∷ t) =
    if c == 45 then option_map (λ n. neg_ℤ (pos n)) (natural_spelled t) else option_map pos (natural_spelled (c ∷ t))

-- ---- single values

-- the number as one of this kind, if it is in its range
abbrev pub in_range : Base → ℤ → Option Atom
in_range b n = if fits_base b (atom.Int n) then Some (atom.Int n) else None

-- the truth value that a number stands for, if it is 0 or 1
abbrev pub truth_numbered : ℤ → Option Bool
truth_numbered (pos zero) = Some false
truth_numbered (pos (suc zero)) = Some true
truth_numbered _ = None

-- a truth value as one of the kind
abbrev pub from_truth : Base → Bool → Option Atom
from_truth base.Bool x = Some (atom.Bool x)
from_truth base.Text x = Some (some_text (truth_text x))
from_truth base.Ref x = None
from_truth b x = in_range b (pos (if x then 1 else 0))

-- a number as one of the kind
abbrev pub from_number : Base → ℤ → Option Atom
from_number base.Bool n = option_map atom.Bool (truth_numbered n)
from_number base.Text n = Some (some_text (signed_decimal n))
from_number base.Ref n = None
from_number b n = in_range b n

-- a text that isn't null as one of the kind
abbrev pub from_text : Base → Text → Option Atom
from_text base.Bool t = option_map atom.Bool (truth_spelled t)
from_text base.Text t = Some (some_text t)
from_text base.Ref t = None
from_text b t = option_and_then (in_range b) (number_spelled t)

-- the null text as one of the kind
abbrev pub from_null : Base → Option Atom
from_null base.Text = Some (atom.Text None)
from_null _ = None

-- a reference as one of the kind
abbrev pub from_reference : Base → ℕ → Option Atom
from_reference base.Ref n = Some (atom.Ref n)
from_reference _ n = None

-- A single value as one of the kind. What it is converted from is told by its sort, as all integers are converted alike.
abbrev pub converted_atom : Base → Atom → Option Atom
converted_atom b (atom.Bool x) = from_truth b x
converted_atom b (atom.Int n) = from_number b n
converted_atom b (atom.Text (Some t)) = from_text b t
converted_atom b (atom.Text None) = from_null b
converted_atom b (atom.Ref n) = from_reference b n

-- ---- values

-- each of the single values, if every one has a conversion
abbrev pub converted_atoms : Base → List Atom → Option (List Atom)
converted_atoms b [] = Some []
converted_atoms b (a ∷ rest) = option_map (λ p. p.0 ∷ p.1) (option_zip (converted_atom b a) (converted_atoms b rest))

-- A value of the first kind as one of the second, if there is one. Single values become single values and arrays become arrays; the null array stays.
unfoldable pub converted : Kind → Kind → Value → Option Value
unfolding decimals
converted (kind.One from) (kind.One to) (value.One a) = option_map value.One (converted_atom to a)
converted (kind.Many from) (kind.Many to) (value.Many None) = Some (value.Many None)
converted (kind.Many from) (kind.Many to) (value.Many (Some items)) = option_map (λ all. value.Many (Some all)) (converted_atoms to items)
converted _ _ _ = None
