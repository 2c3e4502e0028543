-- Kinds and values: what fits, and the default.
use Rattle.std.specs.Prelude.{ℕ, ◌^◌, Bool, true, false, nat_lt, ℤ, pos, negsuc, Some, None}
use Rattle.std.specs.List.{list_all}
use Rattle.oc_model.specs.declared.value.Base.{Base}
use Rattle.oc_model.specs.declared.value.Base.TheVariants as base
use Rattle.oc_model.specs.declared.value.Kind.{Kind}
use Rattle.oc_model.specs.declared.value.Kind.TheVariants as kind
use Rattle.oc_model.specs.declared.value.Atom.{Atom}
use Rattle.oc_model.specs.declared.value.Atom.TheVariants as atom
use Rattle.oc_model.specs.declared.value.Value.{Value}
use Rattle.oc_model.specs.declared.value.Value.TheVariants as value

-- the whole number fits so many bits and a sign
abbrev pub fits_signed : ℕ → ℤ → Bool
fits_signed bits (pos n) = nat_lt n (2 ^ bits)
fits_signed bits (negsuc n) = nat_lt n (2 ^ bits)

-- the whole number isn't negative and fits so many bits
abbrev pub fits_unsigned : ℕ → ℤ → Bool
fits_unsigned bits (pos n) = nat_lt n (2 ^ bits)
fits_unsigned bits (negsuc n) = false

-- The single value is of this base kind. Null fits texts and references.
abbrev pub fits_base : Base → Atom → Bool
fits_base base.Bool (atom.Bool b) = true
fits_base base.I8 (atom.Int n) = fits_signed 7 n
fits_base base.I16 (atom.Int n) = fits_signed 15 n
fits_base base.I32 (atom.Int n) = fits_signed 31 n
fits_base base.I64 (atom.Int n) = fits_signed 63 n
fits_base base.U64 (atom.Int n) = fits_unsigned 64 n
fits_base base.I128 (atom.Int n) = fits_signed 127 n
fits_base base.Text (atom.Text t) = true
fits_base base.Ref (atom.Ref n) = true
fits_base _ _ = false

-- The value is of this kind. Null fits every array.
abbrev pub fits : Kind → Value → Bool
fits (kind.One b) (value.One a) = fits_base b a
fits (kind.Many b) (value.Many None) = true
fits (kind.Many b) (value.Many (Some items)) = list_all (fits_base b) items
fits _ _ = false

-- false, 0 or null
abbrev pub default_base : Base → Atom
default_base base.Bool = atom.Bool false
default_base base.Text = atom.Text None
default_base base.Ref = atom.Ref 0
default_base _ = atom.Int (pos 0)

-- the default of a field, null for every array
abbrev pub default : Kind → Value
default (kind.One b) = value.One (default_base b)
default (kind.Many b) = value.Many None
