-- Ranges of numbers that texts spell.
use Rattle.std.specs.Prelude.{◌≡◌, ℕ, nat_le, ℤ, pos, true, Option, Some, None, if◌then◌else◌}
use Rattle.oc_model.specs.declared.value.Base.{Base}
use Rattle.oc_model.specs.declared.value.Atom.TheVariants as atom
use Rattle.oc_model.specs.Maps.{Text}
use Rattle.oc_model.specs.Values.{fits_base, fits_signed}
use Rattle.std.specs.Prelude.{fold, ◌+◌, ◌-◌, ◌*◌}

-- the number, if it is at most the limit
abbrev pub at_most : ℕ → ℕ → Option ℕ
at_most limit n = if nat_le n limit then Some n else None

-- the number, if it has 128 bits with its sign
abbrev pub in_128_bits : ℤ → Option ℤ
in_128_bits n = if fits_signed 127 n then Some n else None

-- 0 is of the kind, so it is one of whole numbers
abbrev pub IsWhole : Base → Type 0
IsWhole b = fits_base b (atom.Int (pos 0)) ≡ true

-- the number that more digits spell
abbrev pub number_after : ℕ → Text → ℕ
number_after n digits = fold (λ m d. 10 * m + (d - 48)) n digits
