-- The order of single values.
use Rattle.std.specs.Prelude.{◌≡◌, ℕ, Bool, false, ◌==◌, ℤ, pos, [], Some, None, if◌then◌else◌, IsTrue, ◌⊎◌}
use Rattle.std.specs.Ordering.{nat_cmp, int_cmp, bool_cmp, on, then_cmp}
use Rattle.std.specs.declared.cmp.Ordering.{Ordering}
use Rattle.std.specs.Cmp.Lexicographic.{slice_cmp}
use Rattle.oc_model.specs.declared.value.Atom.{Atom}
use Rattle.oc_model.specs.declared.value.Atom.TheVariants as atom
use Rattle.oc_model.specs.Maps.{Text}

-- Which sort of value it is. Null is the least, and above it are truth values, numbers, texts and references, in this order.
abbrev pub rank : Atom → ℕ
rank (atom.Bool b) = 1
rank (atom.Int n) = 2
rank (atom.Text None) = 0
rank (atom.Text (Some t)) = 3
rank (atom.Ref n) = if n == 0 then 0 else 4

-- the null text or the null reference
abbrev pub is_null : Atom → Bool
is_null a = rank a == 0

-- What the value is, if it is of the sort that is asked for. Of another sort it gives one answer for all, which decides nothing.
abbrev pub truth_of : Atom → Bool
truth_of (atom.Bool b) = b
truth_of _ = false

-- the whole number, 0 of anything else
abbrev pub number_of : Atom → ℤ
number_of (atom.Int n) = n
number_of _ = pos 0

-- the text, the empty one of anything else
abbrev pub text_of : Atom → Text
text_of (atom.Text (Some t)) = t
text_of _ = []

-- the object's number, 0 of anything else
abbrev pub ref_of : Atom → ℕ
ref_of (atom.Ref n) = n
ref_of _ = 0

-- two texts, by the first byte at which they differ, and a text before all that it begins
abbrev pub text_cmp : Text → Text → Ordering
text_cmp = slice_cmp nat_cmp

-- By sort. Within a sort false is before true, numbers are by size whatever their kinds, texts by their bytes, and references by number.
abbrev pub compare : Atom → Atom → Ordering
compare =
    then_cmp (on rank nat_cmp) (
    then_cmp (on truth_of bool_cmp) (
    then_cmp (on number_of int_cmp) (
    then_cmp (on text_of text_cmp) (
    on ref_of nat_cmp))))

-- the same value, or null both
abbrev pub IsAlike : Atom → Atom → Type 0
IsAlike a b = (a ≡ b) ⊎ (IsTrue (is_null a) × IsTrue (is_null b))
