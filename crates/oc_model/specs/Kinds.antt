-- Kinds by number: the byte that tells a kind in a file. Which kinds are the same, and which are arrays.
use Rattle.std.specs.Prelude.{ℕ, ◌+◌, Bool, true, false, ◌==◌}
use Rattle.oc_model.specs.declared.value.Base.{Base}
use Rattle.oc_model.specs.declared.value.Base.TheVariants as base
use Rattle.oc_model.specs.declared.value.Kind.{Kind}
use Rattle.oc_model.specs.declared.value.Kind.TheVariants as kind

-- the number of a base kind
abbrev pub base_tag : Base → ℕ
base_tag base.Bool = 1
base_tag base.I8 = 2
base_tag base.I16 = 3
base_tag base.I32 = 4
base_tag base.I64 = 5
base_tag base.Text = 6
base_tag base.Ref = 7
base_tag base.U64 = 8
base_tag base.I128 = 9

-- the number of a kind: an array's is 16 more than that of its elements
abbrev pub kind_tag : Kind → ℕ
kind_tag (kind.One b) = base_tag b
kind_tag (kind.Many b) = base_tag b + 16

-- it is the same kind
abbrev pub same_kind : Kind → Kind → Bool
same_kind j k = kind_tag j == kind_tag k

-- an array, not a single value
abbrev pub is_array : Kind → Bool
is_array (kind.One b) = false
is_array (kind.Many b) = true
