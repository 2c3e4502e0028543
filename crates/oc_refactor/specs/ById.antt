-- Fields as a map by their ids.
use Rattle.std.specs.Prelude.{ℕ, zero, suc, Bool, false, ◌==◌, nat_lt, List, [], ◌∷◌, map, Option, Some, None, if◌then◌else◌}
use Rattle.oc_model.specs.declared.schema.FieldDef.{FieldDef}
use Rattle.oc_model.specs.Maps.{Map}

-- each field under its id
abbrev pub keyed : List FieldDef → Map FieldDef
keyed fields = map (λ f. (f.id, f)) fields

-- how many fields stand before the first whose id isn't smaller
abbrev pub place_in : ℕ → List FieldDef → ℕ
place_in id [] = zero
place_in id (f ∷ fields) = if nat_lt f.id id then suc (place_in id fields) else zero

-- there is a field, and it has this id
abbrev pub has_this_id : ℕ → Option FieldDef → Bool
has_this_id id None = false
has_this_id id (Some f) = f.id == id
