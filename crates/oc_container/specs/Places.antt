-- The place of an id among entries that stand by id.
use Rattle.std.specs.Prelude.{ℕ, Bool, false, ◌==◌, nat_le, List, [], ◌∷◌, suc, if◌then◌else◌, option_map, unwrap_or, slice_get}
use Rattle.oc_model.specs.declared.value.Entry.{Entry}

-- the place of the first entry whose id isn't less
abbrev pub place_of : ℕ → List Entry → ℕ
place_of id [] = 0
place_of id (e ∷ es) = if nat_le id e.id then 0 else suc (place_of id es)

-- whether the entry at the place has the id
abbrev pub is_at : List Entry → ℕ → ℕ → Bool
is_at es place id = unwrap_or (option_map (λ e. e.id == id) (slice_get es place)) false
