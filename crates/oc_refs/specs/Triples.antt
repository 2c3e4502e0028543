-- The reference table: which live object has which number, and whether it is active.
use Rattle.std.specs.Prelude.{ℕ, Bool, not, nat_eq, nat_lt, ◌==◌, List, [], ◌∷◌, map, filter, find, Option, if◌then◌else◌}
use Rattle.std.specs.List.{IsDistinct}
use Rattle.oc_refs.specs.declared.table.Ref.{Ref}

-- the triple of a number
abbrev pub by_number : List Ref → ℕ → Option Ref
by_number rs n = find (λ r. r.number == n) rs

-- the triple of a handle
abbrev pub by_handle : List Ref → ℕ → Option Ref
by_handle rs h = find (λ r. r.handle == h) rs

-- No number comes twice, and no handle.
pub record AreDistinct (rs : List Ref) : Type 0 where
  pub numbers : IsDistinct nat_eq (map (λ r. r.number) rs)
  pub handles : IsDistinct nat_eq (map (λ r. r.handle) rs)

-- the triples with this one, in front of the first with a greater number
abbrev pub with_ref : Ref → List Ref → List Ref
with_ref r [] = r ∷ []
with_ref r (q ∷ rs) = if nat_lt r.number q.number then r ∷ q ∷ rs else q ∷ with_ref r rs

-- the triples without the one of the number
abbrev pub without : ℕ → List Ref → List Ref
without n rs = filter (λ r. not (r.number == n)) rs

-- the triple, if it is the one of the number, active or not as it is told
abbrev pub turned : ℕ → Bool → Ref → Ref
turned n active r = if r.number == n then record { number = r.number; handle = r.handle; active = active } else r

-- the triples with that of the number active or not
abbrev pub with_active : ℕ → Bool → List Ref → List Ref
with_active n active rs = map (turned n active) rs
