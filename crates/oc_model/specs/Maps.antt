-- Finite maps from numbers, and words on texts and lists.
use Rattle.std.specs.Prelude.{ℕ, Bool, true, not, ◌&&◌, nat_eq, List, [], ◌∷◌, map, Option}
use Rattle.std.specs.FinMap.{find, put}
use Rattle.std.specs.Ordering.{nat_cmp}
use Rattle.std.specs.List.{list_any}
use lib.Pointwise.{pointwise}

-- ---- maps

-- pairs of a key and a value, whose keys ascend
abbrev pub Map : Type 0 → Type 0
Map X = List (ℕ × X)

-- what the map has at a key
abbrev pub at : {X : Type 0} → Map X → ℕ → Option X
at m k = find nat_cmp k m

-- with this at the key, in place of what was there
abbrev pub with_at : {X : Type 0} → Map X → ℕ → X → Map X
with_at m k x = put nat_cmp k x m

-- the keys, ascending
abbrev pub keys : {X : Type 0} → Map X → List ℕ
keys m = map (λ e. e.0) m

-- ---- texts and lists

-- the bytes of a text or of a name
abbrev pub Text : Type 0
Text = List ℕ

-- two texts have the same bytes
abbrev pub same : Text → Text → Bool
same a b = pointwise nat_eq a b

-- the number is among these
abbrev pub is_in : List ℕ → ℕ → Bool
is_in xs x = list_any (nat_eq x) xs

-- no text comes twice
abbrev pub are_distinct : List Text → Bool
are_distinct [] = true
are_distinct (t ∷ ts) = not (list_any (same t) ts) && are_distinct ts
