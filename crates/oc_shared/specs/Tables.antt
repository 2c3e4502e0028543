-- Rows that ascend by their keys, which are bytes.
use Rattle.std.specs.Prelude.{◌≡◌, ℕ, suc, Bool, true, false, not, cond, List, [], ◌∷◌, Option, Some, None}
use Rattle.std.specs.Ordering.{nat_cmp, is_eq, is_gt}
use Rattle.std.specs.Cmp.Lexicographic.{slice_cmp}
use Rattle.std.specs.FinMap.Entries.{find, put, where_key, is_sorted}

-- bytes
abbrev pub Key : Type 0
Key = List ℕ

-- the bytes of the first key are those of the other
abbrev pub is_same : Key → Key → Bool
is_same a b = is_eq (slice_cmp nat_cmp a b)

-- keys and what stands at them
abbrev pub Rows : Type 0 → Type 0
Rows V = List (Key × V)

-- what stands at a key
abbrev pub value_at : {V : Type 0} → Rows V → Key → Option V
value_at rows key = find (slice_cmp nat_cmp) key rows

-- with this at the key, in place of what stood there
abbrev pub with_value : {V : Type 0} → Rows V → Key → V → Rows V
with_value rows key value = put (slice_cmp nat_cmp) key value rows

-- without what stands at the key
abbrev pub without_key : {V : Type 0} → Rows V → Key → Rows V
without_key rows key = where_key (slice_cmp nat_cmp) (λ k. not (is_same key k)) rows

-- each key comes before the next one
abbrev pub IsAscending : {V : Type 0} → Rows V → Type 0
IsAscending rows = is_sorted (slice_cmp nat_cmp) rows ≡ true

-- how many rows at the front have keys before this one
abbrev pub count_before : {V : Type 0} → Key → Rows V → ℕ
count_before key [] = 0
count_before key (r ∷ rows) = cond (is_gt (slice_cmp nat_cmp key r.0)) (suc (count_before key rows)) 0

-- whether a row is there and has this key
abbrev pub has_key : {V : Type 0} → Key → Option (Key × V) → Bool
has_key key None = false
has_key key (Some r) = is_same key r.0

-- the value in a row of this key
abbrev pub value_in : {V : Type 0} → Key → Option (Key × V) → Option V
value_in key None = None
value_in key (Some r) = cond (is_same key r.0) (Some r.1) None
