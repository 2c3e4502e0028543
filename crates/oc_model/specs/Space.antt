-- Room in a file: the free parts, where a thing is placed, and what has no room. All numbers count blocks.
use Rattle.std.specs.Prelude.{ℕ, ◌+◌, ◌-◌, Bool, ◌&&◌, ◌||◌, ◌==◌, nat_lt, nat_le, List, [], ◌∷◌, ◌++◌, true, false, Option, Some, None, filter, if◌then◌else◌}

-- so many blocks from this address on
pub record Part : Type 0 where
  pub address : ℕ
  pub blocks : ℕ

-- the part is smaller than the other, or as large and before it
abbrev pub is_better : Part → Part → Bool
is_better p q = nat_lt p.blocks q.blocks || (p.blocks == q.blocks && nat_lt p.address q.address)

-- the better of a part and perhaps another
abbrev pub better : Part → Option Part → Part
better p None = p
better p (Some q) = if is_better p q then p else q

-- the best of the parts, if there are any
abbrev pub best : List Part → Option Part
best [] = None
best (p ∷ ps) = Some (better p (best ps))

-- the least part that holds the need, with the least address at a tie
unfoldable pub best_fit : List Part → ℕ → Option Part
best_fit free need = best (filter (λ p. nat_le need p.blocks) free)

-- the part without so many blocks at its front
abbrev pub rest_of : Part → ℕ → List Part
rest_of p need = if p.blocks == need then [] else record { address = p.address + need; blocks = p.blocks - need } ∷ []

-- the parts after a need took the front of the part at this address
abbrev pub without : List Part → ℕ → ℕ → List Part
without [] address need = []
without (p ∷ ps) address need = if p.address == address then rest_of p need ++ ps else p ∷ without ps address need

-- what finds no room: the need, and the file's length before it
pub record Shortage : Type 0 where
  pub need : ℕ
  pub length : ℕ

-- The needs are placed one after another: each in the front of the part that fits it best, and where no part holds it at the end of the file. There is a shortage where the file would grow over its limit: at the first such need.
unfoldable pub shortage : List Part → ℕ → ℕ → List ℕ → Option Shortage
unfolding best_fit
shortage free length limit [] = None
shortage free length limit (need ∷ needs) = elim (best_fit free need) [
  | Some p ↦ shortage (without free p.address need) length limit needs
  | None ↦ elim (nat_le (length + need) limit) [ true ↦ shortage free (length + need) limit needs | false ↦ Some (record { need = need; length = length }) ]
]
