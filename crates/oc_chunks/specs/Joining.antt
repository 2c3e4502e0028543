-- Neighbours that have become small, and what joining makes of them.
use Rattle.std.specs.Prelude.{◌≡◌, ◌⊎◌, ℕ, ◌*◌, Bool, true, false, ◌||◌, ◌&&◌, nat_le, List, [], ◌∷◌, ◌++◌, length, sum_by}
use Rattle.std.specs.List.{list_any}
use Rattle.oc_chunks.specs.Chunks.{Chunk, joined}

module _ {X : Type 0} (bytes : X → ℕ) (most : ℕ) where
  -- entries that are at most half of what a change makes one chunk
  abbrev pub is_small : List X → Bool
  is_small es = nat_le (2 * length es) most && nat_le (2 * sum_by bytes es) 4096

  -- two neighbours that are to be joined: one of them has changed, and together they are small
  abbrev pub are_small : Chunk X → Chunk X → Bool
  are_small c d = (c.changed || d.changed) && is_small (c.entries ++ d.entries)

  -- no two neighbours are to be joined
  abbrev pub NoneSmall : List (Chunk X) → Type 0
  NoneSmall [] = Unit {0}
  NoneSmall (c ∷ []) = Unit {0}
  NoneSmall (c ∷ d ∷ cs) = (are_small c d ≡ false) × NoneSmall (d ∷ cs)

  -- neighbours of which one has changed, as one small chunk under the number of the first
  pub record IsJoint (first : Chunk X) (more : List (Chunk X)) (c : Chunk X) : Type 0 where
    pub entries : c.entries ≡ joined (first ∷ more)
    pub number : c.number ≡ first.number
    pub changed : c.changed ≡ true
    pub one_changed : list_any (λ d. d.changed) (first ∷ more) ≡ true
    pub small : is_small c.entries ≡ true

  -- the first of the old chunks as it is, or some of them joined
  pub record ComesFirst (c : Chunk X) (old : List (Chunk X)) : Type 0 where
    pub first : Chunk X
    pub more : List (Chunk X)
    pub rest : List (Chunk X)
    pub split : old ≡ first ∷ (more ++ rest)
    pub is : ((c ≡ first) × (more ≡ [])) ⊎ IsJoint first more c

  -- the same chunks in the same order, but that some neighbours are joined
  abbrev pub Joins : List (Chunk X) → List (Chunk X) → Type 0
  Joins old [] = old ≡ []
  Joins old (c ∷ new) = (found : ComesFirst c old) × Joins found.rest new
