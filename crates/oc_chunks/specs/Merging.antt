-- What joining makes of the pieces.
use Rattle.std.specs.Prelude.{◌≡◌, ◌⊎◌, ℕ, ◌+◌, ◌≤◌, true, List, [], ◌∷◌, ◌++◌, take, drop, length, flat_map, None, suc}
use Rattle.std.specs.List.{AllWithin}
use Rattle.std.specs.declared.cmp.Ordering.{Ordering}
use Rattle.oc_chunks.specs.declared.piece.Part.{Part}
use Rattle.oc_chunks.specs.declared.piece.Piece.{Piece}
use Rattle.oc_chunks.specs.Ascending.{Each}
use Rattle.oc_chunks.specs.Chunks.{Chunk}
use Rattle.oc_chunks.specs.Joining.{are_small, Joins}
use Rattle.oc_chunks.specs.Pieces.{present, chunk_now, chunks_now, chunks_then, IsSized, IsSound}

module _ {X : Type 0} where
  -- a piece without entries, there or gone
  abbrev pub IsBare : Piece X → Type 0
  IsBare p = p.part.items.items ≡ []

  -- the pieces at i and j have entries, and those between them have none
  pub record Neighbours (ps : List (Piece X)) (i j : ℕ) : Type 0 where
    pub before : List (Piece X)
    pub first : Piece X
    pub between : List (Piece X)
    pub second : Piece X
    pub after : List (Piece X)
    pub split : ps ≡ before ++ first ∷ (between ++ second ∷ after)
    pub index : length before ≡ i
    pub next : i + suc (length between) ≡ j
    pub some : 1 ≤ first.part.len
    pub none : Each (λ p. p.part.len ≡ 0) between
    pub other : 1 ≤ second.part.len

  -- such pieces that are to be joined
  pub record AreSmall (bytes : X → ℕ) (most : ℕ) (ps : List (Piece X)) (i j : ℕ) : Type 0 where
    pub pair : Neighbours ps i j
    pub small : are_small bytes most (chunk_now pair.first.part) (chunk_now pair.second.part) ≡ true

  -- the piece has no entries, or none stands before it
  abbrev pub IsAlone : List (Piece X) → ℕ → Type 0
  IsAlone ps at = (flat_map chunks_now (take (at + 1) ps) ≡ flat_map chunks_now (take at ps)) ⊎ (flat_map chunks_now (take at ps) ≡ [])

  -- the entries of two parts as those of one
  pub record IsJointPart (p q joint : Part X) : Type 0 where
    pub items : joint.items.items ≡ present p ++ present q
    pub whole : joint.len ≡ length joint.items.items
    pub number : joint.number ≡ None
    pub changed : joint.changed ≡ true

  module _ (cmp : X → X → Ordering) where
    -- the pieces from one place on and before another have lost their entries, and are at the mark what they were
    pub record Cleared (from to : ℕ) (old new : List (Piece X)) : Type 0 where
      pub long : length new ≡ length old
      pub front : take from new ≡ take from old
      pub rest : drop to new ≡ drop to old
      pub bare : AllWithin IsBare new from to
      pub sized : Each IsSized new
      pub marked : flat_map (chunks_then cmp) new ≡ flat_map (chunks_then cmp) old

    -- some neighbours among the first n pieces are joined, and all are at the mark what they were
    pub record Merges (bytes : X → ℕ) (most n : ℕ) (old new : List (Piece X)) : Type 0 where
      pub sound : IsSound cmp new
      pub long : length new ≡ length old
      pub rest : drop n new ≡ drop n old
      pub marked : flat_map (chunks_then cmp) new ≡ flat_map (chunks_then cmp) old
      pub joins : (cs : List (Chunk X)) → Joins bytes most cs (flat_map chunks_now old) → Joins bytes most cs (flat_map chunks_now new)

    -- the pieces at i and j are joined: that at i has the entries of both
    pub record MergesTwo (bytes : X → ℕ) (most i j : ℕ) (old new : List (Piece X)) : Type 0 where
      pub merges : Merges bytes most (j + 1) old new
      pub front : take i new ≡ take i old
      pub bare : AllWithin IsBare new (i + 1) (j + 1)
