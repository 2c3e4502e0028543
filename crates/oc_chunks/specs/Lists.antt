-- What holds of each list in chunks.
use Rattle.std.specs.Prelude.{◌≡◌, ℕ, Bool, false, List, flat_map, IsSome}
use Rattle.std.specs.Bool.{OnTrue}
use Rattle.std.specs.declared.cmp.Ordering.{Ordering}
use Rattle.oc_chunks.specs.declared.piece.Piece.{Piece}
use Rattle.oc_chunks.specs.Ascending.{Each}
use Rattle.oc_chunks.specs.Chunks.{Chunk, joined}
use Rattle.oc_chunks.specs.Cutting.{IsWide}
use Rattle.oc_chunks.specs.Pieces.{chunks_now, chunks_then, IsSound}
use Rattle.oc_chunks.specs.Settling.{IsSettled}

module _ {X : Type 0} where
  -- a chunk as its segment has it
  pub record IsStored (c : Chunk X) : Type 0 where
    pub changed : c.changed ≡ false
    pub number : IsSome c.number

  -- nothing has changed since the mark, and each chunk is as its segment has it
  pub record AreStored (ps : List (Piece X)) : Type 0 where
    pub settled : Each IsSettled ps
    pub chunks : Each IsStored (flat_map chunks_now ps)

module _ {X : Type 0} (cmp : X → X → Ordering) (bytes : X → ℕ) where
  -- the pieces make a list, no entry takes more bytes than the widest, now or at the mark, and where it says so nothing has
  -- changed since the list was written
  pub record IsLawful (ps : List (Piece X)) (widest : ℕ) (is_stored : Bool) : Type 0 where
    pub sound : IsSound cmp ps
    pub now : IsWide bytes widest (joined (flat_map chunks_now ps))
    pub marked : IsWide bytes widest (joined (flat_map (chunks_then cmp) ps))
    pub stored : OnTrue is_stored (AreStored ps)
