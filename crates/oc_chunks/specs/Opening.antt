-- Chunks that are read from a file, and what writing makes of a list.
use Rattle.std.specs.Prelude.{◌≡◌, ℕ, ◌≤◌, false, List, [], ◌∷◌, ◌++◌, drop, length, Option, Some, None}
use Rattle.std.specs.declared.cmp.Ordering.{Ordering}
use Rattle.std.specs.Global.{Vec}
use Rattle.oc_chunks.specs.declared.piece.Was.TheVariants.{Itself}
use Rattle.oc_chunks.specs.declared.opening.Written.{Written}
use Rattle.oc_chunks.specs.declared.piece.Piece.{Piece}
use Rattle.oc_chunks.specs.Ascending.{Each, IsAscending}
use Rattle.oc_chunks.specs.Between.{entries_in}
use Rattle.oc_chunks.specs.Chunks.{Chunk, IsSizedChunk, joined}
use Rattle.oc_chunks.specs.Settling.{IsSettled}
use Rattle.oc_chunks.specs.Pieces.{chunks_now}
use Rattle.std.specs.List.{flat_map}

-- the number that a chunk has, or the first of these
abbrev pub number_from : Option ℕ → List ℕ → Option ℕ
number_from (Some n) spare = Some n
number_from None [] = None
number_from None (n ∷ spare) = Some n

-- the numbers that are left of these
abbrev pub spare_behind : Option ℕ → List ℕ → List ℕ
spare_behind (Some n) spare = spare
spare_behind None spare = drop 1 spare

module _ {X : Type 0} where
  -- the chunk that was written so
  abbrev pub chunk_read : Written X → Chunk X
  chunk_read w = record { entries = w.entries.items; number = Some w.number; changed = false }

  -- the piece of such a chunk
  abbrev pub piece_read : Vec X → ℕ → Piece X
  piece_read v n = record { part = record { items = v; len = length v.items; number = Some n; changed = false }; was = Itself }

  -- chunks that make a list: each has 1 to 512 entries, and all entries ascend
  pub record IsList (cmp : X → X → Ordering) (cs : List (Chunk X)) : Type 0 where
    pub sized : Each IsSizedChunk cs
    pub ascending : IsAscending cmp (joined cs)

  -- entries that may follow these as a chunk
  pub record Follows (cmp : X → X → Ordering) (before es : List X) : Type 0 where
    pub some : 1 ≤ length es
    pub few : length es ≤ 512
    pub ascending : IsAscending cmp (before ++ es)

  -- pieces of these chunks, with nothing changed since the mark
  pub record IsOf (cmp : X → X → Ordering) (cs : List (Chunk X)) (ps : List (Piece X)) : Type 0 where
    pub settled : Each IsSettled ps
    pub ascending : IsAscending cmp (entries_in ps)
    pub chunks : flat_map chunks_now ps ≡ cs

  -- the numbers that are left of these once each chunk without a number has got one
  abbrev pub spare_of : List ℕ → List (Chunk X) → List ℕ
  spare_of spare [] = spare
  spare_of spare (c ∷ cs) = spare_of (spare_behind c.number spare) cs

  -- the chunks once they are written: none has changed since, and those without a number have got the next of these
  abbrev pub written : List ℕ → List (Chunk X) → List (Chunk X)
  written spare [] = []
  written spare (c ∷ cs) = record { entries = c.entries; number = number_from c.number spare; changed = false } ∷ written (spare_behind c.number spare) cs
