-- How a list in chunks is kept: a chunk that changed is kept beside what it was at the mark.
use Rattle.std.specs.Prelude.{◌≡◌, ℕ, ◌+◌, ◌≤◌, slice_index_or, Bool, true, false, not, ◌||◌, nat_lt, max, List, [], ◌∷◌, ◌++◌, take, drop, length, flat_map}
use Rattle.std.specs.Ordering.{is_gt, is_eq}
use Rattle.std.specs.declared.cmp.Ordering.{Ordering}
use Rattle.std.specs.declared.cmp.Ordering.TheVariants.{Less, Greater}
use Rattle.oc_model.specs.Lists.{placed}
use Rattle.oc_chunks.specs.declared.piece.Part.{Part}
use Rattle.oc_chunks.specs.declared.piece.Piece.{Piece}
use Rattle.oc_chunks.specs.declared.piece.Was.{Was}
use Rattle.oc_chunks.specs.declared.piece.Was.TheVariants.{Itself, Nothing, Other}
use Rattle.oc_chunks.specs.Ascending.{Each, IsAscending}
use Rattle.oc_chunks.specs.Chunks.{Chunk, Chunked, joined, nonempty}

module _ {X : Type 0} where
  -- the entries that are there
  abbrev pub present : Part X → List X
  present p = take p.len p.items.items

  -- the entries that went since the mark, the latest first
  abbrev pub gone : Part X → List X
  gone p = drop p.len p.items.items

  -- what a search over the pieces sees: the entries that are there, or one that went if there are none. A piece whose entries
  -- another one has taken shows nothing
  abbrev pub shown : Piece X → List X
  shown p = take (max p.part.len 1) p.part.items.items

  -- the chunk as it is
  abbrev pub chunk_now : Part X → Chunk X
  chunk_now p = record { entries = present p; number = p.number; changed = p.changed || nat_lt p.len (length p.items.items) }

  -- the piece's chunk, if it has an entry
  abbrev pub chunks_now : Piece X → List (Chunk X)
  chunks_now p = nonempty (chunk_now p.part)

  -- a part has no more entries than a chunk
  pub record IsSizedPart (p : Part X) : Type 0 where
    pub within : p.len ≤ length p.items.items
    pub few : p.len ≤ 512

  -- the entries of the part, there and gone, are those of a chunk
  pub record IsWhole (p : Part X) : Type 0 where
    pub some : 1 ≤ length p.items.items
    pub within : p.len ≤ length p.items.items
    pub few : length p.items.items ≤ 512

  -- what a piece was is a chunk, and a piece that is no longer what it was has changed
  abbrev pub IsSizedWas : Part X → Was X → Type 0
  IsSizedWas p Itself = IsWhole p
  IsSizedWas p Nothing = p.changed ≡ true
  IsSizedWas p (Other old) = IsWhole old × (p.changed ≡ true)

  -- a piece of which both sides have the sizes of chunks
  pub record IsSized (p : Piece X) : Type 0 where
    pub part : IsSizedPart p.part
    pub was : IsSizedWas p.part p.was

  -- an entry at which the search has not gone too far
  abbrev pub is_upto : (X → Ordering) → X → Bool
  is_upto side e = not (is_gt (side e))

  -- the last of these is the entry at the place
  abbrev pub last_is : (X → Ordering) → List X → Bool
  last_is side [] = false
  last_is side (e ∷ []) = is_eq (side e)
  last_is side (e ∷ f ∷ es) = last_is side (f ∷ es)

  -- the piece begins no later than the place that is looked for
  abbrev pub begins_in : (X → Ordering) → List X → Bool
  begins_in side [] = false
  begins_in side (e ∷ es) = is_upto side e

  -- the first entry of the piece, there or gone, is no later than the place
  abbrev pub begins : (X → Ordering) → Piece X → Bool
  begins side p = begins_in side p.part.items.items

  -- the piece begins later, or has no entry
  abbrev pub IsLater : (X → Ordering) → Piece X → Type 0
  IsLater side p = begins side p ≡ false

  -- the last of the first n pieces begins no later than the place
  abbrev pub IsBegun : (X → Ordering) → List (Piece X) → ℕ → Type 0
  IsBegun side ps n = (i : ℕ) (d : Piece X) → i + 1 ≡ n → begins side (slice_index_or ps i d) ≡ true

  -- the place: the piece at i, and there the entries from at on lie behind it
  pub record Place (side : X → Ordering) (ps : List (Piece X)) (i at : ℕ) : Type 0 where
    pub before : List (Piece X)
    pub piece : Piece X
    pub after : List (Piece X)
    pub split : ps ≡ before ++ piece ∷ after
    pub index : length before ≡ i
    pub within : at ≤ piece.part.len
    pub low : Each (λ e. side e ≡ Less) (flat_map shown before)
    pub upto : Each (λ e. is_upto side e ≡ true) (take at (present piece.part))
    pub behind : Each (λ e. side e ≡ Greater) (drop at (present piece.part))
    pub high : Each (λ e. side e ≡ Greater) (flat_map shown after)

  module _ (cmp : X → X → Ordering) where
    -- what went is put back to its place, the latest first
    abbrev pub restored : List X → List X → List X
    restored xs [] = xs
    restored xs (y ∷ ys) = restored (placed cmp y xs) ys

    -- the chunk as it was
    abbrev pub chunk_then : Part X → Chunk X
    chunk_then p = record { entries = restored (present p) (gone p); number = p.number; changed = p.changed }

    -- the chunk at the mark for which the piece stands, if it stands for one
    abbrev pub was_chunks : Part X → Was X → List (Chunk X)
    was_chunks p Itself = chunk_then p ∷ []
    was_chunks p Nothing = []
    was_chunks p (Other old) = chunk_then old ∷ []

    -- the chunk for which the piece stood at the mark, if it stood for one
    abbrev pub chunks_then : Piece X → List (Chunk X)
    chunks_then p = was_chunks p.part p.was

    -- pieces that make a list: in order now and at the mark
    pub record IsSound (ps : List (Piece X)) : Type 0 where
      pub sized : Each IsSized ps
      pub ascending : IsAscending cmp (flat_map shown ps)
      pub marked : IsAscending cmp (joined (flat_map chunks_then ps))

  -- the list that the pieces make
  abbrev pub view : (X → X → Ordering) → List (Piece X) → Chunked X
  view cmp ps = record { chunks = flat_map chunks_now ps; marked = flat_map (chunks_then cmp) ps }
