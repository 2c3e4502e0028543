-- What is kept of the pieces at a mark, or when the changes since are undone.
use Rattle.std.specs.Prelude.{◌≡◌, suc, ◌≤◌, List, [], ◌∷◌, length}
use Rattle.std.specs.declared.cmp.Ordering.{Ordering}
use Rattle.oc_model.specs.Lists.{placed}
use Rattle.oc_chunks.specs.declared.piece.Part.{Part}
use Rattle.oc_chunks.specs.declared.piece.Piece.{Piece}
use Rattle.oc_chunks.specs.declared.piece.Was.TheVariants.{Itself}
use Rattle.oc_chunks.specs.declared.settling.Keep.{Keep}
use Rattle.oc_chunks.specs.declared.settling.Keep.TheVariants.{Now, Then}
use Rattle.oc_chunks.specs.Chunks.{Chunk}
use Rattle.oc_chunks.specs.Pieces.{present, gone, restored, chunk_now, chunks_now, chunks_then}

module _ {X : Type 0} where
  -- the side of a piece that is kept
  abbrev pub kept_chunks : (X → X → Ordering) → Keep → Piece X → List (Chunk X)
  kept_chunks cmp Now = chunks_now
  kept_chunks cmp Then = chunks_then cmp

  -- a piece that is what it was at the mark
  pub record IsSettled (p : Piece X) : Type 0 where
    pub was : p.was ≡ Itself
    pub some : 1 ≤ p.part.len
    pub few : p.part.len ≤ 512
    pub whole : p.part.len ≡ length p.part.items.items

  -- the settled piece is the chunk that is kept
  pub record IsKept (kept : List (Chunk X)) (p : Piece X) : Type 0 where
    pub settled : IsSettled p
    pub chunk : kept ≡ chunk_now p.part ∷ []

  -- the latest that went is put back to its place
  pub record IsPutBack (cmp : X → X → Ordering) (old new : Part X) : Type 0 where
    pub it : X
    pub rest : List X
    pub gone_is : gone old ≡ it ∷ rest
    pub present_is : present new ≡ placed cmp it (present old)
    pub gone_now : gone new ≡ rest
    pub len : new.len ≡ suc old.len
    pub long : length new.items.items ≡ length old.items.items
    pub number : new.number ≡ old.number
    pub changed : new.changed ≡ old.changed

  -- all that went is put back
  pub record IsRestored (cmp : X → X → Ordering) (old new : Part X) : Type 0 where
    pub items : new.items.items ≡ restored cmp (present old) (gone old)
    pub whole : new.len ≡ length new.items.items
    pub long : length new.items.items ≡ length old.items.items
    pub number : new.number ≡ old.number
    pub changed : new.changed ≡ old.changed
