-- Where an entry goes, and what it comes to there.
use Rattle.std.specs.Prelude.{◌≡◌, ℕ, ◌-◌, ◌≤◌, Bool, true, false, List, ◌∷◌, ◌++◌, take, drop, length}
use Rattle.std.specs.List.{flat_map}
use Rattle.std.specs.declared.cmp.Ordering.{Ordering}
use Rattle.std.specs.declared.cmp.Ordering.TheVariants.{Less, Greater}
use Rattle.oc_chunks.specs.declared.piece.Part.{Part}
use Rattle.oc_chunks.specs.declared.piece.Piece.{Piece}
use Rattle.oc_chunks.specs.declared.piece.Was.{Was}
use Rattle.oc_chunks.specs.declared.piece.Was.TheVariants.{Itself, Nothing, Other}
use Rattle.oc_chunks.specs.Ascending.{Each}
use Rattle.oc_chunks.specs.Chunks.{is_within}
use Rattle.oc_chunks.specs.Pieces.{present, shown}
use Rattle.oc_chunks.specs.Cutting.{IsMade, items_of}
use Rattle.oc_chunks.specs.Editing.{put_in}

module _ {X : Type 0} where
  -- a piece that was made since the mark
  abbrev pub is_new : Was X → Bool
  is_new Itself = false
  is_new Nothing = true
  is_new (Other old) = true

  -- the gap for x: the piece at i, and there before the entry at this place
  pub record Gap (cmp : X → X → Ordering) (x : X) (ps : List (Piece X)) (i at : ℕ) : Type 0 where
    pub before : List (Piece X)
    pub piece : Piece X
    pub after : List (Piece X)
    pub split : ps ≡ before ++ piece ∷ after
    pub index : length before ≡ i
    pub within : at ≤ piece.part.len
    pub low : Each (λ e. cmp e x ≡ Less) (flat_map shown before)
    pub upto : Each (λ e. cmp e x ≡ Less) (take at (present piece.part))
    pub behind : Each (λ e. cmp e x ≡ Greater) (drop at (present piece.part))
    pub high : Each (λ e. cmp e x ≡ Greater) (flat_map shown after)

  -- the piece is a new one with room for x among its entries
  pub record IsWithinWay (bytes : X → ℕ) (most : ℕ) (x : X) (p : Piece X) : Type 0 where
    pub is_new_one : is_new p.was ≡ true
    pub some : 1 ≤ p.part.len
    pub room : is_within bytes most (x ∷ present p.part) ≡ true

  -- a gap for x in such a piece
  pub record Fits (cmp : X → X → Ordering) (bytes : X → ℕ) (most : ℕ) (x : X) (ps : List (Piece X)) (i at : ℕ) : Type 0 where
    pub gap : Gap cmp x ps i at
    pub way : IsWithinWay bytes most x gap.piece

  -- new pieces of the part's entries with x at its place
  pub record IsCutOf (bytes : X → ℕ) (most at : ℕ) (x : X) (p : Part X) (made : List (Piece X)) : Type 0 where
    pub each : Each (IsMade bytes most) made
    pub items : items_of made ≡ put_in at x (present p)

  -- new pieces of the part's entries with x in place of the one before the place
  pub record IsCutOver (bytes : X → ℕ) (most at : ℕ) (x : X) (p : Part X) (made : List (Piece X)) : Type 0 where
    pub each : Each (IsMade bytes most) made
    pub items : items_of made ≡ take (at - 1) (present p) ++ x ∷ drop at (present p)
