-- What lies between two places.
use Rattle.std.specs.Prelude.{Bool, not, ◌&&◌, List, flat_map}
use Rattle.std.specs.Ordering.{is_gt, is_eq}
use Rattle.std.specs.declared.cmp.Ordering.{Ordering}
use Rattle.oc_chunks.specs.declared.piece.Piece.{Piece}
use Rattle.oc_chunks.specs.Pieces.{present}

module _ {X : Type 0} where
  -- the entry at the place
  abbrev pub is_at : (X → Ordering) → X → Bool
  is_at side e = is_eq (side e)

  -- an entry behind the place
  abbrev pub is_past : (X → Ordering) → X → Bool
  is_past side e = is_gt (side e)

  -- an entry behind the low place, and not behind the high one
  abbrev pub is_between : (X → Ordering) → (X → Ordering) → X → Bool
  is_between low high e = is_gt (low e) && not (is_gt (high e))

  -- the entries of the pieces
  abbrev pub entries_in : List (Piece X) → List X
  entries_in = flat_map (λ p. present p.part)
