-- What a piece comes to without an entry.
use Rattle.std.specs.Prelude.{◌≡◌, ℕ, ◌+◌, true, max, List, ◌++◌, take, drop}
use Rattle.std.specs.declared.cmp.Ordering.{Ordering}
use Rattle.oc_chunks.specs.declared.piece.Part.{Part}
use Rattle.oc_chunks.specs.declared.piece.Piece.{Piece}
use Rattle.oc_chunks.specs.declared.piece.Was.{Was}
use Rattle.oc_chunks.specs.declared.piece.Was.TheVariants.{Itself, Nothing, Other}
use Rattle.oc_chunks.specs.Pieces.{present, gone, last_is, Place}

module _ {X : Type 0} where
  -- the entries with that at a place behind those that are there
  abbrev pub moved : ℕ → Part X → List X
  moved at p = take at p.items.items ++ (drop (at + 1) (present p) ++ (take 1 (drop at p.items.items) ++ gone p))

  -- a new piece keeps one entry that went, and only if none is there
  abbrev pub kept_behind : Was X → ℕ → List X → List X
  kept_behind Itself n xs = xs
  kept_behind Nothing n xs = take (max n 1) xs
  kept_behind (Other old) n xs = take (max n 1) xs

  -- the last entry before the place is the one there
  pub record IsHere (side : X → Ordering) (ps : List (Piece X)) (i at : ℕ) : Type 0 where
    pub place : Place side ps i at
    pub last : last_is side (take at (present place.piece.part)) ≡ true
