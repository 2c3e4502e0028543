-- What a change makes of the pieces.
use Rattle.std.specs.Prelude.{◌≡◌, ℕ, ◌==◌, List, ◌∷◌, ◌++◌, take, drop, None, suc, if◌then◌else◌}
use Rattle.oc_chunks.specs.declared.piece.Part.{Part}
use Rattle.oc_chunks.specs.declared.piece.Piece.{Piece}
use Rattle.oc_chunks.specs.declared.piece.Was.{Was}
use Rattle.oc_chunks.specs.declared.piece.Was.TheVariants.{Itself, Nothing, Other}

module _ {X : Type 0} where
  -- what a piece was once another part stands in its place
  abbrev pub was_behind : Part X → Was X → Was X
  was_behind p Itself = Other p
  was_behind p Nothing = Nothing
  was_behind p (Other old) = Other old

  -- the part in place of the piece's
  abbrev pub stands_in : Piece X → Part X → Piece X
  stands_in p q = record {
    part = record q { number = if p.part.len == 0 then None else p.part.number };
    was = was_behind p.part p.was;
  }

  -- the list with an element put in at a place
  abbrev pub put_in : ℕ → X → List X → List X
  put_in at x xs = take at xs ++ x ∷ drop at xs

  -- new pieces stand in place of the one at i
  pub record StandsFor (old : List (Piece X)) (i : ℕ) (made new : List (Piece X)) : Type 0 where
    pub piece : Piece X
    pub first : Piece X
    pub more : List (Piece X)
    pub split : old ≡ take i old ++ piece ∷ drop (suc i) old
    pub made_is : made ≡ first ∷ more
    pub new_is : new ≡ take i old ++ (stands_in piece first.part ∷ more) ++ drop (suc i) old
