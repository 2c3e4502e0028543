-- What a change of the lists leaves as it was: the fields, the mark, and of the chunks and their numbers those that aren't gone.
use Rattle.std.specs.Prelude.{◌≡◌, ◌⊎◌, ℕ, List, [], ◌∷◌}
use Rattle.oc_chunks.specs.Chunks.{numbers}
use Rattle.oc_index.specs.Fields.{FieldList}
use Rattle.oc_index.specs.Indexed.{StoreLists}
use Rattle.oc_lists.specs.Keeping.{StandAsThen}

-- some of these elements, in their order
abbrev pub ArePartOf : {X : Type 0} → List X → List X → Type 0
ArePartOf xs [] = xs ≡ []
ArePartOf [] (y ∷ ys) = Unit {0}
ArePartOf (x ∷ xs) (y ∷ ys) = ((x ≡ y) × ArePartOf xs ys) ⊎ ArePartOf (x ∷ xs) ys

-- the same fields, of each of which the index is so related to what it was
abbrev pub AreFields : (ℕ → FieldList → FieldList → Type 0) → List (ℕ × FieldList) → List (ℕ × FieldList) → Type 0
AreFields R [] [] = Unit {0}
AreFields R [] (g ∷ gs) = ⊥
AreFields R (f ∷ fs) [] = ⊥
AreFields R (f ∷ fs) (g ∷ gs) = (g.0 ≡ f.0) × R f.0 f.1 g.1 × AreFields R fs gs

-- an index whose entries changed
pub record IsMoved (old new : FieldList) : Type 0 where
  pub base : new.base ≡ old.base
  pub chunks : StandAsThen old.chunks new.chunks
  pub numbers : ArePartOf (numbers new.chunks) (numbers old.chunks)
  pub marked : new.marked ≡ old.marked

-- Lists whose entries changed: each chunk that hasn't changed stood there, no number is new, and the mark stays.
pub record AreMoved (old new : StoreLists) : Type 0 where
  pub chunks : StandAsThen (old.extents).chunks (new.extents).chunks
  pub numbers : ArePartOf (numbers (new.extents).chunks) (numbers (old.extents).chunks)
  pub extents_marked : (new.extents).marked ≡ (old.extents).marked
  pub fields : AreFields (λ id. IsMoved) old.fields new.fields
  pub marked : new.marked ≡ old.marked
