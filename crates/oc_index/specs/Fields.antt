-- The list of a field, as contracts see it.
use Rattle.std.specs.Prelude.{List}
use Rattle.oc_model.specs.declared.value.Base.{Base}
use Rattle.oc_chunks.specs.Chunks.{Chunk}
use Rattle.oc_index.specs.declared.items.IndexItem.{IndexItem}

-- the kind of the values, the chunks as they are, and the chunks as they were at the mark
pub record FieldList : Type 0 where
  pub base : Base
  pub chunks : List (Chunk IndexItem)
  pub marked : List (Chunk IndexItem)
