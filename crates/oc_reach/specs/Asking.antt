-- What a walk may ask for.
use Rattle.std.specs.Prelude.{ℕ, Bool, List, [], ◌∷◌, IsTrue}
use Rattle.oc_model.specs.declared.reach.Node.{Node}
use Rattle.oc_model.specs.Lists.{IsOneOf}
use Rattle.oc_model.specs.Walks.{Walk, Reached}

-- no element comes twice
abbrev pub AreDistinct : List Node → Type 0
AreDistinct [] = Unit {0}
AreDistinct (x ∷ xs) = (IsOneOf x xs → ⊥) × AreDistinct xs

-- Each of these was asked for once, and is a node that the walk reaches. Which nodes it reaches is known where the edges are told.
pub record AskedOnce (w : Walk) (told : Bool) (root : Node) (depth : ℕ) (asked : List Node) : Type 0 where
  pub once : AreDistinct asked
  pub nodes : (x : Node) → IsOneOf x asked → IsOneOf x w.nodes
  pub reached : IsTrue told → (x : Node) → IsOneOf x asked → Reached w root depth x
