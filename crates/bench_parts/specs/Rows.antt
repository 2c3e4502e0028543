-- Graphs of live objects in a row, whose edges aren't told.
use Rattle.std.specs.Prelude.{ℕ, zero, suc, Bool, List, [], ◌∷◌, Some}
use Rattle.oc_model.specs.declared.reach.Node.{Node}
use Rattle.oc_model.specs.declared.reach.Node.TheVariants as node
use Rattle.oc_reach.specs.Graphs.{Shown, IsClosed}

-- the live objects with the handles below this
abbrev pub row : ℕ → List Node
row zero = []
row (suc n) = node.Live n ∷ row n

-- the graph of a row, all of class 1
abbrev pub row_graph : ℕ → Bool → Shown
row_graph count unsaved = record { nodes = row count; class = λ x. Some 1; unsaved = λ x. unsaved; next = λ x. [] }

pub row_closed : (count : ℕ) (unsaved : Bool) → IsClosed (row_graph count unsaved)
row_closed count unsaved x y i = absurd i
