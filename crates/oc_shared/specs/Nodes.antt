-- What a tree is seen as.
use Rattle.std.specs.Prelude.{◌≡◌, ◌+◌, List, [], ◌∷◌, ◌++◌, length, Option, Some, None}
use Rattle.std.specs.Global.{Global}
use Rattle.std.specs.declared.rc.Rc.{Rc}
use Rattle.oc_shared.specs.declared.sequence.Node.{Node}

-- the items in order
abbrev pub items : {T : Type 0} → Option (Rc (Node T) Global) → List T
items None = []
items (Some n) = n.value.before ++ n.value.item.value ∷ n.value.after

-- the root has the number of its items
abbrev pub IsCounted : {T : Type 0} → Option (Rc (Node T) Global) → Type 0
IsCounted None = Unit {0}
IsCounted (Some n) = n.value.len ≡ length n.value.before + 1 + length n.value.after
