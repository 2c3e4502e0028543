-- How far a walk has come: the best budgets so far, the answers that were given, and the entries that are left to hand on.
use Rattle.std.specs.Prelude.{ℕ, ◌≡◌, ◌≤◌, ◌<◌, ◌+◌, ◌⊎◌, Bool, true, List, [], ◌∷◌, Option, Some, None, map, length, option_map, is_some, if◌then◌else◌, IsTrue}
use Rattle.std.specs.List.{All, Contains}
use Rattle.std.specs.FinMap.{find, is_sorted}
use Rattle.oc_model.specs.declared.reach.Node.{Node}
use Rattle.oc_model.specs.Lists.{IsOneOf}
use Rattle.oc_model.specs.Walks.{Walk, Arrives, Table, node_cmp, budget}
use Rattle.oc_reach.specs.Asking.{AreDistinct}

-- budgets that are left to hand on, each with its node
abbrev pub Work : Type 0
Work = List (ℕ × Node)

-- what was answered for a node
abbrev pub Answers : Type 0
Answers = Node → Option (List Node)

-- the answers by the entries of a map
abbrev pub answers_of : {V : Type 0} → (V → List Node) → List (Node × V) → Answers
answers_of items es x = option_map items (find node_cmp x es)

-- the budgets with which these nodes arrive
abbrev pub arrivals : Walk → ℕ → List Node → Table
arrivals w h ys = map (λ y. (y, w.arrive y h)) ys

-- the sum of the budgets of the nodes
abbrev pub all_budgets : Table → List Node → ℕ
all_budgets t [] = 0
all_budgets t (x ∷ ns) = budget t x + all_budgets t ns

-- No budget is lower, and each node whose budget is higher stands in the work with it. Each such entry is paid for by a higher sum of the budgets.
pub record IsRaised (ns : List Node) (t : Table) (work : Work) (u : Table) (left : Work) : Type 0 where
  pub higher : (x : Node) → budget t x ≤ budget u x
  pub kept : (e : ℕ × Node) → Contains work e → Contains left e
  pub listed : (x : Node) → budget t x < budget u x → Contains left (budget u x, x)
  pub live : All (λ e. 1 ≤ e.0) work → All (λ e. 1 ≤ e.0) left
  pub paid : length left + all_budgets t ns ≤ length work + all_budgets u ns

-- the walk in which each node names all
abbrev pub widest : Walk → Walk
widest w = record w { next = λ x. w.nodes }

-- each entry arrives
abbrev pub AllArrive : Walk → Node → ℕ → Table → Type 0
AllArrive w root depth t = (x : Node) (k : ℕ) → IsOneOf (x, k) t → (1 ≤ k) × Arrives w root depth x k

-- each node that the answer names has at least the budget with which it arrives from x
abbrev pub HasHandedOn : Walk → Answers → Table → Node → Type 0
HasHandedOn w answers t x = (ys : List Node) × (answers x ≡ Some ys) × ((y : Node) → IsOneOf y ys → w.arrive y (w.hand x (budget t x)) ≤ budget t y)

-- A walk under way.
pub record IsUnderWay (w : Walk) (told : Bool) (root : Node) (depth : ℕ) (answers : Answers) (t : Table) (work : Work) : Type 0 where
  pub small : depth ≤ 65535
  pub from : IsOneOf root w.nodes
  pub order : IsTrue (is_sorted node_cmp t)
  -- each entry is reached
  pub widely : AllArrive (widest w) root depth t
  pub arrive : IsTrue told → AllArrive w root depth t
  -- the root has what it arrives with
  pub begun : w.arrive root depth ≤ budget t root
  -- the answers are those of the walk
  pub right : IsTrue told → (x : Node) (ys : List Node) → answers x ≡ Some ys → ys ≡ w.next x
  pub within : (x : Node) (ys : List Node) → answers x ≡ Some ys → All (λ y. IsOneOf y w.nodes) ys
  -- reached nodes alone were asked for
  pub asked : (x : Node) (ys : List Node) → answers x ≡ Some ys → 1 ≤ budget t x
  -- each reached node is left to hand on its budget, or has done so
  pub live : All (λ e. 1 ≤ e.0) work
  pub done : (x : Node) → 1 ≤ budget t x → Contains work (budget t x, x) ⊎ HasHandedOn w answers t x

-- the node, where nothing was answered for it
abbrev pub newly : Answers → Node → List Node
newly answers x = if is_some (answers x) then [] else x ∷ []

-- The answers with one for this node. Another than there was before is right, and names nodes alone.
pub record IsAsked (w : Walk) (told : Bool) (x : Node) (before after : Answers) : Type 0 where
  pub keeps : (q : Node) (ys : List Node) → before q ≡ Some ys → after q ≡ Some ys
  pub there : (ys : List Node) × (after x ≡ Some ys)
  pub only : (q : Node) (ys : List Node) → after q ≡ Some ys → (before q ≡ Some ys) ⊎ ((q ≡ x) × (IsTrue told → ys ≡ w.next x) × All (λ y. IsOneOf y w.nodes) ys)

-- These were asked for, each once, and only where nothing was answered and the node is reached.
pub record AreNew (before : Answers) (t : Table) (asked : List Node) : Type 0 where
  pub once : AreDistinct asked
  pub unknown : (x : Node) → IsOneOf x asked → before x ≡ None
  pub reached : (x : Node) → IsOneOf x asked → 1 ≤ budget t x

-- nothing is asked for again, and what was asked for is answered
pub record Adds (before after : Answers) (t : Table) (asked : List Node) : Type 0 where
  pub new : AreNew before t asked
  pub known : (x : Node) → IsOneOf x asked → is_some (after x) ≡ true
  pub keeps : (x : Node) → is_some (before x) ≡ true → is_some (after x) ≡ true

-- each of these was asked for once, and is answered
pub record AreAnswered (answers : Answers) (asked : List Node) : Type 0 where
  pub once : AreDistinct asked
  pub known : (x : Node) → IsOneOf x asked → is_some (answers x) ≡ true
