-- Walks: a graph, a rule for budgets, and what is reached from a root.
use Rattle.std.specs.Prelude.{◌≡◌, ℕ, zero, suc, ◌+◌, ◌-◌, ◌*◌, ◌≤◌, max, min, Bool, true, false, nat_lt, nat_le, List, [], map, flat_map, fold, length, Some, unwrap_or, if◌then◌else◌, IsTrue}
use Rattle.std.specs.List.{list_all}
use Rattle.std.specs.Ordering.{nat_cmp, ordering_then}
use Rattle.std.specs.declared.cmp.Ordering.{Ordering}
use Rattle.std.specs.FinMap.{find, put, is_sorted}
use Rattle.oc_model.specs.declared.reach.Node.{Node}
use Rattle.oc_model.specs.declared.reach.Node.TheVariants as node
use Rattle.oc_model.specs.declared.reach.ClassSettings.{ClassSettings}
use Rattle.oc_model.specs.Lists.{IsOneOf}

-- ---- a walk

-- A graph and a rule for budgets. A node to which a budget is handed arrives with one, and hands one on to each node that it names.
pub record Walk : Type 0 where
  pub nodes : List Node
  -- what a node names
  pub next : Node → List Node
  -- the budget with which a node arrives, by the one that is handed to it
  pub arrive : Node → ℕ → ℕ
  -- the budget that a node hands on, by the one with which it arrives
  pub hand : Node → ℕ → ℕ

-- Up to 65,535 both functions rise with the budget and stay there, and what a node names is a node.
pub record IsLawful (w : Walk) : Type 0 where
  pub arrive_small : (x : Node) (k : ℕ) → k ≤ 65535 → w.arrive x k ≤ 65535
  pub arrive_rises : (x : Node) (j k : ℕ) → j ≤ k → k ≤ 65535 → w.arrive x j ≤ w.arrive x k
  pub hand_small : (x : Node) (k : ℕ) → 1 ≤ k → k ≤ 65535 → w.hand x k ≤ 65535
  pub hand_rises : (x : Node) (j k : ℕ) → 1 ≤ j → j ≤ k → k ≤ 65535 → w.hand x j ≤ w.hand x k
  pub inside : (x y : Node) → IsOneOf y (w.next x) → IsOneOf y w.nodes

-- ---- the rules that the walks are made of

-- the budget, but no less than the minimum of the class, and in any case no more than its maximum
abbrev pub clamped : ClassSettings → ℕ → ℕ
clamped s k = min s.maximum (max s.minimum k)

-- the budget, but at least 1 if the test holds
abbrev pub at_least_if : Bool → ℕ → ℕ
at_least_if b k = if b then max 1 k else k

-- the walk in which each node hands on one less, and arrives with what it is handed
abbrev pub plain_walk : List Node → (Node → List Node) → Walk
plain_walk nodes next = record { nodes = nodes; next = next; arrive = λ x h. h; hand = λ x k. k - 1 }

-- ---- what the paths say

-- The node arrives with the budget on some path from the root. Only a node that arrives with at least 1 hands on.
pub data Arrives (w : Walk) (root : Node) (depth : ℕ) : Node → ℕ → Type 0 where
  begins : {x : Node} {k : ℕ} → x ≡ root → k ≡ w.arrive root depth → Arrives w root depth x k
  goes_on : {x y : Node} {j k : ℕ} → Arrives w root depth x j → 1 ≤ j → IsOneOf y (w.next x) → k ≡ w.arrive y (w.hand x j) → Arrives w root depth y k

-- on some path the node arrives with 1 or more
abbrev pub Reached : Walk → Node → ℕ → Node → Type 0
Reached w root depth x = (k : ℕ) × (1 ≤ k) × Arrives w root depth x k

-- live objects come first
abbrev pub node_kind : Node → ℕ
node_kind (node.Live h) = 0
node_kind (node.Number n) = 1

-- the handle or the number
abbrev pub node_id : Node → ℕ
node_id (node.Live h) = h
node_id (node.Number n) = n

-- the order of nodes: live objects by handle, and then numbers
abbrev pub node_cmp : Node → Node → Ordering
node_cmp x y = ordering_then (nat_cmp (node_kind x) (node_kind y)) (nat_cmp (node_id x) (node_id y))

-- nodes with their budgets
abbrev pub Table : Type 0
Table = List (Node × ℕ)

-- The table has the reached nodes and no others, each once and in the order of nodes, with the greatest budget with which the node arrives.
pub record IsBest (w : Walk) (root : Node) (depth : ℕ) (t : Table) : Type 0 where
  pub order : IsTrue (is_sorted node_cmp t)
  pub arrives : (x : Node) (k : ℕ) → find node_cmp x t ≡ Some k → (1 ≤ k) × Arrives w root depth x k
  pub greatest : (x : Node) (k : ℕ) → Arrives w root depth x k → 1 ≤ k → (j : ℕ) × (find node_cmp x t ≡ Some j) × (k ≤ j)

-- ---- the same, computed

-- the budget of a node in a table, 0 where it isn't there
abbrev pub budget : Table → Node → ℕ
budget t x = unwrap_or (find node_cmp x t) 0

-- the budgets with which the nodes that an entry names arrive from it
abbrev pub handed : Walk → Node × ℕ → Table
handed w e = map (λ y. (y, w.arrive y (w.hand e.0 e.1))) (w.next e.0)

-- all that a table hands on
abbrev pub offers : Walk → Table → Table
offers w t = flat_map (handed w) t

-- with this entry, where its node has a smaller budget
abbrev pub raised : Table → Node × ℕ → Table
raised t e = if nat_lt (budget t e.0) e.1 then put node_cmp e.0 e.1 t else t

-- nothing that the table hands on is more than it has
abbrev pub is_settled : Walk → Table → Bool
is_settled w t = list_all (λ e. nat_le e.1 (budget t e.0)) (offers w t)

-- with all that the table hands on
abbrev pub round : Walk → Table → Table
round w t = fold raised t (offers w t)

-- the table after rounds until it is settled, and at most so many
abbrev pub settle : ℕ → Bool → Walk → Table → Table
settle n true w t = t
settle zero false w t = t
settle (suc n) false w t = let u = round w t in settle n (is_settled w u) w u

-- The reached nodes with their greatest budgets. Each round raises a budget, and no budget rises above 65,535, so there are rounds enough.
unfoldable pub best : Walk → Node → ℕ → Table
best w root depth =
    let t = raised [] (root, w.arrive root depth) in
    settle (65536 * (length w.nodes + 1)) (is_settled w t) w t
