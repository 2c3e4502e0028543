-- The walks over any graph of objects, by the settings of a run.
use Rattle.std.specs.Prelude.{ℕ, ◌≡◌, ◌≤◌, ◌-◌, Bool, false, map, List, Option, None, Some, if◌then◌else◌, unwrap_or}
use Rattle.oc_model.specs.declared.reach.Node.{Node}
use Rattle.oc_model.specs.declared.reach.Node.TheVariants as node
use Rattle.oc_model.specs.declared.reach.ClassSettings.{ClassSettings}
use Rattle.oc_model.specs.Lists.{IsOneOf}
use Rattle.oc_model.specs.Maps.{at, keys}
use Rattle.oc_model.specs.States.{State, Settings, settings_of, default_settings}
use Rattle.oc_model.specs.Stores.{Store, class_of}
use Rattle.oc_model.specs.Nodes.{nodes, node_class, is_unsaved_node, side_next}
use Rattle.oc_model.specs.Walks.{Walk, clamped, at_least_if, plain_walk}

-- A graph of objects.
pub record Shown : Type 0 where
  pub nodes : List Node
  -- the class of a node
  pub class : Node → Option ℕ
  -- the node is a live object without a number
  pub unsaved : Node → Bool
  -- what a node names
  pub next : Node → List Node

-- what a node names is a node
abbrev pub IsClosed : Shown → Type 0
IsClosed g = (x y : Node) → IsOneOf y (g.next x) → IsOneOf y g.nodes

-- no depth in the settings of a class is over 65,535
pub record HasRange (k : ClassSettings) : Type 0 where
  pub minimum : k.minimum ≤ 65535
  pub maximum : k.maximum ≤ 65535
  pub update : unwrap_or k.update 0 ≤ 65535

-- no depth in the settings of a run is over 65,535
pub record AreInRange (s : Settings) : Type 0 where
  pub activation : s.activation ≤ 65535
  pub update : s.update ≤ 65535
  pub classes : (c : ℕ) (k : ClassSettings) → at s.classes c ≡ Some k → HasRange k

-- the settings of a class, the defaults for what has none
abbrev pub of_class : Settings → Option ℕ → ClassSettings
of_class s None = default_settings
of_class s (Some c) = settings_of s c

-- the settings of a node's class
abbrev pub of_node : Settings → Shown → Node → ClassSettings
of_node s g x = of_class s (g.class x)

-- Activation: each arrival is kept between the minimum and the maximum of the class. A class that cascades hands on 1 at least.
unfoldable pub activate_over : Settings → Shown → Walk
activate_over s g =
    record {
      nodes = g.nodes;
      next = g.next;
      arrive = λ x h. clamped (of_node s g x) h;
      hand = λ x k. at_least_if (of_node s g x).cascade_activate (k - 1);
    }

-- Deactivation, refreshing and peeking: one less is handed on.
unfoldable pub plain_over : Shown → Walk
plain_over g = plain_walk g.nodes g.next

-- Storing: an unsaved object arrives with 1 at least. A class that cascades hands on 1 at least.
unfoldable pub store_over : Settings → Shown → Walk
store_over s g =
    record {
      nodes = g.nodes;
      next = g.next;
      arrive = λ x h. at_least_if (g.unsaved x) h;
      hand = λ x k. at_least_if (of_node s g x).cascade_update (k - 1);
    }

-- Deleting: a class that cascades hands on 1, and every other nothing.
unfoldable pub delete_over : Settings → Shown → Walk
delete_over s g =
    record {
      nodes = g.nodes;
      next = g.next;
      arrive = λ x h. h;
      hand = λ x k. if (of_node s g x).cascade_delete then 1 else 0;
    }

-- Showing: all that the values in memory lead to.
unfoldable pub show_over : Shown → Walk
show_over g = record { nodes = g.nodes; next = g.next; arrive = λ x h. h; hand = λ x k. 1 }

-- the graph of a state, where a node names what a walk sees
abbrev pub graph_of : State → (Node → List Node) → Shown
graph_of m next = record { nodes = nodes m; class = node_class m; unsaved = is_unsaved_node m; next = next }

-- the class of a node of a store
abbrev pub side_class : Store → Node → Option ℕ
side_class s (node.Live h) = None
side_class s (node.Number n) = class_of s n

-- the graph of a store
abbrev pub side_of : Store → Shown
side_of s = record { nodes = map node.Number (keys s.records); class = side_class s; unsaved = λ x. false; next = side_next s }
