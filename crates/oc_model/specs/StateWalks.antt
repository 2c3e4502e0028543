-- The seven walks of a state: what each sees, with which budget a node arrives, and what it hands on.
use Rattle.std.specs.Prelude.{ℕ, ◌-◌, map, Option, Some, None, if◌then◌else◌}
use Rattle.oc_model.specs.declared.reach.Node.{Node}
use Rattle.oc_model.specs.declared.reach.Node.TheVariants as node
use Rattle.oc_model.specs.declared.reach.ClassSettings.{ClassSettings}
use Rattle.oc_model.specs.Maps.{keys}
use Rattle.oc_model.specs.Stores.{Store}
use Rattle.oc_model.specs.States.{State, settings_of, default_settings}
use Rattle.oc_model.specs.Nodes.{nodes, named_in, view_next, refresh_next, memory_next, side_next, node_class, is_unsaved_node}
use Rattle.oc_model.specs.Walks.{Walk, clamped, at_least_if, plain_walk}

-- what is set for a class, the defaults for an object that is nowhere
abbrev pub class_settings : State → Option ℕ → ClassSettings
class_settings m None = default_settings
class_settings m (Some c) = settings_of m.settings c

-- the settings of a node's class
abbrev pub node_settings : State → Node → ClassSettings
node_settings m x = class_settings m (node_class m x)

-- Activation: each arrival is kept between the minimum and the maximum of the class. A class that cascades hands on 1 at least.
unfoldable pub activate_walk : State → Walk
unfolding named_in
activate_walk m =
    record {
      nodes = nodes m;
      next = view_next m;
      arrive = λ x h. clamped (node_settings m x) h;
      hand = λ x k. at_least_if (node_settings m x).cascade_activate (k - 1);
    }

-- Deactivation: what is active is seen as it is in memory, and one less is handed on.
unfoldable pub deactivate_walk : State → Walk
unfolding named_in
deactivate_walk m = plain_walk (nodes m) (view_next m)

-- Refreshing: the records are seen, and one less is handed on.
unfoldable pub refresh_walk : State → Walk
unfolding named_in
refresh_walk m = plain_walk (nodes m) (refresh_next m)

-- Peeking at one store: its records alone, and one less is handed on.
unfoldable pub peek_walk : Store → Walk
unfolding named_in
peek_walk s = plain_walk (map node.Number (keys s.records)) (side_next s)

-- Storing: an unsaved object arrives with 1 at least. A class that cascades hands on 1 at least.
unfoldable pub store_walk : State → Walk
unfolding named_in
store_walk m =
    record {
      nodes = nodes m;
      next = view_next m;
      arrive = λ x h. at_least_if (is_unsaved_node m x) h;
      hand = λ x k. at_least_if (node_settings m x).cascade_update (k - 1);
    }

-- Deleting: a class that cascades hands on 1, and every other nothing.
unfoldable pub delete_walk : State → Walk
unfolding named_in
delete_walk m =
    record {
      nodes = nodes m;
      next = view_next m;
      arrive = λ x h. h;
      hand = λ x k. if (node_settings m x).cascade_delete then 1 else 0;
    }

-- Showing: all that the values in memory lead to.
unfoldable pub show_walk : State → Walk
unfolding named_in
show_walk m = record { nodes = nodes m; next = memory_next m; arrive = λ x h. h; hand = λ x k. 1 }
