-- The walks over a graph are lawful, and over the graph of a state they are those of the state.
use Rattle.std.proofs.Common.{◌≡◌, ℕ, ◌-◌, ◌≤◌, Bool, true, false, Option, Some, None, unwrap_or, if◌then◌else◌, refl, arith}
use Rattle.oc_model.specs.declared.reach.ClassSettings.{ClassSettings}
use Rattle.oc_model.specs.Maps.{at}
use Rattle.oc_model.specs.Stores.{Store}
use Rattle.oc_model.specs.States.{State, Settings, settings_of, default_settings}
use Rattle.oc_model.specs.StateRules.{IsState}
use Rattle.oc_model.specs.Walks.{IsLawful, clamped, at_least_if}
use Rattle.oc_model.specs.Nodes.{nodes, node_class, view_next, refresh_next, memory_next, is_unsaved_node}
use Rattle.oc_model.specs.StateWalks.{class_settings, activate_walk, deactivate_walk, refresh_walk, peek_walk, store_walk, delete_walk, show_walk}
use Rattle.oc_model.proofs.Budgets.{clamped_rises, at_least_small, at_least_rises, plain_lawful}
use Rattle.oc_reach.specs.Graphs.{Shown, IsClosed, AreInRange, of_class, of_node, activate_over, plain_over, store_over, delete_over, show_over, graph_of, side_of}

-- ---- settings

class_maximum : (s : Settings) → AreInRange s → (c : ℕ) → (settings_of s c).maximum ≤ 65535
class_maximum s all c =
    (elim (at s.classes c) as (λ o. at s.classes c ≡ o → (unwrap_or o default_settings).maximum ≤ 65535) [
      | None ↦ λ e. omega arith
      | Some k ↦ λ e. (all.classes c k e).maximum
    ]) refl

of_class_maximum : (s : Settings) → AreInRange s → (c : Option ℕ) → (of_class s c).maximum ≤ 65535
of_class_maximum s all None = omega arith
of_class_maximum s all (Some c) = class_maximum s all c

pub in_range : (m : State) → IsState m → AreInRange m.settings
in_range m s =
    record {
      activation = s.settings.activation;
      update = s.settings.update;
      classes = λ c k e. let d = s.settings.classes c k e in record { minimum = d.minimum; maximum = d.maximum; update = d.update };
    }

-- ---- laws

one_less_small : (b : Bool) (k : ℕ) → k ≤ 65535 → at_least_if b (k - 1) ≤ 65535
one_less_small true k h = omega arith
one_less_small false k h = omega arith

one_less_rises : (b : Bool) (j k : ℕ) → j ≤ k → at_least_if b (j - 1) ≤ at_least_if b (k - 1)
one_less_rises true j k h = omega arith
one_less_rises false j k h = omega arith

one_or_none : (b : Bool) → (if b then 1 else 0) ≤ 65535
one_or_none true = omega arith
one_or_none false = omega arith

small_clamp : (s : ClassSettings) (k : ℕ) → s.maximum ≤ 65535 → clamped s k ≤ 65535
small_clamp s k h = omega arith

pub activate_over_lawful : (s : Settings) (g : Shown) → AreInRange s → IsClosed g → IsLawful (activate_over s g)
unfolding activate_over
activate_over_lawful s g all closed =
    record {
      arrive_small = λ x k h. small_clamp (of_node s g x) k (of_class_maximum s all (g.class x));
      arrive_rises = λ x j k h _. clamped_rises (of_node s g x) j k h;
      hand_small = λ x k _ h. one_less_small (of_node s g x).cascade_activate k h;
      hand_rises = λ x j k _ h _. one_less_rises (of_node s g x).cascade_activate j k h;
      inside = closed;
    }

pub plain_over_lawful : (g : Shown) → IsClosed g → IsLawful (plain_over g)
unfolding plain_over
plain_over_lawful g closed = plain_lawful g.nodes g.next closed

pub store_over_lawful : (s : Settings) (g : Shown) → IsClosed g → IsLawful (store_over s g)
unfolding store_over
store_over_lawful s g closed =
    record {
      arrive_small = λ x k h. at_least_small (g.unsaved x) k h;
      arrive_rises = λ x j k h _. at_least_rises (g.unsaved x) j k h;
      hand_small = λ x k _ h. one_less_small (of_node s g x).cascade_update k h;
      hand_rises = λ x j k _ h _. one_less_rises (of_node s g x).cascade_update j k h;
      inside = closed;
    }

pub delete_over_lawful : (s : Settings) (g : Shown) → IsClosed g → IsLawful (delete_over s g)
unfolding delete_over
delete_over_lawful s g closed =
    record {
      arrive_small = λ x k h. h;
      arrive_rises = λ x j k h _. h;
      hand_small = λ x k _ h. one_or_none (of_node s g x).cascade_delete;
      hand_rises = λ x j k _ _ _. omega arith;
      inside = closed;
    }

pub show_over_lawful : (g : Shown) → IsClosed g → IsLawful (show_over g)
unfolding show_over
show_over_lawful g closed =
    record {
      arrive_small = λ x k h. h;
      arrive_rises = λ x j k h _. h;
      hand_small = λ x k _ h. omega arith;
      hand_rises = λ x j k _ _ _. omega arith;
      inside = closed;
    }

-- ---- the walks of a state

of_class_is : (m : State) (c : Option ℕ) → of_class m.settings c ≡ class_settings m c
of_class_is m None = refl
of_class_is m (Some c) = refl

pub activate_is : (m : State) → activate_over m.settings (graph_of m (view_next m)) ≡ activate_walk m
unfolding activate_over activate_walk
activate_is m = λ i.
    record {
      nodes = nodes m;
      next = view_next m;
      arrive = λ x h. clamped (of_class_is m (node_class m x) i) h;
      hand = λ x k. at_least_if (of_class_is m (node_class m x) i).cascade_activate (k - 1);
    }

pub deactivate_is : (m : State) → plain_over (graph_of m (view_next m)) ≡ deactivate_walk m
unfolding plain_over deactivate_walk
deactivate_is m = refl

pub refresh_is : (m : State) → plain_over (graph_of m (refresh_next m)) ≡ refresh_walk m
unfolding plain_over refresh_walk
refresh_is m = refl

pub peek_is : (s : Store) → plain_over (side_of s) ≡ peek_walk s
unfolding plain_over peek_walk
peek_is s = refl

pub store_is : (m : State) → store_over m.settings (graph_of m (view_next m)) ≡ store_walk m
unfolding store_over store_walk
store_is m = λ i.
    record {
      nodes = nodes m;
      next = view_next m;
      arrive = λ x h. at_least_if (is_unsaved_node m x) h;
      hand = λ x k. at_least_if (of_class_is m (node_class m x) i).cascade_update (k - 1);
    }

pub delete_is : (m : State) → delete_over m.settings (graph_of m (view_next m)) ≡ delete_walk m
unfolding delete_over delete_walk
delete_is m = λ i.
    record {
      nodes = nodes m;
      next = view_next m;
      arrive = λ x h. h;
      hand = λ x k. if (of_class_is m (node_class m x) i).cascade_delete then 1 else 0;
    }

pub show_is : (m : State) → show_over (graph_of m (memory_next m)) ≡ show_walk m
unfolding show_over show_walk
show_is m = refl
