-- The seven walks of a state are lawful.
use Rattle.std.proofs.Common.{◌≡◌, ℕ, ◌-◌, ◌≤◌, Bool, true, false, Option, Some, None, unwrap_or, if◌then◌else◌, refl, arith}
use Rattle.oc_model.specs.declared.reach.Node.{Node}
use Rattle.oc_model.specs.declared.reach.ClassSettings.{ClassSettings}
use Rattle.oc_model.specs.Maps.{at}
use Rattle.oc_model.specs.Schemas.{Schema}
use Rattle.oc_model.specs.Stores.{Store}
use Rattle.oc_model.specs.States.{State, Settings, settings_of, default_settings}
use Rattle.oc_model.specs.StateRules.{IsState, AreSettings}
use Rattle.oc_model.specs.Walks.{IsLawful, clamped, at_least_if}
use Rattle.oc_model.specs.Nodes.{node_class}
use Rattle.oc_model.specs.StateWalks.{class_settings, node_settings, activate_walk, deactivate_walk, refresh_walk, peek_walk, store_walk, delete_walk, show_walk}
use Rattle.oc_model.proofs.Budgets.{clamped_rises, at_least_small, at_least_rises, plain_lawful}
use Rattle.oc_model.proofs.Nodes.{view_inside, refresh_inside, memory_inside, side_inside}

-- ---- settings

of_class_small : (s : Schema) (settings : Settings) → AreSettings s settings → (c : ℕ) → (settings_of settings c).maximum ≤ 65535
of_class_small s settings all c =
    (elim (at settings.classes c) as (λ o. at settings.classes c ≡ o → (unwrap_or o default_settings).maximum ≤ 65535) [
      | None ↦ λ e. omega arith
      | Some k ↦ λ e. (all.classes c k e).maximum
    ]) refl

class_small : (m : State) → IsState m → (c : Option ℕ) → (class_settings m c).maximum ≤ 65535
class_small m s None = omega arith
class_small m s (Some c) = of_class_small m.session.schema m.settings s.settings c

maximum_small : (m : State) → IsState m → (x : Node) → (node_settings m x).maximum ≤ 65535
maximum_small m s x = class_small m s (node_class m x)

-- ---- handing down

cascade_small : (b : Bool) (k : ℕ) → 1 ≤ k → k ≤ 65535 → at_least_if b (k - 1) ≤ 65535
cascade_small true k one h = omega arith
cascade_small false k one h = omega arith

cascade_rises : (b : Bool) (j k : ℕ) → j ≤ k → at_least_if b (j - 1) ≤ at_least_if b (k - 1)
cascade_rises true j k h = omega arith
cascade_rises false j k h = omega arith

one_or_none : (b : Bool) → (if b then 1 else 0) ≤ 65535
one_or_none true = omega arith
one_or_none false = omega arith

small_clamp : (s : ClassSettings) (k : ℕ) → s.maximum ≤ 65535 → clamped s k ≤ 65535
small_clamp s k h = omega arith

-- ---- the walks

pub activate_lawful : (m : State) → IsState m → IsLawful (activate_walk m)
unfolding activate_walk
activate_lawful m s =
    record {
      arrive_small = λ x k h. small_clamp (node_settings m x) k (maximum_small m s x);
      arrive_rises = λ x j k h _. clamped_rises (node_settings m x) j k h;
      hand_small = λ x k one h. cascade_small (node_settings m x).cascade_activate k one h;
      hand_rises = λ x j k one h _. cascade_rises (node_settings m x).cascade_activate j k h;
      inside = view_inside m s;
    }

pub deactivate_lawful : (m : State) → IsState m → IsLawful (deactivate_walk m)
unfolding deactivate_walk
deactivate_lawful m s = plain_lawful _ _ (view_inside m s)

pub refresh_lawful : (m : State) → IsState m → IsLawful (refresh_walk m)
unfolding refresh_walk
refresh_lawful m s = plain_lawful _ _ (refresh_inside m s)

pub peek_lawful : (s : Store) → IsLawful (peek_walk s)
unfolding peek_walk
peek_lawful s = plain_lawful _ _ (side_inside s)

pub store_lawful : (m : State) → IsState m → IsLawful (store_walk m)
unfolding store_walk
store_lawful m s =
    record {
      arrive_small = λ x k h. at_least_small _ k h;
      arrive_rises = λ x j k h _. at_least_rises _ j k h;
      hand_small = λ x k one h. cascade_small (node_settings m x).cascade_update k one h;
      hand_rises = λ x j k one h _. cascade_rises (node_settings m x).cascade_update j k h;
      inside = view_inside m s;
    }

pub delete_lawful : (m : State) → IsState m → IsLawful (delete_walk m)
unfolding delete_walk
delete_lawful m s =
    record {
      arrive_small = λ x k h. h;
      arrive_rises = λ x j k h _. h;
      hand_small = λ x k one h. one_or_none (node_settings m x).cascade_delete;
      hand_rises = λ x j k one h _. omega arith;
      inside = view_inside m s;
    }

pub show_lawful : (m : State) → IsState m → IsLawful (show_walk m)
unfolding show_walk
show_lawful m s =
    record {
      arrive_small = λ x k h. h;
      arrive_rises = λ x j k h _. h;
      hand_small = λ x k one h. omega arith;
      hand_rises = λ x j k one h _. omega arith;
      inside = memory_inside m s;
    }
