-- The parts of the walks.
use Rattle.std.proofs.Common.{◌≡◌, ◌≢◌, ℕ, ◌-◌, ◌≤◌, List, Option, Some, Result, Ok, Err, OnOk, IfErr, refl, sym, ap, ◌∙◌, arith}
use Rattle.oc_model.specs.declared.reach.Node.{Node}
use Rattle.oc_model.specs.declared.reach.ClassSettings.{ClassSettings}
use Rattle.oc_model.specs.States.{Settings, settings_of}
use Rattle.oc_model.specs.Walks.{Walk, clamped, at_least_if}
use Rattle.oc_reach.specs.Graphs.{Shown, of_class, activate_over, plain_over, show_over}
use Rattle.oc_activate.specs.declared.planning.Walk.{Walk as Which}
use Rattle.oc_activate.specs.declared.planning.Walk.TheVariants as which
use Rattle.oc_activate.specs.Plans.{walk_over, begins_with}

pub nodes_are : (v : Which) (s : Settings) (g : Shown) → (walk_over v s g).nodes ≡ g.nodes
unfolding activate_over plain_over show_over
nodes_are which.Activate s g = refl
nodes_are which.Deactivate s g = refl
nodes_are which.Refresh s g = refl
nodes_are which.Peek s g = refl
nodes_are which.Show s g = refl

pub next_is : (v : Which) (s : Settings) (g : Shown) → (walk_over v s g).next ≡ g.next
unfolding activate_over plain_over show_over
next_is which.Activate s g = refl
next_is which.Deactivate s g = refl
next_is which.Refresh s g = refl
next_is which.Peek s g = refl
next_is which.Show s g = refl

pub arrives_clamped : (v : Which) (s : Settings) (g : Shown) (x : Node) (h c : ℕ) (k : ClassSettings) → v ≡ which.Activate → g.class x ≡ Some c → k ≡ settings_of s c → clamped k h ≡ (walk_over v s g).arrive x h
unfolding activate_over
arrives_clamped v s g x h c k is of set = ap (λ k. clamped k h) set ∙ sym (ap (λ o. clamped (of_class s o) h) of) ∙ sym (ap (λ v. (walk_over v s g).arrive x h) is)

pub arrives_as_handed : (v : Which) (s : Settings) (g : Shown) (x : Node) (h : ℕ) → v ≢ which.Activate → h ≡ (walk_over v s g).arrive x h
unfolding plain_over show_over
arrives_as_handed which.Activate s g x h n = absurd (n refl)
arrives_as_handed which.Deactivate s g x h n = refl
arrives_as_handed which.Refresh s g x h n = refl
arrives_as_handed which.Peek s g x h n = refl
arrives_as_handed which.Show s g x h n = refl

pub hands_by_class : (v : Which) (s : Settings) (g : Shown) (x : Node) (h c : ℕ) (k : ClassSettings) → v ≡ which.Activate → g.class x ≡ Some c → k ≡ settings_of s c → at_least_if k.cascade_activate (h - 1) ≡ (walk_over v s g).hand x h
unfolding activate_over
hands_by_class v s g x h c k is of set = ap (λ (k : ClassSettings). at_least_if k.cascade_activate (h - 1)) set ∙ sym (ap (λ o. at_least_if (of_class s o).cascade_activate (h - 1)) of) ∙ sym (ap (λ v. (walk_over v s g).hand x h) is)

pub hands_one : (v : Which) (s : Settings) (g : Shown) (x : Node) (h : ℕ) → v ≡ which.Show → 1 ≡ (walk_over v s g).hand x h
unfolding show_over
hands_one v s g x h is = sym (ap (λ v. (walk_over v s g).hand x h) is)

pub hands_one_less : (v : Which) (s : Settings) (g : Shown) (x : Node) (h : ℕ) → v ≢ which.Activate → v ≢ which.Show → h - 1 ≡ (walk_over v s g).hand x h
unfolding plain_over
hands_one_less which.Activate s g x h n m = absurd (n refl)
hands_one_less which.Deactivate s g x h n m = refl
hands_one_less which.Refresh s g x h n m = refl
hands_one_less which.Peek s g x h n m = refl
hands_one_less which.Show s g x h n m = absurd (m refl)

pub begins_small : (v : Which) (depth : ℕ) → depth ≤ 65535 → begins_with v depth ≤ 65535
begins_small which.Activate depth h = h
begins_small which.Deactivate depth h = h
begins_small which.Refresh depth h = h
begins_small which.Peek depth h = h
begins_small which.Show depth h = omega arith

pub on_ok : {T E P Q : Type 0} (r : Result T E) → (P → Q) → OnOk r P → OnOk r Q
on_ok (Ok x) f h = f h
on_ok (Err e) f h = h

pub if_err : {T E : Type 0} {P Q : E → Type 0} (r : Result T E) → ((e : E) → P e → Q e) → IfErr r P → IfErr r Q
if_err (Ok x) f h = h
if_err (Err e) f h = f e h
