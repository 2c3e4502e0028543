-- The parts of the walks.
use Rattle.std.proofs.Common.{◌≡◌, ℕ, ◌-◌, Option, Some, Result, Ok, Err, OnOk, IfErr, if◌then◌else◌, refl, sym, ap, ◌∙◌}
use Rattle.oc_model.specs.declared.reach.Node.{Node}
use Rattle.oc_model.specs.declared.reach.ClassSettings.{ClassSettings}
use Rattle.oc_model.specs.States.{Settings, settings_of}
use Rattle.oc_model.specs.Walks.{Walk, at_least_if}
use Rattle.oc_reach.specs.Graphs.{Shown, of_class, store_over, delete_over}

pub store_nodes : (s : Settings) (g : Shown) → (store_over s g).nodes ≡ g.nodes
unfolding store_over
store_nodes s g = refl

pub store_next : (s : Settings) (g : Shown) → (store_over s g).next ≡ g.next
unfolding store_over
store_next s g = refl

pub store_arrives : (s : Settings) (g : Shown) (x : Node) (h : ℕ) → at_least_if (g.unsaved x) h ≡ (store_over s g).arrive x h
unfolding store_over
store_arrives s g x h = refl

pub store_hands : (s : Settings) (g : Shown) (x : Node) (h c : ℕ) (k : ClassSettings) → g.class x ≡ Some c → k ≡ settings_of s c → at_least_if k.cascade_update (h - 1) ≡ (store_over s g).hand x h
unfolding store_over
store_hands s g x h c k of set = ap (λ (k : ClassSettings). at_least_if k.cascade_update (h - 1)) set ∙ sym (ap (λ o. at_least_if (of_class s o).cascade_update (h - 1)) of)

pub delete_nodes : (s : Settings) (g : Shown) → (delete_over s g).nodes ≡ g.nodes
unfolding delete_over
delete_nodes s g = refl

pub delete_next : (s : Settings) (g : Shown) → (delete_over s g).next ≡ g.next
unfolding delete_over
delete_next s g = refl

pub delete_arrives : (s : Settings) (g : Shown) (x : Node) (h : ℕ) → h ≡ (delete_over s g).arrive x h
unfolding delete_over
delete_arrives s g x h = refl

pub delete_hands : (s : Settings) (g : Shown) (x : Node) (h c : ℕ) (k : ClassSettings) → g.class x ≡ Some c → k ≡ settings_of s c → (if k.cascade_delete then 1 else 0) ≡ (delete_over s g).hand x h
unfolding delete_over
delete_hands s g x h c k of set = ap (λ (k : ClassSettings). if k.cascade_delete then 1 else 0) set ∙ sym (ap (λ o. if (of_class s o).cascade_delete then 1 else 0) of)

pub on_ok : {T E P Q : Type 0} (r : Result T E) → (P → Q) → OnOk r P → OnOk r Q
on_ok (Ok x) f h = f h
on_ok (Err e) f h = h

pub if_err : {T E : Type 0} {P Q : E → Type 0} (r : Result T E) → ((e : E) → P e → Q e) → IfErr r P → IfErr r Q
if_err (Ok x) f h = h
if_err (Err e) f h = f e h
