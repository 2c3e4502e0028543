-- What the nodes of a state name are nodes.
use Rattle.std.proofs.Common.{◌≡◌, ℕ, Bool, true, false, cond, List, [], ◌∷◌, map, filter, filter_map, find, Option, Some, None, is_some, is_none, option_map, if◌then◌else◌, inl, inr, refl, sym, ap, ◌∙◌, subst, nat_cmp, true≢false}
use Rattle.std.specs.List.{cons_option}
use Rattle.std.specs.Ordering.{eq_by_cmp}
use Rattle.std.proofs.lemmas.Map.Lookups.{exact_unsigned}
use Rattle.oc_model.specs.declared.reach.Node.{Node}
use Rattle.oc_model.specs.declared.reach.Node.TheVariants as node
use Rattle.oc_model.specs.declared.value.Rec.{Rec}
use Rattle.oc_model.specs.Maps.{Map, at, keys}
use Rattle.oc_model.specs.Lists.{IsOneOf}
use Rattle.oc_model.specs.Stores.{Store}
use Rattle.oc_model.specs.States.{State, Live}
use Rattle.oc_model.specs.StateRules.{IsState}
use Rattle.oc_model.specs.Nodes.{is_number, is_unsaved, is_awake, handle_of, is_stored, node_for, node_of, nodes, named_in, live_next, record_next, stored_next, object_next, view_next, refresh_next, memory_next, side_named, side_next}
use Rattle.oc_model.proofs.Elements.{in_left, in_right, to_map, from_map}
use Rattle.oc_model.proofs.Reaching.{is_equal}

-- ---- lists and maps

-- what a `filter_map` gives comes from an element
from_filter_map : {X Y : Type 0} (f : X → Option Y) (y : Y) (xs : List X) → IsOneOf y (filter_map f xs) → (x : X) × IsOneOf x xs × (f x ≡ Some y)
from_filter_map f y [] h = absurd h
from_filter_map f y (x ∷ xs) h =
    (elim (f x) as (λ o. f x ≡ o → IsOneOf y (cons_option o (filter_map f xs)) → (z : _) × IsOneOf z (x ∷ xs) × (f z ≡ Some y)) [
      | None ↦ λ e h. let r = from_filter_map f y xs h in (r.0, inr r.1, r.2)
      | Some z ↦ λ e h. elim h [ inl q ↦ (x, inl refl, e ∙ ap Some (sym q)) | inr t ↦ let r = from_filter_map f y xs t in (r.0, inr r.1, r.2) ]
    ]) refl h

-- a key that the map has is one of its keys
pub at_key : {X : Type 0} (m : Map X) (k : ℕ) → is_some (at m k) ≡ true → IsOneOf k (keys m)
at_key [] k h = absurd (true≢false (sym h))
at_key (e ∷ m) k h =
    (elim (eq_by_cmp nat_cmp k e.0) as (λ b. eq_by_cmp nat_cmp k e.0 ≡ b → is_some (cond b (Some e.1) (at m k)) ≡ true → IsOneOf k (e.0 ∷ keys m)) [
      | true ↦ λ q h. inl (exact_unsigned k e.0 (is_equal _ q))
      | false ↦ λ q h. inr (at_key m k h)
    ]) refl h

in_filter : {X : Type 0} (p : X → Bool) (x : X) (xs : List X) → IsOneOf x xs → p x ≡ true → IsOneOf x (filter p xs)
in_filter p x [] i h = absurd i
in_filter p x (y ∷ ys) i h =
    elim i as (λ _. IsOneOf x (cond (p y) (y ∷ filter p ys) (filter p ys))) [
      | inl e ↦ subst (λ b. IsOneOf x (cond b (y ∷ filter p ys) (filter p ys))) (sym (ap p (sym e) ∙ h)) (inl e)
      | inr r ↦ elim (p y) as (λ b. IsOneOf x (cond b (y ∷ filter p ys) (filter p ys))) [ true ↦ inr (in_filter p x ys r h) | false ↦ in_filter p x ys r h ]
    ]

-- an element of a filtered list passes the test
passes_filter : {X : Type 0} (p : X → Bool) (x : X) (xs : List X) → IsOneOf x (filter p xs) → p x ≡ true
passes_filter p x [] i = absurd i
passes_filter p x (y ∷ ys) i =
    (elim (p y) as (λ b. p y ≡ b → IsOneOf x (cond b (y ∷ filter p ys) (filter p ys)) → p x ≡ true) [
      | true ↦ λ e i. elim i as (λ _. p x ≡ true) [ inl q ↦ ap p q ∙ e | inr t ↦ passes_filter p x ys t ]
      | false ↦ λ e i. passes_filter p x ys i
    ]) refl i

none_some : {X : Type 0} (x : X) → None ≡ Some x → ⊥
none_some x e = cc

-- the handle that is found is one of the handles
found_key : (n h : ℕ) (live : Map Live) → option_map (λ e. e.0) (find (λ e. is_number n e.1.number) live) ≡ Some h → IsOneOf h (keys live)
found_key n h [] e = absurd (none_some h e)
found_key n h (o ∷ live) e =
    (elim (is_number n o.1.number) as (λ b. option_map (λ e. e.0) (cond b (Some o) (find (λ e. is_number n e.1.number) live)) ≡ Some h → IsOneOf h (o.0 ∷ keys live)) [
      | true ↦ λ e. inl (let q : o.0 ≡ h = cc in sym q)
      | false ↦ λ e. inr (found_key n h live e)
    ]) e

-- ---- the nodes of a state

module _ (m : State) where
  numbered_inside : (n : ℕ) → is_stored m.session n ≡ true → IsOneOf (node_for n (handle_of m n)) (nodes m)
  numbered_inside n s =
      (elim (handle_of m n) as (λ o. handle_of m n ≡ o → IsOneOf (node_for n o) (nodes m)) [
        | Some h ↦ λ e. in_left _ _ _ (to_map (λ h. node.Live h) h (keys m.live) (found_key n h m.live e))
        | None ↦ λ e. in_right _ _ _ (to_map (λ n. node.Number n) n _ (in_filter (λ n. is_none (handle_of m n)) n (keys m.session.records) (at_key m.session.records n s) (ap is_none e)))
      ]) refl

  node_inside : (n : ℕ) (y : Node) → node_of m n ≡ Some y → IsOneOf y (nodes m)
  node_inside n y e =
      (elim (is_stored m.session n) as (λ b. is_stored m.session n ≡ b → (if b then Some (node_for n (handle_of m n)) else None) ≡ Some y → IsOneOf y (nodes m)) [
        | false ↦ λ _ e. absurd (none_some y e)
        | true ↦ λ s e. subst (λ z. IsOneOf z (nodes m)) (let q : node_for n (handle_of m n) ≡ y = cc in q) (numbered_inside n s)
      ]) refl e

  record_inside : (r : Option Rec) (y : Node) → IsOneOf y (record_next m r) → IsOneOf y (nodes m)
  record_inside None y i = absurd i
  record_inside (Some r) y i = let q = from_filter_map (node_of m) y (named_in m.session.schema r.class r.entries) i in node_inside q.0 y q.2

  stored_inside : (o : Option ℕ) (y : Node) → IsOneOf y (stored_next m o) → IsOneOf y (nodes m)
  stored_inside None y i = absurd i
  stored_inside (Some n) y i = record_inside (at m.session.records n) y i

  live_inside : IsState m → (h : ℕ) (o : Live) → at m.live h ≡ Some o → (y : Node) → IsOneOf y (live_next m o) → IsOneOf y (nodes m)
  live_inside s h o e y i =
      let q = from_map (λ h. node.Live h) y (named_in m.session.schema o.class o.entries) i in
      subst (λ z. IsOneOf z (nodes m)) (sym q.2) (in_left _ _ _ (to_map (λ h. node.Live h) q.0 (keys m.live) (at_key m.live q.0 ((s.live h o e).references q.0 q.1))))

  object_inside : IsState m → (test : Live → Bool) (h : ℕ) (y : Node) → IsOneOf y (object_next test m (at m.live h)) → IsOneOf y (nodes m)
  object_inside s test h y i =
      (elim (at m.live h) as (λ o. at m.live h ≡ o → IsOneOf y (object_next test m o) → IsOneOf y (nodes m)) [
        | None ↦ λ _ i. absurd i
        | Some o ↦ λ e i.
            (elim (test o) as (λ b. IsOneOf y (if b then live_next m o else stored_next m o.number) → IsOneOf y (nodes m)) [
              | true ↦ λ i. live_inside s h o e y i
              | false ↦ λ i. stored_inside o.number y i
            ]) i
      ]) refl i

  pub view_inside : IsState m → (x y : Node) → IsOneOf y (view_next m x) → IsOneOf y (nodes m)
  view_inside s (node.Live h) y i = object_inside s is_awake h y i
  view_inside s (node.Number n) y i = stored_inside (Some n) y i

  pub refresh_inside : IsState m → (x y : Node) → IsOneOf y (refresh_next m x) → IsOneOf y (nodes m)
  refresh_inside s (node.Live h) y i = object_inside s is_unsaved h y i
  refresh_inside s (node.Number n) y i = stored_inside (Some n) y i

  pub memory_inside : IsState m → (x y : Node) → IsOneOf y (memory_next m x) → IsOneOf y (nodes m)
  memory_inside s (node.Live h) y i = object_inside s (λ o. true) h y i
  memory_inside s (node.Number n) y i = absurd i

-- ---- the nodes of a store

side_inside_of : (s : Store) (r : Option Rec) (y : Node) → IsOneOf y (side_named s r) → IsOneOf y (map node.Number (keys s.records))
side_inside_of s None y i = absurd i
side_inside_of s (Some r) y i =
    let q = from_map (λ n. node.Number n) y (filter (is_stored s) (named_in s.schema r.class r.entries)) i in
    subst (λ z. IsOneOf z (map node.Number (keys s.records))) (sym q.2) (to_map (λ n. node.Number n) q.0 (keys s.records) (at_key s.records q.0 (passes_filter (is_stored s) q.0 (named_in s.schema r.class r.entries) q.1)))

pub side_inside : (s : Store) (x y : Node) → IsOneOf y (side_next s x) → IsOneOf y (map node.Number (keys s.records))
side_inside s (node.Live h) y i = absurd i
side_inside s (node.Number n) y i = side_inside_of s (at s.records n) y i
