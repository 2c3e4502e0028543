-- What the nodes of a graph name are nodes.
use Rattle.std.proofs.Common.{◌≡◌, refl, sym, ap, ◌∙◌, subst, ℕ, Bool, true, false, cond, nat_le, List, [], ◌∷◌, map, filter, filter_map, find, Option, Some, None, is_some, is_none, option_map, inl, inr, nat_cmp, true≢false}
use Rattle.std.specs.Prelude.{if◌then◌else◌}
use Rattle.std.specs.List.{cons_option}
use Rattle.std.specs.Ordering.{is_eq}
use Rattle.std.specs.Cmp.{nat_cmp_total, tied_itself}
use Rattle.std.proofs.lemmas.Bool.{and_parts}
use Rattle.std.proofs.lemmas.Map.Lookups.{exact_unsigned}
use Rattle.oc_model.specs.declared.reach.Node.{Node}
use Rattle.oc_model.specs.declared.reach.Node.TheVariants as node
use Rattle.oc_model.specs.Lists.{IsOneOf}
use Rattle.oc_model.specs.Maps.{Map, at, keys}
use Rattle.oc_model.specs.Nodes.{is_awake, is_number, named_in, node_for}
use Rattle.oc_model.specs.States.{Live}
use Rattle.oc_model.proofs.Elements.{from_filter, from_map, in_left, in_right, to_filter, to_map}
use Rattle.oc_model.proofs.Reaching.{is_equal}
use Rattle.oc_index.specs.declared.items.ExtentItem.{ExtentItem}
use Rattle.oc_index.specs.Ranges.{is_numbered}
use Rattle.oc_lists.specs.Lists.{class_in}
use Rattle.oc_live.specs.Memories.{handle_in}
use Rattle.oc_reach.specs.Graphs.{IsClosed}
use Rattle.oc_graph.specs.Sights.{Sight, graph_in, is_held, live_next_in, live_nodes_in, names_in_bytes, next_in, node_in, nodes_in, numbers_in, record_next_in, values_next_in}

-- ---- lists and maps

-- what a `filter_map` gives comes from an element
pub from_filter_map : {X Y : Type 0} (f : X → Option Y) (y : Y) (xs : List X) → IsOneOf y (filter_map f xs) → (x : X) × IsOneOf x xs × (f x ≡ Some y)
from_filter_map f y [] h = absurd h
from_filter_map f y (x ∷ xs) h =
    (elim (f x) as (λ o. f x ≡ o → IsOneOf y (cons_option o (filter_map f xs)) → (z : _) × IsOneOf z (x ∷ xs) × (f z ≡ Some y)) [
      | None ↦ λ e h. let r = from_filter_map f y xs h in (r.0, inr r.1, r.2)
      | Some z ↦ λ e h. elim h [ inl q ↦ (x, inl refl, e ∙ ap Some (sym q)) | inr t ↦ let r = from_filter_map f y xs t in (r.0, inr r.1, r.2) ]
    ]) refl h

pub none_some : {X : Type 0} (x : X) → None ≡ Some x → ⊥
none_some x e = cc

-- the handle that is found is one of the handles
pub found_key : (n h : ℕ) (live : Map Live) → handle_in live n ≡ Some h → IsOneOf h (keys live)
found_key n h [] e = absurd (none_some h e)
found_key n h (o ∷ live) e =
    (elim (is_number n o.1.number) as (λ b. option_map (λ e. e.0) (cond b (Some o) (find (λ e. is_number n e.1.number) live)) ≡ Some h → IsOneOf h (o.0 ∷ keys live)) [
      | true ↦ λ e. inl (let q : o.0 ≡ h = cc in sym q)
      | false ↦ λ e. inr (found_key n h live e)
    ]) e

pub itself : (n : ℕ) → is_eq (nat_cmp n n) ≡ true
itself n = ap is_eq (tied_itself nat_cmp_total n)

-- a key that the map has is one of its keys
pub at_key : {X : Type 0} (m : Map X) (k : ℕ) → is_some (at m k) ≡ true → IsOneOf k (keys m)
at_key [] k h = absurd (true≢false (sym h))
at_key (e ∷ m) k h =
    (elim (is_eq (nat_cmp k e.0)) as (λ b. is_eq (nat_cmp k e.0) ≡ b → is_some (cond b (Some e.1) (at m k)) ≡ true → IsOneOf k (e.0 ∷ keys m)) [
      | true ↦ λ q h. inl (exact_unsigned k e.0 (is_equal _ q))
      | false ↦ λ q h. inr (at_key m k h)
    ]) refl h

-- a key of the map has something there
pub key_there : {X : Type 0} (m : Map X) (k : ℕ) → IsOneOf k (keys m) → is_some (at m k) ≡ true
key_there [] k one = absurd one
key_there (e ∷ m) k one =
    (elim (is_eq (nat_cmp k e.0)) as (λ b. is_eq (nat_cmp k e.0) ≡ b → is_some (cond b (Some e.1) (at m k)) ≡ true) [
      | true ↦ λ _. refl
      | false ↦ λ differs. elim one as (λ _. is_some (at m k) ≡ true) [ inl same ↦ absurd (true≢false (sym (ap (λ j. is_eq (nat_cmp k j)) (sym same) ∙ itself k) ∙ differs)) | inr later ↦ key_there m k later ]
    ]) refl

-- ---- stored objects

-- one that has a class is among them
held_number : (n : ℕ) (es : List ExtentItem) → is_some (class_in es n) ≡ true → IsOneOf n (map (λ (e : ExtentItem). e.number) es)
held_number n [] h = absurd (true≢false (sym h))
held_number n (e ∷ es) h =
    (elim (is_numbered n e) as (λ b. is_numbered n e ≡ b → is_some (option_map (λ (i : ExtentItem). i.class) (cond b (Some e) (find (is_numbered n) es))) ≡ true → IsOneOf n (e.number ∷ map (λ (i : ExtentItem). i.number) es)) [
      | true ↦ λ q _. inl (sym (exact_unsigned e.number n (is_equal _ q)))
      | false ↦ λ _ h. inr (held_number n es h)
    ]) refl h

-- one that is among them has a class
pub number_held : (n : ℕ) (es : List ExtentItem) → IsOneOf n (map (λ (e : ExtentItem). e.number) es) → is_some (class_in es n) ≡ true
number_held n [] one = absurd one
number_held n (e ∷ es) one =
    (elim (is_numbered n e) as (λ b. is_numbered n e ≡ b → is_some (option_map (λ (i : ExtentItem). i.class) (cond b (Some e) (find (is_numbered n) es))) ≡ true) [
      | true ↦ λ _. refl
      | false ↦ λ differs. elim one as (λ _. is_some (class_in es n) ≡ true) [ inl same ↦ absurd (true≢false (sym (ap (λ j. is_eq (nat_cmp j n)) (sym same) ∙ itself n) ∙ differs)) | inr later ↦ number_held n es later ]
    ]) refl

-- ---- the nodes

module _ (g : Sight) where
  live_node : (h : ℕ) → IsOneOf h (keys g.live) → IsOneOf (node.Live h) (nodes_in g.live g.extents)
  live_node h one = in_left _ _ _ (to_map (λ k. node.Live k) h (keys g.live) one)

  number_node : (n : ℕ) → IsOneOf n (numbers_in g.extents) → IsOneOf (node_for n (handle_in g.live n)) (nodes_in g.live g.extents)
  number_node n one =
      (elim (handle_in g.live n) as (λ o. handle_in g.live n ≡ o → IsOneOf (node_for n o) (nodes_in g.live g.extents)) [
        | Some h ↦ λ e. live_node h (found_key n h g.live e)
        | None ↦ λ e. in_right _ _ _ (to_map (λ k. node.Number k) n _ (to_filter (λ k. is_none (handle_in g.live k)) n (numbers_in g.extents) one (ap is_none e)))
      ]) refl

  pub node_inside : (n : ℕ) (y : Node) → node_in g.live g.extents n ≡ Some y → IsOneOf y (nodes_in g.live g.extents)
  node_inside n y e =
      (elim (is_held g.extents n) as (λ b. is_held g.extents n ≡ b → (if b then Some (node_for n (handle_in g.live n)) else None) ≡ Some y → IsOneOf y (nodes_in g.live g.extents)) [
        | false ↦ λ _ e. absurd (none_some y e)
        | true ↦ λ held e. subst (λ z. IsOneOf z (nodes_in g.live g.extents)) (let q : node_for n (handle_in g.live n) ≡ y = cc in q)
            (number_node n (held_number n g.extents (and_parts (nat_le n 4294967295) (is_some (class_in g.extents n)) held).1))
      ]) refl e

  pub names_inside : (ns : List ℕ) (y : Node) → IsOneOf y (filter_map (node_in g.live g.extents) ns) → IsOneOf y (nodes_in g.live g.extents)
  names_inside ns y one = let q = from_filter_map (node_in g.live g.extents) y ns one in node_inside q.0 y q.2

  record_inside : (o : Option ℕ) (y : Node) → IsOneOf y (record_next_in g o) → IsOneOf y (nodes_in g.live g.extents)
  record_inside None y one = absurd one
  record_inside (Some n) y one = names_inside (names_in_bytes g.schema (class_in g.extents n) (g.slot n)) y one

  pub handles_inside : (hs : List ℕ) (y : Node) → IsOneOf y (live_nodes_in g.live hs) → IsOneOf y (nodes_in g.live g.extents)
  handles_inside hs y one =
      let q = from_map (λ h. node.Live h) y (filter (λ h. is_some (at g.live h)) hs) one in
      let there = from_filter (λ h. is_some (at g.live h)) q.0 hs q.1 in
      subst (λ z. IsOneOf z (nodes_in g.live g.extents)) (sym q.2) (live_node q.0 (at_key g.live q.0 there.1))

  pub values_inside : (o : Option Live) (y : Node) → IsOneOf y (values_next_in g.live g.schema o) → IsOneOf y (nodes_in g.live g.extents)
  values_inside None y one = absurd one
  values_inside (Some o) y one = handles_inside (named_in g.schema o.class o.entries) y one

  live_inside : (o : Option Live) (y : Node) → IsOneOf y (live_next_in g o) → IsOneOf y (nodes_in g.live g.extents)
  live_inside None y one = absurd one
  live_inside (Some o) y one =
      (elim (is_awake o) as (λ b. IsOneOf y (if b then values_next_in g.live g.schema (Some o) else record_next_in g o.number) → IsOneOf y (nodes_in g.live g.extents)) [
        | true ↦ λ one. values_inside (Some o) y one
        | false ↦ λ one. record_inside o.number y one
      ]) one

  next_inside : (x y : Node) → IsOneOf y (next_in g x) → IsOneOf y (nodes_in g.live g.extents)
  next_inside (node.Live h) y one = live_inside (at g.live h) y one
  next_inside (node.Number n) y one = record_inside (Some n) y one

  -- what a node names is a node
  pub graph_closed : (told : Bool) → IsClosed (graph_in told g)
  graph_closed true x y one = next_inside x y one
  graph_closed false x y one = absurd one
