-- What is known of a node, and where stands what it names.
use Rattle.std.proofs.Common.{◌≡◌, refl, sym, ap, ◌∙◌, subst, ℕ, true, false, ◌||◌, List, map, filter, Option, Some, None, is_some, is_none, inl, inr, true≢false}
use Rattle.std.specs.Prelude.{if◌then◌else◌}
use Rattle.oc_model.specs.declared.reach.Node.{Node}
use Rattle.oc_model.specs.declared.reach.Node.TheVariants as node
use Rattle.oc_model.specs.Lists.{IsOneOf}
use Rattle.oc_model.specs.Maps.{Map, at, keys}
use Rattle.oc_model.specs.Nodes.{is_awake}
use Rattle.oc_model.specs.States.{Live}
use Rattle.oc_model.proofs.Elements.{from_filter, from_map, in_append}
use Rattle.oc_index.specs.declared.items.ExtentItem.{ExtentItem}
use Rattle.oc_lists.specs.Lists.{class_in}
use Rattle.oc_live.specs.Memories.{handle_in}
use Rattle.oc_graph.specs.Sights.{Sight, live_next_in, next_in, nodes_in, numbers_in, record_next_in, record_of, record_of_live, values_at, values_next_in}
use Rattle.oc_graph.specs.Closed.{key_there, none_some, number_held, values_inside}

module _ (live : Map Live) (extents : List ExtentItem) where
  -- ---- what is known of a node

  live_apart : (h n : ℕ) → node.Live h ≡ node.Number n → ⊥
  live_apart h n e = cc

  same_handle : (h k : ℕ) → node.Live h ≡ node.Live k → h ≡ k
  same_handle h k e = cc

  same_number : (n k : ℕ) → node.Number n ≡ node.Number k → n ≡ k
  same_number n k e = cc

  -- the object of a live node is there
  pub live_there : (h : ℕ) → IsOneOf (node.Live h) (nodes_in live extents) → is_some (at live h) ≡ true
  live_there h one =
      elim (in_append _ (map node.Live (keys live)) (map node.Number (filter (λ n. is_none (handle_in live n)) (numbers_in extents))) one) as (λ _. is_some (at live h) ≡ true) [
        | inl here ↦ let q = from_map (λ k. node.Live k) _ (keys live) here in key_there live h (subst (λ k. IsOneOf k (keys live)) (sym (same_handle h q.0 q.2)) q.1)
        | inr there ↦ let q = from_map (λ n. node.Number n) _ _ there in absurd (live_apart h q.0 q.2)
      ]

  -- and so is the stored object of the node of a number
  pub number_there : (n : ℕ) → IsOneOf (node.Number n) (nodes_in live extents) → is_some (class_in extents n) ≡ true
  number_there n one =
      elim (in_append _ (map node.Live (keys live)) (map node.Number (filter (λ k. is_none (handle_in live k)) (numbers_in extents))) one) as (λ _. is_some (class_in extents n) ≡ true) [
        | inl here ↦ let q = from_map (λ k. node.Live k) _ (keys live) here in absurd (live_apart q.0 n (sym q.2))
        | inr there ↦
            let q = from_map (λ k. node.Number k) _ _ there in
            let f = from_filter (λ k. is_none (handle_in live k)) q.0 (numbers_in extents) q.1 in
            number_held n extents (subst (λ k. IsOneOf k (numbers_in extents)) (sym (same_number n q.0 q.2)) f.0)
      ]

module _ (g : Sight) where
  -- ---- what a node names, by where that stands

  some_same : (n k : ℕ) → Some n ≡ Some k → n ≡ k
  some_same n k e = cc

  live_read : (o : Option Live) (n : ℕ) → record_of_live o ≡ Some n → live_next_in g o ≡ record_next_in g (Some n)
  live_read None n e = absurd (none_some n e)
  live_read (Some o) n e =
      (elim (is_awake o) as (λ b. (if b then None else o.number) ≡ Some n → (if b then values_next_in g.live g.schema (Some o) else record_next_in g o.number) ≡ record_next_in g (Some n)) [
        | true ↦ λ e. absurd (none_some n e)
        | false ↦ λ e. ap (record_next_in g) e
      ]) e

  -- by its record, where one is read
  pub next_read : (x : Node) (n : ℕ) → record_of g.live x ≡ Some n → next_in g x ≡ record_next_in g (Some n)
  next_read (node.Live h) n e = live_read (at g.live h) n e
  next_read (node.Number k) n e = ap (λ (j : ℕ). record_next_in g (Some j)) (some_same k n e)

  awake_unsaved : (o : Live) → is_awake o ≡ false → o.number ≡ None → ⊥
  awake_unsaved o asleep unsaved =
      (elim o.active as (λ b. (b || is_none o.number) ≡ false → ⊥) [
        | true ↦ λ e. true≢false e
        | false ↦ λ e. true≢false (sym (ap is_none unsaved) ∙ e)
      ]) asleep

  live_unread : (o : Option Live) → record_of_live o ≡ None → live_next_in g o ≡ values_next_in g.live g.schema o
  live_unread None e = refl
  live_unread (Some o) e =
      (elim (is_awake o) as (λ b. is_awake o ≡ b → (if b then None else o.number) ≡ None → (if b then values_next_in g.live g.schema (Some o) else record_next_in g o.number) ≡ values_next_in g.live g.schema (Some o)) [
        | true ↦ λ _ _. refl
        | false ↦ λ asleep unsaved. absurd (awake_unsaved o asleep unsaved)
      ]) refl e

  -- else by its values
  pub next_unread : (x : Node) → record_of g.live x ≡ None → next_in g x ≡ values_at g.live g.schema x
  next_unread (node.Live h) e = live_unread (at g.live h) e
  next_unread (node.Number n) e = absurd (none_some n (sym e))

  pub at_inside : (x y : Node) → IsOneOf y (values_at g.live g.schema x) → IsOneOf y (nodes_in g.live g.extents)
  at_inside (node.Live h) y one = values_inside g (at g.live h) y one
  at_inside (node.Number n) y one = absurd one
