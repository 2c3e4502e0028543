-- The graph of the objects of a run is that of the state that the run is in.
use Rattle.std.proofs.Common.{◌≡◌, refl, sym, ap, ◌∙◌, ℕ, ◌≤◌, Bool, true, false, cond, ◌&&◌, nat_le, List, [], ◌∷◌, ◌++◌, map, filter, filter_map, Option, Some, None, is_some, is_none, option_map, inl, inr, arith}
use Rattle.std.specs.Prelude.{if◌then◌else◌, IsTrue}
use Rattle.std.proofs.lemmas.Bool.Decides.{nat_tests}
use Rattle.oc_host.specs.Disk.{Disk}
use Rattle.oc_model.specs.declared.reach.Node.{Node}
use Rattle.oc_model.specs.declared.reach.Node.TheVariants as node
use Rattle.oc_model.specs.declared.value.Rec.{Rec}
use Rattle.oc_model.specs.Lists.{IsOneOf}
use Rattle.oc_model.specs.Maps.{at, keys, Map}
use Rattle.oc_model.specs.Nodes.{handle_of, is_awake, is_stored, is_unsaved_node, live_next, named_in, node_class, node_for, node_of, nodes, object_next, record_next, stored_next, view_next}
use Rattle.oc_model.specs.Schemas.{Schema}
use Rattle.oc_model.specs.States.{Live, State}
use Rattle.oc_model.specs.StateRules.{IsState}
use Rattle.oc_index.specs.declared.items.ExtentItem.{ExtentItem}
use Rattle.oc_lists.specs.Lists.{extents_of}
use Rattle.oc_slots.specs.declared.slot.Side.TheVariants.{Session}
use Rattle.oc_slots.specs.Stores.{session}
use Rattle.oc_live.specs.Memories.{memory_of, Memory}
use Rattle.oc_reach.specs.Graphs.{graph_of}
use Rattle.oc_store.specs.Filed.{class_on, FiledStore, IsRead, Shows}
use Rattle.oc_store.specs.Stands.{object_slot}
use Rattle.oc_store.proofs.Fetched.{class_shown, shown_read}
use Rattle.oc_graph.specs.Objects.{extents_in, sight}
use Rattle.oc_graph.specs.Sights.{graph_in, is_held, is_unsaved_in, live_next_in, live_nodes_in, names_in_bytes, next_in, node_class_in, node_in, nodes_in, record_next_in, values_next_in}
use Rattle.oc_graph.specs.States.{NamesLive}
use Rattle.oc_graph.proofs.Reading.{read_names}

-- in a state the values of a live object name live ones
pub states_name_live : (m : State) → IsState m → NamesLive m
states_name_live m is h o there k one = (is.live h o there).references k one

abbrev item : ℕ × Rec → ExtentItem
item e = record { number = e.0; class = (e.1).class }

numbers_are : (records : Map Rec) → map (λ (e : ExtentItem). e.number) (map item records) ≡ keys records
numbers_are [] = refl
numbers_are (e ∷ es) = ap (λ ns. e.0 ∷ ns) (numbers_are es)

-- a filter whose test all pass leaves all
all_kept : (p : ℕ → Bool) (ns : List ℕ) → ((n : ℕ) → IsOneOf n ns → p n ≡ true) → filter p ns ≡ ns
all_kept p [] each = refl
all_kept p (n ∷ ns) each = ap (λ b. cond b (n ∷ filter p ns) (filter p ns)) (each n (inl refl)) ∙ ap (λ l. n ∷ l) (all_kept p ns (λ k one. each k (inr one)))

class_there : (o : Option Rec) → is_some (option_map (λ (r : Rec). r.class) o) ≡ is_some o
class_there None = refl
class_there (Some r) = refl

-- what a record names, nothing where there is none
abbrev names_of : Schema → Option Rec → List ℕ
names_of s None = []
names_of s (Some r) = named_in s r.class r.entries

no_bytes : (s : Schema) (class : Option ℕ) → names_in_bytes s class None ≡ []
no_bytes s None = refl
no_bytes s (Some c) = refl

names_read : (s : Schema) (class : Option ℕ) (b : Option (List ℕ)) (o : Option Rec) → IsRead s class b o → names_in_bytes s class b ≡ names_of s o
names_read s class b None read = ap (names_in_bytes s class) read ∙ no_bytes s class
names_read s class b (Some r) read = sym (read_names s class b r read)

module _ (v : FiledStore) (d : Disk) (m : State) (shows : Shows v d m.committed m.session) where
  extents_are : extents_in v ≡ extents_of m.session
  extents_are = ((shows.session).lists).extents

  nodes_are : nodes_in m.live (extents_in v) ≡ nodes m
  nodes_are =
      (λ i. nodes_in m.live (extents_are i))
      ∙ ap (λ ns. map node.Live (keys m.live) ++ map node.Number (filter (λ n. is_none (handle_of m n)) ns)) (numbers_are (m.session).records)

  class_is : (x : Node) → node_class_in m.live (extents_in v) x ≡ node_class m x
  class_is (node.Live h) = refl
  class_is (node.Number n) = class_shown v d m.committed m.session shows Session n

  unsaved_is : (x : Node) → is_unsaved_in m.live x ≡ is_unsaved_node m x
  unsaved_is (node.Live h) = refl
  unsaved_is (node.Number n) = refl

  small_stored : (n : ℕ) (o : Option Rec) → at (m.session).records n ≡ o → (nat_le n 4294967295 && is_some o) ≡ is_some o
  small_stored n None e = elim (nat_le n 4294967295) as (λ b. (b && false) ≡ false) [ true ↦ refl | false ↦ refl ]
  small_stored n (Some r) e =
      let keeps = (shows.session).keeps in
      let low = keeps.below_next n r e in
      let few = keeps.small_next in
      let le : n ≤ 4294967295 = omega (arith, low, few) in
      let is : nat_le n 4294967295 ≡ true = grind (arith, nat_tests, le) in
      ap (λ b. b && true) is

  held_is : (n : ℕ) → is_held (extents_in v) n ≡ is_stored m.session n
  held_is n =
      ap (λ b. nat_le n 4294967295 && b) (ap is_some (class_shown v d m.committed m.session shows Session n) ∙ class_there (at (m.session).records n))
      ∙ small_stored n (at (m.session).records n) refl

  node_is : (n : ℕ) → node_in m.live (extents_in v) n ≡ node_of m n
  node_is n = ap (λ b. if b then Some (node_for n (handle_of m n)) else None) (held_is n)

  record_is : (o : Option Rec) → filter_map (node_of m) (names_of (m.session).schema o) ≡ record_next m o
  record_is None = refl
  record_is (Some r) = refl

  stored_is : (o : Option ℕ) → record_next_in (sight (memory_of m) v d) o ≡ stored_next m o
  stored_is None = refl
  stored_is (Some n) =
      ap (filter_map (node_in m.live (extents_in v))) (names_read (v.session).schema (class_on Session v n) (session v.slots d (object_slot n)) (at (m.session).records n) (shown_read v d m.committed m.session shows Session n))
      ∙ (λ i. filter_map (λ k. node_is k i) (names_of (((shows.session).heading).schema i) (at (m.session).records n)))
      ∙ record_is (at (m.session).records n)

  module _ (live : NamesLive m) where
    values_are : (h : ℕ) (o : Live) → at m.live h ≡ Some o → values_next_in m.live (v.session).schema (Some o) ≡ live_next m o
    values_are h o there =
        ap (λ s. live_nodes_in m.live (named_in s o.class o.entries)) ((shows.session).heading).schema
        ∙ ap (map node.Live) (all_kept (λ k. is_some (at m.live k)) (named_in (m.session).schema o.class o.entries) (live h o there))

    live_is : (h : ℕ) (o : Option Live) → at m.live h ≡ o → live_next_in (sight (memory_of m) v d) o ≡ object_next is_awake m o
    live_is h None there = refl
    live_is h (Some o) there =
        (λ i. if is_awake o then values_are h o there i else stored_is o.number i)

    next_is : (x : Node) → next_in (sight (memory_of m) v d) x ≡ view_next m x
    next_is (node.Live h) = live_is h (at m.live h) refl
    next_is (node.Number n) = stored_is (Some n)

    graph_is : graph_in true (sight (memory_of m) v d) ≡ graph_of m (view_next m)
    graph_is = λ i. record { nodes = nodes_are i; class = λ x. class_is x i; unsaved = λ x. unsaved_is x i; next = λ x. next_is x i }

pub graph_is_the_states : (told : Bool) (k : Memory) (v : FiledStore) (d : Disk) (m : State) → IsTrue told → Shows v d m.committed m.session → k ≡ memory_of m → NamesLive m
    → graph_in told (sight k v d) ≡ graph_of m (view_next m)
graph_is_the_states told k v d m is_told shows memory live =
    (λ i. graph_in (is_told i) (sight (memory i) v d)) ∙ graph_is v d m shows live
