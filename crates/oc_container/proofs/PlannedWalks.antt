-- A plan over the objects of a run is that of the state.
use Rattle.std.proofs.Common.{◌≡◌, ◌≤◌, ℕ, Bool, true, map, filter, is_some, is_none, sym, ap, subst, ◌∙◌, IsTrue}
use Rattle.std.specs.List.{All}
use Rattle.std.specs.Prelude.{IfErr, IsErrOf, OnOk, Result, Ok, Err, List}
use Rattle.oc_host.specs.Counts.{Rose}
use Rattle.oc_host.specs.Disk.{Disk}
use Rattle.oc_model.specs.declared.reach.Node.{Node}
use Rattle.oc_model.specs.declared.reach.Node.TheVariants as node
use Rattle.oc_model.specs.Lists.{IsOneOf}
use Rattle.oc_model.specs.Maps.{at, keys}
use Rattle.oc_model.specs.Nodes.{nodes, view_next}
use Rattle.oc_model.specs.StateWalks.{store_walk}
use Rattle.oc_model.specs.States.{Settings, State}
use Rattle.oc_model.specs.Walks.{best, IsBest, IsLawful, Table, Walk}
use Rattle.oc_model.proofs.Elements.{in_left, to_map}
use Rattle.oc_model.proofs.Reaching.{best_is, best_only}
use Rattle.oc_live.specs.Memories.{handle_in, memory_of, Memory}
use Rattle.oc_reach.specs.Asking.{AskedOnce}
use Rattle.oc_reach.specs.Graphs.{graph_of, store_over}
use Rattle.oc_reach.proofs.GraphLaws.{store_is, store_over_lawful}
use Rattle.oc_graph.specs.Closed.{at_key, graph_closed}
use Rattle.oc_graph.specs.Objects.{extents_in, sight, sight_of, Caused, Goes, IsDamagedRecord, RunObjects}
use Rattle.oc_graph.specs.Sights.{graph_in, nodes_in, numbers_in, records_of}
use Rattle.oc_graph.specs.States.{NamesLive}
use Rattle.oc_graph.proofs.Sights.{live_there}
use Rattle.oc_graph.proofs.States.{graph_is_the_states}
use Rattle.oc_layout.specs.declared.cells.Space.{Space}
use Rattle.oc_layout.specs.declared.cells.Space.TheVariants.{Objects}
use Rattle.oc_store.specs.declared.fault.ReadFault.{ReadFault}
use Rattle.oc_store.specs.declared.fault.ReadFault.TheVariants as read_fault
use Rattle.oc_store.specs.Filed.{FiledStore, Shows}
use Rattle.oc_update.proofs.Rules.{store_nodes}
use Rattle.oc_container.specs.declared.fault.Fault.{Fault}
use Rattle.oc_container.specs.declared.fault.Fault.TheVariants as line_fault
use Rattle.oc_container.specs.Faults.{fault_of}

-- a live object is a node
pub live_node : (k : Memory) (v : FiledStore) (h : ℕ) → is_some (at k.live h) ≡ true → IsOneOf (node.Live h) (nodes_in k.live (extents_in v))
live_node k v h live =
    in_left (node.Live h) (map node.Live (keys k.live)) (map node.Number (filter (λ n. is_none (handle_in k.live n)) (numbers_in (extents_in v))))
    (to_map (λ x. node.Live x) h (keys k.live) (at_key k.live h live))

-- the live nodes of a plan are live
pub all_live : (k : Memory) (v : FiledStore) (t : Table) → All (λ e. IsOneOf e.0 (nodes_in k.live (extents_in v))) t → All (λ e. (h : ℕ) → e.0 ≡ node.Live h → is_some (at k.live h) ≡ true) t
all_live k v t all i d lt = λ h is. live_there k.live (extents_in v) h (subst (λ x. IsOneOf x (nodes_in k.live (extents_in v))) is (all i d lt))

module _ (told : Bool) (k : Memory) (v : FiledStore) (d : Disk) (m : State) (is_told : IsTrue told) (shows : Shows v d m.committed m.session) (memory : k ≡ memory_of m) (live : NamesLive m) where
  -- the walk is that of the state
  walk_is : store_over k.settings (graph_in told (sight k v d)) ≡ store_walk m
  walk_is =
      (λ i. store_over (memory i).settings (graph_is_the_states told k v d m is_told shows memory live i)) ∙ store_is m

  -- what is planned is what the state's walk reaches
  pub planned : (h depth : ℕ) (t : Table) → is_some (at k.live h) ≡ true → depth ≤ 65535 → IsBest (store_over k.settings (graph_in told (sight k v d))) (node.Live h) depth t
      → t ≡ best (store_walk m) (node.Live h) depth
  planned h depth t there small is =
      let w = store_walk m in
      let lawful : IsLawful w = subst IsLawful walk_is (store_over_lawful k.settings (graph_in told (sight k v d)) (graph_closed (sight k v d) told)) in
      let root : IsOneOf (node.Live h) w.nodes = subst (λ (x : Walk). IsOneOf (node.Live h) x.nodes) walk_is (subst (λ ns. IsOneOf (node.Live h) ns) (sym (store_nodes k.settings (graph_in told (sight k v d)))) (live_node k v h there)) in
      best_only (subst (λ x. IsBest x (node.Live h) depth t) walk_is is) (best_is w (node.Live h) depth lawful root small)

-- ---- how a plan went

-- nothing that went well is a fault
no_fault : {X : Type 0} (x : X) (f : ReadFault) → IsErrOf (Ok x) f → ⊥
no_fault x f is = cc

same_fault : {X : Type 0} (f g : ReadFault) → IsErrOf {T = X} (Err f) g → f ≡ g
same_fault f g is = cc

-- Which nodes were asked for by a store from the object, that so the calls on the objects went, and that a fault has its cause.
abbrev pub Went : {X : Type 0} → Result X ReadFault → Bool → Settings → RunObjects → RunObjects → ℕ → ℕ → Type 0
Went r told settings s t h depth =
    (asked : List Node) × AskedOnce (store_over settings (graph_in told (sight_of s))) told (node.Live h) depth asked × Goes told s t asked
    × (IsErrOf r read_fault.Host → Rose s.faults t.faults)
    × ((space : Space) (n : ℕ) → IsErrOf r (read_fault.Damaged space n) → (space ≡ Objects) × IsOneOf n (records_of (s.memory).live asked) × (IsTrue told → IsDamagedRecord s.store s.disk n))

-- So it went whether a plan answers or not.
pub went : {X : Type 0} (r : Result X ReadFault) (told : Bool) (settings : Settings) (s t : RunObjects) (h depth : ℕ)
    → OnOk r ((asked : List Node) × Goes told s t asked × AskedOnce (store_over settings (graph_in told (sight_of s))) told (node.Live h) depth asked)
    → IfErr r (λ f. (asked : List Node) × Caused told s f t asked × AskedOnce (store_over settings (graph_in told (sight_of s))) told (node.Live h) depth asked)
    → Went r told settings s t h depth
went (Ok x) told settings s t h depth ok err = (ok.0, ok.2, ok.1, λ is. absurd (no_fault x _ is), λ space n is. absurd (no_fault x _ is))
went (Err f) told settings s t h depth ok err = (err.0, err.2, (err.1).goes, λ is. (err.1).host (same_fault f _ is), λ space n is. (err.1).damaged space n (same_fault f _ is))

same_error : {X : Type 0} (f g : Fault) → IsErrOf {T = X} (Err f) g → f ≡ g
same_error f g is = cc

host_whole : (space : Space) (n : ℕ) → line_fault.Host ≡ line_fault.Damaged space n → ⊥
host_whole space n is = cc

memory_whole : (space : Space) (n : ℕ) → line_fault.Memory ≡ line_fault.Damaged space n → ⊥
memory_whole space n is = cc

both_damaged : (s t : Space) (m n : ℕ) → line_fault.Damaged s m ≡ line_fault.Damaged t n → read_fault.Damaged s m ≡ read_fault.Damaged t n
both_damaged s t m n same = cc

-- a line's fault of a damaged slot comes of that fault of the store
pub damaged_by : {X : Type 0} (f : ReadFault) (space : Space) (n : ℕ) → IsErrOf {T = X} (Err (fault_of f)) (line_fault.Damaged space n) → f ≡ read_fault.Damaged space n
damaged_by read_fault.Host space n is = absurd (let no : line_fault.Host ≡ line_fault.Damaged space n = same_error _ _ is in host_whole space n no)
damaged_by read_fault.Memory space n is = absurd (let no : line_fault.Memory ≡ line_fault.Damaged space n = same_error _ _ is in memory_whole space n no)
damaged_by (read_fault.Damaged s m) space n is = let same : line_fault.Damaged s m ≡ line_fault.Damaged space n = same_error _ _ is in both_damaged s space m n same
