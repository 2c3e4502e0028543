-- Calls after calls on the objects of a run, and that none of them changes the graph.
use Rattle.std.proofs.Common.{◌≡◌, refl, sym, ap, ◌∙◌, subst, ℕ, ◌+◌, ◌≤◌, Bool, true, false, List, [], ◌++◌, Option, arith}
use Rattle.std.specs.Prelude.{IsTrue, sum_by}
use Rattle.std.proofs.lemmas.List.Elements.{filter_map-append}
use Rattle.std.proofs.lemmas.List.Sums.{sum_by-append}
use Rattle.oc_host.specs.Counts.{Rose}
use Rattle.oc_host.specs.Disk.{Disk, Looks}
use Rattle.oc_host.proofs.Moments.{looks_first, looks_then}
use Rattle.oc_model.specs.declared.reach.Node.{Node}
use Rattle.oc_model.specs.declared.value.Rec.{Rec}
use Rattle.oc_model.specs.Lists.{IsOneOf}
use Rattle.oc_model.proofs.Elements.{in_right}
use Rattle.oc_slots.specs.declared.slot.Side.TheVariants.{Session}
use Rattle.oc_slots.specs.Cached.{Cached}
use Rattle.oc_slots.specs.Stores.{length_of, length_on, session}
use Rattle.oc_live.specs.Memories.{Memory}
use Rattle.oc_store.specs.declared.fault.ReadFault.{ReadFault}
use Rattle.oc_store.specs.declared.fault.ReadFault.TheVariants as read_fault
use Rattle.oc_store.specs.Filed.{class_on, FiledStore, IsRead}
use Rattle.oc_store.specs.Reindexing.{objects_len}
use Rattle.oc_store.specs.Stands.{object_slot}
use Rattle.oc_store.proofs.Fetched.{places_kept, slots_session}
use Rattle.oc_graph.specs.Objects.{extents_in, keeping, sight, sight_of, Caused, Goes, IsDamagedRecord, RunObjects}
use Rattle.oc_graph.specs.Sights.{graph_in, record_of, records_of}

-- ---- the graph stays

-- with other slots kept, over a file that reads the same, the slots are those
pub slots_kept : (v : FiledStore) (kept : Cached) (d e : Disk) → e.bytes ≡ d.bytes → session (keeping kept v).slots e ≡ session v.slots d
slots_kept v kept d e same = slots_session v.slots kept d e same

pub sight_kept : (k : Memory) (v : FiledStore) (kept : Cached) (d e : Disk) → e.bytes ≡ d.bytes → sight k (keeping kept v) e ≡ sight k v d
sight_kept k v kept d e same = λ i. record { live = k.live; schema = (v.session).schema; extents = extents_in v; slot = λ n. slots_kept v kept d e same i (object_slot n) }

graph_kept : (told : Bool) (k : Memory) (v : FiledStore) (kept : Cached) (d e : Disk) → (IsTrue told → Looks d e) → graph_in told (sight k v d) ≡ graph_in told (sight k (keeping kept v) e)
graph_kept true k v kept d e looks = sym (ap (graph_in true) (sight_kept k v kept d e (looks refl).bytes))
graph_kept false k v kept d e looks = refl

pub graph_stays : (told : Bool) (s t : RunObjects) (xs : List Node) → Goes told s t xs → graph_in told (sight_of s) ≡ graph_in told (sight_of t)
graph_stays told s t xs goes =
    graph_kept told s.memory s.store ((t.store).slots).cached s.disk t.disk goes.looks
    ∙ (λ i. graph_in told (sight (sym goes.memory i) (sym goes.store i) t.disk))

pub graph_stays_at_fault : (told : Bool) (s t : RunObjects) (f : ReadFault) (xs : List Node) → Caused told s f t xs → graph_in told (sight_of s) ≡ graph_in told (sight_of t)
graph_stays_at_fault told s t f xs caused = graph_stays told s t xs caused.goes

-- ---- no call

pub goes_nowhere : (told : Bool) (s : RunObjects) → Goes told s s []
goes_nowhere told s = record { store_name = refl; host_name = refl; memory = refl; store = refl; looks = λ _. looks_first s.disk; faults = omega arith; taken = omega arith }

host_apart : read_fault.Memory ≡ read_fault.Host → ⊥
host_apart e = cc

damaged_apart : (space : _) (n : ℕ) → read_fault.Memory ≡ read_fault.Damaged space n → ⊥
damaged_apart space n e = cc

pub memory_lacks : (told : Bool) (s : RunObjects) (f : ReadFault) → f ≡ read_fault.Memory → Caused told s f s []
memory_lacks told s f is = record {
  goes = goes_nowhere told s;
  host = λ e. absurd (host_apart (sym is ∙ e));
  damaged = λ space n e. absurd (damaged_apart space n (sym is ∙ e));
}

-- ---- calls after calls

-- the records of both, how long they are
lengths_kept : (v : FiledStore) (kept : Cached) (ns : List ℕ) → objects_len (keeping kept v).slots ns ≡ objects_len v.slots ns
lengths_kept v kept ns = λ i. sum_by (λ (n : ℕ). length_of (sym (places_kept v.slots kept) i (object_slot n))) ns

lengths_same : (s t : RunObjects) (kept : Cached) → t.memory ≡ s.memory → t.store ≡ keeping kept s.store → (ys : List Node)
    → objects_len (t.store).slots (records_of (t.memory).live ys) ≡ objects_len (s.store).slots (records_of (s.memory).live ys)
lengths_same s t kept memory store ys =
    (λ i. objects_len (store i).slots (records_of (memory i).live ys)) ∙ lengths_kept s.store kept (records_of (s.memory).live ys)

lengths_both : (s : RunObjects) (xs ys : List Node) → objects_len (s.store).slots (records_of (s.memory).live (xs ++ ys))
    ≡ objects_len (s.store).slots (records_of (s.memory).live xs) + objects_len (s.store).slots (records_of (s.memory).live ys)
lengths_both s xs ys =
    ap (objects_len (s.store).slots) (filter_map-append (record_of (s.memory).live) xs ys)
    ∙ sum_by-append (λ (n : ℕ). length_on Session (s.store).slots (object_slot n)) (records_of (s.memory).live xs) (records_of (s.memory).live ys)

pub goes_then : (told : Bool) (s t u : RunObjects) (xs ys : List Node) → Goes told s t xs → Goes told t u ys → Goes told s u (xs ++ ys)
goes_then told s t u xs ys a b = record {
  store_name = b.store_name ∙ a.store_name;
  host_name = b.host_name ∙ a.host_name;
  memory = b.memory ∙ a.memory;
  store = b.store ∙ ap (keeping ((u.store).slots).cached) a.store;
  looks = λ yes. looks_then s.disk t.disk u.disk (a.looks yes) (b.looks yes);
  faults = omega (arith, a.faults, b.faults);
  taken = omega (arith, a.taken, b.taken, lengths_both s xs ys, lengths_same s t ((t.store).slots).cached a.memory a.store ys);
}

rose_later : (a b c : ℕ) → a ≤ b → Rose b c → Rose a c
rose_later a b c le rose = omega (arith, le, rose)

-- the record was damaged before, if it is now
damaged_before : (v w : FiledStore) (kept : Cached) (d e : Disk) (n : ℕ) → w ≡ keeping kept v → e.bytes ≡ d.bytes → IsDamagedRecord w e n → IsDamagedRecord v d n
damaged_before v w kept d e n same bytes damaged =
    let kept_damaged : IsDamagedRecord (keeping kept v) e n = subst (λ (t : FiledStore). IsDamagedRecord t e n) same damaged in
    subst (λ f. (found : Option Rec) → IsRead (v.session).schema (class_on Session v n) (f (object_slot n)) found → ⊥) (slots_kept v kept d e bytes) kept_damaged

pub fails_then : (told : Bool) (s t u : RunObjects) (f : ReadFault) (xs ys : List Node) → Goes told s t xs → Caused told t f u ys → Caused told s f u (xs ++ ys)
fails_then told s t u f xs ys a b = record {
  goes = goes_then told s t u xs ys a b.goes;
  host = λ is. rose_later s.faults t.faults u.faults a.faults (b.host is);
  damaged = λ space n is.
      (let r = b.damaged space n is in
      let here : IsOneOf n (records_of (s.memory).live ys) = subst (λ (k : Memory). IsOneOf n (records_of k.live ys)) a.memory r.1 in (
        r.0,
        subst (IsOneOf n) (sym (filter_map-append (record_of (s.memory).live) xs ys)) (in_right n (records_of (s.memory).live xs) (records_of (s.memory).live ys) here),
        λ yes. damaged_before s.store t.store ((t.store).slots).cached s.disk t.disk n a.store (a.looks yes).bytes (r.2 yes),
      ));
}
