-- The store once a call on its slots has changed nothing.
use Rattle.std.proofs.Common.{◌≡◌, ◌⊎◌, inl, inr, ◌∙◌, ap, sym, subst, ℕ, nat_eq, Bool, Err}
use Rattle.std.specs.Prelude.{IsErrOf}
use Rattle.std.specs.Map.{lookup}
use Rattle.std.specs.Option.{option_map_or}
use Rattle.oc_host.specs.Disk.{Disk}
use Rattle.oc_layout.specs.declared.cells.Space.{Space}
use Rattle.oc_layout.specs.declared.cells.Space.TheVariants.{Objects, System}
use Rattle.oc_index.specs.Indexed.{StoreLists}
use Rattle.oc_pages.specs.Pages.{pointer_of}
use Rattle.oc_slots.specs.declared.fault.SpaceFault.{SpaceFault}
use Rattle.oc_slots.specs.declared.fault.SpaceFault.TheVariants as space_fault
use Rattle.oc_slots.specs.Held.{map_of}
use Rattle.oc_slots.specs.Stores.{changes_in, committed_place, session_place, IsUnchanged, Slots}
use Rattle.oc_slots.specs.Stores as slots
use Rattle.oc_lists.specs.Keeping.{Noted}
use Rattle.oc_lists.specs.Lists.{lists_then}
use Rattle.oc_store.specs.declared.fault.ChangeFault.TheVariants as change_fault
use Rattle.oc_store.specs.Changed.{AreSameSlots}
use Rattle.oc_store.specs.Filed.{Agrees, IsFiled}
use Rattle.oc_store.specs.Outlines.{IsOutline}
use Rattle.oc_store.specs.Sides.{Heading, IsSide}

module _ (s t : Slots) (same : IsUnchanged s t) where
  changes_same : (space : Space) → changes_in s space ≡ changes_in t space
  changes_same Objects = sym same.objects
  changes_same System = sym same.system

  committed_same : committed_place s ≡ committed_place t
  committed_same = λ i id. pointer_of (sym same.pages i) id.space id.number

  session_same : session_place s ≡ session_place t
  session_same = λ i id. option_map_or (λ o. o) (lookup (nat_eq id.number) (changes_same id.space i)) (committed_same i id)

  pub unchanged_slots : AreSameSlots s t
  unchanged_slots = record { header = same.header; pages = same.pages; objects = same.objects; system = same.system; room = same.room; len = same.len }

  pub unchanged_filed : (then now : Heading) (l : StoreLists) (classes : Noted) → IsFiled s then now l classes → IsFiled t then now l classes
  unchanged_filed then now l classes filed = record {
    committed = subst (λ place. IsSide place then (lists_then l)) committed_same filed.committed;
    session = subst (λ place. IsSide place now l) session_same filed.session;
    later = filed.later;
    system = same.system ∙ filed.system;
    written = filed.written;
    kept = filed.kept;
    noted = filed.noted;
  }

  -- the slots with their room as it was
  abbrev in_room : Slots
  in_room = record t { room = s.room }

  is_in_room : s ≡ in_room
  is_in_room = λ i. record {
    header = sym same.header i;
    pages = sym same.pages i;
    objects = sym same.objects i;
    system = sym same.system i;
    room = s.room;
    len = sym same.len i;
    cached = sym same.cached i;
  }

  pub unchanged_agrees : (d : Disk) (then now : Heading) (l : StoreLists) (b : Bool) → Agrees (record { slots = s; committed = then; session = now; lists = l; touched = b }) d → Agrees (record { slots = t; committed = then; session = now; lists = l; touched = b }) d
  unchanged_agrees d then now l b agrees =
      let own : slots.Agrees in_room d = subst (λ x. slots.Agrees x d) is_in_room agrees.slots in
      record {
        slots = record { holds = own.holds; len = own.len; fresh = own.fresh; cached = own.cached };
        outline = subst (λ (x : Slots). IsOutline (x.header).first (map_of x.header x.pages d.bytes) then.next then.schema (lists_then l)) is_in_room agrees.outline;
      }

-- ---- faults after which nothing has changed

pub memory_keeps : {T A : Type 0} (f : SpaceFault) → f ≡ space_fault.Memory → IsErrOf {T = T} (Err f) space_fault.Host ⊎ A → A
memory_keeps f is (inl host) = absurd cc
memory_keeps f is (inr kept) = kept

pub full_keeps : {T A : Type 0} (f : SpaceFault) (need len limit : ℕ) → f ≡ space_fault.Full need len limit → IsErrOf {T = T} (Err f) space_fault.Host ⊎ A → A
full_keeps f need len limit is (inl host) = absurd cc
full_keeps f need len limit is (inr kept) = kept

pub same_full : {T U : Type 0} (f : SpaceFault) (n l m need len limit : ℕ) → f ≡ space_fault.Full n l m → IsErrOf {T = U} (Err (change_fault.Full n l m)) (change_fault.Full need len limit) → IsErrOf {T = T} (Err f) (space_fault.Full need len limit)
same_full f n l m need len limit is full =
    let a : n ≡ need = cc in
    let b : l ≡ len = cc in
    let c : m ≡ limit = cc in
    ap Err (is ∙ (λ i. space_fault.Full (a i) (b i) (c i)))
