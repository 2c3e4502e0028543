-- How much is read when a store is attached.
use Rattle.std.proofs.Common.{◌≡◌, ◌∙◌, ap, sym, refl, subst, ℕ, ◌+◌, ◌*◌, ◌≤◌, List, [], length, take, drop, Option, Some, None, arith}
use Rattle.std.specs.Prelude.{sum_by, IsSomeAnd, min}
use Rattle.std.proofs.lemmas.List.{length-drop, length-take-le}
use Rattle.oc_host.specs.Disk.{Disk}
use Rattle.oc_layout.specs.declared.cells.Cell.{Cell}
use Rattle.oc_layout.specs.Layout.{unit_of}
use Rattle.oc_pages.specs.Pages.{pointer_of}
use Rattle.oc_catalog.specs.declared.catalog.Catalog.{Catalog}
use Rattle.oc_catalog.specs.declared.catalog.ListEntry.{ListEntry}
use Rattle.oc_catalog.specs.Catalogs.{SpellsCatalog}
use Rattle.oc_slots.specs.declared.slot.Side.TheVariants.{Committed}
use Rattle.oc_slots.specs.declared.slot.SlotId.{SlotId}
use Rattle.oc_slots.specs.Maps.{SlotMap, content}
use Rattle.oc_slots.specs.Stores.{Slots, committed, committed_place, length_of, length_on, Agrees}
use Rattle.oc_slots.proofs.Things.{pointed}
use Rattle.oc_store.specs.Filed.{segments_in, slot_len}
use Rattle.oc_store.specs.Listed.{lists_len}
use Rattle.oc_store.specs.Lists.{system_slot}
use Rattle.std.specs.Option.{option_map_or}

module _ (s : Slots) (d : Disk) (agrees : Agrees s d) where
  lies : (id : SlotId) (c : Cell) → committed_place s id ≡ Some c → c.at * unit_of s.header + c.len ≤ length d.bytes
  lies id c e = pointed (λ x. x.at * unit_of s.header + x.len ≤ length d.bytes) s.pages (λ k x lt. (agrees.holds.inside k x lt).inside) id.space id.number c e

  by_place : (o : Option Cell) → ((c : Cell) → o ≡ Some c → c.at * unit_of s.header + c.len ≤ length d.bytes) → length_of o ≡ option_map_or length (content (unit_of s.header) d.bytes o) 0
  by_place None h = refl
  by_place (Some c) h = sym (length-take-le c.len (drop (c.at * unit_of s.header) d.bytes) (omega (arith, h c refl, length-drop (c.at * unit_of s.header) d.bytes)))

  -- the slot's length is that of its bytes
  pub len_is : (id : SlotId) → length_on Committed s id ≡ slot_len (committed s d) id
  len_is id = by_place (committed_place s id) (lies id)

  pub lists_len_is : (lists : List ListEntry) → lists_len s lists ≡ segments_in (committed s d) lists
  lists_len_is lists = λ i. sum_by (λ (l : ListEntry). sum_by (λ n. len_is (system_slot n) i) l.segments) lists

  module _ (m : SlotMap) (same : committed s d ≡ m) (before base mid after : ℕ) (so_far : mid ≤ before + base) where
    -- with a catalog
    pub taken_all : (c : Catalog) → IsSomeAnd (m (system_slot 1)) (SpellsCatalog c) → ((e : Catalog) → IsSomeAnd (committed s d (system_slot 1)) (SpellsCatalog e) → after ≤ mid + length_on Committed s (system_slot 1) + lists_len s e.lists)
        → after ≤ before + base + (slot_len m (system_slot 1) + segments_in m c.lists)
    taken_all c there more =
        let bound = more c (subst (λ (x : SlotMap). IsSomeAnd (x (system_slot 1)) (SpellsCatalog c)) (sym same) there) in
        let one : length_on Committed s (system_slot 1) ≡ slot_len m (system_slot 1) = len_is (system_slot 1) ∙ ap (λ (x : SlotMap). slot_len x (system_slot 1)) same in
        let all : lists_len s c.lists ≡ segments_in m c.lists = lists_len_is c.lists ∙ ap (λ (x : SlotMap). segments_in x c.lists) same in
        omega (arith, so_far, bound, one, all)

    -- without one
    pub taken_one : ((e : Catalog) → IsSomeAnd (m (system_slot 1)) (SpellsCatalog e) → ⊥) → (((e : Catalog) → IsSomeAnd (committed s d (system_slot 1)) (SpellsCatalog e) → ⊥) → after ≤ mid + length_on Committed s (system_slot 1))
        → after ≤ before + base + slot_len m (system_slot 1)
    taken_one none more =
        let bound = more (λ e there. none e (subst (λ (x : SlotMap). IsSomeAnd (x (system_slot 1)) (SpellsCatalog e)) same there)) in
        let one : length_on Committed s (system_slot 1) ≡ slot_len m (system_slot 1) = len_is (system_slot 1) ∙ ap (λ (x : SlotMap). slot_len x (system_slot 1)) same in
        omega (arith, so_far, bound, one)

pub no_slot_len : (s : Slots) (id : SlotId) → s.pages ≡ [] → length_on Committed s id ≡ 0
no_slot_len s id e = ap (λ ps. length_of (pointer_of ps id.space id.number)) e

pub no_catalog : (s : Slots) (d : Disk) → s.pages ≡ [] → (c : Catalog) → IsSomeAnd (committed s d (system_slot 1)) (SpellsCatalog c) → ⊥
no_catalog s d e c h = subst (λ ps. IsSomeAnd (content (unit_of s.header) d.bytes (pointer_of ps (system_slot 1).space (system_slot 1).number)) (SpellsCatalog c)) e h

pub taken_new : (s : Slots) (d : Disk) → s.pages ≡ [] → (before mid after : ℕ) → mid ≤ before + 128 → (((e : Catalog) → IsSomeAnd (committed s d (system_slot 1)) (SpellsCatalog e) → ⊥) → after ≤ mid + length_on Committed s (system_slot 1)) → after ≤ before + 128
taken_new s d e before mid after so_far more = let bound = more (no_catalog s d e) in let one = no_slot_len s (system_slot 1) e in omega (arith, so_far, bound, one)

pub taken_form : (before pages log mid : ℕ) → mid ≤ before + 128 + 1024 * pages + 2 * log → mid ≤ before + (128 + 1024 * pages + 2 * log)
taken_form before pages log mid h = omega (arith, h)
