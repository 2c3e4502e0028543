-- What the system's slots alone decide, and what changes of them leave.
use Rattle.std.proofs.Common.{◌≡◌, ◌⊎◌, inl, inr, ⊎_elim, ◌∙◌, ap, sym, refl, subst, ℕ, nat_eq, Bool, false, cond, ◌&&◌, ◌==◌, List, [], ◌∷◌, ◌++◌}
use Rattle.std.specs.Prelude.{is_some, IsSomeAnd}
use Rattle.std.specs.Map.{lookup}
use Rattle.std.specs.Option.{option_map_or}
use Rattle.std.specs.declared.cmp.Ordering.{Ordering}
use Rattle.oc_host.specs.Disk.{Disk}
use Rattle.oc_layout.specs.Layout.{unit_of}
use Rattle.oc_layout.specs.declared.cells.Space.{Space}
use Rattle.oc_layout.specs.declared.cells.Space.TheVariants.{Objects, System}
use Rattle.oc_model.specs.Schemas.{Schema}
use Rattle.oc_chunks.specs.Ascending.{Each}
use Rattle.oc_chunks.specs.Chunks.{Chunk}
use Rattle.oc_chunks.proofs.Eaches.{each_more}
use Rattle.oc_index.specs.Fields.{FieldList}
use Rattle.oc_index.specs.Indexed.{StoreLists}
use Rattle.oc_index.specs.Items.{extent_cmp, index_cmp}
use Rattle.oc_catalog.specs.Catalogs.{SpellsCatalog}
use Rattle.oc_pages.specs.Pages.{space_number}
use Rattle.oc_slots.specs.declared.slot.SlotChange.{SlotChange}
use Rattle.oc_slots.specs.declared.slot.SlotId.{SlotId}
use Rattle.oc_slots.specs.Maps.{changed, content, has_after, is_same, SlotMap}
use Rattle.oc_slots.specs.Stores.{committed, committed_place, session, session_place, Slots}
use Rattle.oc_lists.specs.Keeping.{extent_suits}
use Rattle.oc_store.specs.Listed.{index_suits}
use Rattle.oc_store.specs.Lists.{system_slot, AreNext, IsKept, SpellsExtents, SpellsIndex}
use Rattle.oc_store.specs.Outlines.{named_lists, IsBare, IsIndex, IsOutline}
use Rattle.oc_store.specs.Stands.{object_slot}

-- ---- an outline is one of all maps with the same slots of the system

module _ {X : Type 0} (Spelled : List X → List ℕ → Type 0) (m n : SlotMap) (same : (k : ℕ) → m (system_slot k) ≡ n (system_slot k)) where
  kept_in : (c : Chunk X) → IsKept Spelled m c → IsKept Spelled n c
  kept_in c k = record { number = k.number; is = k.is; spelled = subst (λ o. IsSomeAnd o (Spelled c.entries)) (same k.number) k.spelled }

  pub are_next_in : (cmp : X → X → Ordering) (suits : X → Bool) (before : List X) (cs : List (Chunk X)) → AreNext Spelled m cmp suits before cs → AreNext Spelled n cmp suits before cs
  are_next_in cmp suits before [] a = tt
  are_next_in cmp suits before (c ∷ cs) a = (record { kept = kept_in c (a.0).kept; suit = (a.0).suit; above = (a.0).above }, are_next_in cmp suits (before ++ c.entries) cs a.1)

module _ (first : ℕ) (m n : SlotMap) (same : (k : ℕ) → m (system_slot k) ≡ n (system_slot k)) (next : ℕ) (s : Schema) (l : StoreLists) where
  index_in : (f : ℕ × FieldList) → IsIndex m s f → IsIndex n s f
  index_in f i = record { base = i.base; sound = are_next_in (SpellsIndex (f.1).base) m n same index_cmp (index_suits s) [] (f.1).chunks i.sound }

  bare_in : IsBare first m next s l → IsBare first n next s l
  bare_in b = record { none = sym (same 1) ∙ b.none; begins = b.begins; schema = b.schema; extents = b.extents; fields = b.fields }

  pub outline_in : IsOutline first m next s l → IsOutline first n next s l
  outline_in o = record {
    catalog = ⊎_elim (λ x. inl (subst (λ b. IsSomeAnd b (SpellsCatalog (record { next = next; schema = s; lists = named_lists l }))) (same 1) x)) (λ b. inr (bare_in b)) o.catalog;
    extents = are_next_in SpellsExtents m n same extent_cmp (extent_suits s) [] (l.extents).chunks o.extents;
    fields = each_more (IsIndex m s) (IsIndex n s) l.fields index_in o.fields;
  }

-- ---- where no slot of the system has changed the session has those of the committed side

pub system_places : (s : Slots) → s.system ≡ [] → (n : ℕ) → session_place s (system_slot n) ≡ committed_place s (system_slot n)
system_places s e n = ap (λ cs. option_map_or (λ o. o) (lookup (nat_eq n) cs) (committed_place s (system_slot n))) e

pub system_slots : (s : Slots) (d : Disk) → s.system ≡ [] → (n : ℕ) → committed s d (system_slot n) ≡ session s d (system_slot n)
system_slots s d e n = ap (content (unit_of s.header) d.bytes) (sym (system_places s e n))

-- ---- changes of the system's slots leave those of objects

no_object : (id : SlotId) (n : ℕ) → id.space ≡ System → is_same id (object_slot n) ≡ false
no_object id n e = ap (λ (space : Space). (space_number space == space_number Objects) && (id.number == n)) e

pub objects_stay : (cs : List SlotChange) → Each (λ c. c.id.space ≡ System) cs → (m : SlotMap) (n : ℕ) → changed cs m (object_slot n) ≡ m (object_slot n)
objects_stay [] a m n = refl
objects_stay (c ∷ cs) a m n = ap (λ b. cond b c.bytes (changed cs m (object_slot n))) (no_object c.id n a.0) ∙ objects_stay cs a.1 m n

pub objects_there : (cs : List SlotChange) → Each (λ c. c.id.space ≡ System) cs → (n : ℕ) (b : Bool) → has_after cs (object_slot n) b ≡ b
objects_there [] a n b = refl
objects_there (c ∷ cs) a n b = ap (λ t. cond t (is_some c.bytes) (has_after cs (object_slot n) b)) (no_object c.id n a.0) ∙ objects_there cs a.1 n b
