-- The store in the file once the session is committed, and what a stop leaves.
use Rattle.std.proofs.Common.{◌≡◌, ◌⊎◌, inl, inr, ⊎_elim, ◌∙◌, ap, sym, refl, subst, ℕ, Bool, false, List, [], ◌∷◌, Option, None}
use Rattle.std.specs.Prelude.{unwrap_or}
use Rattle.oc_host.specs.Disk.{Disk, LeavesOnly}
use Rattle.oc_host.proofs.Moments.{weaken}
use Rattle.oc_model.specs.Lists.{IsOneOf}
use Rattle.oc_model.specs.Maps.{at}
use Rattle.oc_model.specs.Schemas.{Schema}
use Rattle.oc_model.specs.Stores.{Store}
use Rattle.oc_chunks.specs.Chunks.{joined}
use Rattle.oc_chunks.specs.Opening.{spare_of}
use Rattle.oc_index.specs.Fields.{FieldList}
use Rattle.oc_index.specs.Indexed.{written_fields, StoreLists}
use Rattle.oc_slots.specs.declared.slot.SlotChange.{SlotChange}
use Rattle.oc_slots.specs.Commits.{BeforeOrAfter}
use Rattle.oc_slots.specs.Forms.{GivesFrom}
use Rattle.oc_slots.specs.Maps.{changed, Same, SlotMap}
use Rattle.oc_slots.specs.Stores.{committed, session, Slots}
use Rattle.oc_slots.specs.Stores as slots
use Rattle.oc_lists.specs.Lists.{HasLists}
use Rattle.oc_store.specs.Committing.{IsLast}
use Rattle.oc_store.specs.Filed.{Agrees, FiledStore, IsFresh, IsStoreOf, Shows}
use Rattle.oc_store.specs.Last.{lists_written}
use Rattle.oc_store.specs.Outlines.{IsOutline}
use Rattle.oc_store.specs.Sides.{Heading}
use Rattle.oc_store.specs.Stands.{Spells, SpellsObject, Stands}
use Rattle.oc_store.specs.Stops.{StandsForEither}
use Rattle.oc_store.proofs.Fresh.{fresh_agrees, fresh_shows, fresh_store}
use Rattle.oc_store.proofs.OneStore.{same_maps}
use Rattle.oc_store.proofs.OutlineSpells.{outline_spells}
use Rattle.oc_store.proofs.Plans.{written_joined}
use Rattle.oc_store.proofs.SystemSlots.{objects_stay, outline_in, system_slots}
use Rattle.oc_store.proofs.Written.{is_marked}

-- ---- the lists have the same entries once they are written

same_entries : (spare : List ℕ) (fs : List (ℕ × FieldList)) (id : ℕ) (i : FieldList) → IsOneOf {X = ℕ × FieldList} (id, i) (written_fields spare fs) → (j : FieldList) × IsOneOf {X = ℕ × FieldList} (id, j) fs × (joined i.chunks ≡ joined j.chunks)
same_entries spare [] id i one = absurd one
same_entries spare (f ∷ fs) id i (inl same) = (f.1, inl (λ k. ((same k).0, f.1)), ap (λ p. joined (p.1).chunks) same ∙ written_joined spare (f.1).chunks)
same_entries spare (f ∷ fs) id i (inr later) = let r = same_entries (spare_of spare (f.1).chunks) fs id i later in (r.0, inr r.1, r.2)

pub has_written : (ns : List ℕ) (l : StoreLists) (s : Store) → HasLists l s → HasLists (lists_written ns l) s
has_written ns l s h = record {
  extents = written_joined ns (l.extents).chunks ∙ h.extents;
  indexes = λ f among i one. let r = same_entries (spare_of ns (l.extents).chunks) l.fields f.id i one in r.2 ∙ h.indexes f among r.0 r.1;
}

-- ---- the file stands for the store that its map spells

stands : (first : ℕ) (image : List ℕ) (m : SlotMap) (s : Store) → GivesFrom first image m → Spells first m s → Stands image s
stands first image m s g spells = record { first = first; from = record { slots = m; gives = g.gives; spells = spells }; is_first = g.is_first }

-- ---- stores as they are made of their parts

-- the store with these parts, where the session may have a schema of its own
abbrev pub store_with : Slots → ℕ → Schema → ℕ → Option Schema → StoreLists → Bool → FiledStore
store_with s next schema now own l b = record { slots = s; committed = record { next = next; schema = schema }; session = record { next = now; schema = unwrap_or own schema }; lists = l; touched = b }

-- where it has none and the next numbers are one, both sides are one
pub both_one : (s : Slots) (h : Heading) (l k : StoreLists) (next : ℕ) (schema : Schema) (now : ℕ) (own : Option Schema) (touched : Bool) → next ≡ h.next → schema ≡ h.schema → now ≡ h.next → own ≡ None → k ≡ l → touched ≡ false → store_with s next schema now own k touched ≡ fresh_store s h l
both_one s h l k next schema now own touched a b c none e f = λ i. record {
  slots = s;
  committed = record { next = a i; schema = b i };
  session = record { next = c i; schema = unwrap_or (none i) (b i) };
  lists = e i;
  touched = f i;
}

-- where the session is committed nothing has changed since
pub settled_fresh : (t : Slots) (h : Heading) (numbers : List ℕ) (l : StoreLists) → t.objects ≡ [] → t.system ≡ [] → IsFresh (fresh_store t h (lists_written numbers l))
settled_fresh t h numbers l objects system = record { untouched = refl; objects = objects; system = system; heading = refl; lists = is_marked numbers l }

-- ---- the session is the store of the file

module _ (v : FiledStore) (d : Disk) (last : List SlotChange) (numbers : List ℕ) (is : IsLast v last numbers) (system : (v.slots).system ≡ []) (agrees : Agrees v d) where
  outline_then : IsOutline ((v.slots).header).first (changed last (session v.slots d)) (v.session).next (v.session).schema (lists_written numbers v.lists)
  outline_then =
      is.outline ((v.slots).header).first (session v.slots d)
      (outline_in ((v.slots).header).first (committed v.slots d) (session v.slots d) (system_slots v.slots d system) (v.committed).next (v.committed).schema _ agrees.outline)

  store_then : (s : Store) → IsStoreOf (session v.slots d) v.session v.lists s → IsStoreOf (changed last (session v.slots d)) v.session (lists_written numbers v.lists) s
  store_then s is_of = record {
    keeps = is_of.keeps;
    objects = λ n. subst (λ o. SpellsObject o (at s.records n)) (sym (objects_stay last is.system (session v.slots d) n)) (is_of.objects n);
    heading = is_of.heading;
    lists = has_written numbers v.lists s is_of.lists;
  }

  spells_then : (s : Store) → IsStoreOf (session v.slots d) v.session v.lists s → Spells ((v.slots).header).first (changed last (session v.slots d)) s
  spells_then s is_of = outline_spells ((v.slots).header).first (changed last (session v.slots d)) v.session (lists_written numbers v.lists) s outline_then (store_then s is_of)

  -- whatever a stop leaves stands for one of the two stores
  pub either_left : (e : Disk) (c s : Store) → Shows v d c s → LeavesOnly d e (BeforeOrAfter v.slots last d) → LeavesOnly d e (StandsForEither c s d)
  either_left e c s shows leaves =
      weaken d e (StandsForEither c s d) (BeforeOrAfter v.slots last d) leaves
      (λ image said b. (b.0, ⊎_elim (λ g. inl (stands _ image _ c g shows.spelled)) (λ g. inr (stands _ image _ s g (spells_then s shows.session))) b.1))

  -- ---- after the commit

  module _ (t : Slots) (e : Disk) (header : (t.header).first ≡ ((v.slots).header).first) (same : Same (committed t e) (changed last (session v.slots d))) where
    abbrev is_map : changed last (session v.slots d) ≡ committed t e
    is_map = sym (same_maps (committed t e) (changed last (session v.slots d)) same)

    outline_now : IsOutline (t.header).first (committed t e) (v.session).next (v.session).schema (lists_written numbers v.lists)
    outline_now =
        subst (λ n. IsOutline n (committed t e) (v.session).next (v.session).schema (lists_written numbers v.lists)) (sym header)
        (subst (λ m. IsOutline ((v.slots).header).first m (v.session).next (v.session).schema (lists_written numbers v.lists)) is_map outline_then)

    pub settled_agrees : slots.Agrees t e → Agrees (fresh_store t v.session (lists_written numbers v.lists)) e
    settled_agrees own = fresh_agrees t e v.session (lists_written numbers v.lists) outline_now (is_marked numbers v.lists) own

    pub settled_shows : t.objects ≡ [] → t.system ≡ [] → (c s : Store) → Shows v d c s → Shows (fresh_store t v.session (lists_written numbers v.lists)) e s s
    settled_shows objects none c s shows =
        fresh_shows t e v.session (lists_written numbers v.lists) outline_now (is_marked numbers v.lists) objects none s
        (subst (λ n. Spells n (committed t e) s) (sym header) (subst (λ m. Spells ((v.slots).header).first m s) is_map (spells_then s shows.session)))
