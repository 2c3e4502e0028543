-- A store that was just attached is both times the store that its map spells.
use Rattle.std.proofs.Common.{◌≡◌, ◌≢◌, ◌⊎◌, inl, inr, ⊎_elim, ◌∙◌, ap, sym, refl, subst, ℕ, ◌≤◌, Bool, true, false, cond, ◌||◌, nat_eq, List, [], ◌∷◌, length, map, Option, Some, None, option_map, Result, Ok, Err, arith}
use Rattle.std.specs.Prelude.{is_some, IsErrAnd, IsErrOf, IsSomeAnd, find}
use Rattle.std.specs.List.{list_any}
use Rattle.std.specs.Map.{lookup}
use Rattle.std.specs.Option.{option_map_or}
use Rattle.oc_host.specs.Disk.{Disk, IsImage, LeavesOnly, Left, Looks, now}
use Rattle.oc_layout.specs.Layout.{unit_of}
use Rattle.oc_layout.specs.declared.cells.Cell.{Cell}
use Rattle.oc_model.specs.declared.value.Base.{Base}
use Rattle.oc_model.specs.declared.schema.FieldDef.{FieldDef}
use Rattle.oc_model.specs.Lists.{IsOneOf}
use Rattle.oc_model.specs.Maps.{at}
use Rattle.oc_model.specs.Lengths.{indexed_fields}
use Rattle.oc_model.specs.Schemas.{Schema, empty_schema}
use Rattle.oc_model.specs.SchemaRules.{keeps_rules}
use Rattle.oc_model.specs.Stores.{Store, base_of, empty_store}
use Rattle.oc_model.specs.StoreRules.{KeepsStore}
use Rattle.oc_chunks.specs.Ascending.{Each, Pairs}
use Rattle.oc_chunks.specs.Chunks.{joined, numbers, Chunk}
use Rattle.oc_chunks.proofs.Eaches.{each_more}
use Rattle.oc_chunks.proofs.Views.{each_member}
use Rattle.oc_index.specs.declared.items.ExtentItem.{ExtentItem}
use Rattle.oc_index.specs.Fields.{FieldList}
use Rattle.oc_index.specs.Indexed.{undone, StoreLists}
use Rattle.oc_index.specs.Items.{extent_cmp, index_cmp}
use Rattle.oc_index.specs.Ranges.{is_numbered}
use Rattle.oc_catalog.specs.declared.catalog.ListEntry.{ListEntry}
use Rattle.oc_catalog.specs.Catalogs.{SpellsCatalog}
use Rattle.oc_layout.specs.declared.cells.Space.{Space}
use Rattle.oc_layout.specs.declared.cells.Space.TheVariants.{Objects, System}
use Rattle.oc_pages.specs.Pages.{pointer_of}
use Rattle.oc_slots.specs.declared.slot.Making.{Making}
use Rattle.oc_slots.specs.declared.slot.SlotChange.{SlotChange}
use Rattle.oc_slots.specs.declared.slot.SlotId.{SlotId}
use Rattle.oc_slots.specs.Attaching.{made_header, plain_header, with_blocks, IsMade}
use Rattle.oc_slots.specs.Maps.{SlotMap, content}
use Rattle.oc_slots.specs.Planning.{moves_in, moves_where}
use Rattle.oc_store.specs.declared.fault.ReadFault.{ReadFault}
use Rattle.oc_store.specs.declared.fault.ReadFault.TheVariants as read_fault
use Rattle.oc_store.specs.declared.fault.StartFault.{StartFault}
use Rattle.oc_store.specs.declared.fault.StartFault.TheVariants as start_fault
use Rattle.oc_slots.specs.declared.attach_fault.AttachFault.{AttachFault}
use Rattle.oc_slots.specs.declared.attach_fault.AttachFault.TheVariants as attach_fault
use Rattle.oc_store.specs.Faults.{start_fault_of, start_fault_of_slots}
use Rattle.oc_slots.specs.Stores.{Slots, changes_in, committed, committed_place, session, session_place}
use Rattle.oc_slots.specs.Stores as slots
use Rattle.oc_lists.specs.Keeping.{extent_suits, AreKept, StandAsThen}
use Rattle.oc_store.specs.Filed.{Agrees, FiledStore, IsFiled, IsHeading, IsStoreOf, IsUntouched, Shows}
use Rattle.oc_store.specs.Sides.{AreWritten, Heading, IsSide}
use Rattle.oc_store.specs.Listed.{index_suits}
use Rattle.oc_store.specs.Lists.{system_slot, HasList, IsListOf, SpellsExtents, SpellsIndex}
use Rattle.oc_lists.specs.Lists.{bases_in, class_in, entries_of, extents_of, lists_then, HasLists, IsMarked}
use Rattle.oc_store.specs.Outlines.{named, named_lists, HasJust, IsBare, IsIndex, IsOutline}
use Rattle.oc_store.specs.Stands.{object_slot, HasCatalog, Spells, SpellsObject}
use Rattle.oc_store.proofs.FieldLists.{undone_same}
use Rattle.oc_store.proofs.JustThese.{each_one}
use Rattle.oc_store.proofs.NamedLists.{fields_apart}
use Rattle.oc_store.proofs.OneList.{is_list, one_extents, one_index}
use Rattle.oc_store.proofs.OneStore.{none_there, one_catalog_there}

-- ---- one base for each id

pub one_among : {X : Type 0} (P : X → Type 0) (xs : List X) (x : X) → Each P xs → IsOneOf x xs → P x
one_among P [] x a one = absurd one
one_among P (y ∷ ys) x a (inl same) = subst P (sym same) a.0
one_among P (y ∷ ys) x a (inr later) = one_among P ys x a.1 later

abbrev pair_of : FieldDef → ℕ × Base
pair_of f = (f.id, base_of f.kind)

other_id : (id : ℕ) (b : Base) (fs : List FieldDef) → Each (λ (f : FieldDef). id ≢ f.id) fs → IsOneOf {X = ℕ × Base} (id, b) (map pair_of fs) → ⊥
other_id id b [] a one = one
other_id id b (f ∷ fs) a (inl same) = a.0 (ap (λ p. p.0) same)
other_id id b (f ∷ fs) a (inr later) = other_id id b fs a.1 later

pub one_base : (fs : List FieldDef) → Pairs (λ (f : FieldDef) (g : FieldDef). f.id ≢ g.id) fs → (f : FieldDef) (b : Base) → IsOneOf f fs → IsOneOf {X = ℕ × Base} (f.id, b) (map pair_of fs) → b ≡ base_of f.kind
one_base [] p f b one is = absurd one
one_base (g ∷ fs) p f b (inl same) (inl is) = ap (λ q. q.1) is ∙ ap (λ h. base_of h.kind) (sym same)
one_base (g ∷ fs) p f b (inl same) (inr is) = absurd (other_id f.id b fs (subst (λ h. Each (λ (k : FieldDef). h.id ≢ k.id) fs) (sym same) p.0) is)
one_base (g ∷ fs) p f b (inr later) (inl is) = absurd (one_among (λ (k : FieldDef). g.id ≢ k.id) fs f p.0 later (sym (ap (λ q. q.0) is)))
one_base (g ∷ fs) p f b (inr later) (inr is) = one_base fs p.1 f b later is

pub each_both : {X : Type 0} (P Q R : X → Type 0) (xs : List X) → ((x : X) → P x → Q x → R x) → Each P xs → Each Q xs → Each R xs
each_both P Q R [] f a b = tt
each_both P Q R (x ∷ xs) f a b = (f x a.0 b.0, each_both P Q R xs f a.1 b.1)

named_one : (f : ℕ × FieldList) (fs : List (ℕ × FieldList)) → IsOneOf f fs → IsOneOf (named f) (map named fs)
named_one f [] one = absurd one
named_one f (g ∷ fs) (inl same) = inl (ap named same)
named_one f (g ∷ fs) (inr later) = inr (named_one f fs later)

-- ---- the outline is that of the store

-- the next number, the schema and the lists are those of the store
abbrev pub IsOf : ℕ → Schema → StoreLists → Store → Type 0
IsOf next schema l s = IsHeading (record { next = next; schema = schema }) s × HasLists l s

module _ (first : ℕ) (m : SlotMap) (next : ℕ) (schema : Schema) (l : StoreLists) (s : Store) (outline : IsOutline first m next schema l) (spells : Spells first m s) where
  module _ (x : IsSomeAnd (m (system_slot 1)) (SpellsCatalog (record { next = next; schema = schema; lists = named_lists l }))) (h : HasCatalog m s) where
    same : (next ≡ s.next) × (schema ≡ s.schema) × (named_lists l ≡ h.lists)
    same = let e = one_catalog_there (m (system_slot 1)) _ _ x h.spelled in (ap (λ c. c.next) e, ap (λ c. c.schema) e, ap (λ c. c.lists) e)

    each : Each (IsListOf m s) (named_lists l)
    each = subst (Each (IsListOf m s)) (sym same.2) h.each

    base_is : (f : FieldDef) → IsOneOf f (indexed_fields s.schema) → (k : FieldList) → IsOneOf {X = ℕ × Base} (f.id, k.base) (bases_in schema) → k.base ≡ base_of f.kind
    base_is f one k is = one_base (indexed_fields s.schema) (fields_apart s.schema (spells.keeps).schema) f k.base one (subst (λ t. IsOneOf {X = ℕ × Base} (f.id, k.base) (bases_in t)) same.1 is)

    catalogued : IsOf next schema l s
    catalogued = (
      record { next = same.0; schema = same.1 },
      record {
        extents = is_list SpellsExtents one_extents m extent_cmp (extent_suits schema) (l.extents).chunks (extents_of s) outline.extents ((each.0).extents refl);
        indexes = λ f one k is.
            let own = one_among (IsIndex m schema) l.fields (f.id, k) outline.fields is in
            let list = one_among (IsListOf m s) (map named l.fields) (named (f.id, k)) each.1 (named_one (f.id, k) l.fields is) in
            let base = base_is f one k own.base in
            is_list (SpellsIndex k.base) (one_index k.base) m index_cmp (index_suits schema) k.chunks (entries_of s f) own.sound
            (subst (λ b. HasList (SpellsIndex b) m (numbers k.chunks) (entries_of s f)) (sym base) (list.index f one refl));
      },
    )

  bare : IsBare first m next schema l → s ≡ empty_store first → IsOf next schema l s
  bare b e = (
    record { next = b.begins ∙ sym (ap (λ t. t.next) e); schema = b.schema ∙ sym (ap (λ t. t.schema) e) },
    record {
      extents = ap joined b.extents ∙ sym (ap extents_of e);
      indexes = λ f one k is. absurd (subst (IsOneOf (f.id, k)) b.fields is);
    },
  )

  pub outline_of : IsOf next schema l s
  outline_of = by_catalog outline.catalog spells.catalog
    where
      by_catalog : IsSomeAnd (m (system_slot 1)) (SpellsCatalog (record { next = next; schema = schema; lists = named_lists l })) ⊎ IsBare first m next schema l → HasCatalog m s ⊎ ((m (system_slot 1) ≡ None) × (s ≡ empty_store first)) → IsOf next schema l s
      by_catalog (inl x) (inl h) = catalogued x h
      by_catalog (inl x) (inr h) = absurd (none_there _ (m (system_slot 1)) h.0 x)
      by_catalog (inr b) (inl h) = absurd (none_there _ (m (system_slot 1)) b.none h.spelled)
      by_catalog (inr b) (inr h) = bare b h.1

-- ---- a store of which both sides are one

abbrev pub fresh_store : Slots → Heading → StoreLists → FiledStore
fresh_store s h l = record { slots = s; committed = h; session = h; lists = l; touched = false }

pub then_same : (l : StoreLists) → IsMarked l → lists_then l ≡ l
then_same l k = λ i. record { extents = record { chunks = k.extents i; marked = (l.extents).marked }; fields = k.fields i; marked = l.marked }

no_changes : (s : Slots) → s.objects ≡ [] → s.system ≡ [] → (space : Space) → changes_in s space ≡ []
no_changes s objects system Objects = objects
no_changes s objects system System = system

-- where nothing changed, the session has each slot where the committed side has it
pub same_places : (s : Slots) → s.objects ≡ [] → s.system ≡ [] → session_place s ≡ committed_place s
same_places s objects system = λ i id. ap (λ cs. option_map_or (λ x. x) (lookup (nat_eq id.number) cs) (committed_place s id)) (no_changes s objects system id.space) i

pub same_slots : (s : Slots) (d : Disk) → s.objects ≡ [] → s.system ≡ [] → session s d ≡ committed s d
same_slots s d objects system = λ i id. content (unit_of s.header) d.bytes (same_places s objects system i id)

pub found_some : (p : ExtentItem → Bool) (es : List ExtentItem) → is_some (option_map (λ (e : ExtentItem). e.class) (find p es)) ≡ list_any p es
found_some p [] = refl
found_some p (e ∷ es) = elim (p e) as (λ b. is_some (option_map (λ (i : ExtentItem). i.class) (cond b (Some e) (find p es))) ≡ (b || list_any p es)) [ true ↦ refl | false ↦ found_some p es ]

-- ---- lists in which nothing changed

stand_same : {X : Type 0} (marked now : List (Chunk X)) → marked ≡ now → StandAsThen marked now
stand_same marked now e = each_more (λ c. IsOneOf c now) (λ c. (c.changed ≡ true) ⊎ IsOneOf c marked) now (λ c one. inr (subst (IsOneOf c) (sym e) one)) (each_member now)

pub kept_marked : (l : StoreLists) → IsMarked l → AreKept l
kept_marked l k = record {
  extents = stand_same (l.extents).marked (l.extents).chunks k.extents;
  fields = each_more (λ (f : ℕ × FieldList). (f.1).marked ≡ (f.1).chunks) (λ (f : ℕ × FieldList). StandAsThen (f.1).marked (f.1).chunks) l.fields (λ f e. stand_same (f.1).marked (f.1).chunks e) k.each;
  then = each_both (λ (f : ℕ × FieldList). (f.1).marked ≡ (f.1).chunks) (λ f. IsOneOf f l.fields) (λ (f : ℕ × FieldList). ((f.1).marked ≡ []) ⊎ IsOneOf (f.0, undone f.1) l.marked) l.fields
      (λ f e one. inr (subst (IsOneOf (f.0, undone f.1)) (sym k.fields) (subst (λ u. IsOneOf (f.0, u) l.fields) (sym (undone_same f.1 e)) one))) k.each (each_member l.fields);
}

pub fresh_filed : (s : Slots) (h : Heading) (l : StoreLists) → s.objects ≡ [] → s.system ≡ [] → IsSide (committed_place s) h l → AreWritten l → IsMarked l → IsFiled s h h l []
fresh_filed s h l objects system side written marked = record {
  committed = subst (IsSide (committed_place s) h) (sym (then_same l marked)) side;
  session = subst (λ place. IsSide place h l) (sym (same_places s objects system)) side;
  later = omega arith;
  system = system;
  written = subst AreWritten (sym (then_same l marked)) written;
  kept = kept_marked l marked;
  noted = λ n. ap (λ cs. class_in (joined cs) n) marked.extents;
}

module _ (s : Slots) (d : Disk) (h : Heading) (l : StoreLists) (outline : IsOutline (s.header).first (committed s d) h.next h.schema l) (marked : IsMarked l) where
  pub fresh_agrees : slots.Agrees s d → Agrees (fresh_store s h l) d
  fresh_agrees agrees = record { slots = agrees; outline = subst (IsOutline (s.header).first (committed s d) h.next h.schema) (sym (then_same l marked)) outline }

  pub fresh_shows : s.objects ≡ [] → s.system ≡ [] → (t : Store) → Spells (s.header).first (committed s d) t → Shows (fresh_store s h l) d t t
  fresh_shows objects system t spells =
      let o = outline_of (s.header).first (committed s d) h.next h.schema l t outline spells in
      let is : IsStoreOf (committed s d) h l t = record { keeps = spells.keeps; objects = spells.objects; heading = o.0; lists = o.1 } in
      record {
        spelled = spells;
        committed = subst (λ k. IsStoreOf (committed s d) h k t) (sym (then_same l marked)) is;
        session = subst (λ m. IsStoreOf m h l t) (sym (same_slots s d objects system)) is;
      }

-- ---- a session that was never changed

-- it still has nothing of its own where its slots have changed in nothing
pub still_fresh : (v : FiledStore) (t : Slots) → t.objects ≡ (v.slots).objects → t.system ≡ (v.slots).system → IsUntouched v → IsUntouched (record v { slots = t })
still_fresh v t objects system was is =
    let f = was is in
    record { untouched = is; objects = objects ∙ f.objects; system = system ∙ f.system; heading = f.heading; lists = f.lists }

no_move : (s : Slots) (last : List SlotChange) → last ≡ [] → s.objects ≡ [] → s.system ≡ [] → (id : SlotId) → moves_in s last id ≡ false
no_move s last none objects system id = λ i. moves_where (none i) id (is_some (lookup (nat_eq id.number) (no_changes s objects system id.space i))) (session_place s id) (committed_place s id)

-- nothing moves where nothing changed, and nothing is changed last
pub none_moves : (s : Slots) (last : List SlotChange) → last ≡ [] → s.objects ≡ [] → s.system ≡ [] → (id : SlotId) → moves_in s last id ≢ true
none_moves s last none objects system id moved = let clash : false ≡ true = sym (no_move s last none objects system id) ∙ moved in cc

-- ---- stops

-- a look leaves no more
pub then_looks : (a b c : Disk) (P : List ℕ → List ℕ → Type 0) → LeavesOnly a b P → Looks b c → LeavesOnly a c P
then_looks a b c P one looks = record {
  later = omega (arith, one.later, (looks.moments).later);
  each = λ t image said le left. ⊎_elim (λ older. one.each t image said le older) (λ here. one.each t image said le (inr here)) ((looks.moments).each t image said (omega (arith, le, one.later)) left);
}

-- ---- a new container

first_of_block : (b : Option ℕ) (limit first : ℕ) → (with_blocks b (plain_header limit first)).first ≡ first
first_of_block None limit first = refl
first_of_block (Some b) limit first = refl

pub first_made : (m : Making) → (made_header m).first ≡ m.first
first_made m = first_of_block m.block m.limit m.first

no_pages : (s : Slots) (d : Disk) → s.pages ≡ [] → (id : SlotId) → committed s d id ≡ None
no_pages s d e id = ap (λ ps. content (unit_of s.header) d.bytes (pointer_of ps id.space id.number)) e

no_object : (o : Option (List ℕ)) → o ≡ None → SpellsObject o None
no_object None e = tt
no_object (Some b) e = cc

-- a map without slots spells the empty store
pub spells_empty : (first : ℕ) (m : SlotMap) → KeepsStore (empty_store first) → ((id : SlotId) → m id ≡ None) → Spells first m (empty_store first)
spells_empty first m keeps none = record {
  keeps = keeps;
  objects = λ n. no_object (m (object_slot n)) (none (object_slot n));
  catalog = inr (none (system_slot 1), refl);
}

module _ (s : Slots) (d : Disk) (h : Heading) (l : StoreLists) (making : Making) (made : IsMade making s d) (objects : s.objects ≡ []) (system : s.system ≡ []) (marked : IsMarked l) (outline : IsOutline (s.header).first (committed s d) h.next h.schema l) where
  pub made_shows : KeepsStore (empty_store making.first) → Shows (fresh_store s h l) d (empty_store making.first) (empty_store making.first)
  made_shows keeps =
      let first : (s.header).first ≡ making.first = ap (λ k. k.first) made.header ∙ first_made making in
      fresh_shows s d h l outline marked objects system (empty_store making.first)
      (subst (λ k. Spells k (committed s d) (empty_store making.first)) (sym first) (spells_empty making.first (committed s d) keeps (no_pages s d made.pages)))

-- ---- faults

pub start_damaged : (f : ReadFault) (space : Space) (n : ℕ) → start_fault_of f ≡ start_fault.Damaged space n → f ≡ read_fault.Damaged space n
start_damaged read_fault.Host space n e = cc
start_damaged read_fault.Memory space n e = cc
start_damaged (read_fault.Damaged s k) space n e = let a : s ≡ space = cc in let b : k ≡ n = cc in λ i. read_fault.Damaged (a i) (b i)

pub start_no_container : (f : ReadFault) → start_fault_of f ≡ start_fault.NotAContainer → ⊥
start_no_container read_fault.Host e = cc
start_no_container read_fault.Memory e = cc
start_no_container (read_fault.Damaged s k) e = cc

pub given_damaged : {T : Type 0} (r : Result T StartFault) (f : ReadFault) (space : Space) (n : ℕ) → IsErrAnd r (λ e. e ≡ start_fault_of f) → IsErrOf r (start_fault.Damaged space n) → f ≡ read_fault.Damaged space n
given_damaged (Ok x) f space n given is = cc
given_damaged (Err e) f space n given is = let same : e ≡ start_fault.Damaged space n = cc in start_damaged f space n (sym given ∙ same)

pub given_no_container : {T : Type 0} (r : Result T StartFault) (f : ReadFault) → IsErrAnd r (λ e. e ≡ start_fault_of f) → IsErrOf r start_fault.NotAContainer → ⊥
given_no_container (Ok x) f given is = cc
given_no_container (Err e) f given is = let same : e ≡ start_fault.NotAContainer = cc in start_no_container f (sym given ∙ same)

slots_no_container : (f : AttachFault) → start_fault_of_slots f ≡ start_fault.NotAContainer → f ≡ attach_fault.NotAContainer
slots_no_container attach_fault.Host e = cc
slots_no_container attach_fault.Memory e = cc
slots_no_container attach_fault.NotAContainer e = refl

pub given_slots : {T : Type 0} (r : Result T StartFault) (f : AttachFault) → IsErrAnd r (λ e. e ≡ start_fault_of_slots f) → IsErrOf r start_fault.NotAContainer → f ≡ attach_fault.NotAContainer
given_slots (Ok x) f given is = cc
given_slots (Err e) f given is = let same : e ≡ start_fault.NotAContainer = cc in slots_no_container f (sym given ∙ same)

-- a first number is one that a next number may be
pub first_small : (n : ℕ) → n ≤ 2147483646 → n ≤ 2147483647
first_small n h = omega arith
