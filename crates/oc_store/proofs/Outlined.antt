-- What a catalog leads to, and the objects that have slots.
use Rattle.std.proofs.Common.{◌≡◌, ◌∙◌, ap, sym, refl, subst, ℕ, Bool, true, List, [], ◌∷◌, map, Option, Some, None, nat_cmp}
use Rattle.std.specs.Prelude.{is_some}
use Rattle.oc_host.specs.Disk.{Disk}
use Rattle.oc_layout.specs.declared.cells.Cell.{Cell}
use Rattle.oc_layout.specs.declared.cells.Space.{Space}
use Rattle.oc_store.specs.declared.fault.ReadFault.TheVariants as read_fault
use Rattle.oc_model.specs.Lists.{sorted}
use Rattle.oc_model.specs.Schemas.{Schema}
use Rattle.oc_model.specs.SchemaRules.{keeps_rules}
use Rattle.oc_index.specs.declared.items.ExtentItem.{ExtentItem}
use Rattle.oc_index.specs.Fields.{FieldList}
use Rattle.oc_index.specs.Indexed.{StoreLists}
use Rattle.oc_catalog.specs.declared.catalog.ListEntry.{ListEntry}
use Rattle.oc_catalog.specs.Catalogs.{indexed_ids, list_ids}
use Rattle.oc_layout.specs.Layout.{unit_of}
use Rattle.oc_slots.specs.Maps.{content}
use Rattle.oc_slots.specs.Stores.{Slots, committed, committed_place}
use Rattle.oc_store.specs.Outlines.{has_slot, named, named_lists, HasJust}
use Rattle.oc_store.specs.Stands.{object_slot}
use Rattle.oc_store.proofs.NamedLists.{ids_are}

named_ids : (fs : List (ℕ × FieldList)) → map (λ (l : ListEntry). l.id) (map named fs) ≡ map (λ (f : ℕ × FieldList). f.0) fs
named_ids [] = refl
named_ids (f ∷ fs) = ap (λ l. f.0 ∷ l) (named_ids fs)

-- the ids of the indexes are those of the indexed fields, in order
pub indexes_are : (s : Schema) → keeps_rules s ≡ true → (lists : List ListEntry) (l : StoreLists) → map (λ (k : ListEntry). k.id) lists ≡ list_ids s.classes → named_lists l ≡ lists → map (λ (f : ℕ × FieldList). f.0) l.fields ≡ sorted nat_cmp (indexed_ids s.classes)
indexes_are s rules lists l ids is =
    let both : 0 ∷ map (λ (k : ListEntry). k.id) (map named l.fields) ≡ 0 ∷ sorted nat_cmp (indexed_ids s.classes) = ap (map (λ (k : ListEntry). k.id)) is ∙ ids ∙ ids_are s rules in
    let tails : map (λ (k : ListEntry). k.id) (map named l.fields) ≡ sorted nat_cmp (indexed_ids s.classes) = cc in
    sym (named_ids l.fields) ∙ tails

some_content : (unit : ℕ) (image : List ℕ) (o : Option Cell) → is_some o ≡ is_some (content unit image o)
some_content unit image None = refl
some_content unit image (Some c) = refl

-- a slot is there where its place is
pub slots_there : (s : Slots) (d : Disk) → (λ (n : ℕ). is_some (committed_place s (object_slot n))) ≡ has_slot (committed s d)
slots_there s d = λ i n. some_content (unit_of s.header) d.bytes (committed_place s (object_slot n)) i

-- ---- faults

pub same_damage : (s t : Space) (m n : ℕ) → read_fault.Damaged s m ≡ read_fault.Damaged t n → (s ≡ t) × (m ≡ n)
same_damage s t m n e = (cc, cc)
