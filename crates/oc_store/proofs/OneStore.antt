-- A map of slots spells one store at most, and a file stands for one at most.
use Rattle.std.proofs.Common.{◌≡◌, ◌⊎◌, ◌∙◌, inl, inr, ℕ, true, List, [], Option, Some, None, ap, sym, refl, subst}
use Rattle.std.specs.Prelude.{IsSomeAnd}
use Rattle.std.specs.Ordering.{nat_cmp}
use Rattle.std.specs.Cmp.{nat_cmp_total}
use Rattle.std.specs.FinMap.{is_sorted}
use Rattle.std.specs.FinMap.Entries.{same_entries}
use Rattle.std.proofs.lemmas.Map.Lookups.{exact_unsigned}
use Rattle.oc_model.specs.declared.value.Rec.{Rec}
use Rattle.oc_model.specs.Maps.{at}
use Rattle.oc_model.specs.Spelling.{record_bytes, IsSpellable}
use Rattle.oc_model.specs.Stores.{Store, empty_store}
use Rattle.oc_model.proofs.Reaching.{of_true}
use Rattle.oc_model.proofs.Told.{record_told, told_alone}
use Rattle.oc_marshal.specs.Records.{SpellsRecord}
use Rattle.oc_catalog.specs.declared.catalog.Catalog.{Catalog}
use Rattle.oc_catalog.specs.Catalogs.{SpellsCatalog}
use Rattle.oc_catalog.proofs.Drafts.{draft_only}
use Rattle.oc_catalog.proofs.Judged.{catalog_draft, draft_of}
use Rattle.oc_slots.specs.Maps.{SlotMap, Same}
use Rattle.oc_slots.proofs.OneMap.{one_map}
use Rattle.oc_store.specs.Lists.{system_slot}
use Rattle.oc_store.specs.Stands.{object_slot, SpellsObject, HasCatalog, Spells, Stands}

-- the bytes spell one record at most
one_record : (b : List ℕ) (q r : Rec) → SpellsRecord q b → SpellsRecord r b → q ≡ r
one_record b q r p h = told_alone IsSpellable record_bytes record_told q r p.is.spellable h.is.spellable (sym p.bytes ∙ h.bytes)

pub one_object : (o : Option (List ℕ)) (q r : Option Rec) → SpellsObject o q → SpellsObject o r → q ≡ r
one_object None None None p h = refl
one_object None None (Some r) p h = absurd h
one_object None (Some q) r p h = absurd p
one_object (Some b) None r p h = absurd p
one_object (Some b) (Some q) None p h = absurd h
one_object (Some b) (Some q) (Some r) p h = ap Some (one_record b q r p h)

-- the bytes spell one catalog at most
pub one_catalog : (b : List ℕ) (c d : Catalog) → SpellsCatalog c b → SpellsCatalog d b → c ≡ d
one_catalog b c d p q =
    let e = draft_only b (draft_of c) (draft_of d) (catalog_draft c b p) (catalog_draft d b q) in
    λ i. record { next = (e i).next; schema = record { classes = (e i).classes; next_field = (e i).next_field }; lists = (e i).lists }

pub one_catalog_there : (o : Option (List ℕ)) (c d : Catalog) → IsSomeAnd o (SpellsCatalog c) → IsSomeAnd o (SpellsCatalog d) → c ≡ d
one_catalog_there None c d p q = absurd p
one_catalog_there (Some b) c d p q = one_catalog b c d p q

pub none_there : {X : Type 0} (P : X → Type 0) (o : Option X) → o ≡ None → IsSomeAnd o P → ⊥
none_there P None e h = h
none_there P (Some x) e h = cc

module _ (first : ℕ) (m : SlotMap) (s t : Store) (a : Spells first m s) (b : Spells first m t) where
  records_same : s.records ≡ t.records
  records_same =
      same_entries nat_cmp nat_cmp_total exact_unsigned s.records t.records (of_true _ (a.keeps).by_number) (of_true _ (b.keeps).by_number)
      (λ n. one_object (m (object_slot n)) (at s.records n) (at t.records n) (a.objects n) (b.objects n))

  rest_same : HasCatalog m s ⊎ ((m (system_slot 1) ≡ None) × (s ≡ empty_store first)) → HasCatalog m t ⊎ ((m (system_slot 1) ≡ None) × (t ≡ empty_store first)) → s ≡ t
  rest_same (inl p) (inl q) =
      let e = one_catalog_there (m (system_slot 1)) _ _ p.spelled q.spelled in
      λ i. record { schema = (e i).schema; next = (e i).next; records = records_same i }
  rest_same (inl p) (inr q) = absurd (none_there _ (m (system_slot 1)) q.0 p.spelled)
  rest_same (inr p) (inl q) = absurd (none_there _ (m (system_slot 1)) p.0 q.spelled)
  rest_same (inr p) (inr q) = p.1 ∙ sym q.1

  pub one_spelled : s ≡ t
  one_spelled = rest_same a.catalog b.catalog

-- maps with the same slots are one
pub same_maps : (m n : SlotMap) → Same m n → m ≡ n
same_maps m n same = λ i id. same id i

pub one_store : (image : List ℕ) (s t : Store) → Stands image s → Stands image t → s ≡ t
one_store image s t a b =
    let p = a.from in
    let q = b.from in
    let first : a.first ≡ b.first = sym a.is_first ∙ ap (λ h. h.first) ((p.gives).form.header.fields ∙ sym (q.gives).form.header.fields) ∙ b.is_first in
    let maps = same_maps p.slots q.slots (one_map image p.slots q.slots p.gives q.gives) in
    one_spelled b.first q.slots s t (subst (λ m. Spells b.first m s) maps (subst (λ n. Spells n p.slots s) first p.spells)) q.spells
