-- A draft whose classes and lists keep the rules is a catalog, and each catalog is such a draft.
use Rattle.std.proofs.Common.{◌≡◌, ◌∙◌, ap, sym, refl, subst, true, false, true≢false, ℕ, ◌^◌, Bool, nat_lt, nat_le, ◌&&◌, IsTrue, List, [], ◌∷◌, ◌++◌, length, map, arith, Some, None}
use Rattle.std.specs.Prelude.{flat_map, if◌then◌else◌}
use Rattle.std.specs.List.{list_all}
use Rattle.std.specs.Int.{w16, w32, to_be_bytes}
use Rattle.std.specs.Cmp.Lexicographic.{same_text, nat_list_eq_equiv}
use Rattle.std.proofs.lemmas.Bool.{and_parts, and_from, leb-true, le-leb, lt-ltb}
use Rattle.std.proofs.lemmas.List.{length-map}
use Rattle.std.proofs.lemmas.List.Folds.{flat_map-map, list_all-append}
use Rattle.oc_model.specs.declared.schema.FieldDef.{FieldDef}
use Rattle.oc_model.specs.declared.schema.ClassDef.{ClassDef}
use Rattle.oc_model.specs.Maps.{Text, same}
use Rattle.oc_model.specs.Schemas.{Schema}
use Rattle.oc_model.specs.SchemaRules.{are_apart, is_name, keeps_rules}
use Rattle.oc_model.specs.Spelling.{catalog_bytes, class_bytes, counted, is_word, list_bytes}
use Rattle.oc_model.proofs.CatalogTold.{classes_small}
use Rattle.oc_model.proofs.Elements.{weaker}
use Rattle.oc_model.proofs.Rules.{rules_kept}
use Rattle.oc_model.proofs.Told.{all_both}
use Rattle.oc_marshal.specs.Places.{is_short}
use Rattle.oc_schema.specs.Drafts.{schema_of}
use Rattle.oc_catalog.specs.declared.catalog.Catalog.{Catalog}
use Rattle.oc_catalog.specs.declared.catalog.ListEntry.{ListEntry}
use Rattle.oc_catalog.specs.declared.reading.Draft.{Draft}
use Rattle.oc_catalog.specs.Catalogs.{list_ids, lists_keep, segments_of, AreLists, SpellsCatalog}
use Rattle.oc_catalog.specs.Drafts.{are_few, are_many, draft_bytes, head_bytes, is_class, is_entry, is_head, is_short_name, list_of, SpellsDraft}

-- ---- what the rules of a schema say of its bytes

name_short : (t : Text) → is_name t ≡ true → is_short_name t ≡ true
name_short t h =
    let a = and_parts _ _ h in
    let b = and_parts _ _ a.0 in
    let few = leb-true (length t) 64 b.1 in
    le-leb (length t) 255 (omega (arith, few))

own_fields : (p q : FieldDef → Bool) → ((f : FieldDef) → p f ≡ true → q f ≡ true) → (cs : List ClassDef) → list_all p (flat_map (λ (c : ClassDef). c.fields) cs) ≡ true
    → list_all (λ (c : ClassDef). list_all q c.fields) cs ≡ true
own_fields p q each [] h = refl
own_fields p q each (c ∷ cs) h =
    let r = and_parts _ _ (sym (list_all-append p c.fields (flat_map (λ (d : ClassDef). d.fields) cs)) ∙ h) in
    and_from _ _ (weaker p q each c.fields r.0) (own_fields p q each cs r.1)

abbrev has_words : ClassDef → Bool
has_words c = is_word c.parent && (nat_lt (length c.fields) (2 ^ 16) && list_all (λ (f : FieldDef). is_word f.id) c.fields)

abbrev has_short_names : ClassDef → Bool
has_short_names c = is_short_name c.name && list_all (λ (f : FieldDef). is_short_name f.name) c.fields

class_is : (c : ClassDef) → (has_words c && has_short_names c) ≡ true → is_class c ≡ true
class_is c h =
    let both = and_parts (has_words c) (has_short_names c) h in
    let words = and_parts (is_word c.parent) _ both.0 in
    let few = and_parts (is_short (length c.fields)) _ words.1 in
    let names = and_parts (is_short_name c.name) _ both.1 in
    and_from (is_word c.parent) _ words.0
    (and_from (is_short_name c.name) _ names.0
    (and_from (is_short (length c.fields)) _ few.0 (all_both (λ (f : FieldDef). is_word f.id) (λ (f : FieldDef). is_short_name f.name) c.fields few.1 names.1)))

pub classes_are : (s : Schema) → keeps_rules s ≡ true → IsTrue (are_few is_class s.classes)
classes_are s h =
    let small = classes_small s h in
    let names = and_parts (list_all (λ (c : ClassDef). is_name c.name) s.classes) _ (rules_kept s h).names in
    let class_names = weaker (λ (c : ClassDef). is_name c.name) (λ (c : ClassDef). is_short_name c.name) (λ c. name_short c.name) s.classes names.0 in
    let field_names = own_fields (λ (f : FieldDef). is_name f.name) (λ (f : FieldDef). is_short_name f.name) (λ f. name_short f.name) s.classes names.1 in
    let short = all_both (λ (c : ClassDef). is_short_name c.name) (λ (c : ClassDef). list_all (λ (f : FieldDef). is_short_name f.name) c.fields) s.classes class_names field_names in
    let each = all_both has_words has_short_names s.classes small.1 short in
    and_from (is_short (length s.classes)) (list_all is_class s.classes) (lt-ltb (length s.classes) (2 ^ 16) small.0)
    (weaker (λ c. has_words c && has_short_names c) is_class class_is s.classes each)

next_field_is : (s : Schema) → keeps_rules s ≡ true → IsTrue (is_word s.next_field)
next_field_is s h = lt-ltb s.next_field (2 ^ 32) (classes_small s h).2

-- ---- drafts and catalogs

abbrev pub draft_of : Catalog → Draft
draft_of c = record { next = c.next; next_field = c.schema.next_field; classes = c.schema.classes; lists = c.lists }

pub bytes_are : (c : Catalog) → catalog_bytes c.next c.schema (map list_of c.lists) ≡ draft_bytes (draft_of c)
unfolding catalog_bytes
bytes_are c = λ i.
    head_bytes (c.next, (c.schema).next_field)
    ++ (counted w16 class_bytes (c.schema).classes ++ (to_be_bytes w32 (length-map c.lists list_of i) ++ flat_map-map list_bytes list_of c.lists i))

pub catalog_draft : (c : Catalog) (b : List ℕ) → SpellsCatalog c b → SpellsDraft (draft_of c) b
catalog_draft c b s =
    let w = s.is in
    let next = w.next in
    let head = and_from _ _ (and_from _ _ (le-leb 1 c.next next.0) (le-leb c.next 2147483647 next.1)) (next_field_is c.schema w.schema) in
    record {
      is = and_from (is_head (c.next, (c.schema).next_field)) _ head (and_from (are_few is_class (c.schema).classes) _ (classes_are c.schema w.schema) (w.lists).small);
      bytes = s.bytes ∙ bytes_are c;
    }

abbrev pub catalog_of : Draft → Catalog
catalog_of d = record { next = d.next; schema = schema_of d.classes d.next_field; lists = d.lists }

pub lists_judged : (s : Schema) (lists : List ListEntry) → AreLists s lists → lists_keep s.classes lists ≡ true
lists_judged s lists a =
    let ids : same (map (λ l. l.id) lists) (list_ids s.classes) ≡ true = subst (λ l. same (map (λ l. l.id) lists) l ≡ true) a.ids (nat_list_eq_equiv.refl (map (λ l. l.id) lists)) in
    and_from (same (map (λ l. l.id) lists) (list_ids s.classes)) _ ids (and_from _ _ a.from_2 a.once)

pub catalog_found : (d : Draft) (b : List ℕ) → SpellsDraft d b → lists_keep d.classes d.lists ≡ true → keeps_rules (schema_of d.classes d.next_field) ≡ true → SpellsCatalog (catalog_of d) b
catalog_found d b s lists rules =
    let parts = and_parts (is_head (d.next, d.next_field)) _ s.is in
    let head = and_parts (nat_le 1 d.next && nat_le d.next 2147483647) (is_word d.next_field) parts.0 in
    let next = and_parts (nat_le 1 d.next) (nat_le d.next 2147483647) head.0 in
    let small = and_parts (are_few is_class d.classes) (are_many is_entry d.lists) parts.1 in
    let kept = and_parts (same (map (λ l. l.id) d.lists) (list_ids d.classes)) _ lists in
    let segments = and_parts (list_all (nat_le 2) (segments_of d.lists)) (are_apart (segments_of d.lists)) kept.1 in
    record {
      is = record {
        next = (leb-true 1 d.next next.0, leb-true d.next 2147483647 next.1);
        schema = rules;
        lists = record {
          small = small.1;
          ids = same_text (map (λ l. l.id) d.lists) (list_ids d.classes) (sym kept.0);
          from_2 = segments.0;
          once = segments.1;
        };
      };
      bytes = s.bytes ∙ sym (bytes_are (catalog_of d));
    }

module _ (d : Draft) (b : List ℕ) (only : (other : Draft) → SpellsDraft other b → other ≡ d) where
  pub catalog_only : (c : Catalog) → SpellsCatalog c b → c ≡ catalog_of d
  catalog_only c s =
      let e = only (draft_of c) (catalog_draft c b s) in
      λ i. record { next = (e i).next; schema = record { classes = (e i).classes; next_field = (e i).next_field }; lists = (e i).lists }

  pub none_judged : lists_keep d.classes d.lists ≡ false → (c : Catalog) → SpellsCatalog c b → ⊥
  none_judged broken c s =
      let e = only (draft_of c) (catalog_draft c b s) in
      true≢false (sym (lists_judged c.schema c.lists (s.is).lists) ∙ ap (λ (x : Draft). lists_keep x.classes x.lists) e ∙ broken)

  pub none_ruled : keeps_rules (schema_of d.classes d.next_field) ≡ false → (c : Catalog) → SpellsCatalog c b → ⊥
  none_ruled broken c s =
      let e = only (draft_of c) (catalog_draft c b s) in
      true≢false (sym (s.is).schema ∙ ap (λ (x : Draft). keeps_rules (schema_of x.classes x.next_field)) e ∙ broken)

-- what a test has left

pub some_if : {X : Type 0} (b : Bool) (x y : X) → Some y ≡ (if b then Some x else None) → (b ≡ true) × (y ≡ x)
some_if true x y e = (refl, cc)
some_if false x y e = cc

pub none_if : {X : Type 0} (b : Bool) (x : X) → None ≡ (if b then Some x else None) → b ≡ false
none_if true x e = cc
none_if false x e = refl
