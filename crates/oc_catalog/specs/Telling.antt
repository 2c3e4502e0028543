-- The bytes of fields, classes and lists tell what they spell.
use Rattle.std.specs.Prelude.{◌&&◌, IsTrue, length}
use Rattle.std.specs.List.{list_all}
use Rattle.std.proofs.lemmas.Bool.{and_parts, and_from}
use Rattle.oc_model.specs.declared.schema.FieldDef.{FieldDef}
use Rattle.oc_model.specs.declared.schema.ClassDef.{ClassDef}
use Rattle.oc_model.specs.Spelling.{Tells, class_bytes, field_bytes, is_list, is_word}
use Rattle.oc_marshal.specs.Places.{is_short}
use Rattle.oc_model.proofs.CatalogTold.{class_told, field_told, list_told}
use Rattle.oc_model.proofs.Elements.{weaker}
use Rattle.oc_catalog.specs.declared.catalog.ListEntry.{ListEntry}
use Rattle.oc_catalog.specs.Drafts.{are_few, are_many, entry_bytes, is_class, is_entry, is_field, is_short_name, list_of}

-- a field's
pub fields_tell : Tells (λ f. IsTrue (is_field f)) field_bytes
fields_tell f g rest more p q e = field_told f g rest more (and_parts (is_word f.id) (is_short_name f.name) p).0 (and_parts (is_word g.id) (is_short_name g.name) q).0 e

small_class : (c : ClassDef) → IsTrue (is_class c) → IsTrue (is_word c.parent && (is_short (length c.fields) && list_all (λ (f : FieldDef). is_word f.id) c.fields))
small_class c p =
    let a = and_parts (is_word c.parent) (is_short_name c.name && are_few is_field c.fields) p in
    let b = and_parts (is_short_name c.name) (are_few is_field c.fields) a.1 in
    let d = and_parts (is_short (length c.fields)) (list_all is_field c.fields) b.1 in
    and_from (is_word c.parent) _ a.0
    (and_from (is_short (length c.fields)) _ d.0 (weaker is_field (λ (f : FieldDef). is_word f.id) (λ f h. (and_parts (is_word f.id) (is_short_name f.name) h).0) c.fields d.1))

-- a class's
pub classes_tell : Tells (λ c. IsTrue (is_class c)) class_bytes
classes_tell c d rest more p q e = class_told c d rest more (small_class c p) (small_class d q) e

small_list : (l : ListEntry) → IsTrue (is_entry l) → IsTrue (is_list (list_of l))
small_list l p =
    let a = and_parts (is_word l.id) (are_many is_word l.segments) p in
    let b = and_parts (is_word (length l.segments)) (list_all is_word l.segments) a.1 in
    and_from _ _ (and_from _ _ a.0 b.0) b.1

-- a list's
pub entries_tell : Tells (λ l. IsTrue (is_entry l)) entry_bytes
entries_tell k l rest more p q e =
    let r = list_told (list_of k) (list_of l) rest more (small_list k p) (small_list l q) e in
    (λ i. record { id = (r.0 i).0; segments = (r.0 i).1 }, r.1)
