-- The indexed fields of a class: those of the ancestors, and then its own.
use Rattle.std.proofs.Common.{◌≡◌, ◌∙◌, ap, sym, refl, subst, ℕ, zero, suc, ◌<◌, ◌≤◌, true, List, [], ◌++◌, filter, None, Some, append_assoc, append-nil, arith}
use Rattle.std.proofs.lemmas.List.Elements.{filter-append}
use Rattle.oc_model.specs.declared.schema.FieldDef.{FieldDef}
use Rattle.oc_model.specs.declared.schema.ClassDef.{ClassDef}
use Rattle.oc_model.specs.SchemaRules.{keeps_rules}
use Rattle.oc_model.specs.SchemaSteps.{stored_fields}
use Rattle.oc_model.specs.Schemas.{Schema, class_at, current, fields_of, parent_of}
use Rattle.oc_schema.proofs.Ancestry.{fields_pushed, none_pushed, parent_smaller}
use Rattle.oc_schema.proofs.Parting.{earlier_parents}

from_1 : (s : Schema) (c : ℕ) (d : ClassDef) → class_at s c ≡ Some d → 1 ≤ c
from_1 s zero d e = absurd (cc)
from_1 s (suc c) d e = omega arith

pub smaller_parent : (s : Schema) (c : ℕ) (d : ClassDef) → keeps_rules s ≡ true → class_at s c ≡ Some d → d.parent < c
smaller_parent s c d keeps is = subst (λ n. n < c) (ap parent_of is) (parent_smaller s c (earlier_parents s keeps) (from_1 s c d is))

pub indexed_pushed : (had : List FieldDef) (s : Schema) (c : ℕ) (d : ClassDef) → keeps_rules s ≡ true → class_at s c ≡ Some d
    → had ++ filter (λ f. f.indexed) (fields_of s d.parent) ++ filter (λ f. f.indexed) (current d.fields) ≡ had ++ filter (λ f. f.indexed) (fields_of s c)
indexed_pushed had s c d keeps is =
    append_assoc had (filter (λ f. f.indexed) (fields_of s d.parent)) (filter (λ f. f.indexed) (current d.fields))
    ∙ ap (λ fs. had ++ fs) (sym (filter-append (λ f. f.indexed) (fields_of s d.parent) (current d.fields))
    ∙ ap (filter (λ f. f.indexed)) ((λ i. fields_of s (parent_of (sym is i)) ++ current (stored_fields (sym is i))) ∙ fields_pushed [] s c (earlier_parents s keeps) (from_1 s c d is)))

pub none_of : (s : Schema) (c : ℕ) → keeps_rules s ≡ true → class_at s c ≡ None → [] ≡ fields_of s c
none_of s zero keeps is = none_pushed [] s zero refl
none_of s (suc c) keeps is =
    none_pushed [] s zero refl ∙ sym (append-nil (fields_of s 0)) ∙ (λ i. fields_of s (parent_of (sym is i)) ++ current (stored_fields (sym is i)))
    ∙ fields_pushed [] s (suc c) (earlier_parents s keeps) (omega arith)

pub no_class_pushed : (had : List FieldDef) (s : Schema) (c : ℕ) → keeps_rules s ≡ true → class_at s c ≡ None → had ≡ had ++ filter (λ f. f.indexed) (fields_of s c)
no_class_pushed had s c keeps is = sym (append-nil had) ∙ ap (λ fs. had ++ filter (λ (f : FieldDef). f.indexed) fs) (none_of s c keeps is)
