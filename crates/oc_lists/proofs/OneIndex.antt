-- A schema of one indexed field, and its index.
use Rattle.std.proofs.Common.{◌≡◌, ◌∙◌, inl, ap, sym, refl, subst, ℕ, List, [], ◌∷◌, length, map, arith, nat_cmp}
use Rattle.oc_model.specs.declared.value.Base.{Base}
use Rattle.oc_model.specs.declared.schema.FieldDef.{FieldDef}
use Rattle.oc_model.specs.Lengths.{indexed_fields}
use Rattle.oc_model.specs.Lists.{sorted, IsOneOf}
use Rattle.oc_model.specs.Schemas.{Schema}
use Rattle.oc_model.specs.Stores.{base_of}
use Rattle.oc_catalog.specs.Catalogs.{indexed_ids}
use Rattle.oc_chunks.specs.Ascending.{Each}
use Rattle.oc_index.specs.Fields.{FieldList}
use Rattle.oc_index.specs.Indexed.{StoreLists}
use Rattle.oc_lists.specs.Lists.{bases_in, HasIndexes}

abbrev kinded : ℕ × FieldList → ℕ × Base
kinded f = (f.0, (f.1).base)

ids_in : (fs : List FieldDef) → map (λ (p : ℕ × Base). p.0) (map (λ (f : FieldDef). (f.id, base_of f.kind)) fs) ≡ map (λ (f : FieldDef). f.id) fs
ids_in [] = refl
ids_in (f ∷ fs) = ap (λ ns. f.id ∷ ns) (ids_in fs)

of_fields : (s : Schema) (fs : List (ℕ × FieldList)) → map kinded fs ≡ bases_in s → length (map kinded fs) ≡ 1
    → (map (λ (f : ℕ × FieldList). f.0) fs ≡ sorted nat_cmp (indexed_ids s.classes)) × Each (λ (f : ℕ × FieldList). IsOneOf (f.0, (f.1).base) (bases_in s)) fs
of_fields s [] e one = absurd (omega (arith, one))
of_fields s (f ∷ []) e one =
    let ids : f.0 ∷ [] ≡ indexed_ids s.classes = ap (map (λ (p : ℕ × Base). p.0)) e ∙ ids_in (indexed_fields s) in
    (ap (sorted nat_cmp) ids, (subst (IsOneOf (f.0, (f.1).base)) e (inl refl), tt))
of_fields s (f ∷ g ∷ fs) e one = absurd (omega (arith, one))

pub one_index : (s : Schema) (l : StoreLists) (v w : List (ℕ × Base)) → v ≡ map kinded l.fields → w ≡ bases_in s → v ≡ w → length v ≡ 1 → HasIndexes s l
one_index s l v w there wanted same one =
    let both = of_fields s l.fields (sym there ∙ same ∙ wanted) (ap length (sym there) ∙ one) in
    record { ids = both.0; bases = both.1 }
