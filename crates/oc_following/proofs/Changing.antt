-- Schemas that extend another one: with each field changed, with a class replaced by one that has its fields, and with a class behind the others.
use Rattle.std.proofs.Common.{◌≡◌, refl, ap, ◌∙◌, subst, ℕ, zero, suc, ◌-◌, ◌≤◌, true, List, [], ◌∷◌, ◌++◌, slice_get, slice_set, Some, arith}
use Rattle.std.specs.Option.{option_map}
use Rattle.std.proofs.lemmas.Bool.Decides.{nat_tests}
use Rattle.std.proofs.lemmas.Option.{slice_get-map}
use Rattle.oc_model.specs.declared.schema.FieldDef.{FieldDef}
use Rattle.oc_model.specs.declared.schema.ClassDef.{ClassDef}
use Rattle.oc_model.specs.Schemas.{Schema, class_at}
use Rattle.oc_model.specs.SchemaRules.{keeps_rules}
use Rattle.oc_model.proofs.Elements.{to_map}
use Rattle.oc_model.proofs.Rules.{rules_kept, limits_kept}
use Rattle.oc_schema.specs.Drafts.{schema_of}
use Rattle.oc_refactor.proofs.FieldsMapped.{mapped, with_fields}
use Rattle.oc_refactor.proofs.OneClass.{at_number}
use Rattle.oc_following.proofs.Extending.{IsGrown, Extends}

-- the ids of a schema that keeps the rules are below the limit
pub few_ids : (s : Schema) → keeps_rules s ≡ true → s.next_field ≤ 4294967295
few_ids s rules = let h = (limits_kept s (rules_kept s rules).within).ids in grind (arith, nat_tests, h)

-- ---- each field changed, with its id and its kind kept

module _ (g : FieldDef → FieldDef) (ids : (f : FieldDef) → (g f).id ≡ f.id) (kinds : (f : FieldDef) → (g f).kind ≡ f.kind) where
  pub mapped_grown : (d : ClassDef) → IsGrown d (mapped g d)
  mapped_grown d = record { parent = refl; fields = λ f i. (g f, to_map g f d.fields i, ids f, kinds f) }

  pub mapped_extends : (s : Schema) → Extends s (with_fields s g)
  mapped_extends s zero d h = absurd (cc)
  mapped_extends s (suc i) d h = (mapped g d, slice_get-map (mapped g) s.classes i ∙ ap (option_map (mapped g)) h, mapped_grown d)

-- ---- one class replaced

stays : (d : ClassDef) → IsGrown d d
stays d = record { parent = refl; fields = λ f i. (f, i, refl, refl) }

set_grown : (cs : List ClassDef) (k : ℕ) (d e : ClassDef) (i : ℕ) (x : ClassDef) → slice_get cs k ≡ Some d → IsGrown d e → slice_get cs i ≡ Some x
    → (y : ClassDef) × (slice_get (slice_set cs k e) i ≡ Some y) × IsGrown x y
set_grown [] k d e i x here g h = absurd (cc)
set_grown (c ∷ cs) zero d e zero x here g h = let q : d ≡ x = cc in (e, refl, subst (λ b. IsGrown b e) q g)
set_grown (c ∷ cs) zero d e (suc i) x here g h = (x, h, stays x)
set_grown (c ∷ cs) (suc k) d e zero x here g h = (x, h, stays x)
set_grown (c ∷ cs) (suc k) d e (suc i) x here g h = set_grown cs k d e i x here g h

-- a class gives way to one with its parent and its fields
pub set_extends : (s : Schema) (c : ℕ) (d e : ClassDef) (next : ℕ) → class_at s c ≡ Some d → IsGrown d e → Extends s (schema_of (slice_set s.classes (c - 1) e) next)
set_extends s c d e next here g zero x h = absurd (cc)
set_extends s c d e next here g (suc i) x h = set_grown s.classes (c - 1) d e i x (at_number s c d here) g h

-- ---- a class behind the others

in_front : (cs ds : List ClassDef) (i : ℕ) (x : ClassDef) → slice_get cs i ≡ Some x → slice_get (cs ++ ds) i ≡ Some x
in_front [] ds i x h = absurd (cc)
in_front (c ∷ cs) ds zero x h = h
in_front (c ∷ cs) ds (suc i) x h = in_front cs ds i x h

-- a new class comes last
pub pushed_extends : (s : Schema) (e : ClassDef) (next : ℕ) → Extends s (schema_of (s.classes ++ e ∷ []) next)
pushed_extends s e next zero x h = absurd (cc)
pushed_extends s e next (suc i) x h = (x, in_front s.classes (e ∷ []) i x h, stays x)
