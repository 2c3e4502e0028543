-- A schema with one class changed is its list of classes with another one in that place.
use Rattle.std.proofs.Common.{◌≡◌, refl, sym, ap, ◌∙◌, ℕ, zero, suc, ◌+◌, ◌-◌, ◌<◌, ◌==◌, List, [], ◌∷◌, map, slice_get, slice_set, Some, cond, arith, inl, inr}
use Rattle.std.specs.Prelude.{if◌then◌else◌}
use Rattle.std.specs.List.{enumerate_from}
use Rattle.std.proofs.lemmas.Bool.{eq-eqb, ne_eqb}
use Rattle.oc_model.specs.declared.schema.ClassDef.{ClassDef}
use Rattle.oc_model.specs.Lists.{IsOneOf}
use Rattle.oc_model.specs.Schemas.{Schema, class_at}
use Rattle.oc_model.specs.SchemaSteps.{with_class_at}

module _ (change : ClassDef → ClassDef) where
  others_stay : (n m : ℕ) (cs : List ClassDef) → m < n → map (λ (e : ℕ × ClassDef). if e.0 == m then change e.1 else e.1) (enumerate_from n cs) ≡ cs
  others_stay n m [] h = refl
  others_stay n m (c ∷ cs) h = λ j. cond (ne_eqb n m (λ q. omega arith) j) (change c) c ∷ others_stay (n + 1) m cs (omega arith) j

  changed_from : (n m i : ℕ) (cs : List ClassDef) (d : ClassDef) → m ≡ n + i → slice_get cs i ≡ Some d
      → map (λ (e : ℕ × ClassDef). if e.0 == m then change e.1 else e.1) (enumerate_from n cs) ≡ slice_set cs i (change d)
  changed_from n m i [] d e h = absurd (cc)
  changed_from n m zero (c ∷ cs) d e h =
      let q : c ≡ d = cc in
      (λ j. cond (eq-eqb n m (omega arith) j) (change c) c ∷ others_stay (n + 1) m cs (omega arith) j) ∙ ap (λ x. change x ∷ cs) q
  changed_from n m (suc i) (c ∷ cs) d e h = λ j. cond (ne_eqb n m (λ q. omega arith) j) (change c) c ∷ changed_from (n + 1) m i cs d (omega arith) h j

pub changed : (s : Schema) (c : ℕ) (change : ClassDef → ClassDef) (d : ClassDef) → class_at s c ≡ Some d → with_class_at s c change ≡ slice_set s.classes (c - 1) (change d)
changed s zero change d h = absurd (cc)
changed s (suc i) change d h = let e : suc i - 1 ≡ i = omega arith in changed_from change 1 (suc i) i s.classes d (omega arith) h ∙ ap (λ j. slice_set s.classes j (change d)) (sym e)

-- the class of a number that is there
pub at_number : (s : Schema) (c : ℕ) (d : ClassDef) → class_at s c ≡ Some d → slice_get s.classes (c - 1) ≡ Some d
at_number s zero d h = absurd (cc)
at_number s (suc i) d h = let e : suc i - 1 ≡ i = omega arith in ap (λ j. slice_get s.classes j) e ∙ h

pub class_is_one : (d : ClassDef) (i : ℕ) (cs : List ClassDef) → slice_get cs i ≡ Some d → IsOneOf d cs
class_is_one d i [] h = absurd (cc)
class_is_one d zero (c ∷ cs) h = let q : c ≡ d = cc in inl (sym q)
class_is_one d (suc i) (c ∷ cs) h = inr (class_is_one d i cs h)
