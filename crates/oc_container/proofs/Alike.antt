-- Two lists compared pair by pair, from a place on.
use Rattle.std.proofs.Common.{◌≡◌, ℕ, zero, suc, ◌+◌, ◌<◌, Bool, true, false, ◌&&◌, List, [], ◌∷◌, length, drop, get_or, slice_get, refl, sym, ap, ◌∙◌, arith, add-one}
use lib.Pointwise.{pointwise, pointwise_long}
use Rattle.oc_model.specs.declared.schema.ClassDef.{ClassDef}
use Rattle.oc_model.specs.declared.schema.FieldDef.{FieldDef}
use Rattle.oc_model.specs.Schemas.{Schema, class_at}
use Rattle.oc_model.specs.SchemaEquality.{same_class, same_field}
use Rattle.oc_container.specs.Alike.{are_same}

-- the pair at the place, and those behind it
class_first : (xs ys : List ClassDef) (i : ℕ) → i < length xs → length xs ≡ length ys
    → pointwise same_class (drop i xs) (drop i ys) ≡ (are_same (slice_get xs i) (slice_get ys i) && pointwise same_class (drop (suc i) xs) (drop (suc i) ys))
class_first [] ys i lt e = absurd (omega arith)
class_first (x ∷ xs) [] i lt e = absurd (omega arith)
class_first (x ∷ xs) (y ∷ ys) zero lt e = refl
class_first (x ∷ xs) (y ∷ ys) (suc i) lt e = let le : i < length xs = omega arith in let same : length xs ≡ length ys = omega arith in class_first xs ys i le same

-- of two schemas, the class of the next number and those behind it
pub classes_from : (a b : Schema) (i : ℕ) → i < length a.classes → length a.classes ≡ length b.classes
    → pointwise same_class (drop i a.classes) (drop i b.classes) ≡ (are_same (class_at a (i + 1)) (class_at b (i + 1)) && pointwise same_class (drop (i + 1) a.classes) (drop (i + 1) b.classes))
classes_from a b i lt e = rw add-one (class_first a.classes b.classes i lt e)

-- the field at the place, and those behind it
field_first : (xs ys : List FieldDef) (i : ℕ) (x y : FieldDef) → i < length xs → length xs ≡ length ys → x ≡ get_or xs i x → y ≡ get_or ys i y
    → pointwise same_field (drop i xs) (drop i ys) ≡ (same_field x y && pointwise same_field (drop (suc i) xs) (drop (suc i) ys))
field_first [] ys i x y lt e p q = absurd (omega arith)
field_first (a ∷ xs) [] i x y lt e p q = absurd (omega arith)
field_first (a ∷ xs) (b ∷ ys) zero x y lt e p q = ap (λ z. same_field z b && pointwise same_field xs ys) (sym p) ∙ ap (λ z. same_field x z && pointwise same_field xs ys) (sym q)
field_first (a ∷ xs) (b ∷ ys) (suc i) x y lt e p q =
    let le : i < length xs = omega arith in let same : length xs ≡ length ys = omega arith in field_first xs ys i x y le same p q

pub fields_from : (xs ys : List FieldDef) (i : ℕ) (x y : FieldDef) → i < length xs → length xs ≡ length ys → x ≡ get_or xs i x → y ≡ get_or ys i y
    → pointwise same_field (drop i xs) (drop i ys) ≡ (same_field x y && pointwise same_field (drop (i + 1) xs) (drop (i + 1) ys))
fields_from xs ys i x y lt e p q = rw add-one (field_first xs ys i x y lt e p q)

-- at the end of both nothing is left to compare
pub at_the_end : {A : Type 0} (f : A → A → Bool) (xs ys : List A) → length xs ≡ length ys → pointwise f (drop (length xs) xs) (drop (length xs) ys) ≡ true
at_the_end f [] [] e = refl
at_the_end f [] (y ∷ ys) e = absurd (omega arith)
at_the_end f (x ∷ xs) [] e = absurd (omega arith)
at_the_end f (x ∷ xs) (y ∷ ys) e = let same : length xs ≡ length ys = omega arith in at_the_end f xs ys same

-- lists of different lengths differ
pub as_long : {A : Type 0} (f : A → A → Bool) (xs ys : List A) → (length xs ≡ length ys → ⊥) → pointwise f xs ys ≡ false
as_long f xs ys apart = elim (pointwise f xs ys) as (λ b. pointwise f xs ys ≡ b → b ≡ false) [ true ↦ λ e. absurd (apart (pointwise_long f xs ys e)) | false ↦ λ e. refl ] refl
