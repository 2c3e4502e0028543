-- Ancestors and fields of a class, counted.
use Rattle.std.proofs.Common.{false, drop, ◌≡◌, refl, sym, ap, ◌∙◌, ℕ, zero, suc, ◌+◌, ◌≤◌, ◌<◌, Bool, true, nat_le, not, ◌&&◌, ◌==◌, List, [], ◌∷◌, ◌++◌, length, Option, Some, None, is_some, arith, length-append}
use Rattle.std.specs.List.{list_all, enumerate_from}
use Rattle.std.proofs.lemmas.Bool.{and_parts, and_right}
use Rattle.std.proofs.lemmas.Bool.Decides.{nat_tests}
use Rattle.oc_model.specs.declared.schema.FieldDef.{FieldDef}
use Rattle.oc_model.specs.declared.schema.ClassDef.{ClassDef}
use Rattle.oc_model.specs.Schemas.{Schema, class_at, current, own_fields, parent_of, fields_of, is_sub}
use Rattle.oc_model.specs.SchemaRules.{ancestors, is_above, has_earlier_parents, keeps_rules}
use Rattle.oc_model.specs.SchemaSteps.{stored_fields}
use Rattle.oc_model.proofs.NewClass.{kept_by_none}
use Rattle.oc_model.proofs.Rules.{rules_kept, limits_kept}
use Rattle.oc_schema.proofs.Ancestry.{fields_pushed, sub_none}
use Rattle.oc_refactor.proofs.Around.{class_in_place}

pub class_there : (s : Schema) (c : ℕ) → 1 ≤ c → c ≤ length s.classes → is_some (class_at s c) ≡ true
class_there s zero h k = absurd (omega arith)
class_there s (suc i) h k = class_in_place s i (suc i) (omega arith) (omega arith)

-- nothing is above no class
pub none_above : (s : Schema) (c : ℕ) → c ≡ 0 → length (ancestors s c) ≡ 0
none_above s c e =
    ap (λ c. length (ancestors s c)) e
    ∙ ap (λ (es : List (ℕ × ClassDef)). length es) (kept_by_none (λ e. is_above s e.0 0) 1 s.classes (λ m c p q. and_right (not (m == 0)) (is_sub s 0 m) (sub_none s m)))

current_stored : (o : Option ClassDef) → current (stored_fields o) ≡ own_fields o
current_stored None = refl
current_stored (Some c) = refl

pub fields_counted : (s : Schema) (c : ℕ) → has_earlier_parents s ≡ true → 1 ≤ c → length (fields_of s c) ≡ length (own_fields (class_at s c)) + length (fields_of s (parent_of (class_at s c)))
fields_counted s c early some =
    let up = fields_of s (parent_of (class_at s c)) in
    ap (λ (fs : List FieldDef). length fs) (sym (fields_pushed [] s c early some) ∙ ap (λ fs. up ++ fs) (current_stored (class_at s c)))
    ∙ length-append up (own_fields (class_at s c))
    ∙ swap (length up) (length (own_fields (class_at s c)))
  where
    swap : (m n : ℕ) → m + n ≡ n + m
    swap m n = omega arith

pub no_fields_counted : (s : Schema) (c : ℕ) → c ≡ 0 → length (fields_of s c) ≡ 0
unfolding fields_of
no_fields_counted s c e = ap (λ c. length (fields_of s c)) e

-- a test of numbers holds of each class that is there
pub at_class : (f : ℕ → Bool) (n : ℕ) (cs : List ClassDef) (i : ℕ) → i < length cs → list_all (λ e. f e.0) (enumerate_from n cs) ≡ true → f (n + i) ≡ true
at_class f n [] i lt h = absurd (omega arith)
at_class f n (c ∷ cs) zero lt h = let e : n + 0 ≡ n = omega arith in ap f e ∙ (and_parts (f n) (list_all (λ e. f e.0) (enumerate_from (n + 1) cs)) h).0
at_class f n (c ∷ cs) (suc i) lt h =
    let e : n + suc i ≡ n + 1 + i = omega arith in
    ap f e ∙ at_class f (n + 1) cs i (omega arith) (and_parts (f n) (list_all (λ e. f e.0) (enumerate_from (n + 1) cs)) h).1

pub few_fields : (s : Schema) (c : ℕ) → keeps_rules s ≡ true → c ≤ length s.classes → length (fields_of s c) ≤ 255
few_fields s zero h k = let e = no_fields_counted s 0 refl in omega (arith, e)
few_fields s (suc i) h k =
    let e : suc i ≡ 1 + i = omega arith in
    let t = ap (λ c. nat_le (length (fields_of s c)) 255) e ∙ at_class (λ c. nat_le (length (fields_of s c)) 255) 1 s.classes i (omega arith) (limits_kept s (rules_kept s h).within).fields in
    grind (arith, nat_tests, t)

pub few_own : (s : Schema) (c : ℕ) → keeps_rules s ≡ true → 1 ≤ c → c ≤ length s.classes → length (own_fields (class_at s c)) ≤ 255
few_own s c h some k = let few = few_fields s c h k in let e = fields_counted s c (rules_kept s h).parents some in omega (arith, few, e)

-- ---- a test of each class, one by one

one_more : (f : ℕ → Bool) (n i : ℕ) (cs : List ClassDef) → i < length cs
    → list_all (λ e. f e.0) (enumerate_from n (drop i cs)) ≡ (f n && list_all (λ e. f e.0) (enumerate_from (n + 1) (drop (i + 1) cs)))
one_more f n i [] h = absurd (omega arith)
one_more f n zero (c ∷ cs) h = refl
one_more f n (suc i) (c ∷ cs) h =
    let e : suc i + 1 ≡ suc (i + 1) = omega arith in
    one_more f n i cs (omega arith) ∙ ap (λ j. f n && list_all (λ e. f e.0) (enumerate_from (n + 1) (drop j (c ∷ cs)))) (sym e)

pub all_stop : (f : ℕ → Bool) (i : ℕ) (cs : List ClassDef) (b : Bool) → i < length cs → b ≡ f (i + 1) → b ≡ false → list_all (λ e. f e.0) (enumerate_from (i + 1) (drop i cs)) ≡ false
all_stop f i cs b h e n = one_more f (i + 1) i cs h ∙ ap (λ t. t && list_all (λ e. f e.0) (enumerate_from (i + 1 + 1) (drop (i + 1) cs))) (sym e ∙ n)

pub all_go : (f : ℕ → Bool) (i : ℕ) (cs : List ClassDef) (b : Bool) → i < length cs → b ≡ f (i + 1) → b ≡ true
    → list_all (λ e. f e.0) (enumerate_from (i + 1 + 1) (drop (i + 1) cs)) ≡ list_all (λ e. f e.0) (enumerate_from (i + 1) (drop i cs))
all_go f i cs b h e n = sym (one_more f (i + 1) i cs h ∙ ap (λ t. t && list_all (λ e. f e.0) (enumerate_from (i + 1 + 1) (drop (i + 1) cs))) (sym e ∙ n))
