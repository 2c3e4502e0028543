-- A class more, under a parent or under none: the limits ask for the new one alone.
use Rattle.std.proofs.Common.{◌≡◌, refl, sym, ap, ◌∙◌, subst, ℕ, zero, suc, ◌+◌, ◌<◌, ◌≤◌, inl, inr, Bool, true, false, not, ◌&&◌, ◌||◌, ◌==◌, nat_lt, nat_le, List, [], ◌∷◌, ◌++◌, length, filter, slice_get, cond, arith, append-nil, length-append}
use Rattle.std.specs.List.{list_all, enumerate_from}
use Rattle.std.proofs.lemmas.Bool.{and_left, and_right, ne_eqb, eq-eqb, cases_eq}
use Rattle.std.proofs.lemmas.Bool.Decides.{nat_tests}
use Rattle.std.proofs.lemmas.List.Folds.{list_all-append}
use Rattle.std.proofs.lemmas.List.Elements.{filter-append}
use Rattle.oc_model.specs.declared.schema.ClassDef.{ClassDef}
use Rattle.oc_model.specs.declared.command.Decl.{Decl}
use Rattle.oc_model.specs.Maps.{Text}
use Rattle.oc_model.specs.Schemas.{Schema, class_at, parent_of, own_fields, current, fields_within, below_within, fields_of, is_sub}
use Rattle.oc_model.specs.SchemaRules.{is_above, ancestors, has_earlier_parents, has_few_ancestors, has_few_fields, is_within_limits}
use Rattle.oc_model.specs.SchemaSteps.{declared_fields, with_new_class}
use Rattle.oc_model.proofs.NewClass.{IsEarlier, is_earlier, grown, at_the_end, fields_kept, below_kept, below_nothing, enumerated, all_kept, kept_by_both, kept_by_none, ancestors_kept, and_true, fields_of_old, few_own_fields, few_classes, all_current, as_many}
use Rattle.oc_model.proofs.Inherited.{fields_same, parent_below}
use Rattle.oc_model.proofs.Rules.{limits_kept}

-- ---- the ancestors

-- more fuel than the class's number changes nothing
below_same : (m n a b : ℕ) (s : Schema) → IsEarlier s → 1 ≤ b → a ≤ m → a ≤ n → below_within m s a b ≡ below_within n s a b
below_same m n zero b s e some p q = below_nothing m s b some ∙ sym (below_nothing n s b some)
below_same zero n (suc a) b s e some p q = absurd (omega arith)
below_same (suc m) zero (suc a) b s e some p q = absurd (omega arith)
below_same (suc m) (suc n) (suc a) b s e some p q =
    let up = parent_below a (suc a) s e (omega arith) in
    ap (λ t. suc a == b || t) (below_same m n (parent_of (class_at s (suc a))) b s e some (omega arith) (omega arith))

-- those that are below class p or are it: class p, and those below it
counted_once : (g : ℕ → Bool) (p m : ℕ) (cs : List ClassDef) → m ≤ p → p < m + length cs → g p ≡ true
    → length (filter (λ (e : ℕ × ClassDef). g e.0) (enumerate_from m cs)) ≡ suc (length (filter (λ (e : ℕ × ClassDef). not (e.0 == p) && g e.0) (enumerate_from m cs)))
counted_once g p m [] low high h = absurd (omega arith)
counted_once g p m (c ∷ cs) low high h =
    elim (cases_eq m p) as (λ _. length (filter (λ (e : ℕ × ClassDef). g e.0) (enumerate_from m (c ∷ cs))) ≡ suc (length (filter (λ (e : ℕ × ClassDef). not (e.0 == p) && g e.0) (enumerate_from m (c ∷ cs))))) [
      | inl same ↦
          let all = filter (λ (e : ℕ × ClassDef). g e.0) (enumerate_from (m + 1) cs) in
          let others = kept_by_both (λ e. g e.0) (λ e. not (e.0 == p) && g e.0) (m + 1) cs (λ k d a b. ap (λ t. not t && g k) (sym (ne_eqb k p (λ q. omega arith)))) in
          ap (λ t. length (cond t ((m, c) ∷ all) all)) (ap g same ∙ h)
          ∙ ap (λ (es : List (ℕ × ClassDef)). suc (length es)) others
          ∙ ap (λ t. suc (length (cond (not t && g m) ((m, c) ∷ filter (λ (e : ℕ × ClassDef). not (e.0 == p) && g e.0) (enumerate_from (m + 1) cs)) (filter (λ (e : ℕ × ClassDef). not (e.0 == p) && g e.0) (enumerate_from (m + 1) cs))))) (sym (eq-eqb m p same))
      | inr other ↦
          let some = filter (λ (e : ℕ × ClassDef). not (e.0 == p) && g e.0) (enumerate_from (m + 1) cs) in
          let all = filter (λ (e : ℕ × ClassDef). g e.0) (enumerate_from (m + 1) cs) in
          let rest : length all ≡ suc (length some) = counted_once g p (m + 1) cs (omega arith) (omega arith) h in
          (elim (g m) as (λ t. length (cond t ((m, c) ∷ all) all) ≡ suc (length (cond (true && t) ((m, c) ∷ some) some))) [ true ↦ ap suc rest | false ↦ rest ])
          ∙ ap (λ t. suc (length (cond (not t && g m) ((m, c) ∷ some) some))) (sym (ne_eqb m p other))
    ]

below_new : (s : Schema) (d : ClassDef) (k b : ℕ) → IsEarlier s → d.parent ≤ length s.classes → 1 ≤ b → b ≤ length s.classes
    → below_within (suc (length s.classes)) (grown s d k) (suc (length s.classes)) b ≡ below_within d.parent s d.parent b
below_new s d k b e up p h =
    let n = length s.classes in
    ap (λ r. r || below_within n (grown s d k) (parent_of (slice_get (s.classes ++ d ∷ []) n)) b) (ne_eqb (suc n) b (λ q. omega arith))
    ∙ ap (λ o. below_within n (grown s d k) (parent_of o) b) (at_the_end s.classes d)
    ∙ below_kept n s d k d.parent b e up
    ∙ below_same n d.parent d.parent b s e p up (omega arith)

ancestors_of_new : (s : Schema) (d : ClassDef) (k : ℕ) → IsEarlier s → d.parent ≤ length s.classes
    → ancestors (grown s d k) (suc (length s.classes)) ≡ filter (λ e. is_sub s d.parent e.0) (enumerate_from 1 s.classes)
unfolding is_sub
ancestors_of_new s d k e up =
    let n = length s.classes in
    let t = grown s d k in
    let itself = and_left _ (is_sub t (suc n) (1 + n)) (ap not (eq-eqb (1 + n) (suc n) (omega arith))) in
    ap (filter (λ e. is_above t e.0 (suc n))) (enumerated 1 s.classes d)
    ∙ filter-append (λ e. is_above t e.0 (suc n)) (enumerate_from 1 s.classes) ((1 + n, d) ∷ [])
    ∙ (λ i.
    kept_by_both (λ e. is_above t e.0 (suc n)) (λ e. is_sub s d.parent e.0) 1 s.classes
    (λ m c p q. ap (λ r. not r && is_sub t (suc n) m) (ne_eqb m (suc n) (λ z. omega arith)) ∙ below_new s d k m e up p (omega arith)) i
    ++ cond (itself i) ((1 + n, d) ∷ []) [])
    ∙ append-nil _

-- nothing is above no class
above_nothing : (s : Schema) → ancestors s 0 ≡ []
unfolding is_sub
above_nothing s = kept_by_none (λ e. is_above s e.0 0) 1 s.classes (λ m c p q. and_right (not (m == 0)) (is_sub s 0 m) refl)

-- one more than the parent has, where there is one
one_more : (s : Schema) (p : ℕ) → p ≤ length s.classes → nat_le (length (filter (λ (e : ℕ × ClassDef). is_sub s p e.0) (enumerate_from 1 s.classes))) 32 ≡ nat_lt (length (ancestors s p)) 32
unfolding is_sub
one_more s zero h =
    (λ i. nat_le (length (kept_by_none (λ e. is_sub s 0 e.0) 1 s.classes (λ m c p q. refl) i)) 32) ∙ ap (λ (es : List (ℕ × ClassDef)). nat_lt (length es) 32) (sym (above_nothing s))
one_more s (suc p) h =
    let itself : is_sub s (suc p) (suc p) ≡ true = ap (λ t. t || below_within p s (parent_of (class_at s (suc p))) (suc p)) (eq-eqb (suc p) (suc p) refl) in
    ap (λ n. nat_le n 32) (counted_once (λ b. is_sub s (suc p) b) (suc p) 1 s.classes (omega arith) (omega arith) itself) ∙ step (length (ancestors s (suc p)))
  where
    step : (n : ℕ) → nat_le (suc n) 32 ≡ nat_lt n 32
    step n = grind (arith, nat_tests)

few_ancestors : (s : Schema) (d : ClassDef) (k : ℕ) → IsEarlier s → d.parent ≤ length s.classes → has_few_ancestors (grown s d k) ≡ (has_few_ancestors s && nat_lt (length (ancestors s d.parent)) 32)
few_ancestors s d k e up =
    let n = length s.classes in
    let t = grown s d k in
    let all = filter (λ (e : ℕ × ClassDef). is_sub s d.parent e.0) (enumerate_from 1 s.classes) in
    let new = subst (λ c. ancestors t c ≡ all) {x = suc n} {y = 1 + n} (omega arith) (ancestors_of_new s d k e up) in
    ap (list_all (λ e. nat_le (length (ancestors t e.0)) 32)) (enumerated 1 s.classes d)
    ∙ list_all-append (λ e. nat_le (length (ancestors t e.0)) 32) (enumerate_from 1 s.classes) ((1 + n, d) ∷ [])
    ∙ (λ i.
    all_kept (λ e. nat_le (length (ancestors t e.0)) 32) (λ e. nat_le (length (ancestors s e.0)) 32) 1 s.classes (λ m c p q. ap (λ es. nat_le (length es) 32) (ancestors_kept s d k m e p (omega arith))) i
    && (nat_le (length (new i)) 32 && true))
    ∙ ap (λ b. has_few_ancestors s && b) (and_true (nat_le (length all) 32) ∙ one_more s d.parent up)

-- ---- the fields

fields_of_new : (s : Schema) (d : ClassDef) (k : ℕ) → IsEarlier s → d.parent ≤ length s.classes → fields_of (grown s d k) (suc (length s.classes)) ≡ fields_of s d.parent ++ current d.fields
unfolding fields_of
fields_of_new s d k e up =
    let n = length s.classes in
    (λ i. fields_within n (grown s d k) (parent_of (at_the_end s.classes d i)) ++ own_fields (at_the_end s.classes d i))
    ∙ ap (λ fields. fields ++ current d.fields) (fields_kept n s d k d.parent e up ∙ fields_same n d.parent d.parent s e up (omega arith))

few_fields : (s : Schema) (d : ClassDef) (k : ℕ) → IsEarlier s → d.parent ≤ length s.classes
    → has_few_fields (grown s d k) ≡ (has_few_fields s && nat_le (length (fields_of s d.parent) + length (current d.fields)) 255)
few_fields s d k e up =
    let n = length s.classes in
    let t = grown s d k in
    let own = fields_of s d.parent ++ current d.fields in
    let new = subst (λ c. fields_of t c ≡ own) {x = suc n} {y = 1 + n} (omega arith) (fields_of_new s d k e up) in
    ap (list_all (λ e. nat_le (length (fields_of t e.0)) 255)) (enumerated 1 s.classes d)
    ∙ list_all-append (λ e. nat_le (length (fields_of t e.0)) 255) (enumerate_from 1 s.classes) ((1 + n, d) ∷ [])
    ∙ (λ i.
    all_kept (λ e. nat_le (length (fields_of t e.0)) 255) (λ e. nat_le (length (fields_of s e.0)) 255) 1 s.classes (λ m c p q. ap (λ fs. nat_le (length fs) 255) (fields_of_old s d k m e (omega arith))) i
    && and_true (nat_le (length (new i)) 255) i)
    ∙ ap (λ m. has_few_fields s && nat_le m 255) (length-append (fields_of s d.parent) (current d.fields))

-- ---- the limits

joined : (n a k : Bool) (m f : ℕ) → (n && (true && a) && (true && nat_le (f + m) 255) && (true && nat_le m 1000) && k) ≡ (n && a && nat_le (f + m) 255 && k)
joined n a k m f = grind (arith, nat_tests)

pub new_child_limits : (s : Schema) (name : Text) (p : ℕ) (ds : List Decl) → has_earlier_parents s ≡ true → is_within_limits s ≡ true → p ≤ length s.classes
    → is_within_limits (with_new_class s name p ds)
    ≡ (nat_lt (length s.classes) 65535 && nat_lt (length (ancestors s p)) 32 && nat_le (length (fields_of s p) + length ds) 255 && nat_le (s.next_field + length ds) 4294967295)
unfolding is_within_limits
new_child_limits s name p ds earlier within up =
    let e = is_earlier s earlier in
    let d : ClassDef = record { name = name; parent = p; fields = declared_fields [] s.next_field ds } in
    let k = s.next_field + length ds in
    let had = limits_kept s within in
    let few = length (fields_of s p) in
    let deep = nat_lt (length (ancestors s p)) 32 in
    (λ i. few_classes s d k i && few_ancestors s d k e up i && few_fields s d k e up i && few_own_fields s d k i && nat_le k 4294967295)
    ∙ (λ i.
    nat_lt (length s.classes) 65535
    && (had.ancestors i && deep)
    && (had.fields i && nat_le (few + all_current s.next_field ds i) 255)
    && (had.own_fields i && nat_le (as_many s.next_field ds i) 1000)
    && nat_le k 4294967295)
    ∙ joined (nat_lt (length s.classes) 65535) deep (nat_le k 4294967295) (length ds) few

-- without a parent
pub new_class_limits : (s : Schema) (name : Text) (ds : List Decl) → has_earlier_parents s ≡ true → is_within_limits s ≡ true
    → is_within_limits (with_new_class s name 0 ds) ≡ (nat_lt (length s.classes) 65535 && nat_le (length ds) 255 && nat_le (s.next_field + length ds) 4294967295)
unfolding fields_of
new_class_limits s name ds earlier within =
    let few = nat_le (s.next_field + length ds) 4294967295 in
    new_child_limits s name 0 ds earlier within (omega arith)
    ∙ ap (λ (es : List (ℕ × ClassDef)). nat_lt (length s.classes) 65535 && nat_lt (length es) 32 && nat_le (0 + length ds) 255 && few) (above_nothing s)
    ∙ (λ i. and_true (nat_lt (length s.classes) 65535) i && nat_le (nothing_more (length ds) i) 255 && few)
  where
    nothing_more : (n : ℕ) → 0 + n ≡ n
    nothing_more n = omega arith
