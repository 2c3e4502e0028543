-- A class more: what is known of the others stays.
use Rattle.std.proofs.Common.{◌≡◌, refl, ap, ◌∙◌, ℕ, zero, suc, ◌+◌, ◌<◌, ◌≤◌, Bool, true, false, not, ◌&&◌, ◌||◌, ◌==◌, nat_lt, nat_le, List, [], ◌∷◌, ◌++◌, length, filter, slice_get, Some, cond, arith, append-nil}
use Rattle.std.specs.List.{list_all, enumerate_from}
use Rattle.std.proofs.lemmas.Bool.{and_parts, and_right, ltb-true, ne_eqb}
use Rattle.std.proofs.lemmas.Bool.Decides.{nat_tests}
use Rattle.std.proofs.lemmas.List.Folds.{list_all-append}
use Rattle.std.proofs.lemmas.List.Elements.{filter-append}
use Rattle.oc_model.specs.declared.schema.ClassDef.{ClassDef}
use Rattle.oc_model.specs.declared.command.Decl.{Decl}
use Rattle.oc_model.specs.Schemas.{Schema, class_at, parent_of, own_fields, current, fields_within, below_within, fields_of, is_sub}
use Rattle.oc_model.specs.SchemaRules.{is_above, ancestors, has_earlier_parents, has_few_classes, has_few_own_fields}
use Rattle.oc_model.specs.SchemaSteps.{declared_fields}

-- ---- parents come earlier

-- the class behind so many others has one of those as its parent, or none
abbrev pub IsEarlier : Schema → Type 0
IsEarlier s = (c : ℕ) → parent_of (class_at s (suc c)) ≤ c

below_more : (p m : ℕ) → p < m → p < m + 0
below_more p m h = omega arith

next_place : (p m i : ℕ) → p < m + 1 + i → p < m + suc i
next_place p m i h = omega arith

strictly_in : (m : ℕ) (cs : List ClassDef) → 1 ≤ m → list_all (λ (e : ℕ × ClassDef). nat_lt (e.1).parent e.0) (enumerate_from m cs) ≡ true → (i : ℕ) → parent_of (slice_get cs i) < m + i
strictly_in m [] p h i = omega arith
strictly_in m (c ∷ cs) p h zero = below_more c.parent m (ltb-true c.parent m (and_parts _ _ h).0)
strictly_in m (c ∷ cs) p h (suc i) = next_place (parent_of (slice_get cs i)) m i (strictly_in (m + 1) cs (omega arith) (and_parts _ _ h).1 i)

pub is_earlier : (s : Schema) → has_earlier_parents s ≡ true → IsEarlier s
is_earlier s h c = let a = strictly_in 1 s.classes (omega arith) h c in omega arith

-- ---- the classes that were there

-- with a class behind the others
abbrev pub grown : Schema → ClassDef → ℕ → Schema
grown s d k = record { classes = s.classes ++ d ∷ []; next_field = k }

within_old : (cs : List ClassDef) (d : ClassDef) (i : ℕ) → i < length cs → slice_get (cs ++ d ∷ []) i ≡ slice_get cs i
within_old [] d i h = absurd (omega arith)
within_old (c ∷ cs) d zero h = refl
within_old (c ∷ cs) d (suc i) h = within_old cs d i (omega arith)

pub at_the_end : (cs : List ClassDef) (d : ClassDef) → slice_get (cs ++ d ∷ []) (length cs) ≡ Some d
at_the_end [] d = refl
at_the_end (c ∷ cs) d = at_the_end cs d

pub no_fields : (n : ℕ) (s : Schema) → fields_within n s 0 ≡ []
no_fields zero s = refl
no_fields (suc n) s = ap (λ fields. fields ++ []) (no_fields n s)

pub fields_kept : (n : ℕ) (s : Schema) (d : ClassDef) (k c : ℕ) → IsEarlier s → c ≤ length s.classes → fields_within n (grown s d k) c ≡ fields_within n s c
fields_kept zero s d k c e h = refl
fields_kept (suc n) s d k zero e h = ap (λ fields. fields ++ []) (fields_kept n s d k 0 e h)
fields_kept (suc n) s d k (suc c) e h =
    let a = within_old s.classes d c (omega arith) in
    let b = fields_kept n s d k (parent_of (class_at s (suc c))) e (let q = e c in omega arith) in
    ap (λ o. fields_within n (grown s d k) (parent_of o) ++ own_fields o) a ∙ ap (λ fields. fields ++ own_fields (slice_get s.classes c)) b

pub below_kept : (n : ℕ) (s : Schema) (d : ClassDef) (k a b : ℕ) → IsEarlier s → a ≤ length s.classes → below_within n (grown s d k) a b ≡ below_within n s a b
below_kept zero s d k a b e h = refl
below_kept (suc n) s d k zero b e h = ap (λ r. 0 == b || r) (below_kept n s d k 0 b e h)
below_kept (suc n) s d k (suc a) b e h =
    let q = within_old s.classes d a (omega arith) in
    let r = below_kept n s d k (parent_of (class_at s (suc a))) b e (let p = e a in omega arith) in
    ap (λ o. suc a == b || below_within n (grown s d k) (parent_of o) b) q ∙ ap (λ r. suc a == b || r) r

-- A class is below no later one.
below_no_later : (n : ℕ) (s : Schema) (a b : ℕ) → IsEarlier s → a < b → below_within n s a b ≡ false
below_no_later zero s a b e h = refl
below_no_later (suc n) s zero b e h = ap (λ r. r || below_within n s 0 b) (ne_eqb 0 b (λ q. omega arith)) ∙ below_no_later n s 0 b e h
below_no_later (suc n) s (suc a) b e h =
    ap (λ r. r || below_within n s (parent_of (class_at s (suc a))) b) (ne_eqb (suc a) b (λ q. omega arith)) ∙ below_no_later n s (parent_of (class_at s (suc a))) b e (let p = e a in omega arith)

-- no class is class 0
pub below_nothing : (n : ℕ) (s : Schema) (b : ℕ) → 0 < b → below_within n s 0 b ≡ false
below_nothing zero s b h = refl
below_nothing (suc n) s b h = ap (λ r. r || below_within n s 0 b) (ne_eqb 0 b (λ q. omega arith)) ∙ below_nothing n s b h

-- ---- lists with their numbers

pub enumerated : (n : ℕ) (cs : List ClassDef) (d : ClassDef) → enumerate_from n (cs ++ d ∷ []) ≡ enumerate_from n cs ++ (n + length cs, d) ∷ []
enumerated n [] d = ap (λ m. (m, d) ∷ []) (omega arith)
enumerated n (c ∷ cs) d = ap (λ es. (n, c) ∷ es) (enumerated (n + 1) cs d ∙ ap (λ m. enumerate_from (n + 1) cs ++ (m, d) ∷ []) (omega arith))

-- tests that say the same of each number that is there
pub all_kept : (f g : ℕ × ClassDef → Bool) (n : ℕ) (cs : List ClassDef) → ((m : ℕ) (c : ClassDef) → n ≤ m → m < n + length cs → f (m, c) ≡ g (m, c)) → list_all f (enumerate_from n cs) ≡ list_all g (enumerate_from n cs)
all_kept f g n [] h = refl
all_kept f g n (c ∷ cs) h = λ i. h n c (omega arith) (omega arith) i && all_kept f g (n + 1) cs (λ m b p q. h m b (omega arith) (omega arith)) i

pub kept_by_both : (f g : ℕ × ClassDef → Bool) (n : ℕ) (cs : List ClassDef) → ((m : ℕ) (c : ClassDef) → n ≤ m → m < n + length cs → f (m, c) ≡ g (m, c)) → filter f (enumerate_from n cs) ≡ filter g (enumerate_from n cs)
kept_by_both f g n [] h = refl
kept_by_both f g n (c ∷ cs) h =
    λ i. let rest = kept_by_both f g (n + 1) cs (λ m b p q. h m b (omega arith) (omega arith)) i in cond (h n c (omega arith) (omega arith) i) ((n, c) ∷ rest) rest

pub kept_by_none : (f : ℕ × ClassDef → Bool) (n : ℕ) (cs : List ClassDef) → ((m : ℕ) (c : ClassDef) → n ≤ m → m < n + length cs → f (m, c) ≡ false) → filter f (enumerate_from n cs) ≡ []
kept_by_none f n [] h = refl
kept_by_none f n (c ∷ cs) h = let rest = kept_by_none f (n + 1) cs (λ m b p q. h m b (omega arith) (omega arith)) in λ i. cond (h n c (omega arith) (omega arith) i) ((n, c) ∷ rest i) (rest i)

-- ---- the limits, with a class more

pub ancestors_kept : (s : Schema) (d : ClassDef) (k c : ℕ) → IsEarlier s → 1 ≤ c → c ≤ length s.classes → ancestors (grown s d k) c ≡ ancestors s c
unfolding is_sub
ancestors_kept s d k c e p h =
    let n = length s.classes in
    let old = kept_by_both (λ e. is_above (grown s d k) e.0 c) (λ e. is_above s e.0 c) 1 s.classes (λ m b q r. ap (λ x. not (m == c) && x) (below_kept c s d k c m e h)) in
    let late = below_kept c s d k c (1 + n) e h ∙ below_no_later c s c (1 + n) e (omega arith) in
    ap (filter (λ e. is_above (grown s d k) e.0 c)) (enumerated 1 s.classes d)
    ∙ filter-append (λ e. is_above (grown s d k) e.0 c) (enumerate_from 1 s.classes) ((1 + n, d) ∷ [])
    ∙ (λ i. old i ++ cond (and_right (not (1 + n == c)) _ late i) ((1 + n, d) ∷ []) [])
    ∙ append-nil (ancestors s c)

pub and_true : (b : Bool) → (b && true) ≡ b
and_true true = refl
and_true false = refl

pub fields_of_old : (s : Schema) (d : ClassDef) (k c : ℕ) → IsEarlier s → c ≤ length s.classes → fields_of (grown s d k) c ≡ fields_of s c
unfolding fields_of
fields_of_old s d k c e h = fields_kept c s d k c e h

pub few_own_fields : (s : Schema) (d : ClassDef) (k : ℕ) → has_few_own_fields (grown s d k) ≡ (has_few_own_fields s && nat_le (length d.fields) 1000)
few_own_fields s d k = list_all-append (λ c. nat_le (length c.fields) 1000) s.classes (d ∷ []) ∙ ap (λ b. has_few_own_fields s && b) (and_true (nat_le (length d.fields) 1000))

length_more : (cs : List ClassDef) (d : ClassDef) → length (cs ++ d ∷ []) ≡ suc (length cs)
length_more [] d = refl
length_more (c ∷ cs) d = ap suc (length_more cs d)

pub few_classes : (s : Schema) (d : ClassDef) (k : ℕ) → has_few_classes (grown s d k) ≡ nat_lt (length s.classes) 65535
few_classes s d k = ap (λ n. nat_le n 65535) (length_more s.classes d) ∙ step (length s.classes) where
  step : (n : ℕ) → nat_le (suc n) 65535 ≡ nat_lt n 65535
  step n = grind (arith, nat_tests)

pub all_current : (id : ℕ) (ds : List Decl) → length (current (declared_fields [] id ds)) ≡ length ds
all_current id [] = refl
all_current id (d ∷ ds) = ap suc (all_current (id + 1) ds)

pub as_many : (id : ℕ) (ds : List Decl) → length (declared_fields [] id ds) ≡ length ds
as_many id [] = refl
as_many id (d ∷ ds) = ap suc (as_many (id + 1) ds)
