-- A class and its parent: what is above it, its fields, and the fields that are known of its objects.
use Rattle.std.proofs.Common.{◌≡◌, refl, sym, ap, ◌∙◌, ℕ, zero, suc, ◌+◌, ◌<◌, ◌≤◌, inl, inr, Bool, true, false, not, ◌&&◌, ◌||◌, ◌==◌, nat_lt, List, [], ◌∷◌, ◌++◌, length, filter, flat_map, find, slice_get, Option, Some, None, cond, arith, append-nil, append_assoc}
use Rattle.std.specs.List.{list_all, list_any, enumerate_from}
use Rattle.std.specs.Option.{option_or}
use Rattle.std.proofs.lemmas.Bool.{and_parts, ltb-true, ne_eqb, eq-eqb, cases_eq}
use Rattle.std.proofs.lemmas.List.Folds.{find-append, list_any-append}
use Rattle.oc_model.specs.declared.value.Entry.{Entry}
use Rattle.oc_model.specs.declared.schema.FieldDef.{FieldDef}
use Rattle.oc_model.specs.declared.schema.ClassDef.{ClassDef}
use Rattle.oc_model.specs.Maps.{Text, same}
use Rattle.oc_model.specs.Schemas.{Schema, class_at, parent_of, current, own_fields, fields_within, below_within, fields_of, field_named, is_sub}
use Rattle.oc_model.specs.SchemaRules.{numbered, is_above, ancestors, has_earlier_parents}
use Rattle.oc_model.specs.SchemaSteps.{stored_fields}
use Rattle.oc_model.specs.StoreRules.{known_fields, is_under, is_known}

-- ---- parents come earlier

-- the class behind so many others has one of those as its parent, or none
abbrev pub IsEarlier : Schema → Type 0
IsEarlier s = (c : ℕ) → parent_of (class_at s (suc c)) ≤ c

below_more : (p m : ℕ) → p < m → p < m + 0
below_more p m h = omega arith

next_place : (p m i : ℕ) → p < m + 1 + i → p < m + suc i
next_place p m i h = omega arith

strictly_in : (m : ℕ) (cs : List ClassDef) → 1 ≤ m → list_all (λ (e : ℕ × ClassDef). nat_lt (e.1).parent e.0) (enumerate_from m cs) ≡ true → (i : ℕ) → parent_of (slice_get cs i) < m + i
strictly_in m [] p h i = omega arith
strictly_in m (c ∷ cs) p h zero = below_more c.parent m (ltb-true c.parent m (and_parts _ _ h).0)
strictly_in m (c ∷ cs) p h (suc i) = next_place (parent_of (slice_get cs i)) m i (strictly_in (m + 1) cs (omega arith) (and_parts _ _ h).1 i)

pub is_earlier : (s : Schema) → has_earlier_parents s ≡ true → IsEarlier s
is_earlier s h c = let a = strictly_in 1 s.classes (omega arith) h c in omega arith

-- a parent's number is smaller
pub parent_smaller : (s : Schema) (c : ℕ) → has_earlier_parents s ≡ true → 1 ≤ c → parent_of (class_at s c) < c
parent_smaller s zero h some = absurd (omega arith)
parent_smaller s (suc c) h some = let p = is_earlier s h c in omega arith

parent_below : (n a : ℕ) (s : Schema) → IsEarlier s → a ≤ suc n → parent_of (class_at s a) ≤ n
parent_below n zero s e p = omega arith
parent_below n (suc a) s e p = let up = e a in omega arith

-- ---- the fields

no_fields : (n : ℕ) (s : Schema) → fields_within n s 0 ≡ []
no_fields zero s = refl
no_fields (suc n) s = ap (λ fields. fields ++ []) (no_fields n s)

-- more fuel than the class's number changes nothing
fields_same : (m n c : ℕ) (s : Schema) → IsEarlier s → c ≤ m → c ≤ n → fields_within m s c ≡ fields_within n s c
fields_same m n zero s e p q = no_fields m s ∙ sym (no_fields n s)
fields_same zero n (suc c) s e p q = absurd (omega arith)
fields_same (suc m) zero (suc c) s e p q = absurd (omega arith)
fields_same (suc m) (suc n) (suc c) s e p q =
    let up = e c in
    ap (λ fields. fields ++ own_fields (class_at s (suc c))) (fields_same m n (parent_of (class_at s (suc c))) s e (omega arith) (omega arith))

current_stored : (o : Option ClassDef) → current (stored_fields o) ≡ own_fields o
current_stored None = refl
current_stored (Some c) = refl

-- the parent's fields, and then its own
fields_step : (s : Schema) (c : ℕ) → has_earlier_parents s ≡ true → 1 ≤ c → fields_of s c ≡ fields_of s (parent_of (class_at s c)) ++ own_fields (class_at s c)
unfolding fields_of
fields_step s zero h some = absurd (omega arith)
fields_step s (suc c) h some =
    let e = is_earlier s h in
    let up = e c in
    let p = parent_of (class_at s (suc c)) in
    ap (λ fields. fields ++ own_fields (class_at s (suc c))) (fields_same c p p s e up (omega arith))

no_fields_of : (s : Schema) → fields_of s 0 ≡ []
unfolding fields_of
no_fields_of s = refl

pub fields_pushed : (had : List FieldDef) (s : Schema) (c : ℕ) → has_earlier_parents s ≡ true → 1 ≤ c
    → had ++ fields_of s (parent_of (class_at s c)) ++ current (stored_fields (class_at s c)) ≡ had ++ fields_of s c
fields_pushed had s c h some =
    append_assoc had (fields_of s (parent_of (class_at s c))) (current (stored_fields (class_at s c)))
    ∙ ap (λ fs. had ++ fs) (ap (λ fs. fields_of s (parent_of (class_at s c)) ++ fs) (current_stored (class_at s c)) ∙ sym (fields_step s c h some))

pub none_pushed : (had : List FieldDef) (s : Schema) (c : ℕ) → c ≡ 0 → had ≡ had ++ fields_of s c
none_pushed had s c e = sym (ap (λ n. had ++ fields_of s n) e ∙ ap (λ fs. had ++ fs) (no_fields_of s) ∙ append-nil had)

pub named_step : (s : Schema) (c : ℕ) (name : Text) → has_earlier_parents s ≡ true → 1 ≤ c
    → field_named s c name ≡ option_or (field_named s (parent_of (class_at s c)) name) (find (λ f. same f.name name) (current (stored_fields (class_at s c))))
unfolding field_named
named_step s c name h some =
    ap (find (λ f. same f.name name)) (fields_step s c h some) ∙ find-append (λ f. same f.name name) (fields_of s (parent_of (class_at s c))) (own_fields (class_at s c))
    ∙ ap (λ fs. option_or (field_named s (parent_of (class_at s c)) name) (find (λ f. same f.name name) fs)) (sym (current_stored (class_at s c)))

pub no_field_named : (s : Schema) (name : Text) → field_named s 0 name ≡ None
unfolding field_named
no_field_named s name = ap (find (λ f. same f.name name)) (no_fields_of s)

-- ---- what is above

-- no class is class 0
below_nothing : (n : ℕ) (s : Schema) (b : ℕ) → 0 < b → below_within n s 0 b ≡ false
below_nothing zero s b h = refl
below_nothing (suc n) s b h = ap (λ r. r || below_within n s 0 b) (ne_eqb 0 b (λ q. omega arith)) ∙ below_nothing n s b h

-- more fuel than the class's number changes nothing
below_same : (m n a b : ℕ) (s : Schema) → IsEarlier s → 1 ≤ b → a ≤ m → a ≤ n → below_within m s a b ≡ below_within n s a b
below_same m n zero b s e some p q = below_nothing m s b some ∙ sym (below_nothing n s b some)
below_same zero n (suc a) b s e some p q = absurd (omega arith)
below_same (suc m) zero (suc a) b s e some p q = absurd (omega arith)
below_same (suc m) (suc n) (suc a) b s e some p q =
    let up = parent_below a (suc a) s e (omega arith) in
    ap (λ t. suc a == b || t) (below_same m n (parent_of (class_at s (suc a))) b s e some (omega arith) (omega arith))

-- a class is below what its parent is below, and below its parent
pub sub_step : (s : Schema) (a b : ℕ) → has_earlier_parents s ≡ true → 1 ≤ a → 1 ≤ b → is_sub s a b ≡ (a == b || is_sub s (parent_of (class_at s a)) b)
unfolding is_sub
sub_step s zero b h some to = absurd (omega arith)
sub_step s (suc a) b h some to =
    let e = is_earlier s h in
    let up = e a in
    let p = parent_of (class_at s (suc a)) in
    ap (λ t. suc a == b || t) (below_same a p p b s e to up (omega arith))

pub sub_self : (s : Schema) (a : ℕ) → 1 ≤ a → is_sub s a a ≡ true
unfolding is_sub
sub_self s zero some = absurd (omega arith)
sub_self s (suc a) some = ap (λ t. t || below_within a s (parent_of (class_at s (suc a))) (suc a)) (eq-eqb (suc a) (suc a) refl)

pub sub_other : (s : Schema) (a b : ℕ) → has_earlier_parents s ≡ true → 1 ≤ a → 1 ≤ b → (a ≡ b → ⊥) → is_sub s a b ≡ is_sub s (parent_of (class_at s a)) b
sub_other s a b h some to other = sub_step s a b h some to ∙ ap (λ t. t || is_sub s (parent_of (class_at s a)) b) (ne_eqb a b other)

pub sub_none : (s : Schema) (b : ℕ) → is_sub s 0 b ≡ false
unfolding is_sub
sub_none s b = refl

-- A class is below no later one.
below_no_later : (n : ℕ) (s : Schema) (a b : ℕ) → IsEarlier s → a < b → below_within n s a b ≡ false
below_no_later zero s a b e h = refl
below_no_later (suc n) s zero b e h = ap (λ r. r || below_within n s 0 b) (ne_eqb 0 b (λ q. omega arith)) ∙ below_no_later n s 0 b e h
below_no_later (suc n) s (suc a) b e h =
    ap (λ r. r || below_within n s (parent_of (class_at s (suc a))) b) (ne_eqb (suc a) b (λ q. omega arith)) ∙ below_no_later n s (parent_of (class_at s (suc a))) b e (let p = e a in omega arith)

-- tests that say the same of each number that is there
kept_by_both : (f g : ℕ × ClassDef → Bool) (n : ℕ) (cs : List ClassDef) → ((m : ℕ) (c : ClassDef) → n ≤ m → m < n + length cs → f (m, c) ≡ g (m, c)) → filter f (enumerate_from n cs) ≡ filter g (enumerate_from n cs)
kept_by_both f g n [] h = refl
kept_by_both f g n (c ∷ cs) h =
    λ i. let rest = kept_by_both f g (n + 1) cs (λ m b p q. h m b (omega arith) (omega arith)) i in cond (h n c (omega arith) (omega arith) i) ((n, c) ∷ rest) rest

kept_by_none : (f : ℕ × ClassDef → Bool) (n : ℕ) (cs : List ClassDef) → ((m : ℕ) (c : ClassDef) → n ≤ m → m < n + length cs → f (m, c) ≡ false) → filter f (enumerate_from n cs) ≡ []
kept_by_none f n [] h = refl
kept_by_none f n (c ∷ cs) h = let rest = kept_by_none f (n + 1) cs (λ m b p q. h m b (omega arith) (omega arith)) in λ i. cond (h n c (omega arith) (omega arith) i) ((n, c) ∷ rest i) (rest i)

-- those that are below class p or are it: class p, and those below it
counted_once : (g : ℕ → Bool) (p m : ℕ) (cs : List ClassDef) → m ≤ p → p < m + length cs → g p ≡ true
    → length (filter (λ (e : ℕ × ClassDef). g e.0) (enumerate_from m cs)) ≡ suc (length (filter (λ (e : ℕ × ClassDef). not (e.0 == p) && g e.0) (enumerate_from m cs)))
counted_once g p m [] low high h = absurd (omega arith)
counted_once g p m (c ∷ cs) low high h =
    elim (cases_eq m p) as (λ _. length (filter (λ (e : ℕ × ClassDef). g e.0) (enumerate_from m (c ∷ cs))) ≡ suc (length (filter (λ (e : ℕ × ClassDef). not (e.0 == p) && g e.0) (enumerate_from m (c ∷ cs))))) [
      | inl same ↦
          let all = filter (λ (e : ℕ × ClassDef). g e.0) (enumerate_from (m + 1) cs) in
          let others = kept_by_both (λ e. g e.0) (λ e. not (e.0 == p) && g e.0) (m + 1) cs (λ k d a b. ap (λ t. not t && g k) (sym (ne_eqb k p (λ q. omega arith)))) in
          ap (λ t. length (cond t ((m, c) ∷ all) all)) (ap g same ∙ h)
          ∙ ap (λ (es : List (ℕ × ClassDef)). suc (length es)) others
          ∙ ap (λ t. suc (length (cond (not t && g m) ((m, c) ∷ filter (λ (e : ℕ × ClassDef). not (e.0 == p) && g e.0) (enumerate_from (m + 1) cs)) (filter (λ (e : ℕ × ClassDef). not (e.0 == p) && g e.0) (enumerate_from (m + 1) cs))))) (sym (eq-eqb m p same))
      | inr other ↦
          let some = filter (λ (e : ℕ × ClassDef). not (e.0 == p) && g e.0) (enumerate_from (m + 1) cs) in
          let all = filter (λ (e : ℕ × ClassDef). g e.0) (enumerate_from (m + 1) cs) in
          let rest : length all ≡ suc (length some) = counted_once g p (m + 1) cs (omega arith) (omega arith) h in
          (elim (g m) as (λ t. length (cond t ((m, c) ∷ all) all) ≡ suc (length (cond (true && t) ((m, c) ∷ some) some))) [ true ↦ ap suc rest | false ↦ rest ])
          ∙ ap (λ t. suc (length (cond (not t && g m) ((m, c) ∷ some) some))) (sym (ne_eqb m p other))
    ]

-- the class of a number and its ancestors, counted
abbrev pub lineage : Schema → ℕ → ℕ
lineage s zero = 0
lineage s (suc c) = suc (length (ancestors s (suc c)))

-- those that a class is below, or is
upward : Schema → ℕ → List (ℕ × ClassDef)
upward s c = filter (λ e. is_sub s c e.0) (numbered s)

upward_counted : (s : Schema) (c : ℕ) → c ≤ length s.classes → length (upward s c) ≡ lineage s c
unfolding upward
upward_counted s zero h = ap (λ (es : List (ℕ × ClassDef)). length es) (kept_by_none (λ e. is_sub s 0 e.0) 1 s.classes (λ m c p q. sub_none s m))
upward_counted s (suc c) h = counted_once (λ b. is_sub s (suc c) b) (suc c) 1 s.classes (omega arith) (omega arith) (sub_self s (suc c) (omega arith))

above_step : (c m : ℕ) (x : Bool) → (m ≡ c → x ≡ false) → (not (m == c) && (c == m || x)) ≡ x
above_step c m x late =
    elim (cases_eq m c) as (λ _. (not (m == c) && (c == m || x)) ≡ x) [
      | inl same ↦ ap (λ t. not t && (c == m || x)) (eq-eqb m c same) ∙ sym (late same)
      | inr other ↦ (λ i. not (ne_eqb m c other i) && (ne_eqb c m (λ q. other (sym q)) i || x))
    ]

-- the ancestors are the parent and its ancestors
pub ancestors_counted : (s : Schema) (c : ℕ) → has_earlier_parents s ≡ true → 1 ≤ c → c ≤ length s.classes → length (ancestors s c) ≡ lineage s (parent_of (class_at s c))
unfolding upward is_sub
ancestors_counted s c h some there =
    let e = is_earlier s h in
    let p = parent_of (class_at s c) in
    let up = parent_smaller s c h some in
    ap (λ (es : List (ℕ × ClassDef)). length es)
    (kept_by_both (λ x. is_above s x.0 c) (λ x. is_sub s p x.0) 1 s.classes
    (λ m d low high. ap (λ t. not (m == c) && t) (sub_step s c m h some low) ∙ above_step c m (is_sub s p m) (λ same. below_no_later p s p m e (omega arith))))
    ∙ upward_counted s p (omega arith)

-- ---- the fields that are known of an object

both : (a p q : Bool) → (a || (p || q)) ≡ ((a || p) || (a || q))
both true p q = refl
both false p q = refl

first : (a p q : Bool) → (a || (p || q)) ≡ ((a || p) || q)
first true p q = refl
first false p q = refl

second : (a p q : Bool) → (a || (p || q)) ≡ (p || (a || q))
second true true q = refl
second true false q = refl
second false p q = refl

any_parted : {X Y : Type 0} (t : Y → Bool) (f : X → List Y) (p q : X → Bool) (xs : List X)
    → list_any t (flat_map f (filter (λ x. p x || q x) xs)) ≡ (list_any t (flat_map f (filter p xs)) || list_any t (flat_map f (filter q xs)))
any_parted {X} t f p q [] = refl
any_parted {X} t f p q (x ∷ xs) =
    let ps = filter p xs in
    let qs = filter q xs in
    let all = filter (λ x. p x || q x) xs in
    let rest = any_parted t f p q xs in
    let here = list_any t (f x) in
    let more : (es : List X) → list_any t (f x ++ flat_map f es) ≡ (here || list_any t (flat_map f es)) = λ es. list_any-append t (f x) (flat_map f es) in
    (elim (p x) as (λ b. list_any t (flat_map f (cond (b || q x) (x ∷ all) all)) ≡ (list_any t (flat_map f (cond b (x ∷ ps) ps)) || list_any t (flat_map f (cond (q x) (x ∷ qs) qs)))) [
      | true ↦ (elim (q x) as (λ d. list_any t (f x ++ flat_map f all) ≡ (list_any t (f x ++ flat_map f ps) || list_any t (flat_map f (cond d (x ∷ qs) qs)))) [
        | true ↦ more all ∙ ap (λ r. here || r) rest ∙ both here (list_any t (flat_map f ps)) (list_any t (flat_map f qs)) ∙ (λ i. sym (more ps) i || sym (more qs) i)
        | false ↦ more all ∙ ap (λ r. here || r) rest ∙ first here (list_any t (flat_map f ps)) (list_any t (flat_map f qs)) ∙ ap (λ r. r || list_any t (flat_map f qs)) (sym (more ps))
      ])
      | false ↦ (elim (q x) as (λ d. list_any t (flat_map f (cond d (x ∷ all) all)) ≡ (list_any t (flat_map f ps) || list_any t (flat_map f (cond d (x ∷ qs) qs)))) [
        | true ↦ more all ∙ ap (λ r. here || r) rest ∙ second here (list_any t (flat_map f ps)) (list_any t (flat_map f qs)) ∙ ap (λ r. list_any t (flat_map f ps) || r) (sym (more qs))
        | false ↦ rest
      ])
    ])

-- the fields of the one class of this number
alone : (n c i : ℕ) (cs : List ClassDef) → c ≡ n + i → flat_map (λ (e : ℕ × ClassDef). (e.1).fields) (filter (λ (e : ℕ × ClassDef). c == e.0) (enumerate_from n cs)) ≡ stored_fields (slice_get cs i)
alone n c i [] h = refl
alone n c zero (d ∷ cs) h =
    let none = kept_by_none (λ e. c == e.0) (n + 1) cs (λ m b p q. ne_eqb c m (λ z. omega arith)) in
    let same = eq-eqb c n (omega arith) in
    (λ j. flat_map (λ (e : ℕ × ClassDef). (e.1).fields) (cond (same j) ((n, d) ∷ none j) (none j))) ∙ append-nil d.fields
alone n c (suc i) (d ∷ cs) h =
    let rest = filter (λ (e : ℕ × ClassDef). c == e.0) (enumerate_from (n + 1) cs) in
    let other = ne_eqb c n (λ z. omega arith) in
    ap (λ b. flat_map (λ (e : ℕ × ClassDef). (e.1).fields) (cond b ((n, d) ∷ rest) rest)) other ∙ alone (n + 1) c i cs (omega arith)

-- the class's own fields are known of its objects, and those known of the parent's
pub known_step : (s : Schema) (c : ℕ) (e : Entry) → has_earlier_parents s ≡ true → 1 ≤ c
    → is_known s c e ≡ (list_any (λ f. is_under f e) (stored_fields (class_at s c)) || is_known s (parent_of (class_at s c)) e)
unfolding known_fields
known_step s zero e h some = absurd (omega arith)
known_step s (suc c) e h some =
    let p = parent_of (class_at s (suc c)) in
    let t : FieldDef → Bool = λ f. is_under f e in
    let fields : ℕ × ClassDef → List FieldDef = λ x. (x.1).fields in
    ap (λ es. list_any t (flat_map fields es)) (kept_by_both (λ x. is_sub s (suc c) x.0) (λ x. suc c == x.0 || is_sub s p x.0) 1 s.classes (λ m d low high. sub_step s (suc c) m h some low))
    ∙ any_parted t fields (λ x. suc c == x.0) (λ x. is_sub s p x.0) (numbered s)
    ∙ ap (λ fs. list_any t fs || is_known s p e) (alone 1 (suc c) c s.classes (omega arith))

pub known_none : (s : Schema) (e : Entry) → is_known s 0 e ≡ false
unfolding known_fields
known_none s e = ap (λ es. list_any (λ f. is_under f e) (flat_map (λ (x : ℕ × ClassDef). (x.1).fields) es)) (kept_by_none (λ x. is_sub s 0 x.0) 1 s.classes (λ m c p q. sub_none s m))
