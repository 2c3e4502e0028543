-- What a table of numbers by names answers after a change.
use Rattle.std.proofs.Common.{◌≡◌, ℕ, zero, suc, ◌+◌, Bool, true, false, not, ◌||◌, cond, List, [], ◌∷◌, ◌++◌, length, map, Some, None, slice_get, slice_set, refl, sym, ap, ◌∙◌, arith, true≢false, nat_cmp}
use Rattle.std.specs.List.{list_any}
use Rattle.std.specs.Cmp.Lexicographic.{slice_cmp, bytes_decides, nat_list_cmp_total, nat_list_eq_equiv}
use Rattle.std.specs.FinMap.{slice_cmp-IsAntisymmetric, nat_cmp-IsAntisymmetric}
use Rattle.std.specs.FinMap.Entries.{find-put, find-where_key}
use Rattle.std.proofs.lemmas.Bool.{and_parts}
use Rattle.std.proofs.lemmas.Map.Text.{is_eq-slice_cmp}
use Rattle.oc_model.specs.Maps.{Text, same, are_distinct}
use Rattle.oc_model.specs.Schemas.{number_from}
use Rattle.oc_model.specs.declared.schema.ClassDef.{ClassDef}
use Rattle.oc_shared.specs.Tables.{Rows, value_at, with_value, without_key, is_same}
use Rattle.oc_schema.specs.Drafts.{IsTable, IsRenamed}

-- ---- one name

tie : (a b : Text) → is_same b a ≡ same a b
tie a b = is_eq-slice_cmp b a ∙ nat_list_eq_equiv.symm b a

bytes : (a b : Text) → same a b ≡ true → a ≡ b
bytes a b e = (bytes_decides a b).0 e

pub value_with : (m : Rows ℕ) (k q : Text) (v : ℕ) → value_at (with_value m k v) q ≡ cond (same k q) (Some v) (value_at m q)
value_with m k q v = find-put (slice_cmp nat_cmp) nat_list_cmp_total q k v m ∙ ap (λ b. cond b (Some v) (value_at m q)) (tie k q)

turned : {X : Type 0} (b : Bool) (x y : X) → cond (not b) x y ≡ cond b y x
turned true x y = refl
turned false x y = refl

value_without : (m : Rows ℕ) (k q : Text) → value_at (without_key m k) q ≡ cond (same k q) None (value_at m q)
value_without m k q =
    find-where_key (slice_cmp nat_cmp) (λ x. not (is_same k x)) q (λ x t. ap (λ y. not (is_same k y)) (sym (slice_cmp-IsAntisymmetric nat_cmp-IsAntisymmetric q x t))) m
    ∙ turned (is_same k q) (value_at m q) None
    ∙ ap (λ b. cond b None (value_at m q)) (is_eq-slice_cmp k q)

-- the name stays
pub kept : (m t : Rows ℕ) (number : ℕ) (from to : Text) → value_at m from ≡ Some number → same from to ≡ true → t ≡ m → IsRenamed m number from to t
kept m t number from to here e is q =
    ap (λ r. value_at r q) is
    ∙ (elim (same to q) as (λ b. same to q ≡ b → value_at m q ≡ cond b (Some number) (cond (same from q) None (value_at m q))) [
      | true ↦ λ p. ap (value_at m) (sym (bytes from to e ∙ bytes to q p)) ∙ here
      | false ↦ λ p. let other : same from q ≡ false = ap (λ f. same f q) (bytes from to e) ∙ p in sym (ap (λ b. cond b None (value_at m q)) other)
    ]) refl

-- it goes, and another comes
pub exchanged : (m o t : Rows ℕ) (number : ℕ) (from to : Text) → o ≡ without_key m from → t ≡ with_value o to number → IsRenamed m number from to t
exchanged m o t number from to gone new q =
    ap (λ r. value_at r q) new ∙ value_with o to q number ∙ ap (cond (same to q) (Some number)) (ap (λ r. value_at r q) gone ∙ value_without m from q)

-- ---- names apart

abbrev names : List ClassDef → List Text
names cs = map (λ c. c.name) cs

neither : (a b : Bool) → (a || b) ≡ false → (a ≡ false) × (b ≡ false)
neither true b e = absurd (true≢false e)
neither false b e = (refl, e)

no : (b : Bool) → not b ≡ true → b ≡ false
no true e = absurd (true≢false (sym e))
no false e = refl

-- a name that is none of these isn't that of the class in a place, nor of one that is put there or behind
apart_at : (x : Text) (cs : List ClassDef) (i : ℕ) (c : ClassDef) → list_any (same x) (names cs) ≡ false → slice_get cs i ≡ Some c → same x c.name ≡ false
apart_at x [] i c h e = absurd (cc)
apart_at x (d ∷ cs) zero c h e = let k : d ≡ c = cc in ap (λ y. same x y.name) (sym k) ∙ (neither (same x d.name) (list_any (same x) (names cs)) h).0
apart_at x (d ∷ cs) (suc i) c h e = apart_at x cs i c (neither (same x d.name) (list_any (same x) (names cs)) h).1 e

apart_set : (x : Text) (cs : List ClassDef) (i : ℕ) (old c : ClassDef) → slice_get cs i ≡ Some old → list_any (same x) (names (slice_set cs i c)) ≡ false → same x c.name ≡ false
apart_set x [] i old c e h = absurd (cc)
apart_set x (d ∷ cs) zero old c e h = (neither (same x c.name) (list_any (same x) (names cs)) h).0
apart_set x (d ∷ cs) (suc i) old c e h = apart_set x cs i old c e (neither (same x d.name) (list_any (same x) (names (slice_set cs i c))) h).1

apart_last : (x : Text) (cs : List ClassDef) (c : ClassDef) → list_any (same x) (names (cs ++ c ∷ [])) ≡ false → same x c.name ≡ false
apart_last x [] c h = (neither (same x c.name) false h).0
apart_last x (d ∷ cs) c h = apart_last x cs c (neither (same x d.name) (list_any (same x) (names (cs ++ c ∷ []))) h).1

-- no class has a name that is none of these
none_named : (n : ℕ) (cs : List ClassDef) (q : Text) → list_any (same q) (names cs) ≡ false → number_from n cs q ≡ None
none_named n [] q h = refl
none_named n (c ∷ cs) q h =
    let parts = neither (same q c.name) (list_any (same q) (names cs)) h in
    ap (λ b. cond b (Some n) (number_from (n + 1) cs q)) (nat_list_eq_equiv.symm c.name q ∙ parts.0) ∙ none_named (n + 1) cs q parts.1

-- two tests of which at most one holds
exchange : {X : Type 0} (a b : Bool) (x y z : X) → (a ≡ true → b ≡ false) → cond a x (cond b y z) ≡ cond b y (cond a x z)
exchange true b x y z apart = ap (λ t. cond t y x) (sym (apart refl))
exchange false b x y z apart = refl

-- where d has the name q, and c another, c hasn't
not_named : (d c q : Text) → same d c ≡ false → same d q ≡ true → same c q ≡ false
not_named d c q n y = nat_list_eq_equiv.symm c q ∙ ap (λ x. same x c) (sym (bytes d q y)) ∙ n

-- ---- the number of a class

pub number_here : (n : ℕ) (cs : List ClassDef) (i : ℕ) (c : ClassDef) → are_distinct (names cs) ≡ true → slice_get cs i ≡ Some c → number_from n cs c.name ≡ Some (n + i)
number_here n [] i c h e = absurd (cc)
number_here n (d ∷ cs) zero c h e =
    let k : d ≡ c = cc in
    let z : n ≡ n + 0 = omega arith in
    ap (λ b. cond b (Some n) (number_from (n + 1) cs c.name)) (ap (λ y. same y.name c.name) k ∙ nat_list_eq_equiv.refl c.name) ∙ ap Some z
number_here n (d ∷ cs) (suc i) c h e =
    let parts = and_parts (not (list_any (same d.name) (names cs))) (are_distinct (names cs)) h in
    let z : n + 1 + i ≡ n + suc i = omega arith in
    ap (λ b. cond b (Some n) (number_from (n + 1) cs c.name)) (apart_at d.name cs i c (no _ parts.0) e) ∙ number_here (n + 1) cs i c parts.1 e ∙ ap Some z

number_last : (n : ℕ) (cs : List ClassDef) (c : ClassDef) (q : Text) → are_distinct (names (cs ++ c ∷ [])) ≡ true → number_from n (cs ++ c ∷ []) q ≡ cond (same c.name q) (Some (n + length cs)) (number_from n cs q)
number_last n [] c q h = let z : n ≡ n + 0 = omega arith in ap (λ m. cond (same c.name q) (Some m) None) z
number_last n (d ∷ cs) c q h =
    let parts = and_parts (not (list_any (same d.name) (names (cs ++ c ∷ [])))) (are_distinct (names (cs ++ c ∷ []))) h in
    let z : n + 1 + length cs ≡ n + suc (length cs) = omega arith in
    ap (cond (same d.name q) (Some n)) (number_last (n + 1) cs c q parts.1)
    ∙ exchange (same d.name q) (same c.name q) (Some n) (Some (n + 1 + length cs)) (number_from (n + 1) cs q) (not_named d.name c.name q (apart_last d.name cs c (no _ parts.0)))
    ∙ ap (λ m. cond (same c.name q) (Some m) (cond (same d.name q) (Some n) (number_from (n + 1) cs q))) z

number_set : (n : ℕ) (cs : List ClassDef) (i : ℕ) (old c : ClassDef) (q : Text) → slice_get cs i ≡ Some old → are_distinct (names cs) ≡ true → are_distinct (names (slice_set cs i c)) ≡ true
    → number_from n (slice_set cs i c) q ≡ cond (same c.name q) (Some (n + i)) (cond (same old.name q) None (number_from n cs q))
number_set n [] i old c q e h k = absurd (cc)
number_set n (d ∷ cs) zero old c q e h k =
    let same_class : d ≡ old = cc in
    let z : n ≡ n + 0 = omega arith in
    let free = (and_parts (not (list_any (same d.name) (names cs))) (are_distinct (names cs)) h).0 in
    ap (cond (same c.name q) (Some n))
    ((elim (same d.name q) as (λ b. same d.name q ≡ b → number_from (n + 1) cs q ≡ cond b None (cond b (Some n) (number_from (n + 1) cs q))) [
      | true ↦ λ p. ap (number_from (n + 1) cs) (sym (bytes d.name q p)) ∙ none_named (n + 1) cs d.name (no _ free)
      | false ↦ λ p. refl
    ]) refl
    ∙ ap (λ y. cond (same y.name q) None (cond (same d.name q) (Some n) (number_from (n + 1) cs q))) same_class)
    ∙ ap (λ m. cond (same c.name q) (Some m) (cond (same old.name q) None (cond (same d.name q) (Some n) (number_from (n + 1) cs q)))) z
number_set n (d ∷ cs) (suc i) old c q e h k =
    let before = and_parts (not (list_any (same d.name) (names cs))) (are_distinct (names cs)) h in
    let after = and_parts (not (list_any (same d.name) (names (slice_set cs i c)))) (are_distinct (names (slice_set cs i c))) k in
    let z : n + 1 + i ≡ n + suc i = omega arith in
    ap (cond (same d.name q) (Some n)) (number_set (n + 1) cs i old c q e before.1 after.1)
    ∙ exchange (same d.name q) (same c.name q) (Some n) (Some (n + 1 + i)) (cond (same old.name q) None (number_from (n + 1) cs q)) (not_named d.name c.name q (apart_set d.name cs i old c e (no _ after.0)))
    ∙ ap (cond (same c.name q) (Some (n + 1 + i))) (exchange (same d.name q) (same old.name q) (Some n) None (number_from (n + 1) cs q) (not_named d.name old.name q (apart_at d.name cs i old (no _ before.0) e)))
    ∙ ap (λ m. cond (same c.name q) (Some m) (cond (same old.name q) None (cond (same d.name q) (Some n) (number_from (n + 1) cs q)))) z

-- ---- the table of a schema

pub table_last : (m t : Rows ℕ) (cs : List ClassDef) (c : ClassDef) (n : ℕ) → n ≡ length cs + 1 → t ≡ with_value m c.name n → are_distinct (names (cs ++ c ∷ [])) ≡ true → IsTable m cs → IsTable t (cs ++ c ∷ [])
table_last m t cs c n len is h table q =
    let z : n ≡ 1 + length cs = omega arith in
    ap (λ r. value_at r q) is ∙ value_with m c.name q n ∙ (λ i. cond (same c.name q) (Some (z i)) (table q i)) ∙ sym (number_last 1 cs c q h)

pub table_set : (m t : Rows ℕ) (cs : List ClassDef) (number i : ℕ) (old c : ClassDef) → number ≡ 1 + i → slice_get cs i ≡ Some old → IsRenamed m number old.name c.name t
    → are_distinct (names cs) ≡ true → are_distinct (names (slice_set cs i c)) ≡ true → IsTable m cs → IsTable t (slice_set cs i c)
table_set m t cs number i old c e here renamed h k table q =
    renamed q ∙ (λ j. cond (same c.name q) (Some (e j)) (cond (same old.name q) None (table q j))) ∙ sym (number_set 1 cs i old c q here h k)
