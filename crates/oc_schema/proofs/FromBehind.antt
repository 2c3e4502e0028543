-- Lists and sets of names and of numbers, from behind.
use Rattle.std.proofs.Common.{◌≡◌, ℕ, zero, suc, ◌+◌, ◌-◌, ◌<◌, ◌≤◌, ⊎_elim, Bool, true, false, not, ◌||◌, cond, nat_eq, List, [], ◌∷◌, length, map, drop, get_or, slice_index, Some, is_some, refl, sym, ap, subst, ◌∙◌, arith, nat_cmp}
use Rattle.std.specs.List.{list_any}
use Rattle.std.specs.Ordering.{is_eq}
use Rattle.std.specs.Cmp.{eq_by_cmp_equiv}
use Rattle.std.specs.Cmp.Lexicographic.{slice_cmp, bytes_decides, nat_list_cmp_total, nat_list_eq_equiv}
use Rattle.std.specs.BTreeSet.{BTreeSet, contains_by, UpdatesBy}
use Rattle.std.specs.Map.{IsKeyTest, AreApart}
use Rattle.std.specs.Set.{KeepsOthers as KeepsOtherKeys}
use Rattle.std.proofs.lemmas.Bool.{cases_Bool, cond-true, cond-false, and_right}
use Rattle.std.proofs.lemmas.Bool.Decides.{nat_tests}
use Rattle.std.proofs.lemmas.List.{drop_more}
use Rattle.std.proofs.lemmas.Map.Text.{is_eq-slice_cmp}
use Rattle.oc_model.specs.Maps.{Text, same, is_in, are_distinct}
use Rattle.oc_model.specs.Schemas.{number_from}
use Rattle.oc_model.specs.SchemaRules.{are_apart}
use Rattle.oc_model.specs.declared.schema.ClassDef.{ClassDef}
use Rattle.oc_shared.specs.Tables.{Rows, value_at, with_value}
use Rattle.oc_schema.proofs.Names.{value_with}
use denote.Ref.{Bor}

-- ---- lists from behind

-- one element more from behind
pub turn : {X : Type 0} (xs : List X) (i : ℕ) (x : X) → 0 < i → i ≤ length xs → x ≡ get_or xs (i - 1) x → drop (i - 1) xs ≡ x ∷ drop i xs
turn xs i x pos le e =
    let s : i - 1 + 1 ≡ i = omega arith in
    drop_more xs (i - 1) x (omega arith) ∙ (λ j. sym e j ∷ drop (s j) xs)

pub turn_number : (ns : List ℕ) (i : ℕ) → 0 < i → i ≤ length ns → drop (i - 1) ns ≡ slice_index ns (i - 1) ∷ drop i ns
turn_number ns i pos le =
    let s : i - 1 + 1 ≡ i = omega arith in
    drop_more ns (i - 1) 0 (omega arith) ∙ (λ j. slice_index ns (i - 1) ∷ drop (s j) ns)

pub not_distinct : (ts : List Text) (i : ℕ) → are_distinct (drop i ts) ≡ false → are_distinct ts ≡ false
not_distinct ts zero e = e
not_distinct [] (suc i) e = e
not_distinct (t ∷ ts) (suc i) e = rw (not_distinct ts i e) (and_right (not (list_any (same t) ts)) false refl)

pub not_apart : (ns : List ℕ) (i : ℕ) → are_apart (drop i ns) ≡ false → are_apart ns ≡ false
not_apart ns zero e = e
not_apart [] (suc i) e = e
not_apart (n ∷ ns) (suc i) e = rw (not_apart ns i e) (and_right (not (is_in ns n)) false refl)

pub map-drop : {X Y : Type 0} (f : X → Y) (xs : List X) (i : ℕ) → drop i (map f xs) ≡ map f (drop i xs)
map-drop f xs zero = refl
map-drop f [] (suc i) = refl
map-drop f (x ∷ xs) (suc i) = map-drop f xs i

-- ---- sets

or_cond : (b c : Bool) → cond b true c ≡ (b || c)
or_cond true c = refl
or_cond false c = refl

tie : (n q : ℕ) → is_eq (nat_cmp n q) ≡ nat_eq q n
tie n q = grind (arith, nat_tests)

-- a set of numbers after one is put in
pub set_after : (m n : BTreeSet ℕ) (k : ℕ) → UpdatesBy nat_cmp (nat_cmp k) m n true → (q : ℕ) → contains_by (nat_cmp q) n ≡ (nat_eq q k || contains_by (nat_cmp q) m)
set_after m n k h q = h.0 q ∙ or_cond (is_eq (nat_cmp k q)) (contains_by (nat_cmp q) m) ∙ ap (λ b. b || contains_by (nat_cmp q) m) (tie k q)

apart : (bs cs ks : Text) → same bs cs ≡ false → same bs ks ≡ true → same cs ks ≡ false
apart bs cs ks n y = nat_list_eq_equiv.symm cs ks ∙ sym (nat_list_eq_equiv.congr bs ks cs y) ∙ n

apart_in_order : (bs cs ks : Text) → same bs cs ≡ false → is_eq (slice_cmp nat_cmp bs ks) ≡ true → is_eq (slice_cmp nat_cmp cs ks) ≡ false
apart_in_order bs cs ks n y = is_eq-slice_cmp cs ks ∙ apart bs cs ks n (sym (is_eq-slice_cmp bs ks) ∙ y)

other_keys : {K : Type 0} (eq : K → K → Bool) (test : K → Bool) (old new : List K) → KeepsOtherKeys eq test old new → (other : K → Bool) → IsKeyTest eq other → AreApart test other → list_any other new ≡ list_any other old
unfolding KeepsOtherKeys
other_keys eq test old new h = h

-- g is w at bs, and f at other bytes
by_bytes : {W : Type 0} (f g : Text → W) (bs : Text) (w : W) → g bs ≡ w → ((cs : Text) → same bs cs ≡ false → g cs ≡ f cs) → (cs : Text) → g cs ≡ cond (same bs cs) w (f cs)
by_bytes f g bs w here other cs =
    ⊎_elim
    (λ y. subst (λ l. g l ≡ w) ((bytes_decides bs cs).0 y) here ∙ sym (cond-true (same bs cs) w (f cs) y))
    (λ n. other cs n ∙ sym (cond-false (same bs cs) w (f cs) n))
    (cases_Bool (same bs cs))

-- a set of names after one is put in
pub name_in : (m n : BTreeSet (Bor (List ℕ))) (k : Bor (List ℕ)) → UpdatesBy (λ x y. slice_cmp nat_cmp x.now y.now) (λ y. slice_cmp nat_cmp k.now y.now) m n true
    → (q : Text) → contains_by (λ y. slice_cmp nat_cmp q y.now) n ≡ (same q k.now || contains_by (λ y. slice_cmp nat_cmp q y.now) m)
name_in m n k h q =
    by_bytes (λ cs. contains_by (λ y. slice_cmp nat_cmp cs y.now) m) (λ cs. contains_by (λ y. slice_cmp nat_cmp cs y.now) n) k.now true h.1
    (λ cs e. other_keys _ _ _ _ h.3 _ (λ x y. (eq_by_cmp_equiv nat_list_cmp_total).congr cs x.now y.now) (λ x. apart_in_order k.now cs x.now e)) q
    ∙ or_cond (same k.now q) (contains_by (λ y. slice_cmp nat_cmp q y.now) m)
    ∙ ap (λ b. b || contains_by (λ y. slice_cmp nat_cmp q y.now) m) (nat_list_eq_equiv.symm k.now q)

-- ---- classes by name

abbrev names : List ClassDef → List Text
names cs = map (λ c. c.name) cs

-- a name has a number where it is among the names
has_number : (n : ℕ) (cs : List ClassDef) (q : Text) → is_some (number_from n cs q) ≡ list_any (same q) (names cs)
has_number n [] q = refl
has_number n (c ∷ cs) q =
    (elim (same c.name q) as (λ b. is_some (cond b (Some n) (number_from (n + 1) cs q)) ≡ (b || list_any (same q) (names cs))) [ true ↦ refl | false ↦ has_number (n + 1) cs q ])
    ∙ ap (λ b. b || list_any (same q) (names cs)) (nat_list_eq_equiv.symm c.name q)

pub class_twice : (cs : List ClassDef) (i n : ℕ) (c : ClassDef) → 0 < i → i ≤ length cs → c ≡ get_or cs (i - 1) c → is_some (number_from n (drop i cs) c.name) ≡ true → are_distinct (names cs) ≡ false
class_twice cs i n c pos le e y =
    let among = sym (has_number n (drop i cs) c.name) ∙ y in
    not_distinct (names cs) (i - 1) (rw (map-drop (λ c. c.name) cs (i - 1), turn cs i c pos le e, among) refl)

pub class_once : (cs : List ClassDef) (i n : ℕ) (c : ClassDef) → 0 < i → i ≤ length cs → c ≡ get_or cs (i - 1) c → is_some (number_from n (drop i cs) c.name) ≡ false → are_distinct (names (drop i cs)) ≡ true → are_distinct (names (drop (i - 1) cs)) ≡ true
class_once cs i n c pos le e free h =
    let others = sym (has_number n (drop i cs) c.name) ∙ free in
    rw (turn cs i c pos le e, others) h

pub table_turn : (m : Rows ℕ) (cs : List ClassDef) (i : ℕ) (c : ClassDef) → 0 < i → i ≤ length cs → c ≡ get_or cs (i - 1) c
    → ((q : Text) → value_at m q ≡ number_from (i + 1) (drop i cs) q) → (q : Text) → value_at (with_value m c.name (i - 1 + 1)) q ≡ number_from (i - 1 + 1) (drop (i - 1) cs) q
table_turn m cs i c pos le e h q =
    let s : i - 1 + 1 ≡ i = omega arith in
    value_with m c.name q (i - 1 + 1)
    ∙ ap (cond (same c.name q) (Some (i - 1 + 1))) (h q)
    ∙ ap (λ a. cond (same c.name q) (Some (i - 1 + 1)) (number_from (a + 1) (drop i cs) q)) (sym s)
    ∙ ap (λ ds. number_from (i - 1 + 1) ds q) (sym (turn cs i c pos le e))
