-- Facts about the lists of a store.
use Rattle.std.proofs.Common.{◌≡◌, ℕ, zero, suc, ◌+◌, ◌<◌, ◌≤◌, ⊎_elim, Bool, true, false, not, ◌&&◌, ◌||◌, cond, ◌==◌, nat_lt, nat_le, List, [], ◌∷◌, ◌++◌, length, map, slice_get, Some, None, Ok, is_some, refl, sym, ap, subst, ap₂, ◌∙◌, arith, nat_cmp, Less, Equal, Greater, zero-add, get_or, drop, ◌-◌}
use Rattle.std.specs.List.{list_any, list_all, enumerate_from, AllByRecursion}
use Rattle.std.specs.Global.{Vec}
use Rattle.std.specs.HashMap.{HashMap, UpdatesBy}
use Rattle.std.specs.HashSet.{HashSet}
use Rattle.std.specs.HashSet as bag
use Rattle.std.specs.Set.{KeepsOthers as KeepsOtherKeys}
use denote.Ref.{Bor}
use Rattle.std.specs.Map.{lookup, IsKeyTest, AreApart, KeepsOthers}
use Rattle.std.specs.Cmp.Lexicographic.{bytes_decides, nat_list_eq_equiv}
use Rattle.std.proofs.lemmas.Bool.{cases_Bool, cond-true, cond-false, and_right}
use Rattle.std.proofs.lemmas.Bool.Decides.{nat_tests}
use Rattle.std.proofs.lemmas.List.{length_push, drop_more}
use Rattle.std.proofs.lemmas.Option.{slice_get_within, slice_get_read}
use Rattle.oc_model.specs.declared.value.Rec.{Rec}
use Rattle.oc_model.specs.declared.schema.FieldDef.{FieldDef}
use Rattle.oc_model.specs.declared.schema.ClassDef.{ClassDef}
use Rattle.oc_model.specs.declared.command.Decl.{Decl}
use Rattle.oc_model.specs.declared.answer.Answer.TheVariants as answer
use Rattle.oc_model.specs.Maps.{at, with_at, Text, same, are_distinct}
use Rattle.oc_model.specs.Schemas.{Schema, number_from, current, parent_of, fields_within, fields_of, below_within, is_sub}
use Rattle.oc_model.specs.SchemaRules.{has_earlier_parents, is_within_limits}
use Rattle.oc_model.specs.Stores.{record_len}
use Rattle.oc_model.specs.States.{State}
use Rattle.oc_machine.specs.Runs.{is_built_kind}
use Rattle.oc_run.specs.ListStore.{numbered, schema_of, live_of, live_from, state_of, Ascends, IsFlat, class_of, IsKept, number_in, IsStore, new_fields, with_record, record_step}

-- ---- records by number

greater : (x h : ℕ) → h < x → nat_cmp x h ≡ Greater
greater x h lt = grind (arith, nat_tests)

pub less : (x h : ℕ) → x < h → nat_cmp x h ≡ Less
less x h lt = grind (arith, nat_tests)

level : (x h : ℕ) → x ≡ h → nat_cmp x h ≡ Equal
level x h e = grind (arith, nat_tests)

later : (n h : ℕ) → suc n + h ≡ n + (h + 1)
later n h = omega arith

pub after : (h k : ℕ) → h + suc k ≡ (h + 1) + k
after h k = omega arith

-- a new record comes at the end
numbered_more : (h : ℕ) (rs : List Rec) (r : Rec) → with_at (numbered h rs) (length rs + h) r ≡ numbered h (rs ++ r ∷ [])
numbered_more h [] r = ap (λ n. (n, r) ∷ []) (zero-add h)
numbered_more h (q ∷ rs) r =
    rw (greater (suc (length rs) + h) h (omega arith)) (ap (λ m. (h, q) ∷ m)
    (ap (λ n. with_at (numbered (h + 1) rs) n r) (later (length rs) h) ∙ numbered_more (h + 1) rs r))

-- and so does its object
live_more : (h : ℕ) (rs : List Rec) (r : Rec) → with_at (live_from h rs) (length rs + h) (live_of (length rs + h) r) ≡ live_from h (rs ++ r ∷ [])
live_more h [] r = ap (λ n. (n, live_of n r) ∷ []) (zero-add h)
live_more h (q ∷ rs) r =
    rw (greater (suc (length rs) + h) h (omega arith)) (ap (λ m. (h, live_of h q) ∷ m)
    (ap (λ n. with_at (live_from (h + 1) rs) n (live_of n r)) (later (length rs) h) ∙ live_more (h + 1) rs r))

-- below the first number there is none
none_below : (h k : ℕ) (rs : List Rec) → k < h → at (numbered h rs) k ≡ None
none_below h k [] lt = refl
none_below h k (r ∷ rs) lt = rw (less k h lt) (none_below (h + 1) k rs (omega arith))

-- what a number has is what its place has
pub at_number : (h k : ℕ) (rs : List Rec) → at (numbered h rs) (h + k) ≡ slice_get rs k
at_number h k [] = refl
at_number h zero (r ∷ rs) = rw (level (h + 0) h (omega arith)) refl
at_number h (suc k) (r ∷ rs) =
    rw (greater (h + suc k) h (omega arith)) (ap (at (numbered (h + 1) rs)) (after h k) ∙ at_number (h + 1) k rs)

is_some-get : (k : ℕ) (rs : List Rec) → is_some (slice_get rs k) ≡ nat_le (suc k) (length rs)
is_some-get k [] = grind (arith, nat_tests)
is_some-get zero (r ∷ rs) = grind (arith, nat_tests)
is_some-get (suc k) (r ∷ rs) = is_some-get k rs ∙ grind (arith, nat_tests)

pub is_some-at : (n : ℕ) (rs : List Rec) → is_some (at (numbered 1 rs) n) ≡ (nat_le 1 n && nat_le n (length rs))
is_some-at zero rs = rw (none_below 1 0 rs (omega arith)) refl
is_some-at (suc k) rs =
    let e : suc k ≡ 1 + k = omega arith in
    let t : nat_le 1 (suc k) ≡ true = grind (arith, nat_tests) in
    rw t (ap (λ n. is_some (at (numbered 1 rs) n)) e ∙ ap is_some (at_number 1 k rs) ∙ is_some-get k rs)

pub with_record_is : (cs : List ClassDef) (nf : ℕ) (rs : List Rec) (r : Rec) → with_record (state_of cs nf rs) r ≡ state_of cs nf (rs ++ r ∷ [])
with_record_is cs nf rs r = rw (length_push rs r, ← numbered_more 1 rs r, ← live_more 1 rs r) refl

get_past : (rs : List Rec) → slice_get rs (length rs) ≡ None
get_past [] = refl
get_past (r ∷ rs) = get_past rs

-- the next number has no record
pub next_is_free : (rs : List Rec) → at (numbered 1 rs) (length rs + 1) ≡ None
next_is_free rs = ap (at (numbered 1 rs)) (omega arith) ∙ at_number 1 (length rs) rs ∙ get_past rs

-- ---- classes without parents

parent_in : (cs : List ClassDef) → AllByRecursion IsFlat cs → (n : ℕ) → parent_of (slice_get cs n) ≡ 0
parent_in [] h n = refl
parent_in (c ∷ cs) h zero = h.0.alone
parent_in (c ∷ cs) h (suc n) = parent_in cs h.1 n

flat_at : (cs : List ClassDef) (n : ℕ) (d : ClassDef) → AllByRecursion IsFlat cs → slice_get cs n ≡ Some d → IsFlat d
flat_at [] n d h e = absurd cc
flat_at (c ∷ cs) zero d h e = let s : c ≡ d = cc in subst IsFlat s h.0
flat_at (c ∷ cs) (suc n) d h e = flat_at cs n d h.1 e

pub class_is_flat : (cs : List ClassDef) (c : ℕ) (d : ClassDef) → AllByRecursion IsFlat cs → class_of cs c ≡ Some d → IsFlat d
class_is_flat cs zero d h e = absurd cc
class_is_flat cs (suc n) d h e = flat_at cs n d h e

earlier_from : (n : ℕ) (cs : List ClassDef) → 1 ≤ n → AllByRecursion IsFlat cs → list_all (λ (e : ℕ × ClassDef). nat_lt (e.1).parent e.0) (enumerate_from n cs) ≡ true
earlier_from n [] some h = refl
earlier_from n (c ∷ cs) some h =
    let alone = h.0.alone in
    let here : nat_lt c.parent n ≡ true = grind (arith, nat_tests) in
    rw (here, earlier_from (n + 1) cs (omega arith) h.1) refl

pub earlier_parents : (m : State) (cs : List ClassDef) (nf : ℕ) (rs : List Rec) → state_of cs nf rs ≡ m → AllByRecursion IsFlat cs → has_earlier_parents m.session.schema ≡ true
earlier_parents m cs nf rs e h = subst (λ m. has_earlier_parents m.session.schema ≡ true) e (earlier_from 1 cs (omega arith) h)

pub empty_is_within : is_within_limits (schema_of [] 1) ≡ true
unfolding is_within_limits
empty_is_within = refl

no_fields : (fuel : ℕ) (s : Schema) → fields_within fuel s 0 ≡ []
no_fields zero s = refl
no_fields (suc fuel) s = rw (no_fields fuel s) refl

all_current : (low : ℕ) (fs : List FieldDef) → Ascends low fs → current fs ≡ fs
all_current low [] h = refl
all_current low (f ∷ fs) h = cond-true f.current _ _ h.1 ∙ ap (λ gs. f ∷ gs) (all_current (f.id + 1) fs h.2)

-- the fields of a class are its own
pub fields_are : (cs : List ClassDef) (nf c : ℕ) (d : ClassDef) → AllByRecursion IsFlat cs → class_of cs c ≡ Some d → fields_of (schema_of cs nf) c ≡ d.fields
unfolding fields_of
fields_are cs nf zero d h e = absurd cc
fields_are cs nf (suc n) d h e =
    rw (parent_in cs h n, no_fields n (schema_of cs nf), e) (all_current 0 d.fields (flat_at cs n d h e).ascends)

not_zero : (b : ℕ) → (0 == suc b) ≡ false
not_zero b = grind (arith, nat_tests)

not_below_root : (fuel : ℕ) (s : Schema) (b : ℕ) → below_within fuel s 0 (suc b) ≡ false
not_below_root zero s b = refl
not_below_root (suc fuel) s b = rw (not_zero b) (not_below_root fuel s b)

or-false : (b : Bool) → (b || false) ≡ b
or-false true = refl
or-false false = refl

-- no class is below another
pub below_is_same : (cs : List ClassDef) (nf a b : ℕ) → AllByRecursion IsFlat cs → is_sub (schema_of cs nf) a (suc b) ≡ (a == suc b)
unfolding is_sub
below_is_same cs nf zero b h = sym (not_zero b)
below_is_same cs nf (suc a) b h =
    rw (parent_in cs h a, not_below_root a (schema_of cs nf) b) (or-false (suc a == suc b))

-- ---- classes by name

-- the class that a name finds
pub record IsNamed (cs : List ClassDef) (n c : ℕ) (name : Text) : Type 0 where
  place : ℕ
  class : ClassDef
  number : c ≡ n + place
  at_place : slice_get cs place ≡ Some class
  called : same class.name name ≡ true

named : (n : ℕ) (cs : List ClassDef) (name : Text) (c : ℕ) → number_from n cs name ≡ Some c → IsNamed cs n c name
named n [] name c e = absurd cc
named n (d ∷ cs) name c e =
    ⊎_elim
    (λ y. record { place = 0; class = d; number = let s : Some n ≡ Some c = sym (cond-true _ _ _ y) ∙ e in let t : n ≡ c = cc in omega arith; at_place = refl; called = y })
    (λ no. let r = named (n + 1) cs name c (sym (cond-false _ _ _ no) ∙ e) in
    record { place = suc r.place; class = r.class; number = let m = r.number in omega arith; at_place = r.at_place; called = r.called })
    (cases_Bool (same d.name name))

pub same_text : (a b : Text) → same a b ≡ true → a ≡ b
same_text a b e = (bytes_decides a b).0 e

pub text_same : (a b : Text) → a ≡ b → same a b ≡ true
text_same a b e = (bytes_decides a b).1 e

-- one class more, of a name that is new
number_past : (n : ℕ) (cs : List ClassDef) (d : ClassDef) (name : Text) → same d.name name ≡ false → number_from n (cs ++ d ∷ []) name ≡ number_from n cs name
number_past n [] d name e = cond-false _ _ _ e
number_past n (c ∷ cs) d name e =
    ap (λ r. cond (same c.name name) (Some n) r) (number_past (n + 1) cs d name e)

number_last : (n : ℕ) (cs : List ClassDef) (d : ClassDef) (name : Text) → same d.name name ≡ true → number_from n cs name ≡ None → number_from n (cs ++ d ∷ []) name ≡ Some (n + length cs)
number_last n [] d name e none = cond-true _ _ _ e ∙ ap (λ k. Some k) (omega arith)
number_last n (c ∷ cs) d name e none =
    ⊎_elim
    (λ y. let s : Some n ≡ None = sym (cond-true _ _ _ y) ∙ none in absurd cc)
    (λ no. cond-false _ _ _ no ∙ number_last (n + 1) cs d name e (sym (cond-false _ _ _ no) ∙ none) ∙ ap (λ k. Some k) (omega arith))
    (cases_Bool (same c.name name))

class_more : (cs : List ClassDef) (d : ClassDef) (i : ℕ) → is_some (slice_get cs i) ≡ true → slice_get (cs ++ d ∷ []) i ≡ slice_get cs i
class_more [] d i h = absurd cc
class_more (c ∷ cs) d zero h = refl
class_more (c ∷ cs) d (suc i) h = class_more cs d i h

class_of_more : (cs : List ClassDef) (d : ClassDef) (c : ℕ) → is_some (class_of cs c) ≡ true → class_of (cs ++ d ∷ []) c ≡ class_of cs c
class_of_more cs d zero h = refl
class_of_more cs d (suc i) h = class_more cs d i h

kept_more : (cs : List ClassDef) (d : ClassDef) (rs : List Rec) → AllByRecursion (IsKept cs) rs → AllByRecursion (IsKept (cs ++ d ∷ [])) rs
kept_more cs d [] h = tt
kept_more cs d (r ∷ rs) h =
    let e = class_of_more cs d r.class h.0.class in
    (record { class = rw e h.0.class; ids = rw e h.0.ids }, kept_more cs d rs h.1)

pub all_push : {X : Type 0} (P : X → Type 0) (xs : List X) (x : X) → AllByRecursion P xs → P x → AllByRecursion P (xs ++ x ∷ [])
all_push P [] x h p = (p, tt)
all_push P (y ∷ xs) x h p = (h.0, all_push P xs x h.1 p)

-- ---- the table of names

apart : (a b k : Text) → same a b ≡ false → same a k ≡ true → same b k ≡ false
apart a b k n y = nat_list_eq_equiv.symm b k ∙ sym (nat_list_eq_equiv.congr a k b y) ∙ n

other_entries : {X : Type 0} (eq : Vec ℕ → Vec ℕ → Bool) (test : Vec ℕ → Bool) (old new : List (Vec ℕ × X)) → KeepsOthers eq test old new → (other : Vec ℕ → Bool) → IsKeyTest eq other → AreApart test other → lookup other new ≡ lookup other old
unfolding KeepsOthers
other_entries eq test old new h = h

-- the table after a name is put into it
table_after : {S : Type 0} (m n : HashMap (Vec ℕ) ℕ S) (name : Text) (c : ℕ) (k : Vec ℕ) → k.items ≡ name → UpdatesBy (λ x y. same x.items y.items) (λ y. same k.items y.items) m n (Some c)
    → (q : Text) → (same name q ≡ true → number_in n q ≡ Some c) × (same name q ≡ false → number_in n q ≡ number_in m q)
table_after m n name c k e h q = (
  λ y. let s : k.items ≡ q = e ∙ same_text name q y in subst (λ t. number_in n t ≡ Some c) s h.1,
  λ no. other_entries _ _ _ _ h.3 _ (λ x y. nat_list_eq_equiv.congr q x.items y.items) (λ x. apart k.items q x.items (rw e no)),
)

pub with_class_kept : {S : Type 0} (cs : List ClassDef) (nf next : ℕ) (rs : List Rec) (m n : HashMap (Vec ℕ) ℕ S) (d : ClassDef) (k : Vec ℕ)
    → IsStore cs nf rs m → length cs < 65535 → is_within_limits (schema_of (cs ++ d ∷ []) next) ≡ true → IsFlat d → k.items ≡ d.name → number_from 1 cs d.name ≡ None
    → UpdatesBy (λ x y. same x.items y.items) (λ y. same k.items y.items) m n (Some (length cs + 1)) → IsStore (cs ++ d ∷ []) next rs n
with_class_kept cs nf next rs m n d k h few limits flat e new u =
    record {
      few_classes = rw (length_push cs d) (omega arith);
      few_records = h.few_records;
      limits = limits;
      flat = all_push IsFlat cs d h.flat flat;
      kept = kept_more cs d rs h.kept;
      names = λ q.
          let t = table_after m n d.name (length cs + 1) k e u q in
          ⊎_elim
          (λ y. t.0 y ∙ ap (λ i. Some i) (omega arith) ∙ sym (number_last 1 cs d q y (subst (λ w. number_from 1 cs w ≡ None) (same_text d.name q y) new)))
          (λ no. t.1 no ∙ h.names q ∙ sym (number_past 1 cs d q no))
          (cases_Bool (same d.name q));
    }

-- ---- the class of a name

pub named_within : (cs : List ClassDef) (name : Text) (c : ℕ) → number_from 1 cs name ≡ Some c → (1 ≤ c) × (c ≤ length cs)
named_within cs name c e =
    let r = named 1 cs name c e in
    let n = r.number in
    let w = slice_get_within cs r.place r.class r.at_place in
    (omega arith, omega arith)

pub class_there : (cs : List ClassDef) (c : ℕ) (d : ClassDef) → 1 ≤ c → c ≤ length cs → d ≡ get_or cs (c - 1) d → class_of cs c ≡ Some d
class_there cs zero d l h e = absurd (omega arith)
class_there cs (suc c) d l h e =
    let s : suc c - 1 ≡ c = omega arith in
    slice_get_read cs (length cs) c d refl (omega arith) (e ∙ ap (λ i. get_or cs i d) s)

-- ---- a new class

ascends_new : (low id : ℕ) (ds : List Decl) → low ≤ id → Ascends low (new_fields id ds)
ascends_new low id [] le = tt
ascends_new low id (d ∷ ds) le = (le, refl, ascends_new (id + 1) (id + 1) ds (omega arith))

new_names : (id : ℕ) (ds : List Decl) → map (λ f. f.name) (new_fields id ds) ≡ map (λ d. d.name) ds
new_names id [] = refl
new_names id (d ∷ ds) = ap (λ ns. d.name ∷ ns) (new_names (id + 1) ds)

new_kinds : (id : ℕ) (ds : List Decl) → list_all (λ f. is_built_kind f.kind) (new_fields id ds) ≡ list_all (λ d. is_built_kind d.kind) ds
new_kinds id [] = refl
new_kinds id (d ∷ ds) = ap (λ b. is_built_kind d.kind && b) (new_kinds (id + 1) ds)

pub new_is_flat : (name : Text) (id : ℕ) (ds : List Decl) → are_distinct (map (λ d. d.name) ds) ≡ true → list_all (λ d. is_built_kind d.kind) ds ≡ true → IsFlat (record { name = name; parent = 0; fields = new_fields id ds })
new_is_flat name id ds e k = record { alone = refl; ascends = ascends_new 0 id ds (omega arith); plain = new_kinds id ds ∙ k; distinct = ap are_distinct (new_names id ds) ∙ e }

-- ---- a new record

pub with_record_kept : {S : Type 0} (cs : List ClassDef) (nf : ℕ) (rs : List Rec) (m : HashMap (Vec ℕ) ℕ S) (r : Rec) → IsStore cs nf rs m → length rs < 2147483646 → IsKept cs r → IsStore cs nf (rs ++ r ∷ []) m
with_record_kept cs nf rs m r h few k =
    record { few_classes = h.few_classes; few_records = rw (length_push rs r) (omega arith); limits = h.limits; flat = h.flat; kept = all_push (IsKept cs) rs r h.kept k; names = h.names }

pub store_is : (m : State) (cs : List ClassDef) (nf : ℕ) (rs : List Rec) (r : Rec) → state_of cs nf rs ≡ m → nat_le (record_len r) 262144 ≡ true → length rs < 2147483646
    → record_step m r ≡ Ok (state_of cs nf (rs ++ r ∷ []), answer.Stored (length rs + 1) 1)
store_is m cs nf rs r e short few =
    let room : nat_le (length rs + 1) 2147483646 ≡ true = grind (arith, nat_tests) in
    subst (λ m. record_step m r ≡ Ok (state_of cs nf (rs ++ r ∷ []), answer.Stored (length rs + 1) 1)) e
    (rw (short, room) (ap (λ s. Ok (s, answer.Stored (length rs + 1) 1)) (with_record_is cs nf rs r)))

-- ---- names that are given twice

other_keys : (eq : Bor (List ℕ) → Bor (List ℕ) → Bool) (test : Bor (List ℕ) → Bool) (old new : List (Bor (List ℕ))) → KeepsOtherKeys eq test old new → (other : Bor (List ℕ) → Bool) → IsKeyTest eq other → AreApart test other → list_any other new ≡ list_any other old
unfolding KeepsOtherKeys
other_keys eq test old new h = h

-- the set after a name is put into it
set_after : {S : Type 0} (m n : HashSet (Bor (List ℕ)) S) (k : Bor (List ℕ)) → bag.UpdatesBy (λ x y. same x.now y.now) (λ y. same k.now y.now) m n true
    → (q : Text) → bag.contains_by (λ y. same q y.now) n ≡ (same q k.now || bag.contains_by (λ y. same q y.now) m)
set_after m n k h q =
    ⊎_elim
    (λ y.
    let s : k.now ≡ q = same_text k.now q y in
    let yes : same q k.now ≡ true = text_same q k.now (sym s) in
    rw yes (subst (λ t. bag.contains_by (λ y. same t y.now) n ≡ true) s h.1))
    (λ no.
    let free : same q k.now ≡ false = nat_list_eq_equiv.symm q k.now ∙ no in
    rw free (other_keys _ _ _ _ h.3 _ (λ x y. nat_list_eq_equiv.congr q x.now y.now) (λ x. apart k.now q x.now no)))
    (cases_Bool (same k.now q))

abbrev names : List Decl → List Text
names ds = map (λ d. d.name) ds

names_turn : (ds : List Decl) (i : ℕ) (d : Decl) → 0 < i → i ≤ length ds → d ≡ get_or ds (i - 1) d → names (drop (i - 1) ds) ≡ d.name ∷ names (drop i ds)
names_turn ds i d pos le e =
    let s : i - 1 + 1 ≡ i = omega arith in
    ap names (drop_more ds (i - 1) d (omega arith)) ∙ ap₂ (λ (x : Decl) (n : ℕ). x.name ∷ names (drop n ds)) (sym e) s

not_distinct : (ds : List Decl) (i : ℕ) → are_distinct (names (drop i ds)) ≡ false → are_distinct (names ds) ≡ false
not_distinct ds zero e = e
not_distinct [] (suc i) e = e
not_distinct (d ∷ ds) (suc i) e = rw (not_distinct ds i e) (and_right (not (list_any (same d.name) (names ds))) false refl)

pub twice : (ds : List Decl) (i : ℕ) (d : Decl) → 0 < i → i ≤ length ds → d ≡ get_or ds (i - 1) d → list_any (same d.name) (names (drop i ds)) ≡ true → are_distinct (names ds) ≡ false
twice ds i d pos le e y = not_distinct ds (i - 1) (rw (names_turn ds i d pos le e, y) refl)

pub once : (ds : List Decl) (i : ℕ) (d : Decl) → 0 < i → i ≤ length ds → d ≡ get_or ds (i - 1) d → list_any (same d.name) (names (drop i ds)) ≡ false → are_distinct (names (drop i ds)) ≡ true → are_distinct (names (drop (i - 1) ds)) ≡ true
once ds i d pos le e free h = rw (names_turn ds i d pos le e, free, h) refl

pub seen_turn : {S : Type 0} (m n : HashSet (Bor (List ℕ)) S) (k : Bor (List ℕ)) → (ds : List Decl) (i : ℕ) (d : Decl) → 0 < i → i ≤ length ds → d ≡ get_or ds (i - 1) d → k.now ≡ d.name
    → bag.UpdatesBy (λ x y. same x.now y.now) (λ y. same k.now y.now) m n true
    → (q : Text) → bag.contains_by (λ y. same q y.now) m ≡ list_any (same q) (names (drop i ds)) → bag.contains_by (λ y. same q y.now) n ≡ list_any (same q) (names (drop (i - 1) ds))
seen_turn m n k ds i d pos le e name u q h = rw (set_after m n k u q, name, h, names_turn ds i d pos le e) refl
