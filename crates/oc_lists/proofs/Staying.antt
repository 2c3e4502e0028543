-- Lists that stay just as they were.
use Rattle.std.proofs.Common.{get_or, ◌≡◌, ◌∙◌, ap, ap₂, sym, refl, subst, ℕ, zero, suc, ◌<◌, ◌==◌, ◌||◌, arith, length, Bool, true, false, not, IsTrue, List, [], ◌∷◌, map, Option, Result, Ok, Err, OnOk, OnErr}
use Rattle.std.specs.Prelude.{All}
use Rattle.std.specs.List.{list_all, zip}
use Rattle.std.proofs.lemmas.Bool.{and_parts, eq-eqb, false≢true}
use Rattle.oc_model.specs.declared.value.Atom.{Atom}
use Rattle.oc_model.specs.declared.value.Rec.{Rec}
use denote.Ref.{Bor}
use Rattle.oc_model.specs.declared.schema.FieldDef.{FieldDef}
use Rattle.oc_model.specs.SchemaRules.{are_apart}
use Rattle.oc_model.specs.Schemas.{Schema}
use Rattle.oc_chunks.specs.Chunks.{joined}
use Rattle.oc_index.specs.Fields.{FieldList}
use Rattle.oc_index.specs.Indexed.{Changes, StoreLists}
use Rattle.oc_lists.specs.declared.record.RecChange.{RecChange}
use Rattle.oc_lists.specs.Moving.{AreFields}
use Rattle.oc_lists.specs.Refiling.{is_kept}
use Rattle.oc_lists.specs.Staying.{is_off, keep_key, keeps_key, IsListed, Stay}
use Rattle.oc_lists.proofs.FieldWise.{fields_self, fields_then, one_changed}
use Rattle.oc_lists.proofs.IndexedIds.{passes_at}

abbrev Stays : (ℕ → Bool) → ℕ → FieldList → FieldList → Type 0
Stays passes id i j = IsTrue (passes id) → j ≡ i

pub stay_self : (p : ℕ → Bool) (l : StoreLists) → Stay p l l
stay_self p l = fields_self (Stays p) (λ id i h. refl) l.fields

-- the indexes are those that they were
pub stay_same : (p : ℕ → Bool) (l m : StoreLists) → m.fields ≡ l.fields → Stay p l m
stay_same p l m same = subst (AreFields (Stays p) l.fields) (sym same) (stay_self p l)

-- one change after the other
pub stay_then : (p q r : ℕ → Bool) → ((id : ℕ) → IsTrue (r id) → IsTrue (p id) × IsTrue (q id)) → (l m n : StoreLists) → Stay p l m → Stay q m n → Stay r l n
stay_then p q r both l m n a b =
    fields_then (Stays p) (Stays q) (Stays r) (λ id i j k one two h. two (both id h).1 ∙ one (both id h).0) l.fields m.fields n.fields a b

-- a change of one index leaves the others
pub others_stay : (id : ℕ) (R : FieldList → FieldList → Type 0) (l m : StoreLists) → IsTrue (are_apart (map (λ (f : ℕ × FieldList). f.0) l.fields)) → Changes id R l.fields m.fields → Stay (λ n. not (id == n)) l m
others_stay id R l m apart c =
    one_changed id (Stays (λ n. not (id == n))) (λ n i off h. refl) R (λ i j r h. absurd (false≢true (sym (ap not (eq-eqb id id refl)) ∙ h))) l.fields m.fields apart c

pub entered_others : {T E : Type 0} (o : Result T E) (id : ℕ) (R : FieldList → FieldList → Type 0) (l m : StoreLists) → IsTrue (are_apart (map (λ (f : ℕ × FieldList). f.0) l.fields)) → OnOk o (Changes id R l.fields m.fields) → OnErr o (m ≡ l) → Stay (λ n. not (id == n)) l m
entered_others (Ok v) id R l m apart c same = others_stay id R l m apart c
entered_others (Err e) id R l m apart c same = stay_same (λ n. not (id == n)) l m (ap (λ (k : StoreLists). k.fields) same)

-- two changes of one index whose value doesn't stay
pub both_stay : (id : ℕ) (kept : Bool) (l m n : StoreLists) → kept ≡ false → Stay (λ k. not (id == k)) l m → Stay (λ k. not (id == k)) m n → Stay (λ k. not (id == k) || kept) l n
both_stay id kept l m n off = stay_then (λ k. not (id == k)) (λ k. not (id == k)) (λ k. not (id == k) || kept) (λ k h. let first = first_of (not (id == k)) h in (first, first)) l m n
  where
    first_of : (a : Bool) → (a || kept) ≡ true → a ≡ true
    first_of true h = refl
    first_of false h = sym off ∙ h

-- one more of the fields of a class
pub all_stay : (old new : Option Rec) (fs : List (Bor FieldDef)) (i : ℕ) (f : Bor FieldDef) → i < length fs → f ≡ get_or fs i f → (l m n : StoreLists) → Stay (λ id. list_all (is_off id old new) (map (λ g. g.now) fs)) l m
    → Stay (λ id. is_off id old new f.now) m n → Stay (λ id. list_all (is_off id old new) (map (λ g. g.now) fs)) l n
all_stay old new fs i f lt is = stay_then (λ id. list_all (is_off id old new) (map (λ g. g.now) fs)) (λ id. is_off id old new f.now) (λ id. list_all (is_off id old new) (map (λ g. g.now) fs)) (λ id h. (h, passes_at (is_off id old new) fs i f lt is h))

-- what holds of all pairs holds of the one at a place
pub pair_at : (p : Option Rec × RecChange → Bool) (os : List (Option Rec)) (cs : List RecChange) (i : ℕ) (o : Option Rec) (c : RecChange) → length os ≡ length cs → i < length cs → o ≡ get_or os i o → c ≡ get_or cs i c
    → list_all p (zip os cs) ≡ true → p (o, c) ≡ true
pair_at p [] [] i o c same lt is_o is_c all = absurd (omega arith)
pair_at p [] (d ∷ cs) i o c same lt is_o is_c all = absurd (omega arith)
pair_at p (q ∷ os) [] i o c same lt is_o is_c all = absurd (omega arith)
pair_at p (q ∷ os) (d ∷ cs) zero o c same lt is_o is_c all = ap₂ (λ (x : Option Rec) (y : RecChange). p (x, y)) is_o is_c ∙ (and_parts (p (q, d)) (list_all p (zip os cs)) all).0
pair_at p (q ∷ os) (d ∷ cs) (suc i) o c same lt is_o is_c all = pair_at p os cs i o c (omega arith) (omega arith) is_o is_c (and_parts (p (q, d)) (list_all p (zip os cs)) all).1

-- the same under other names of the values
pub stay_under : (id : ℕ) (a b x y : Option Atom) (l m : StoreLists) → a ≡ x → b ≡ y → Stay (λ n. not (id == n) || is_kept a b) l m → Stay (λ n. not (id == n) || is_kept x y) l m
stay_under id a b x y l m p q h =
    subst (λ k. Stay (λ n. not (id == n) || is_kept x k) l m) q (subst (λ k. Stay (λ n. not (id == n) || is_kept k b) l m) p h)

-- the indexes were the same before
pub stay_after : (p : ℕ → Bool) (l m n : StoreLists) → m.fields ≡ l.fields → Stay p m n → Stay p l n
stay_after p l m n same h = subst (λ fs. AreFields (Stays p) fs n.fields) same h

-- one more of several changes
pub pairs_stay : (s : Schema) (os : List (Option Rec)) (cs : List RecChange) (i : ℕ) (o : Option Rec) (c : RecChange) → length os ≡ length cs → i < length cs → o ≡ get_or os i o → c ≡ get_or cs i c → (l m n : StoreLists)
    → Stay (keep_key s os cs) l m → Stay (λ id. keeps_key s id o c.rec) m n → Stay (keep_key s os cs) l n
pairs_stay s os cs i o c same lt is_o is_c =
    stay_then (keep_key s os cs) (λ id. keeps_key s id o c.rec) (keep_key s os cs) (λ id h. (h, pair_at (λ e. keeps_key s id e.0 e.1.rec) os cs i o c same lt is_o is_c h))

-- no object of several is listed otherwise than it is to be
abbrev pub AreListed : List RecChange → StoreLists → Type 0
AreListed cs l = All (λ c. IsListed (joined (l.extents).chunks) c.number c.rec) cs

pub untouched_more : (cs : List RecChange) (i : ℕ) (c : RecChange) → i < length cs → c ≡ get_or cs i c → (l m n : StoreLists) → (AreListed cs l → m.extents ≡ l.extents) → (IsListed (joined (m.extents).chunks) c.number c.rec → n.extents ≡ m.extents) → AreListed cs l → n.extents ≡ l.extents
untouched_more cs i c lt is l m n before one all =
    let here : IsListed (joined (l.extents).chunks) c.number c.rec = subst (λ (d : RecChange). IsListed (joined (l.extents).chunks) d.number d.rec) (sym is) (all i c lt) in
    one (subst (λ e. IsListed (joined e.chunks) c.number c.rec) (sym (before all)) here) ∙ before all
