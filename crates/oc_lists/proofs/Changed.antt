-- What several changes make of the records of a store.
use Rattle.std.proofs.Common.{get_or, ◌≡◌, ◌≢◌, ◌⊎◌, inl, inr, ◌∙◌, ap, sym, refl, subst, ℕ, suc, ◌<◌, ◌≤◌, ◌==◌, Bool, true, false, cond, not, List, [], ◌∷◌, Option, None, Some, is_some, arith, true≢false}
use Rattle.std.specs.Prelude.{All, AllPairs, IfSome, if◌then◌else◌}
use Rattle.std.specs.Ordering.{eq_by_cmp, nat_cmp}
use Rattle.std.specs.declared.cmp.Ordering.TheVariants.{Equal}
use Rattle.std.specs.Cmp.{nat_cmp_total}
use Rattle.std.specs.FinMap.Entries.{find-put, find-where_key, is_sorted}
use Rattle.std.proofs.lemmas.Bool.{eq-eqb, ne_eqb}
use Rattle.std.proofs.lemmas.Bool.Decides.{eqb_tells}
use Rattle.std.proofs.lemmas.List.Elements.{All-head, All-tail}
use Rattle.std.proofs.lemmas.Map.Lookups.{exact_unsigned}
use Rattle.oc_model.specs.declared.value.Rec.{Rec}
use Rattle.oc_model.specs.Lists.{IsOneOf}
use Rattle.oc_model.specs.Maps.{Map, at}
use Rattle.oc_model.specs.Stores.{Store, class_of}
use Rattle.oc_model.specs.StoreRules.{Suits, KeepsStore}
use Rattle.oc_lists.specs.declared.record.RecChange.{RecChange}
use Rattle.oc_lists.specs.Changing.{record_changed, records_changed, store_changed, there_after, IsStorable, AreRecChanges}
use Rattle.oc_lists.proofs.OneRecord.{tied, untied}
use Rattle.oc_lists.proofs.Entries.{still_sorted, without_sorted}

-- ---- what an object has after changes

-- the record that the object has after the changes, where this is the one it had before
abbrev pub rec_after : List RecChange → ℕ → Option Rec → Option Rec
rec_after [] n before = before
rec_after (c ∷ cs) n before = if c.number == n then c.rec else rec_after cs n before

-- no object is named twice
abbrev pub AreDistinct : List RecChange → Type 0
AreDistinct = AllPairs (λ a b. (a.number == b.number) ≡ false)

pub distinct_first : (c : RecChange) (cs : List RecChange) → AreDistinct (c ∷ cs) → All (λ d. (c.number == d.number) ≡ false) cs
distinct_first c cs apart k d lt = apart 0 (suc k) d (omega arith) (omega arith)

pub distinct_rest : (c : RecChange) (cs : List RecChange) → AreDistinct (c ∷ cs) → AreDistinct cs
distinct_rest c cs apart i j d before lt = apart (suc i) (suc j) d (omega arith) (omega arith)

tells : (n k : ℕ) → eq_by_cmp nat_cmp n k ≡ (k == n)
tells n k = elim (eqb_tells k n) [ inl same ↦ tied n k (sym same.1) ∙ sym same.0 | inr apart ↦ untied n k (λ same. apart.1 (sym same)) ∙ sym apart.0 ]

turned : (n k : ℕ) → (n == k) ≡ (k == n)
turned n k = elim (eqb_tells k n) [ inl same ↦ eq-eqb n k (sym same.1) ∙ sym same.0 | inr apart ↦ ne_eqb n k (λ same. apart.1 (sym same)) ∙ sym apart.0 ]

-- one change
pub at_changed : (c : RecChange) (m : Map Rec) (n : ℕ) → at (record_changed c m) n ≡ cond (c.number == n) c.rec (at m n)
at_changed c m n = of_rec c.rec
  where
    goes : (b : Bool) → cond (not b) (at m n) None ≡ cond b None (at m n)
    goes true = refl
    goes false = refl

    alike : (x : ℕ) → nat_cmp n x ≡ Equal → not (x == c.number) ≡ not (n == c.number)
    alike x same = ap (λ k. not (k == c.number)) (sym (exact_unsigned n x same))

    of_rec : (r : Option Rec) → at (record_changed (record { number = c.number; rec = r }) m) n ≡ cond (c.number == n) r (at m n)
    of_rec None = find-where_key nat_cmp (λ k. not (k == c.number)) n alike m ∙ ap (λ b. cond (not b) (at m n) None) (turned n c.number) ∙ goes (c.number == n)
    of_rec (Some r) = find-put nat_cmp nat_cmp_total n c.number r m ∙ ap (λ b. cond b (Some r) (at m n)) (tells n c.number)

-- objects that no change names stay as they are
pub rec_unnamed : (cs : List RecChange) (n : ℕ) (before : Option Rec) → All (λ d. (d.number == n) ≡ false) cs → rec_after cs n before ≡ before
rec_unnamed [] n before none = refl
rec_unnamed (c ∷ cs) n before none =
    ap (λ b. cond b c.rec (rec_after cs n before)) (All-head (λ (d : RecChange). (d.number == n) ≡ false) c cs none) ∙ rec_unnamed cs n before (All-tail (λ (d : RecChange). (d.number == n) ≡ false) c cs none)

-- the record of an object after distinct changes
pub at_records : (cs : List RecChange) (m : Map Rec) (n : ℕ) → AreDistinct cs → at (records_changed cs m) n ≡ rec_after cs n (at m n)
at_records [] m n apart = refl
at_records (c ∷ cs) m n apart = at_records cs (record_changed c m) n (distinct_rest c cs apart) ∙ ap (rec_after cs n) (at_changed c m n) ∙ by_number (eqb_tells c.number n)
  where
    other : c.number ≡ n → (d : RecChange) → (c.number == d.number) ≡ false → (d.number == n) ≡ false
    other same d off = turned d.number n ∙ ap (λ k. k == d.number) (sym same) ∙ off

    others : c.number ≡ n → All (λ d. (d.number == n) ≡ false) cs
    others same k d lt = other same (get_or cs k d) (distinct_first c cs apart k d lt)

    by_number : (((c.number == n) ≡ true) × (c.number ≡ n)) ⊎ (((c.number == n) ≡ false) × (c.number ≢ n)) → rec_after cs n (cond (c.number == n) c.rec (at m n)) ≡ cond (c.number == n) c.rec (rec_after cs n (at m n))
    by_number (inl same) =
        ap (λ b. rec_after cs n (cond b c.rec (at m n))) same.0 ∙ rec_unnamed cs n c.rec (others same.1) ∙ sym (ap (λ b. cond b c.rec (rec_after cs n (at m n))) same.0)
    by_number (inr off) = ap (λ b. rec_after cs n (cond b c.rec (at m n))) off.0 ∙ sym (ap (λ b. cond b c.rec (rec_after cs n (at m n))) off.0)

-- whether it is there
pub there_is : (cs : List RecChange) (n : ℕ) (before : Option Rec) → is_some (rec_after cs n before) ≡ there_after cs n (is_some before)
there_is [] n before = refl
there_is (c ∷ cs) n before = of_test (c.number == n) (there_is cs n before)
  where
    of_test : (b : Bool) → is_some (rec_after cs n before) ≡ there_after cs n (is_some before) → is_some (cond b c.rec (rec_after cs n before)) ≡ cond b (is_some c.rec) (there_after cs n (is_some before))
    of_test true rest = refl
    of_test false rest = rest

pub there_records : (cs : List RecChange) (m : Map Rec) (n : ℕ) → AreDistinct cs → is_some (at (records_changed cs m) n) ≡ there_after cs n (is_some (at m n))
there_records cs m n apart = ap is_some (at_records cs m n apart) ∙ there_is cs n (at m n)

all_one : {X : Type 0} (P : X → Type 0) (x : X) (xs : List X) → All P xs → IsOneOf x xs → P x
all_one P x [] all one = absurd one
all_one P x (y ∷ xs) all (inl same) = subst P (sym same) (All-head P y xs all)
all_one P x (y ∷ xs) all (inr one) = all_one P x xs (All-tail P y xs all) one

-- a changed object has what its change says
pub rec_named : (c : RecChange) (cs : List RecChange) (before : Option Rec) → AreDistinct cs → IsOneOf c cs → rec_after cs c.number before ≡ c.rec
rec_named c [] before apart one = absurd one
rec_named c (d ∷ cs) before apart (inl same) =
    subst (λ (e : RecChange). cond (d.number == e.number) d.rec (rec_after cs e.number before) ≡ e.rec) (sym same) (ap (λ b. cond b d.rec (rec_after cs d.number before)) (eq-eqb d.number d.number refl))
rec_named c (d ∷ cs) before apart (inr one) =
    ap (λ b. cond b d.rec (rec_after cs c.number before)) (all_one (λ (e : RecChange). (d.number == e.number) ≡ false) c cs (distinct_first d cs apart) one) ∙ rec_named c cs before (distinct_rest d cs apart) one

pub at_named : (c : RecChange) (cs : List RecChange) (m : Map Rec) → AreDistinct cs → IsOneOf c cs → at (records_changed cs m) c.number ≡ c.rec
at_named c cs m apart one = at_records cs m c.number apart ∙ rec_named c cs (at m c.number) apart one

pub at_unnamed : (cs : List RecChange) (m : Map Rec) (n : ℕ) → AreDistinct cs → All (λ c. (c.number == n) ≡ false) cs → at (records_changed cs m) n ≡ at m n
at_unnamed cs m n apart none = at_records cs m n apart ∙ rec_unnamed cs n (at m n) none

-- ---- the rules of a store

pub records_sorted : (cs : List RecChange) (m : Map Rec) → is_sorted nat_cmp m ≡ true → is_sorted nat_cmp (records_changed cs m) ≡ true
records_sorted [] m up = up
records_sorted (c ∷ cs) m up = records_sorted cs (record_changed c m) (of_rec c.rec)
  where
    of_rec : (r : Option Rec) → is_sorted nat_cmp (record_changed (record { number = c.number; rec = r }) m) ≡ true
    of_rec None = without_sorted c.number m up
    of_rec (Some r) = still_sorted c.number r m up

-- what holds of each record, and of each new one
module _ (P : ℕ → Rec → Type 0) where
  abbrev pub OfAll : Map Rec → Type 0
  OfAll m = (n : ℕ) (r : Rec) → at m n ≡ Some r → P n r

  of_one : (c : RecChange) (m : Map Rec) → IfSome c.rec (P c.number) → OfAll m → OfAll (record_changed c m)
  of_one c m new old n r found = by_number (eqb_tells c.number n) (sym (at_changed c m n) ∙ found)
    where
      of_rec : (o : Option Rec) → IfSome o (P n) → o ≡ Some r → P n r
      of_rec None it none = absurd (true≢false (sym (ap is_some none)))
      of_rec (Some q) it same = subst (P n) (let value : q ≡ r = cc in value) it

      by_number : (((c.number == n) ≡ true) × (c.number ≡ n)) ⊎ (((c.number == n) ≡ false) × (c.number ≢ n)) → cond (c.number == n) c.rec (at m n) ≡ Some r → P n r
      by_number (inl same) is = of_rec c.rec (subst (λ k. IfSome c.rec (P k)) same.1 new) (sym (ap (λ b. cond b c.rec (at m n)) same.0) ∙ is)
      by_number (inr off) is = old n r (sym (ap (λ b. cond b c.rec (at m n)) off.0) ∙ is)

  pub of_all : (cs : List RecChange) (m : Map Rec) → All (λ c. IfSome c.rec (P c.number)) cs → OfAll m → OfAll (records_changed cs m)
  of_all [] m new old = old
  of_all (c ∷ cs) m new old =
      of_all cs (record_changed c m) (All-tail (λ (d : RecChange). IfSome d.rec (P d.number)) c cs new) (of_one c m (All-head (λ (d : RecChange). IfSome d.rec (P d.number)) c cs new) old)

-- a store that keeps the rules keeps them after such changes
pub keeps_changed : (s : Store) (next : ℕ) (cs : List RecChange) → KeepsStore s → AreRecChanges s.schema (class_of s) s.next next cs → KeepsStore (store_changed next cs s)
keeps_changed s next cs keeps may = record {
  schema = keeps.schema;
  some_next = omega (arith, keeps.some_next, may.later);
  small_next = may.small;
  by_number = records_sorted cs s.records keeps.by_number;
  from_one = of_all (λ n r. 1 ≤ n) cs s.records (λ k d lt. for_all _ _ (may.numbers k d lt).0) keeps.from_one;
  below_next = of_all (λ n r. n < next) cs s.records (λ k d lt. for_all _ _ (may.numbers k d lt).1) (λ n r found. (let below : n < s.next = keeps.below_next n r found in omega (arith, below, may.later)));
  suit = of_all (λ n r. Suits s.schema r) cs s.records (λ k d lt. suits _ (may.storable k d lt)) keeps.suit;
}
  where
    for_all : (o : Option Rec) (Q : Type 0) → Q → IfSome o (λ r. Q)
    for_all None Q it = tt
    for_all (Some r) Q it = it

    suits : (o : Option Rec) → IfSome o (IsStorable s.schema) → IfSome o (Suits s.schema)
    suits None it = tt
    suits (Some r) it = it.suits
