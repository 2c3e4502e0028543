-- What changes of the system's slots make of a map.
use Rattle.std.proofs.Common.{◌≡◌, ◌≢◌, inl, inr, ◌∙◌, ap, sym, refl, subst, ℕ, zero, suc, Bool, true, false, cond, nat_eq, eq-eqb, List, [], ◌∷◌, map, Option, arith}
use Rattle.std.specs.Prelude.{is_some, All, AllPairs}
use Rattle.oc_model.specs.Lists.{IsOneOf}
use Rattle.oc_model.proofs.Elements.{to_map}
use Rattle.oc_model.proofs.SchemaLaws.{equal_numbers}
use Rattle.oc_chunks.specs.Ascending.{Each, Pairs}
use Rattle.oc_chunks.proofs.Eaches.{each_at}
use Rattle.oc_store.specs.Last.{system_change}
use Rattle.oc_slots.specs.declared.slot.SlotChange.{SlotChange}
use Rattle.oc_slots.specs.Maps.{changed, is_same, SlotMap}
use Rattle.oc_slots.specs.Maps.{has_after}
use Rattle.oc_store.specs.Lists.{system_slot}
use Rattle.oc_store.proofs.NamedLists.{Other}
use Rattle.oc_store.proofs.Plans.{none_of}

abbrev pub Change : Type 0
Change = ℕ × Option (List ℕ)

abbrev pub numbers_in : List Change → List ℕ
numbers_in = map (λ e. e.0)

abbrev pub changes : List Change → List SlotChange
changes = map system_change

pub unequal : (m n : ℕ) → m ≢ n → nat_eq m n ≡ false
unequal m n other = (elim (nat_eq m n) as (λ b. nat_eq m n ≡ b → b ≡ false) [ true ↦ λ e. absurd (other (equal_numbers m n e)) | false ↦ λ e. refl ]) refl

module _ (m : SlotMap) where
  pub changed_there : (es : List Change) (n : ℕ) (o : Option (List ℕ)) → Pairs Other (numbers_in es) → IsOneOf {X = Change} (n, o) es → changed (changes es) m (system_slot n) ≡ o
  changed_there [] n o a i = absurd i
  changed_there (e ∷ es) n o a (inl same) =
      ap (λ b. cond b e.1 (changed (changes es) m (system_slot n))) (eq-eqb e.0 n (sym (ap (λ (p : Change). p.0) same))) ∙ sym (ap (λ (p : Change). p.1) same)
  changed_there (e ∷ es) n o a (inr later) =
      ap (λ b. cond b e.1 (changed (changes es) m (system_slot n))) (unequal e.0 n (λ same. none_of e.0 (numbers_in es) a.0 (subst (λ k. IsOneOf k (numbers_in es)) (sym same) (to_map (λ (p : Change). p.0) (n, o) es later))))
      ∙ changed_there es n o a.1 later

  pub changed_not : (es : List Change) (n : ℕ) → (IsOneOf n (numbers_in es) → ⊥) → changed (changes es) m (system_slot n) ≡ m (system_slot n)
  changed_not [] n h = refl
  changed_not (e ∷ es) n h = ap (λ b. cond b e.1 (changed (changes es) m (system_slot n))) (unequal e.0 n (λ same. h (inl (sym same)))) ∙ changed_not es n (λ i. h (inr i))

pub after_there : (was : Bool) (es : List Change) (n : ℕ) (o : Option (List ℕ)) → Pairs Other (numbers_in es) → IsOneOf {X = Change} (n, o) es → has_after (changes es) (system_slot n) was ≡ is_some o
after_there was [] n o a i = absurd i
after_there was (e ∷ es) n o a (inl same) =
    ap (λ b. cond b (is_some e.1) (has_after (changes es) (system_slot n) was)) (eq-eqb e.0 n (sym (ap (λ (p : Change). p.0) same))) ∙ sym (ap (λ (p : Change). is_some p.1) same)
after_there was (e ∷ es) n o a (inr later) =
    ap (λ b. cond b (is_some e.1) (has_after (changes es) (system_slot n) was)) (unequal e.0 n (λ same. none_of e.0 (numbers_in es) a.0 (subst (λ k. IsOneOf k (numbers_in es)) (sym same) (to_map (λ (p : Change). p.0) (n, o) es later))))
    ∙ after_there was es n o a.1 later

pub after_not : (was : Bool) (es : List Change) (n : ℕ) → (IsOneOf n (numbers_in es) → ⊥) → has_after (changes es) (system_slot n) was ≡ was
after_not was [] n h = refl
after_not was (e ∷ es) n h = ap (λ b. cond b (is_some e.1) (has_after (changes es) (system_slot n) was)) (unequal e.0 n (λ same. h (inl (sym same)))) ∙ after_not was es n (λ i. h (inr i))

-- ---- by place

pub all_of : {X : Type 0} (P : X → Type 0) (xs : List X) → Each P xs → All P xs
all_of P xs a i d lt = each_at P i d xs lt a

pub all_pairs_of : {X : Type 0} (R : X → X → Type 0) (xs : List X) → Pairs R xs → AllPairs R xs
all_pairs_of R [] a i j d lt end = absurd (omega arith)
all_pairs_of R (x ∷ xs) a zero zero d lt end = absurd (omega arith)
all_pairs_of R (x ∷ xs) a zero (suc j) d lt end = each_at (R x) j d xs (omega arith) a.0
all_pairs_of R (x ∷ xs) a (suc i) zero d lt end = absurd (omega arith)
all_pairs_of R (x ∷ xs) a (suc i) (suc j) d lt end = all_pairs_of R xs a.1 i j d (omega arith) (omega arith)

-- ---- what is asked of changes

others_from : (n : ℕ) (es : List Change) → Each (Other n) (numbers_in es) → Each (λ c. is_same (system_slot n) c.id ≡ false) (changes es)
others_from n [] a = tt
others_from n (e ∷ es) a = (unequal n e.0 a.0, others_from n es a.1)

pub changes_distinct : (es : List Change) → Pairs Other (numbers_in es) → Pairs (λ a b. is_same a.id b.id ≡ false) (changes es)
changes_distinct [] a = tt
changes_distinct (e ∷ es) a = (others_from e.0 es a.0, changes_distinct es a.1)

pub changes_numbers : (P : ℕ → Type 0) (es : List Change) → Each P (numbers_in es) → Each (λ c. P c.id.number) (changes es)
changes_numbers P [] a = tt
changes_numbers P (e ∷ es) a = (a.0, changes_numbers P es a.1)
