-- Indexes, each related to what it was.
use Rattle.std.proofs.Common.{◌≡◌, ◌∙◌, ◌||◌, inl, inr, arith, ap, ap₂, sym, refl, subst, ℕ, true, false, cond, not, ◌==◌, IsTrue, List, [], ◌∷◌, map, Some, option_map, find, IsSome}
use Rattle.std.proofs.lemmas.Bool.{and_parts, eqb-true, not-true, or_parts}
use Rattle.std.proofs.lemmas.Bool.Decides.{nat_tests}
use Rattle.oc_model.specs.Lists.{IsOneOf}
use Rattle.oc_model.specs.Maps.{is_in}
use Rattle.oc_model.specs.SchemaRules.{are_apart}
use Rattle.oc_chunks.specs.Ascending.{Each}
use Rattle.oc_index.specs.Fields.{FieldList}
use Rattle.oc_index.specs.Indexed.{field_at, with_field, Changes}
use Rattle.oc_lists.specs.Moving.{AreFields}

pub turned : (a b : ℕ) → (a == b) ≡ (b == a)
turned a b = grind (arith, nat_tests)

pub fields_self : (R : ℕ → FieldList → FieldList → Type 0) → ((id : ℕ) (i : FieldList) → R id i i) → (fs : List (ℕ × FieldList)) → AreFields R fs fs
fields_self R same [] = tt
fields_self R same (f ∷ fs) = (refl, same f.0 f.1, fields_self R same fs)

pub fields_more : (R S : ℕ → FieldList → FieldList → Type 0) → ((id : ℕ) (i j : FieldList) → R id i j → S id i j) → (fs gs : List (ℕ × FieldList)) → AreFields R fs gs → AreFields S fs gs
fields_more R S weak [] [] a = tt
fields_more R S weak [] (g ∷ gs) a = a
fields_more R S weak (f ∷ fs) [] a = a
fields_more R S weak (f ∷ fs) (g ∷ gs) a = (a.0, weak f.0 f.1 g.1 a.1, fields_more R S weak fs gs a.2)

pub fields_then : (R S T : ℕ → FieldList → FieldList → Type 0) → ((id : ℕ) (i j k : FieldList) → R id i j → S id j k → T id i k) → (fs gs hs : List (ℕ × FieldList)) → AreFields R fs gs → AreFields S gs hs → AreFields T fs hs
fields_then R S T both [] [] [] a b = tt
fields_then R S T both [] [] (h ∷ hs) a b = b
fields_then R S T both [] (g ∷ gs) hs a b = absurd a
fields_then R S T both (f ∷ fs) [] hs a b = absurd a
fields_then R S T both (f ∷ fs) (g ∷ gs) [] a b = b
fields_then R S T both (f ∷ fs) (g ∷ gs) (h ∷ hs) a b =
    (b.0 ∙ a.0, both f.0 f.1 g.1 h.1 a.1 (subst (λ n. S n g.1 h.1) a.0 b.1), fields_then R S T both fs gs hs a.2 b.2)

pub fields_both : (R S T : ℕ → FieldList → FieldList → Type 0) → ((id : ℕ) (i j : FieldList) → R id i j → S id i j → T id i j) → (fs gs : List (ℕ × FieldList)) → AreFields R fs gs → AreFields S fs gs → AreFields T fs gs
fields_both R S T both [] [] a b = tt
fields_both R S T both [] (g ∷ gs) a b = a
fields_both R S T both (f ∷ fs) [] a b = a
fields_both R S T both (f ∷ fs) (g ∷ gs) a b = (a.0, both f.0 f.1 g.1 a.1 b.1, fields_both R S T both fs gs a.2 b.2)

pub fields_ids : (R : ℕ → FieldList → FieldList → Type 0) → (fs gs : List (ℕ × FieldList)) → AreFields R fs gs → map (λ (g : ℕ × FieldList). g.0) gs ≡ map (λ (f : ℕ × FieldList). f.0) fs
fields_ids R [] [] a = refl
fields_ids R [] (g ∷ gs) a = absurd a
fields_ids R (f ∷ fs) [] a = absurd a
fields_ids R (f ∷ fs) (g ∷ gs) a = ap₂ (λ n ns. n ∷ ns) a.0 (fields_ids R fs gs a.2)

-- an index that is there was there
pub fields_member : (R : ℕ → FieldList → FieldList → Type 0) (fs gs : List (ℕ × FieldList)) → AreFields R fs gs → (id : ℕ) (j : FieldList) → IsOneOf (id, j) gs → (i : FieldList) × IsOneOf (id, i) fs × R id i j
fields_member R [] [] a id j m = absurd m
fields_member R [] (g ∷ gs) a id j m = absurd a
fields_member R (f ∷ fs) [] a id j m = absurd a
fields_member R (f ∷ fs) (g ∷ gs) a id j (inl same) =
    let key : id ≡ f.0 = ap (λ p. p.0) same ∙ a.0 in
    (f.1, inl (λ t. (key t, f.1)), subst (λ n. R n f.1 j) (sym key) (subst (R f.0 f.1) (sym (ap (λ p. p.1) same)) a.1))
fields_member R (f ∷ fs) (g ∷ gs) a id j (inr m) =
    let r = fields_member R fs gs a.2 id j m in
    (r.0, inr r.1, r.2)

-- what holds of each index holds of what became of it
pub fields_each : (R : ℕ → FieldList → FieldList → Type 0) (P Q : ℕ × FieldList → Type 0) → ((id : ℕ) (i j : FieldList) → R id i j → P (id, i) → Q (id, j)) → (fs gs : List (ℕ × FieldList)) → AreFields R fs gs → Each P fs → Each Q gs
fields_each R P Q turn [] [] a e = tt
fields_each R P Q turn [] (g ∷ gs) a e = absurd a
fields_each R P Q turn (f ∷ fs) [] a e = absurd a
fields_each R P Q turn (f ∷ fs) (g ∷ gs) a e = (subst (λ n. Q (n, g.1)) (sym a.0) (turn f.0 f.1 g.1 a.1 e.0), fields_each R P Q turn fs gs a.2 e.1)

-- ---- a change of one index

module _ (id : ℕ) (T : ℕ → FieldList → FieldList → Type 0) (others : (n : ℕ) (i : FieldList) → (id == n) ≡ false → T n i i) where
  off : (fs : List (ℕ × FieldList)) → is_in (map (λ (f : ℕ × FieldList). f.0) fs) id ≡ false → AreFields T fs fs
  off [] h = tt
  off (f ∷ fs) h = let b = or_parts (id == f.0) (is_in (map (λ (f : ℕ × FieldList). f.0) fs) id) h in (refl, others f.0 f.1 b.0, off fs b.1)

  changed : (g : FieldList) (fs : List (ℕ × FieldList)) → IsTrue (are_apart (map (λ (f : ℕ × FieldList). f.0) fs)) → (i : FieldList) → field_at id fs ≡ Some i → T id i g → AreFields T fs (with_field id g fs)
  changed g [] apart i was t = absurd (cc)
  changed g (f ∷ fs) apart i was t =
      let ids = map (λ (f : ℕ × FieldList). f.0) fs in
      let b = and_parts (not (is_in ids f.0)) (are_apart ids) apart in
      (elim (f.0 == id) as (λ c. (f.0 == id) ≡ c → option_map (λ (h : ℕ × FieldList). h.1) (cond c (Some f) (find (λ (h : ℕ × FieldList). h.0 == id) fs)) ≡ Some i → AreFields T (f ∷ fs) (cond c ((f.0, g) ∷ fs) (f ∷ with_field id g fs))) [
        | true ↦ λ same was.
            let key : f.0 ≡ id = eqb-true f.0 id same in
            let is : f.1 ≡ i = cc in
            (refl, subst (λ n. T n f.1 g) (sym key) (subst (λ h. T id h g) (sym is) t), off fs (ap (is_in ids) (sym key) ∙ not-true (is_in ids f.0) b.0))
        | false ↦ λ other was. (refl, others f.0 f.1 (turned id f.0 ∙ other), changed g fs b.1 i was t)
      ]) refl was

  pub one_changed : (R : FieldList → FieldList → Type 0) → ((i j : FieldList) → R i j → T id i j) → (old new : List (ℕ × FieldList)) → IsTrue (are_apart (map (λ (f : ℕ × FieldList). f.0) old)) → Changes id R old new → AreFields T old new
  one_changed R weak old new apart c = subst (AreFields T old) (sym c.is) (changed c.now old apart c.field c.was (weak c.field c.now c.change))

-- an id among the fields' has an index
pub some_field : (id : ℕ) (fs : List (ℕ × FieldList)) → IsTrue (is_in (map (λ (f : ℕ × FieldList). f.0) fs) id) → IsSome (field_at id fs)
some_field id [] h = absurd (cc)
some_field id (f ∷ fs) h =
    (elim (f.0 == id) as (λ c. (f.0 == id) ≡ c → IsSome (option_map (λ (h : ℕ × FieldList). h.1) (cond c (Some f) (find (λ (h : ℕ × FieldList). h.0 == id) fs)))) [
      | true ↦ λ same. refl
      | false ↦ λ other. some_field id fs (ap (λ c. c || is_in (map (λ (f : ℕ × FieldList). f.0) fs) id) (sym (turned id f.0 ∙ other)) ∙ h)
    ]) refl
