-- Lists of numbers of which none comes twice.
use Rattle.std.proofs.Common.{◌≡◌, refl, sym, ap, ◌∙◌, subst, ℕ, inl, inr, true, false, not, List, [], ◌∷◌, ◌++◌, true≢false}
use Rattle.std.proofs.lemmas.Bool.{and_parts, and_from, not-true}
use Rattle.oc_model.specs.Maps.{is_in}
use Rattle.oc_model.specs.Lists.{IsOneOf}
use Rattle.oc_model.specs.SchemaRules.{are_apart}
use Rattle.oc_model.proofs.Elements.{in_append, in_left, in_right, is_among, some_passes}
use Rattle.oc_model.proofs.SchemaLaws.{equal_numbers}

-- no element of the one is one of the other
abbrev pub AreDisjoint : List ℕ → List ℕ → Type 0
AreDisjoint ms ns = (n : ℕ) → IsOneOf n ms → IsOneOf n ns → ⊥

pub among_is : (n : ℕ) (ns : List ℕ) → is_in ns n ≡ true → IsOneOf n ns
among_is n ns h = let r = some_passes _ ns h in subst (λ m. IsOneOf m ns) (sym (equal_numbers n r.0 r.2)) r.1

pub not_among : (n : ℕ) (ns : List ℕ) → (IsOneOf n ns → ⊥) → is_in ns n ≡ false
not_among n ns h =
    (elim (is_in ns n) as (λ b. is_in ns n ≡ b → b ≡ false) [ true ↦ λ e. absurd (h (among_is n ns e)) | false ↦ λ e. refl ]) refl

pub first_apart : (n : ℕ) (ns : List ℕ) → are_apart (n ∷ ns) ≡ true → (IsOneOf n ns → ⊥) × (are_apart ns ≡ true)
first_apart n ns h = let r = and_parts (not (is_in ns n)) (are_apart ns) h in (λ i. true≢false (sym (is_among n ns i) ∙ not-true _ r.0), r.1)

pub apart_from : (n : ℕ) (ns : List ℕ) → (IsOneOf n ns → ⊥) → are_apart ns ≡ true → are_apart (n ∷ ns) ≡ true
apart_from n ns h k = and_from (not (is_in ns n)) (are_apart ns) (ap not (not_among n ns h)) k

-- two lists in a row
pub apart_parts : (ms ns : List ℕ) → are_apart (ms ++ ns) ≡ true → (are_apart ms ≡ true) × (are_apart ns ≡ true) × AreDisjoint ms ns
apart_parts [] ns h = (refl, h, λ n i. absurd i)
apart_parts (m ∷ ms) ns h =
    let f = first_apart m (ms ++ ns) h in
    let r = apart_parts ms ns f.1 in (
      apart_from m ms (λ i. f.0 (in_left m ms ns i)) r.0,
      r.1,
      λ n i k. elim i as (λ _. ⊥) [ inl e ↦ f.0 (in_right m ms ns (subst (λ x. IsOneOf x ns) e k)) | inr j ↦ r.2 n j k ],
    )

pub apart_joined : (ms ns : List ℕ) → are_apart ms ≡ true → are_apart ns ≡ true → AreDisjoint ms ns → are_apart (ms ++ ns) ≡ true
apart_joined [] ns h k d = k
apart_joined (m ∷ ms) ns h k d =
    let f = first_apart m ms h in
    apart_from m (ms ++ ns) (λ i. elim (in_append m ms ns i) as (λ _. ⊥) [ inl a ↦ f.0 a | inr b ↦ d m (inl refl) b ]) (apart_joined ms ns f.1 k (λ n i j. d n (inr i) j))
