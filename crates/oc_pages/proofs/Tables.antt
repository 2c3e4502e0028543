-- Pages that are found by their space and index.
use Rattle.std.proofs.Common.{◌≡◌, inl, inr, ℕ, ◌+◌, ◌-◌, ◌<◌, true, false, List, [], ◌∷◌, ◌++◌, length, get_or, set, refl, sym, ◌∙◌, ap, subst, arith, length-append, Option, Some, None}
use Rattle.std.specs.Prelude.{All, AllPairs}
use Rattle.std.proofs.lemmas.Bool.{cases_lt, cases_Bool, cases_eq}
use Rattle.std.proofs.lemmas.Bool.Decides.{nat_tests}
use Rattle.std.proofs.lemmas.List.{get_or_default, get_or-set_same, get_or-set_other, get_or_append_left, get_or-append_right, length-set}
use Rattle.oc_layout.specs.declared.cells.Space.{Space}
use Rattle.oc_layout.specs.declared.cells.Space.TheVariants.{Objects, System}
use Rattle.oc_pages.specs.declared.page.Page.{Page}
use Rattle.oc_pages.specs.declared.places.Places.{Places}
use Rattle.oc_pages.specs.Pages.{space_number, is_page, IsOther}
use Rattle.oc_pages.specs.Places.{place_in, no_page, page_in, IsIndexed}

-- a space has a number of its own
pub same_space : (a b : Space) → space_number a ≡ space_number b → a ≡ b
same_space Objects Objects e = refl
same_space Objects System e = absurd (omega (arith, e))
same_space System Objects e = absurd (omega (arith, e))
same_space System System e = refl

-- what the test for a page says
pub record IsOf (space : Space) (index : ℕ) (p : Page) : Type 0 where
  pub space_is : p.space ≡ space
  pub index_is : p.index ≡ index

pub page_is : (space : Space) (index : ℕ) (p : Page) → is_page space index p ≡ true → IsOf space index p
page_is space index p yes_ =
    let parts : (space_number p.space ≡ space_number space) × (p.index ≡ index) = grind (arith, nat_tests, yes_) in
    record { space_is = same_space p.space space parts.0; index_is = parts.1 }

pub is_the_page : (space : Space) (index : ℕ) (p : Page) → IsOf space index p → is_page space index p ≡ true
is_the_page space index p is =
    let e : space_number p.space ≡ space_number space = ap space_number is.space_is in
    grind (arith, nat_tests, e, is.index_is)

-- what isn't found isn't there
pub none_kept : (kept : List Page) (places : Places) (space : Space) (index : ℕ) → IsIndexed kept places
    → place_in places space index ≡ None → All (λ p. is_page space index p ≡ false) kept
none_kept kept places space index is none k d lt = elim (cases_Bool (is_page space index (get_or kept k d))) [
  | inr no_ ↦ no_
  | inl yes_ ↦
      let here : get_or kept k d ≡ page_in kept k = get_or_default kept k d no_page lt in
      let p = page_is space index (page_in kept k) (subst (λ (q : Page). is_page space index q ≡ true) here yes_) in
      let known = (λ i. place_in places (sym p.space_is i) (sym p.index_is i)) ∙ is.known k lt in
      let no_way : ◌≡◌ {A = Option ℕ} None (Some k) = sym none ∙ known in
      absurd (cc no_way)
]

-- no page comes twice
pub distinct_kept : (kept : List Page) (places : Places) → IsIndexed kept places → AllPairs IsOther kept
distinct_kept kept places is i j d below lt = elim (cases_Bool (is_page (get_or kept i d).space (get_or kept i d).index (get_or kept j d))) [
  | inr no_ ↦ no_
  | inl yes_ ↦
      let at_i : get_or kept i d ≡ page_in kept i = get_or_default kept i d no_page (omega (arith, below, lt)) in
      let at_j : get_or kept j d ≡ page_in kept j = get_or_default kept j d no_page lt in
      let p = page_is (get_or kept i d).space (get_or kept i d).index (get_or kept j d) yes_ in
      let same_s : (page_in kept i).space ≡ (page_in kept j).space = ap (λ (q : Page). q.space) (sym at_i) ∙ sym p.space_is ∙ ap (λ (q : Page). q.space) at_j in
      let same_i : (page_in kept i).index ≡ (page_in kept j).index = ap (λ (q : Page). q.index) (sym at_i) ∙ sym p.index_is ∙ ap (λ (q : Page). q.index) at_j in
      let both : ◌≡◌ {A = Option ℕ} (Some i) (Some j) = sym (is.known i (omega (arith, below, lt))) ∙ (λ k. place_in places (same_s k) (same_i k)) ∙ is.known j lt in
      let same : i ≡ j = cc both in
      absurd (omega (arith, same, below))
]

-- the places may be kept in another order
pub indexed_again : (kept : List Page) (old new : Places) → IsIndexed kept old → ((space : Space) (index : ℕ) → place_in new space index ≡ place_in old space index) → IsIndexed kept new
indexed_again kept old new is same = record {
  found = λ space index place e. is.found space index place (sym (same space index) ∙ e);
  known = λ k lt. same (page_in kept k).space (page_in kept k).index ∙ is.known k lt;
}

-- one page more
module _ (kept : List Page) (old new : Places) (p : Page)
    (is : IsIndexed kept old)
    (other : All (λ q. is_page p.space p.index q ≡ false) kept)
    (here : place_in new p.space p.index ≡ Some (length kept))
    (others : (space : Space) (index : ℕ) → (space_number space ≡ space_number p.space → index ≡ p.index → ⊥) → place_in new space index ≡ place_in old space index) where
  more : List Page
  more = kept ++ p ∷ []

  before : (k : ℕ) → k < length kept → page_in more k ≡ page_in kept k
  unfolding more
  before k lt = get_or_append_left kept (p ∷ []) no_page k lt

  last : page_in more (length kept) ≡ p
  unfolding more
  last =
      let zero_ : length kept - length kept ≡ 0 = omega arith in
      get_or-append_right kept (p ∷ []) (length kept) (length kept) no_page refl (omega arith) ∙ ap (λ (k : ℕ). get_or (p ∷ []) k no_page) zero_

  size : length more ≡ length kept + 1
  unfolding more
  size = length-append kept (p ∷ [])

  found_there : (space : Space) (index place : ℕ) → place_in new space index ≡ Some place → (place < length more) × (is_page space index (page_in more place) ≡ true)
  found_there space index place e = elim (cases_Bool (is_page space index p)) [
    | inl yes_ ↦
        let of = page_is space index p yes_ in
        let at : ◌≡◌ {A = Option ℕ} (Some place) (Some (length kept)) = sym e ∙ (λ i. place_in new (sym of.space_is i) (sym of.index_is i)) ∙ here in
        let place_is : place ≡ length kept = cc at in
        (omega (arith, size, place_is), subst (λ (q : Page). is_page space index q ≡ true) (sym (ap (page_in more) place_is ∙ last)) yes_)
    | inr no_ ↦
        let apart : space_number space ≡ space_number p.space → index ≡ p.index → ⊥ = λ s i. grind (arith, nat_tests, no_, s, i) in
        let found = is.found space index place (sym (others space index apart) ∙ e) in
        (omega (arith, size, found.0), subst (λ (q : Page). is_page space index q ≡ true) (sym (before place found.0)) found.1)
  ]

  known_there : (k : ℕ) → k < length more → place_in new (page_in more k).space (page_in more k).index ≡ Some k
  known_there k lt = elim (cases_lt k (length kept)) [
    | inl below ↦
        let q = page_in kept k in
        let no_ : is_page p.space p.index q ≡ false = other k no_page below in
        let apart : space_number q.space ≡ space_number p.space → q.index ≡ p.index → ⊥ = λ s i. grind (arith, nat_tests, no_, s, i) in
        subst (λ (x : Page). place_in new x.space x.index ≡ Some k) (sym (before k below)) (others q.space q.index apart ∙ is.known k below)
    | inr not_below ↦
        let k_is : k ≡ length kept = omega (arith, lt, size, not_below) in
        subst (λ (x : Page). place_in new x.space x.index ≡ Some k) (sym (ap (page_in more) k_is ∙ last)) (here ∙ ap Some (sym k_is))
  ]

  pub indexed_more : IsIndexed (kept ++ p ∷ []) new
  unfolding more
  indexed_more = record { found = found_there; known = known_there }

-- a page changes that stays of its space and index
pub indexed_set : (kept : List Page) (places : Places) (at : ℕ) (q : Page) → IsIndexed kept places → at < length kept → q.space ≡ (page_in kept at).space → q.index ≡ (page_in kept at).index → IsIndexed (set kept at q) places
indexed_set kept places at q is lt space_is index_is = record {
  found = λ space index place e.
      let found = is.found space index place e in
      (omega (arith, found.0, length-set kept at q), stays place (λ (x : Page). is_page space index x ≡ true) found.1 (λ here. step space index (subst (λ (j : ℕ). is_page space index (page_in kept j) ≡ true) here found.1)));
  known = λ k below.
      let in_kept : k < length kept = omega (arith, below, length-set kept at q) in
      stays k (λ (x : Page). place_in places x.space x.index ≡ Some k) (is.known k in_kept)
      (λ here. (λ i. place_in places (space_is i) (index_is i)) ∙ subst (λ (j : ℕ). place_in places (page_in kept j).space (page_in kept j).index ≡ Some k) here (is.known k in_kept));
}
  where
    stays : (k : ℕ) (P : Page → Type 0) → P (page_in kept k) → (k ≡ at → P q) → P (page_in (set kept at q) k)
    stays k P there here = elim (cases_eq k at) [
      | inl same ↦ subst P (sym (ap (page_in (set kept at q)) same ∙ get_or-set_same kept at q no_page lt)) (here same)
      | inr apart ↦ subst P (sym (get_or-set_other kept at k q no_page apart)) there
    ]

    step : (space : Space) (index : ℕ) → is_page space index (page_in kept at) ≡ true → is_page space index q ≡ true
    step space index yes_ =
        let of = page_is space index (page_in kept at) yes_ in
        is_the_page space index q (record { space_is = space_is ∙ of.space_is; index_is = index_is ∙ of.index_is })
