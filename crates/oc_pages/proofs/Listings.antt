-- What pages name, and which pages are missing.
use Rattle.std.proofs.Common.{◌≡◌, ◌≢◌, ◌⊎◌, inl, inr, ⊎_elim, ℕ, suc, ◌+◌, ◌-◌, ◌*◌, ◌<◌, ◌≤◌, ◌^◌, Bool, true, false, List, [], ◌∷◌, ◌++◌, length, take, get_or, refl, sym, ◌∙◌, ap, subst, arith, Option, Some, None}
use Rattle.std.specs.Prelude.{AllPairs, Contains, ◌↔◌, IsSome, find}
use Rattle.std.proofs.lemmas.Bool.{cases_lt, cases_Bool}
use Rattle.std.proofs.lemmas.Bool.Decides.{nat_tests}
use Rattle.std.proofs.lemmas.List.{take_more, get_or_default}
use Rattle.std.proofs.lemmas.List.Elements.{Contains-push, Contains-push_cases, Contains-append_left}
use Rattle.std.proofs.lemmas.List.Sorted.{Contains-permutation, IsPermutation-sym}
use Rattle.oc_layout.specs.declared.cells.Space.{Space}
use Rattle.oc_pages.specs.declared.page.Page.{Page}
use Rattle.oc_pages.specs.Order.{AreAscending}
use Rattle.oc_pages.specs.Pages.{no_cell, is_empty, space_number, has_number, holds, slot_in, cell_in, pointer_in, page_of, page_holding, pointer_of, IsOther, IsPointed, IsMissing}
use Rattle.oc_pages.specs.Places.{no_page, page_in, chained, IsNamed}
use Rattle.oc_pages.proofs.Chained.{same_pages}
use Rattle.oc_pages.proofs.Lookups.{pointer_found, in_none, in_some}
use Rattle.oc_pages.proofs.Ranges.{within_is, is_within}

-- ---- the numbers of one page

-- a number of the page that has a pointer, and one of the first k places
pub record IsEarly (space : Space) (p : Page) (k number : ℕ) : Type 0 where
  pub pointed : IsPointed space number p
  pub below : slot_in p number < k

abbrev pub EarlyNumbers : Space → Page → ℕ → List ℕ → List ℕ → Type 0
EarlyNumbers space p k before numbers = (number : ℕ) → Contains numbers number ↔ (Contains before number ⊎ IsEarly space p k number)

pub early_none : (space : Space) (p : Page) (before : List ℕ) → EarlyNumbers space p 0 before before
early_none space p before number = (λ h. inl h, λ h. elim h [ inl old ↦ old | inr early ↦ absurd (omega (arith, early.below)) ])

early_on : (space : Space) (p : Page) (k number : ℕ) → IsEarly space p k number → IsEarly space p (k + 1) number
early_on space p k number is = record { pointed = is.pointed; below = omega (arith, is.below) }

-- the number of a place
number_at : (space : Space) (p : Page) (k number : ℕ) → IsPointed space number p → slot_in p number ≡ k → number ≡ 126 * p.index + k + 1
number_at space p k number is slot =
    let w = within_is p.index number (grind (arith, is.holds)) in
    omega (arith, slot, w.above)

pub early_more : (space : Space) (p : Page) (k n : ℕ) (before numbers : List ℕ) → space_number p.space ≡ space_number space → k < 126 → n ≡ 126 * p.index + k + 1 → is_empty (get_or p.cells k no_cell) ≡ false
    → EarlyNumbers space p k before numbers → EarlyNumbers space p (k + 1) before (numbers ++ n ∷ [])
early_more space p k n before numbers same lt n_is some was number = (
  λ h. elim (Contains-push_cases numbers n number h) [
    | inl old ↦ ⊎_elim inl (λ early. inr (early_on space p k number early)) ((was number).0 old)
    | inr here ↦ inr (subst (λ (m : ℕ). IsEarly space p (k + 1) m) here this)
  ],
  λ h. elim h [
    | inl old ↦ Contains-append_left numbers (n ∷ []) number ((was number).1 (inl old))
    | inr early ↦ elim (cases_lt (slot_in p number) k) [
      | inl below ↦ Contains-append_left numbers (n ∷ []) number ((was number).1 (inr (record { pointed = early.pointed; below = below })))
      | inr not_below ↦
          let e : number ≡ n = number_at space p k number early.pointed (omega (arith, not_below, early.below)) ∙ sym n_is in
          subst (λ (m : ℕ). Contains (numbers ++ n ∷ []) m) (sym e) (Contains-push numbers n)
    ]
  ],
)
  where
    slot_is : slot_in p n ≡ k
    slot_is = omega (arith, n_is)

    this : IsEarly space p (k + 1) n
    this =
        let has = is_within p.index n (record { above = omega (arith, n_is); below = omega (arith, n_is, lt) }) in
        record {
          pointed = record { holds = grind (arith, nat_tests, same, has); some = ap (λ (j : ℕ). is_empty (get_or p.cells j no_cell)) slot_is ∙ some };
          below = omega (arith, slot_is);
        }

-- the number of a pointer has 32 bits
pub early_fits : (p : Page) (k : ℕ) → IsNamed p → k < 126 → is_empty (get_or p.cells k no_cell) ≡ false → p.index * 126 + k + 1 < 2 ^ 32
early_fits p k named lt some =
    let number = 126 * p.index + k + 1 in
    let has = is_within p.index number (record { above = omega arith; below = omega (arith, lt) }) in
    let slot : number - 126 * p.index - 1 ≡ k = omega arith in
    let few = named number has (ap (λ (j : ℕ). is_empty (get_or p.cells j no_cell)) slot ∙ some) in
    omega (arith, few)

pub early_same : (space : Space) (p : Page) (k : ℕ) (before numbers : List ℕ) → is_empty (get_or p.cells k no_cell) ≡ true → EarlyNumbers space p k before numbers → EarlyNumbers space p (k + 1) before numbers
early_same space p k before numbers none was number = (
  λ h. ⊎_elim inl (λ early. inr (early_on space p k number early)) ((was number).0 h),
  λ h. elim h [
    | inl old ↦ (was number).1 (inl old)
    | inr early ↦ elim (cases_lt (slot_in p number) k) [
      | inl below ↦ (was number).1 (inr (record { pointed = early.pointed; below = below }))
      | inr not_below ↦
          let slot_is : slot_in p number ≡ k = omega (arith, not_below, early.below) in
          let some : is_empty (get_or p.cells k no_cell) ≡ false = ap (λ (j : ℕ). is_empty (get_or p.cells j no_cell)) (sym slot_is) ∙ early.pointed.some in
          absurd (cc (some, none))
    ]
  ],
)

pub early_all : (space : Space) (p : Page) (k : ℕ) (before numbers : List ℕ) → 126 ≤ k → EarlyNumbers space p k before numbers
    → (number : ℕ) → Contains numbers number ↔ (Contains before number ⊎ IsPointed space number p)
early_all space p k before numbers le was number = (
  λ h. ⊎_elim inl (λ early. inr early.pointed) ((was number).0 h),
  λ h. (was number).1 (⊎_elim inl (λ pointed. inr (record { pointed = pointed; below = low pointed })) h),
)
  where
    low : IsPointed space number p → slot_in p number < k
    low is = let w = within_is p.index number (grind (arith, is.holds)) in omega (arith, w.above, w.below, le)

-- a page of the other space has none
pub early_other : (space : Space) (p : Page) (before : List ℕ) → space_number p.space ≢ space_number space → (number : ℕ) → Contains before number ↔ (Contains before number ⊎ IsPointed space number p)
early_other space p before apart number = (
  λ h. inl h,
  λ h. elim h [
    | inl old ↦ old
    | inr is ↦ let yes_ = is.holds in let same : space_number p.space ≡ space_number space = grind (arith, nat_tests, yes_) in absurd (apart same)
  ],
)

-- ---- the numbers of the pages that were kept first

-- one of the first k pages has a pointer of the number
pub record IsAmong (space : Space) (kept : List Page) (k number : ℕ) : Type 0 where
  pub place : ℕ
  pub below : place < k
  pub pointed : IsPointed space number (page_in kept place)

pub among_more : (space : Space) (kept : List Page) (k : ℕ) (before numbers : List ℕ) → ((number : ℕ) → Contains before number ↔ IsAmong space kept k number)
    → ((number : ℕ) → Contains numbers number ↔ (Contains before number ⊎ IsPointed space number (page_in kept k))) → (number : ℕ) → Contains numbers number ↔ IsAmong space kept (k + 1) number
among_more space kept k before numbers was step number = (
  λ h. ⊎_elim (λ old. on ((was number).0 old)) (λ here. record { place = k; below = omega arith; pointed = here }) ((step number).0 h),
  λ h. elim (cases_lt h.place k) [
    | inl below ↦ (step number).1 (inl ((was number).1 (record { place = h.place; below = below; pointed = h.pointed })))
    | inr not_below ↦
        let e : h.place ≡ k = omega (arith, not_below, h.below) in
        (step number).1 (inr (subst (λ (j : ℕ). IsPointed space number (page_in kept j)) e h.pointed))
  ],
)
  where
    on : IsAmong space kept k number → IsAmong space kept (k + 1) number
    on is = record { place = is.place; below = omega (arith, is.below); pointed = is.pointed }

-- a page that is found is one of the pages
pub found_is : (test : Page → Bool) (xs : List Page) (p : Page) → find test xs ≡ Some p → Contains xs p × (test p ≡ true)
found_is test [] p e = let no_way : ◌≡◌ {A = Option Page} None (Some p) = e in absurd (cc no_way)
found_is test (x ∷ xs) p e = elim (cases_Bool (test x)) [
  | inl yes_ ↦
      let some : ◌≡◌ {A = Option Page} (Some x) (Some p) = grind (arith, yes_, e) in
      let same : x ≡ p = cc some in
      ((0, omega arith, same), ap test (sym same) ∙ yes_)
  | inr no_ ↦
      let rest : find test xs ≡ Some p = grind (arith, no_, e) in
      let there = found_is test xs p rest in
      ((suc there.0.0, omega (arith, there.0.1), there.0.2), there.1)
]

pub no_pointer : (pages : List Page) (space : Space) (number : ℕ) → page_holding pages space number ≡ None → pointer_of pages space number ≡ None
no_pointer pages space number e = grind (arith, e)

pub its_pointer : (pages : List Page) (space : Space) (number : ℕ) (p : Page) → page_holding pages space number ≡ Some p → pointer_of pages space number ≡ pointer_in (cell_in p number)
its_pointer pages space number p e = grind (arith, e)

-- the numbers that a page has a pointer of are those that have one along the chain
pub pointers_are : (space : Space) (n : ℕ) (kept : List Page) (number : ℕ) → AllPairs IsOther kept → IsAmong space kept (length kept) number ↔ IsSome (pointer_of (chained n kept) space number)
pointers_are space n kept number distinct = (
  λ h.
      let there = pointer_found n kept h.place space number distinct h.below h.pointed.holds in
      let some = in_some (cell_in (page_in kept h.place) number) (cell_in (page_in kept h.place) number) refl h.pointed.some in
      let e = there ∙ some in
      grind (arith, e),
  λ h. back (page_holding (chained n kept) space number) refl h,
)
  where
    back : (o : Option Page) → page_holding (chained n kept) space number ≡ o → IsSome (pointer_of (chained n kept) space number) → IsAmong space kept (length kept) number
    back None e some = let none = no_pointer (chained n kept) space number e in absurd (grind (arith, none, some))
    back (Some p) e some =
        let found = found_is (holds space number) (chained n kept) p e in
        let there = Contains-permutation (chained n kept) kept p (IsPermutation-sym kept (chained n kept) (same_pages n kept)) found.0 in
        let here : page_in kept there.0 ≡ p = get_or_default kept there.0 no_page p there.1 ∙ there.2 in
        record {
          place = there.0;
          below = there.1;
          pointed = subst (λ (q : Page). IsPointed space number q) (sym here) (record { holds = found.1; some = filled p (its_pointer (chained n kept) space number p e) some });
        }
      where
        filled : (p : Page) → pointer_of (chained n kept) space number ≡ pointer_in (cell_in p number) → IsSome (pointer_of (chained n kept) space number) → is_empty (cell_in p number) ≡ false
        filled p e some = elim (cases_Bool (is_empty (cell_in p number))) [
          | inr no_ ↦ no_
          | inl yes_ ↦ let none = e ∙ in_none (cell_in p number) (cell_in p number) refl yes_ in absurd (grind (arith, none, some))
        ]

pub ascending_are : (P Q : ℕ → Type 0) (numbers : List ℕ) → ((n : ℕ) → P n ↔ Q n) → AreAscending P numbers → AreAscending Q numbers
ascending_are P Q numbers same is = record {
  ascend = is.ascend;
  exact = λ n. (λ h. (same n).0 ((is.exact n).0 h), λ h. (is.exact n).1 ((same n).1 h));
}

-- ---- the pages that are missing

pub missing_none : (pages : List Page) (space : Space) (index : ℕ) → Contains [] index ↔ IsMissing pages space [] index
missing_none pages space index = (λ h. absurd (omega (arith, h.1)), λ h. let a = h.among in absurd (omega (arith, a.1)))

missing_on : (pages : List Page) (space : Space) (numbers : List ℕ) (k index : ℕ) → k < length numbers → IsMissing pages space (take k numbers) index → IsMissing pages space (take (k + 1) numbers) index
missing_on pages space numbers k index lt is = record {
  number = is.number;
  among = subst (λ (l : List ℕ). Contains l is.number) (sym (take_more numbers k 0 lt)) (Contains-append_left (take k numbers) (get_or numbers k 0 ∷ []) is.number is.among);
  has = is.has;
  none = is.none;
}

missing_cases : (pages : List Page) (space : Space) (numbers : List ℕ) (k index : ℕ) → k < length numbers → IsMissing pages space (take (k + 1) numbers) index
    → IsMissing pages space (take k numbers) index ⊎ ((has_number index (get_or numbers k 0) ≡ true) × (page_of pages space index ≡ None))
missing_cases pages space numbers k index lt is = elim (Contains-push_cases (take k numbers) (get_or numbers k 0) is.number (subst (λ (l : List ℕ). Contains l is.number) (take_more numbers k 0 lt) is.among)) [
  | inl old ↦ inl (record { number = is.number; among = old; has = is.has; none = is.none })
  | inr here ↦ inr (subst (λ (m : ℕ). has_number index m ≡ true) (sym here) is.has, is.none)
]

one_index : (i j number : ℕ) → has_number i number ≡ true → has_number j number ≡ true → i ≡ j
one_index i j number one two =
    let a = within_is i number one in
    let b = within_is j number two in
    omega (arith, a.above, a.below, b.above, b.below)

pub missing_push : (pages : List Page) (space : Space) (numbers out : List ℕ) (k index : ℕ) → k < length numbers → has_number index (get_or numbers k 0) ≡ true → page_of pages space index ≡ None
    → ((i : ℕ) → Contains out i ↔ IsMissing pages space (take k numbers) i) → (i : ℕ) → Contains (out ++ index ∷ []) i ↔ IsMissing pages space (take (k + 1) numbers) i
missing_push pages space numbers out k index lt has none was i = (
  λ h. elim (Contains-push_cases out index i h) [
    | inl old ↦ missing_on pages space numbers k i lt ((was i).0 old)
    | inr here ↦ subst (λ (j : ℕ). IsMissing pages space (take (k + 1) numbers) j) here
        (record {
          number = get_or numbers k 0;
          among = subst (λ (l : List ℕ). Contains l (get_or numbers k 0)) (sym (take_more numbers k 0 lt)) (Contains-push (take k numbers) (get_or numbers k 0));
          has = has;
          none = none;
        })
  ],
  λ h. elim (missing_cases pages space numbers k i lt h) [
    | inl old ↦ Contains-append_left out (index ∷ []) i ((was i).1 old)
    | inr here ↦ subst (λ (j : ℕ). Contains (out ++ index ∷ []) j) (one_index index i (get_or numbers k 0) has here.0) (Contains-push out index)
  ],
)

pub missing_skip : (pages : List Page) (space : Space) (numbers out : List ℕ) (k index : ℕ) → k < length numbers → has_number index (get_or numbers k 0) ≡ true → (page_of pages space index ≡ None → ⊥)
    → ((i : ℕ) → Contains out i ↔ IsMissing pages space (take k numbers) i) → (i : ℕ) → Contains out i ↔ IsMissing pages space (take (k + 1) numbers) i
missing_skip pages space numbers out k index lt has some was i = (
  λ h. missing_on pages space numbers k i lt ((was i).0 h),
  λ h. elim (missing_cases pages space numbers k i lt h) [
    | inl old ↦ (was i).1 old
    | inr here ↦ absurd (some (subst (λ (j : ℕ). page_of pages space j ≡ None) (one_index i index (get_or numbers k 0) here.0 has) here.1))
  ],
)

pub missing_all : (pages : List Page) (space : Space) (numbers out : List ℕ) (k : ℕ) → take k numbers ≡ numbers → ((i : ℕ) → Contains out i ↔ IsMissing pages space (take k numbers) i) → (i : ℕ) → Contains out i ↔ IsMissing pages space numbers i
missing_all pages space numbers out k all was = subst (λ (l : List ℕ). (i : ℕ) → Contains out i ↔ IsMissing pages space l i) all was
