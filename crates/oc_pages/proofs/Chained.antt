-- Pages in the order of the chain.
use Rattle.std.proofs.Common.{◌≡◌, ◌≢◌, inl, inr, ℕ, zero, suc, ◌+◌, ◌<◌, ◌≤◌, Bool, true, false, List, [], ◌∷◌, ◌++◌, map, reverse, length, take, drop, set, refl, sym, ◌∙◌, ap, subst, arith, append_assoc, append-nil, Some, None}
use Rattle.std.specs.Prelude.{All, AllPairs, Contains, find}
use Rattle.std.specs.List.{IsDistinct, flat_map}
use Rattle.std.specs.List.Sorted.{IsPermutation}
use Rattle.std.proofs.lemmas.Bool.{cases_lt, cases_Bool, cases_eq}
use Rattle.std.proofs.lemmas.Bool.Decides.{nat_tests}
use Rattle.std.proofs.lemmas.Grind.{flat_map-append}
use Rattle.std.proofs.lemmas.List.{get_or_default, take-append-drop, take-append-le, drop-append-le, take-map, drop-map, map-append, reverse-append, take_all, drop_more, take_more}
use Rattle.std.proofs.lemmas.List.Elements.{recursion_from_All, All-from_recursion, Contains-get_or}
use Rattle.std.proofs.lemmas.List.Sorted.{IsPermutation-trans, IsPermutation-append_comm, IsPermutation-append_left, IsPermutation-reverse, Contains-permutation, All-permutation}
use Rattle.std.proofs.lemmas.Map.Keys.{IsDistinct-IsPermutation}
use Rattle.oc_layout.specs.declared.cells.Cell.{Cell}
use Rattle.oc_layout.specs.declared.cells.Space.{Space}
use Rattle.oc_pages.specs.declared.page.Page.{Page}
use Rattle.oc_pages.specs.Pages.{is_page, holds, things_in, IsOther}
use Rattle.oc_pages.specs.Places.{no_page, page_in, chained}

-- ---- the same pages

pub same_pages : (n : ℕ) (kept : List Page) → IsPermutation kept (chained n kept)
same_pages n kept =
    subst (λ (l : List Page). IsPermutation l (chained n kept)) (take-append-drop n kept)
    (IsPermutation-trans (take n kept ++ drop n kept) (drop n kept ++ take n kept) (chained n kept)
    (IsPermutation-append_comm (take n kept) (drop n kept))
    (IsPermutation-append_left (take n kept) (drop n kept) (reverse (drop n kept)) (IsPermutation-reverse (drop n kept))))

pub all_chained : (P : Page → Type 0) (n : ℕ) (kept : List Page) → All P kept → All P (chained n kept)
all_chained P n kept all = All-permutation P kept (chained n kept) (same_pages n kept) all

-- ---- no page twice, in either order

abbrev same_key : Page → Page → Bool
same_key p q = is_page p.space p.index q

key_flips : (p q : Page) → same_key p q ≡ same_key q p
key_flips p q = elim (cases_Bool (is_page q.space q.index p)) [
  | inl yes_ ↦ grind (arith, nat_tests, yes_)
  | inr no_ ↦ grind (arith, nat_tests, no_)
]

to_distinct : (xs : List Page) → AllPairs IsOther xs → IsDistinct same_key xs
unfolding IsDistinct
to_distinct [] all = tt
to_distinct (x ∷ xs) all = (
  recursion_from_All (λ y. is_page x.space x.index y ≡ false) xs (λ k d lt. all zero (suc k) d (omega arith) (omega (arith, lt))),
  to_distinct xs (λ i j d below lt. all (suc i) (suc j) d (omega (arith, below)) (omega (arith, lt))),
)

from_distinct : (xs : List Page) → IsDistinct same_key xs → AllPairs IsOther xs
unfolding IsDistinct
from_distinct [] is i j d below lt = absurd (omega (arith, lt))
from_distinct (x ∷ xs) is i zero d below lt = absurd (omega (arith, below))
from_distinct (x ∷ xs) is zero (suc j) d below lt = All-from_recursion (λ y. is_page x.space x.index y ≡ false) xs is.0 j d (omega (arith, lt))
from_distinct (x ∷ xs) is (suc i) (suc j) d below lt = from_distinct xs is.1 i j d (omega (arith, below)) (omega (arith, lt))

pub distinct_chained : (n : ℕ) (kept : List Page) → AllPairs IsOther kept → AllPairs IsOther (chained n kept)
distinct_chained n kept all = from_distinct (chained n kept) (IsDistinct-IsPermutation same_key key_flips kept (chained n kept) (same_pages n kept) (to_distinct kept all))

-- ---- the page that a test finds

pub find_none : (test : Page → Bool) (xs : List Page) → All (λ p. test p ≡ false) xs → find test xs ≡ None
find_none test [] none = refl
find_none test (x ∷ xs) none = grind (arith, none zero x (omega arith), find_none test xs (λ k d lt. none (suc k) d (omega (arith, lt))))

find_only : (test : Page → Bool) (xs : List Page) (p : Page) → All (λ q. test q ≡ true → q ≡ p) xs → Contains xs p → test p ≡ true → find test xs ≡ Some p
find_only test [] p only there passes = absurd (omega (arith, there.1))
find_only test (x ∷ xs) p only there passes = elim (cases_Bool (test x)) [
  | inl yes_ ↦ let same : x ≡ p = only zero x (omega arith) yes_ in grind (arith, yes_, same)
  | inr no_ ↦
      let rest = find_only test xs p (λ k d lt. only (suc k) d (omega (arith, lt))) (behind there no_) passes in
      grind (arith, no_, rest)
]
  where
    behind : Contains (x ∷ xs) p → test x ≡ false → Contains xs p
    behind (zero, lt, e) no_ = let yes_ : test x ≡ true = ap test e ∙ passes in absurd (cc (yes_, no_))
    behind (suc k, lt, e) no_ = (k, omega (arith, lt), e)

pub chained_none : (test : Page → Bool) (n : ℕ) (kept : List Page) → All (λ p. test p ≡ false) kept → find test (chained n kept) ≡ None
chained_none test n kept none = find_none test (chained n kept) (all_chained (λ p. test p ≡ false) n kept none)

pub chained_only : (test : Page → Bool) (n : ℕ) (kept : List Page) (place : ℕ) → place < length kept → test (page_in kept place) ≡ true
    → ((k : ℕ) → k < length kept → test (page_in kept k) ≡ true → k ≡ place) → find test (chained n kept) ≡ Some (page_in kept place)
chained_only test n kept place lt passes only =
    find_only test (chained n kept) (page_in kept place)
    (all_chained (λ q. test q ≡ true → q ≡ page_in kept place) n kept
    (λ k d in_ yes_. let here = get_or_default kept k d no_page in_ in here ∙ ap (page_in kept) (only k in_ (subst (λ (q : Page). test q ≡ true) here yes_))))
    (Contains-permutation kept (chained n kept) (page_in kept place) (same_pages n kept) (Contains-get_or kept place no_page lt))
    passes

-- ---- at most one page is of a space and index, and at most one holds a number

pub page_once : (space : Space) (index : ℕ) (kept : List Page) (place : ℕ) → AllPairs IsOther kept → place < length kept → is_page space index (page_in kept place) ≡ true
    → (k : ℕ) → k < length kept → is_page space index (page_in kept k) ≡ true → k ≡ place
page_once space index kept place all lt here k in_ there = elim (cases_eq k place) [
  | inl same ↦ same
  | inr apart ↦ elim (cases_lt k place) [
    | inl below ↦ absurd (clash (page_in kept k) (page_in kept place) (all k place no_page below lt) there here)
    | inr above ↦ absurd (clash (page_in kept place) (page_in kept k) (all place k no_page (omega (arith, above, apart)) in_) here there)
  ]
]
  where
    clash : (p q : Page) → is_page p.space p.index q ≡ false → is_page space index p ≡ true → is_page space index q ≡ true → ⊥
    clash p q no_ one two = grind (arith, nat_tests, no_, one, two)

pub holder_once : (space : Space) (number : ℕ) (kept : List Page) (place : ℕ) → AllPairs IsOther kept → place < length kept → holds space number (page_in kept place) ≡ true
    → (k : ℕ) → k < length kept → holds space number (page_in kept k) ≡ true → k ≡ place
holder_once space number kept place all lt here k in_ there = elim (cases_eq k place) [
  | inl same ↦ same
  | inr apart ↦ elim (cases_lt k place) [
    | inl below ↦ absurd (clash (page_in kept k) (page_in kept place) (all k place no_page below lt) there here)
    | inr above ↦ absurd (clash (page_in kept place) (page_in kept k) (all place k no_page (omega (arith, above, apart)) in_) here there)
  ]
]
  where
    clash : (p q : Page) → is_page p.space p.index q ≡ false → holds space number p ≡ true → holds space number q ≡ true → ⊥
    clash p q no_ one two = grind (arith, nat_tests, no_, one, two)

-- ---- changes

pub chained_more : (n : ℕ) (kept : List Page) (p : Page) → n ≤ length kept → chained n (kept ++ p ∷ []) ≡ p ∷ chained n kept
chained_more n kept p le =
    (λ i. reverse (drop-append-le n kept (p ∷ []) le i) ++ take-append-le n kept (p ∷ []) le i)
    ∙ ap (λ (l : List Page). l ++ take n kept) (reverse-append (drop n kept) (p ∷ []))

pub chained_all : (kept : List Page) → chained (length kept) kept ≡ kept
chained_all kept = (λ i. reverse (nothing kept i) ++ take_all (length kept) kept (omega arith) i)
  where
    nothing : (l : List Page) → drop (length l) l ≡ []
    nothing [] = refl
    nothing (x ∷ xs) = nothing xs

map-reverse : (f : Page → Page) (xs : List Page) → reverse (map f xs) ≡ map f (reverse xs)
map-reverse f [] = refl
map-reverse f (x ∷ xs) =
    reverse-append (f x ∷ []) (map f xs)
    ∙ ap (λ (l : List Page). l ++ f x ∷ []) (map-reverse f xs)
    ∙ sym (map-append f (reverse xs) (x ∷ []))
    ∙ ap (map f) (sym (reverse-append (x ∷ []) xs))

pub chained_map : (f : Page → Page) (n : ℕ) (kept : List Page) → chained n (map f kept) ≡ map f (chained n kept)
chained_map f n kept =
    (λ i. reverse (drop-map f n kept i) ++ take-map f n kept i)
    ∙ ap (λ (l : List Page). l ++ map f (take n kept)) (map-reverse f (drop n kept))
    ∙ sym (map-append f (reverse (drop n kept)) (take n kept))

pub map_same : (f : Page → Page) (xs : List Page) → ((k : ℕ) → k < length xs → f (page_in xs k) ≡ page_in xs k) → map f xs ≡ xs
map_same f [] same = refl
map_same f (x ∷ xs) same = λ i. same zero (omega arith) i ∷ map_same f xs (λ k lt. same (suc k) (omega (arith, lt))) i

pub set_is_map : (f : Page → Page) (xs : List Page) (place : ℕ) → place < length xs → ((k : ℕ) → k < length xs → k ≢ place → f (page_in xs k) ≡ page_in xs k)
    → set xs place (f (page_in xs place)) ≡ map f xs
set_is_map f [] place lt same = absurd (omega (arith, lt))
set_is_map f (x ∷ xs) zero lt same = ap (λ (l : List Page). f x ∷ l) (sym (map_same f xs (λ k in_. same (suc k) (omega (arith, in_)) (λ e. omega (arith, e)))))
set_is_map f (x ∷ xs) (suc place) lt same = λ i. sym (same zero (omega arith) (λ e. omega (arith, e))) i ∷ set_is_map f xs place (omega (arith, lt)) (λ k in_ apart. same (suc k) (omega (arith, in_)) (λ e. apart (omega (arith, e)))) i

-- ---- the places that pages name, along the chain

pub things_back : (kept : List Page) (k : ℕ) (out : List Cell) → k < length kept → out ≡ flat_map things_in (reverse (drop (k + 1) kept)) → out ++ things_in (page_in kept k) ≡ flat_map things_in (reverse (drop k kept))
things_back kept k out lt was =
    let front : drop k kept ≡ page_in kept k ∷ drop (k + 1) kept = drop_more kept k no_page lt in
    ap (λ (l : List Cell). l ++ things_in (page_in kept k)) was
    ∙ ap (λ (l : List Cell). flat_map things_in (reverse (drop (k + 1) kept)) ++ l) (sym (append-nil (things_in (page_in kept k))))
    ∙ sym (flat_map-append things_in (reverse (drop (k + 1) kept)) (page_in kept k ∷ []))
    ∙ ap (flat_map things_in) (sym (reverse-append (page_in kept k ∷ []) (drop (k + 1) kept)) ∙ ap reverse (sym front))

pub things_on : (front kept : List Page) (k : ℕ) (out : List Cell) → k < length kept → out ≡ flat_map things_in (front ++ take k kept) → out ++ things_in (page_in kept k) ≡ flat_map things_in (front ++ take (k + 1) kept)
things_on front kept k out lt was =
    ap (λ (l : List Cell). l ++ things_in (page_in kept k)) was
    ∙ ap (λ (l : List Cell). flat_map things_in (front ++ take k kept) ++ l) (sym (append-nil (things_in (page_in kept k))))
    ∙ sym (flat_map-append things_in (front ++ take k kept) (page_in kept k ∷ []))
    ∙ ap (flat_map things_in) (append_assoc front (take k kept) (page_in kept k ∷ []) ∙ ap (λ (l : List Page). front ++ l) (sym (take_more kept k no_page lt)))
