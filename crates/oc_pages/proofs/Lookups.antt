-- The page that is found among those kept is the one that is found along the chain.
use Rattle.std.proofs.Common.{◌≡◌, ℕ, suc, zero, ◌+◌, ◌*◌, ◌<◌, inl, inr, Bool, true, false, List, [], ◌∷◌, length, get_or, sym, ◌∙◌, ap, arith, Option, Some, None}
use Rattle.std.specs.Prelude.{All, AllPairs, find, option_map}
use Rattle.std.specs.Option.{option_flatten}
use Rattle.std.proofs.lemmas.Bool.{cases_Bool}
use Rattle.std.proofs.lemmas.List.Sorted.{IsPermutation-sym, All-permutation}
use Rattle.oc_layout.specs.declared.cells.Cell.{Cell}
use Rattle.oc_layout.specs.declared.cells.Space.{Space}
use Rattle.oc_pages.specs.declared.page.Page.{Page}
use Rattle.oc_pages.specs.Pages.{is_empty, is_page, holds, has_number, slot_in, cell_in, pointer_in, page_of, page_holding, pointer_of, target_of, IsOther}
use Rattle.oc_pages.specs.Places.{page_in, chained}
use Rattle.oc_pages.proofs.Chained.{same_pages, chained_none, chained_only, page_once, holder_once}

pub holds_number : (space : Space) (number : ℕ) (p : Page) → holds space number p ≡ true → has_number p.index number ≡ true
holds_number space number p yes_ = grind (arith, yes_)

-- ---- where a page holds the number

module _ (n : ℕ) (kept : List Page) (place : ℕ) (space : Space) (number : ℕ) (distinct : AllPairs IsOther kept) (lt : place < length kept) (here : holds space number (page_in kept place) ≡ true) where
  pub holder_found : page_holding (chained n kept) space number ≡ Some (page_in kept place)
  holder_found = chained_only (holds space number) n kept place lt here (holder_once space number kept place distinct lt here)

  pub pointer_found : pointer_of (chained n kept) space number ≡ pointer_in (cell_in (page_in kept place) number)
  pointer_found = ap (λ (o : Option Page). option_flatten (option_map (λ p. pointer_in (cell_in p number)) o)) holder_found

  pub target_found : (unit : ℕ) → target_of unit (chained n kept) space number ≡ Some ((page_in kept place).at * unit + 16 + 8 * slot_in (page_in kept place) number)
  target_found unit = ap (λ (o : Option Page). option_map (λ p. p.at * unit + 16 + 8 * slot_in p number) o) holder_found

pub page_found : (n : ℕ) (kept : List Page) (place : ℕ) (space : Space) (index : ℕ) → AllPairs IsOther kept → place < length kept → is_page space index (page_in kept place) ≡ true → page_of (chained n kept) space index ≡ Some (page_in kept place)
page_found n kept place space index distinct lt here = chained_only (is_page space index) n kept place lt here (page_once space index kept place distinct lt here)

-- ---- where none does

pub holder_none : (n : ℕ) (kept : List Page) (space : Space) (number : ℕ) → All (λ p. holds space number p ≡ false) kept → page_holding (chained n kept) space number ≡ None
holder_none n kept space number none = chained_none (holds space number) n kept none

pub pointer_none : (n : ℕ) (kept : List Page) (space : Space) (number : ℕ) → All (λ p. holds space number p ≡ false) kept → pointer_of (chained n kept) space number ≡ None
pointer_none n kept space number none = ap (λ (o : Option Page). option_flatten (option_map (λ p. pointer_in (cell_in p number)) o)) (holder_none n kept space number none)

pub target_none : (unit n : ℕ) (kept : List Page) (space : Space) (number : ℕ) → All (λ p. holds space number p ≡ false) kept → target_of unit (chained n kept) space number ≡ None
target_none unit n kept space number none = ap (λ (o : Option Page). option_map (λ p. p.at * unit + 16 + 8 * slot_in p number) o) (holder_none n kept space number none)

pub page_none : (n : ℕ) (kept : List Page) (space : Space) (index : ℕ) → All (λ p. is_page space index p ≡ false) kept → page_of (chained n kept) space index ≡ None
page_none n kept space index none = chained_none (is_page space index) n kept none

-- ---- a cell that is read

pub in_none : (x y : Cell) → x ≡ y → is_empty x ≡ true → pointer_in y ≡ None
in_none x y same none = ap pointer_in (sym same) ∙ grind (arith, none)

pub in_some : (x y : Cell) → x ≡ y → is_empty x ≡ false → pointer_in y ≡ Some x
in_some x y same some = ap pointer_in (sym same) ∙ grind (arith, some)

-- ---- what a search along the chain says

pub nothing_found : (test : Page → Bool) (xs : List Page) → find test xs ≡ None → All (λ p. test p ≡ false) xs
nothing_found test [] none k d lt = absurd (omega (arith, lt))
nothing_found test (x ∷ xs) none k d lt = elim (cases_Bool (test x)) [
  | inl yes_ ↦
      let some : find test (x ∷ xs) ≡ Some x = grind (arith, yes_) in
      let no_way : ◌≡◌ {A = Option Page} None (Some x) = sym none ∙ some in
      absurd (cc no_way)
  | inr no_ ↦
      let rest : find test xs ≡ None = grind (arith, none, no_) in
      at_place k lt no_ (nothing_found test xs rest)
]
  where
    at_place : (k : ℕ) → k < length (x ∷ xs) → test x ≡ false → All (λ p. test p ≡ false) xs → test (get_or (x ∷ xs) k d) ≡ false
    at_place zero in_ no_ all = no_
    at_place (suc j) in_ no_ all = all j d (omega (arith, in_))

pub none_kept_there : (n : ℕ) (kept : List Page) (space : Space) (index : ℕ) → page_of (chained n kept) space index ≡ None → All (λ p. is_page space index p ≡ false) kept
none_kept_there n kept space index none =
    All-permutation (λ p. is_page space index p ≡ false) (chained n kept) kept (IsPermutation-sym kept (chained n kept) (same_pages n kept)) (nothing_found (is_page space index) (chained n kept) none)
