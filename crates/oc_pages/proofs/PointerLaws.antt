-- What changes of a page's cells do to pointers and to the places that are named.
use Rattle.std.proofs.Common.{◌≡◌, inl, inr, ℕ, zero, suc, ◌+◌, ◌*◌, ◌<◌, true, false, List, [], ◌∷◌, ◌++◌, replicate, length, get_or, set, refl, sym, ◌∙◌, ap, arith, Option, Some, None}
use Rattle.std.specs.Prelude.{All, AllPairs, filter, sum_by, not, option_map}
use Rattle.std.specs.Option.{option_to_list, option_flatten}
use Rattle.std.proofs.lemmas.Bool.{cases_Bool}
use Rattle.std.proofs.lemmas.Bool.Decides.{nat_tests}
use Rattle.std.proofs.lemmas.List.{get_or-set_same, get_or-set_other, length-set, length-replicate}
use Rattle.std.proofs.lemmas.List.Elements.{All-head, All-tail, All-cons, All-map, All-contains}
use Rattle.std.proofs.lemmas.List.Sums.{sum_by-append, sum_by-cons}
use Rattle.oc_layout.specs.declared.cells.Cell.{Cell}
use Rattle.oc_layout.specs.declared.cells.Space.{Space}
use Rattle.oc_pages.specs.declared.page.Page.{Page}
use Rattle.oc_pages.specs.Pages.{no_cell, is_empty, pointer_in, is_page, holds, slot_in, cell_in, page_of, page_holding, pointer_of, target_of, place_of, empty_page, with_cell, with_pointer, things_in, things_of, space_number, IsOther}
use Rattle.oc_pages.proofs.Changes.{with_held, with_other, no_cells}
use Rattle.oc_pages.proofs.ChainLaws.{with_none, others_none}
use Rattle.oc_pages.proofs.Chained.{find_none}
use Rattle.oc_pages.proofs.Listings.{found_is}
use Rattle.oc_pages.proofs.Lookups.{nothing_found}
use Rattle.oc_pages.proofs.Ranges.{within_is}

-- a page has all its cells
abbrev pub HasCells : Page → Type 0
HasCells p = length p.cells ≡ 126

-- ---- another cell for a number

same_holder : (space other : Space) (number wanted : ℕ) (cell : Cell) (p : Page) → holds other wanted (with_cell space number cell p) ≡ holds other wanted p
same_holder space other number wanted cell p = elim (cases_Bool (holds space number p)) [
  | inl yes_ ↦ ap (holds other wanted) (with_held space number cell p yes_)
  | inr no_ ↦ ap (holds other wanted) (with_other space number cell p no_)
]

-- the page that holds a number is the same, but for its cell
pub holder_set : (space other : Space) (number wanted : ℕ) (cell : Cell) (pages : List Page)
    → page_holding (with_pointer space number cell pages) other wanted ≡ option_map (with_cell space number cell) (page_holding pages other wanted)
holder_set space other number wanted cell [] = refl
holder_set space other number wanted cell (p ∷ ps) = elim (cases_Bool (holds other wanted p)) [
  | inl yes_ ↦ let same = same_holder space other number wanted cell p in grind (arith, yes_, same)
  | inr no_ ↦ let same = same_holder space other number wanted cell p in let rest = holder_set space other number wanted cell ps in grind (arith, no_, same, rest)
]

-- ---- what the pointers are then

no_pointer : (pages : List Page) (space : Space) (number : ℕ) → page_holding pages space number ≡ None → pointer_of pages space number ≡ None
no_pointer pages space number e = grind (arith, e)

its_pointer : (pages : List Page) (space : Space) (number : ℕ) (p : Page) → page_holding pages space number ≡ Some p → pointer_of pages space number ≡ pointer_in (cell_in p number)
its_pointer pages space number p e = grind (arith, e)

pub pointer_set_here : (space : Space) (number : ℕ) (cell : Cell) (pages : List Page) (q : Page) → All HasCells pages → page_holding pages space number ≡ Some q
    → pointer_of (with_pointer space number cell pages) space number ≡ pointer_in cell
pointer_set_here space number cell pages q sizes e =
    let found = found_is (holds space number) pages q e in
    let size : length q.cells ≡ 126 = All-contains HasCells pages q sizes found.0 in
    let w = within_is q.index number (grind (arith, found.1)) in
    let after : page_holding (with_pointer space number cell pages) space number ≡ Some (with_cell space number cell q) = holder_set space space number number cell pages ∙ ap (option_map (with_cell space number cell)) e in
    let here = its_pointer (with_pointer space number cell pages) space number (with_cell space number cell q) after in
    here ∙ ap (λ (p : Page). pointer_in (cell_in p number)) (with_held space number cell q found.1)
    ∙ ap pointer_in (get_or-set_same q.cells (slot_in q number) cell no_cell (omega (arith, size, w.above, w.below)))

pub pointer_set_other : (space other : Space) (number wanted : ℕ) (cell : Cell) (pages : List Page) → (space_number other ≡ space_number space → wanted ≡ number → ⊥)
    → pointer_of (with_pointer space number cell pages) other wanted ≡ pointer_of pages other wanted
pointer_set_other space other number wanted cell pages apart = by_holder (page_holding pages other wanted) refl
  where
    cell_stays : (q : Page) → holds other wanted q ≡ true → cell_in (with_cell space number cell q) wanted ≡ cell_in q wanted
    cell_stays q there = elim (cases_Bool (holds space number q)) [
      | inr no_ ↦ ap (λ (p : Page). cell_in p wanted) (with_other space number cell q no_)
      | inl yes_ ↦
          let spaces : space_number other ≡ space_number space = grind (arith, nat_tests, there, yes_) in
          let a = within_is q.index wanted (grind (arith, there)) in
          let b = within_is q.index number (grind (arith, yes_)) in
          ap (λ (p : Page). cell_in p wanted) (with_held space number cell q yes_)
          ∙ get_or-set_other q.cells (slot_in q number) (slot_in q wanted) cell no_cell (λ same. apart spaces (omega (arith, same, a.above, b.above)))
    ]

    by_holder : (o : Option Page) → page_holding pages other wanted ≡ o → pointer_of (with_pointer space number cell pages) other wanted ≡ pointer_of pages other wanted
    by_holder None none =
        no_pointer (with_pointer space number cell pages) other wanted (holder_set space other number wanted cell pages ∙ ap (option_map (with_cell space number cell)) none)
        ∙ sym (no_pointer pages other wanted none)
    by_holder (Some q) some =
        its_pointer (with_pointer space number cell pages) other wanted (with_cell space number cell q) (holder_set space other number wanted cell pages ∙ ap (option_map (with_cell space number cell)) some)
        ∙ ap pointer_in (cell_stays q (found_is (holds other wanted) pages q some).1)
        ∙ sym (its_pointer pages other wanted q some)

-- where the cells stand stays
pub target_set : (unit : ℕ) (space other : Space) (number wanted : ℕ) (cell : Cell) (pages : List Page) → target_of unit (with_pointer space number cell pages) other wanted ≡ target_of unit pages other wanted
target_set unit space other number wanted cell pages =
    ap (option_map (λ (p : Page). p.at * unit + 16 + 8 * slot_in p wanted)) (holder_set space other number wanted cell pages) ∙ stays (page_holding pages other wanted)
  where
    stays_in : (q : Page) → ◌≡◌ {A = ℕ} ((with_cell space number cell q).at * unit + 16 + 8 * slot_in (with_cell space number cell q) wanted) (q.at * unit + 16 + 8 * slot_in q wanted)
    stays_in q = elim (cases_Bool (holds space number q)) [
      | inl yes_ ↦ ap (λ (p : Page). p.at * unit + 16 + 8 * slot_in p wanted) (with_held space number cell q yes_)
      | inr no_ ↦ ap (λ (p : Page). p.at * unit + 16 + 8 * slot_in p wanted) (with_other space number cell q no_)
    ]

    stays : (o : Option Page) → option_map (λ (p : Page). p.at * unit + 16 + 8 * slot_in p wanted) (option_map (with_cell space number cell) o) ≡ option_map (λ (p : Page). p.at * unit + 16 + 8 * slot_in p wanted) o
    stays None = refl
    stays (Some q) = ap Some (stays_in q)

-- ---- a page more

pub pointer_added : (space other : Space) (index at wanted : ℕ) (link : Cell) (pages : List Page) → page_of pages space index ≡ None → pointer_of (empty_page space index at link ∷ pages) other wanted ≡ pointer_of pages other wanted
pointer_added space other index at wanted link pages none = elim (cases_Bool (holds other wanted (empty_page space index at link))) [
  | inl yes_ ↦
      let here : page_holding (empty_page space index at link ∷ pages) other wanted ≡ Some (empty_page space index at link) = grind (arith, yes_) in
      let nobody = find_none (holds other wanted) pages (λ k d lt. not_held (get_or pages k d) (nothing_found (is_page space index) pages none k d lt) yes_) in
      its_pointer (empty_page space index at link ∷ pages) other wanted (empty_page space index at link) here ∙ ap pointer_in (no_cells 126 (slot_in (empty_page space index at link) wanted)) ∙ sym (no_pointer pages other wanted nobody)
  | inr no_ ↦
      let rest : page_holding (empty_page space index at link ∷ pages) other wanted ≡ page_holding pages other wanted = grind (arith, no_) in
      ap (λ (o : Option Page). option_flatten (option_map (λ (q : Page). pointer_in (cell_in q wanted)) o)) rest
]
  where
    not_held : (q : Page) → is_page space index q ≡ false → holds other wanted (empty_page space index at link) ≡ true → holds other wanted q ≡ false
    not_held q no_ here = elim (cases_Bool (holds other wanted q)) [
      | inr not_it ↦ not_it
      | inl there ↦ absurd (clash q no_ here there)
    ]
      where
        clash : (q : Page) → is_page space index q ≡ false → holds other wanted (empty_page space index at link) ≡ true → holds other wanted q ≡ true → ⊥
        clash q no_ here there = grind (arith, nat_tests, no_, here, there)

-- ---- the places that are named

one_cell : (f : Cell → ℕ) (c : Cell) (cs : List Cell) → sum_by f (filter (λ x. not (is_empty x)) (c ∷ cs)) ≡ sum_by f (option_to_list (pointer_in c)) + sum_by f (filter (λ x. not (is_empty x)) cs)
one_cell f c cs = elim (cases_Bool (is_empty c)) [
  | inl yes_ ↦ grind (arith, yes_)
  | inr no_ ↦ grind (arith, no_, sum_by-cons f c (filter (λ x. not (is_empty x)) cs), sum_by-cons f c [])
]

cells_set : (f : Cell → ℕ) (cells : List Cell) (k : ℕ) (cell : Cell) → k < length cells
    → sum_by f (filter (λ x. not (is_empty x)) (set cells k cell)) + sum_by f (option_to_list (pointer_in (get_or cells k no_cell))) ≡ sum_by f (filter (λ x. not (is_empty x)) cells) + sum_by f (option_to_list (pointer_in cell))
cells_set f [] k cell lt = absurd (omega (arith, lt))
cells_set f (c ∷ cs) zero cell lt = omega (arith, one_cell f c cs, one_cell f cell cs)
cells_set f (c ∷ cs) (suc k) cell lt = omega (arith, one_cell f c cs, one_cell f c (set cs k cell), cells_set f cs k cell (omega (arith, lt)))

things_front : (f : Cell → ℕ) (p : Page) (ps : List Page) → sum_by f (things_of (p ∷ ps)) ≡ f (place_of p) + sum_by f (filter (λ x. not (is_empty x)) p.cells) + sum_by f (things_of ps)
things_front f p ps =
    let a = sum_by-append f (things_in p) (things_of ps) in
    let b = sum_by-cons f (place_of p) (filter (λ x. not (is_empty x)) p.cells) in
    omega (arith, a, b)

-- one place is another
pub things_set : (f : Cell → ℕ) (space : Space) (number : ℕ) (cell : Cell) (pages : List Page) (q : Page) → All HasCells pages → AllPairs IsOther pages → page_holding pages space number ≡ Some q
    → sum_by f (things_of (with_pointer space number cell pages)) + sum_by f (option_to_list (pointer_of pages space number)) ≡ sum_by f (things_of pages) + sum_by f (option_to_list (pointer_in cell))
things_set f space number cell [] q sizes distinct e = let no_way : ◌≡◌ {A = Option Page} None (Some q) = e in absurd (cc no_way)
things_set f space number cell (p ∷ ps) q sizes distinct e = elim (cases_Bool (holds space number p)) [
  | inl yes_ ↦
      let here : page_holding (p ∷ ps) space number ≡ Some p = grind (arith, yes_) in
      let pointer = its_pointer (p ∷ ps) space number p here in
      let rest = with_none space number cell ps (others_none space number p ps distinct yes_) in
      let w = within_is p.index number (grind (arith, yes_)) in
      let size : length p.cells ≡ 126 = All-head HasCells p ps sizes in
      let new : with_pointer space number cell (p ∷ ps) ≡ (record p { cells = set p.cells (slot_in p number) cell }) ∷ ps = λ i. with_held space number cell p yes_ i ∷ rest i in
      let before = things_front f p ps in
      let after = ap (λ (l : List Page). sum_by f (things_of l)) new ∙ things_front f (record p { cells = set p.cells (slot_in p number) cell }) ps in
      let change = cells_set f p.cells (slot_in p number) cell (omega (arith, size, w.above, w.below)) in
      let old = ap (λ (o : Option Cell). sum_by f (option_to_list o)) pointer in
      omega (arith, before, after, change, old)
  | inr no_ ↦
      let there : page_holding ps space number ≡ Some q = grind (arith, no_, e) in
      let same : page_holding (p ∷ ps) space number ≡ page_holding ps space number = grind (arith, no_) in
      let pointer : pointer_of (p ∷ ps) space number ≡ pointer_of ps space number = ap (λ (o : Option Page). option_flatten (option_map (λ (x : Page). pointer_in (cell_in x number)) o)) same in
      let rest = things_set f space number cell ps q (All-tail HasCells p ps sizes) (λ i j d below lt. distinct (suc i) (suc j) d (omega (arith, below)) (omega (arith, lt))) there in
      let before = things_front f p ps in
      let after = ap (λ (x : Page). sum_by f (things_of (x ∷ with_pointer space number cell ps))) (with_other space number cell p no_) ∙ things_front f p (with_pointer space number cell ps) in
      let old = ap (λ (o : Option Cell). sum_by f (option_to_list o)) pointer in
      omega (arith, before, after, rest, old)
]

no_things : (n : ℕ) → filter (λ x. not (is_empty x)) (replicate n no_cell) ≡ []
no_things zero = refl
no_things (suc n) = no_things n

-- a page without pointers is one place more
pub things_added : (space : Space) (index at : ℕ) (link : Cell) (pages : List Page) → things_of (empty_page space index at link ∷ pages) ≡ record { at = at; len = 1024 } ∷ things_of pages
things_added space index at link pages = ap (λ (l : List Cell). record { at = at; len = 1024 } ∷ (l ++ things_of pages)) (no_things 126)

-- ---- pages keep all their cells

pub cells_added : (space : Space) (index at : ℕ) (link : Cell) (pages : List Page) → All HasCells pages → All HasCells (empty_page space index at link ∷ pages)
cells_added space index at link pages sizes = All-cons HasCells (empty_page space index at link) pages (length-replicate 126 no_cell) sizes

pub cells_kept : (space : Space) (number : ℕ) (cell : Cell) (pages : List Page) → All HasCells pages → All HasCells (with_pointer space number cell pages)
cells_kept space number cell pages sizes = All-map HasCells (with_cell space number cell) pages (λ k d lt. kept (get_or pages k d) (sizes k d lt))
  where
    kept : (p : Page) → HasCells p → HasCells (with_cell space number cell p)
    kept p size = elim (cases_Bool (holds space number p)) [
      | inl yes_ ↦ ap (λ (q : Page). length q.cells) (with_held space number cell p yes_) ∙ length-set p.cells (slot_in p number) cell ∙ size
      | inr no_ ↦ ap (λ (q : Page). length q.cells) (with_other space number cell p no_) ∙ size
    ]
