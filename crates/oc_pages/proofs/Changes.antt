-- Pages that are added, and cells that are changed.
use Rattle.std.proofs.Common.{◌≡◌, inl, inr, ℕ, zero, suc, ◌-◌, ◌*◌, ◌<◌, ◌^◌, true, false, List, [], ◌∷◌, ◌++◌, map, replicate, length, get_or, set, refl, sym, ◌∙◌, ap, subst, arith, length-append}
use Rattle.std.specs.Prelude.{All, AllPairs}
use Rattle.std.proofs.lemmas.Bool.{cases_Bool, cases_eq}
use Rattle.std.proofs.lemmas.List.{get_or-set_other, length-set}
use Rattle.std.proofs.lemmas.List.Elements.{All-push, All-set}
use Rattle.oc_layout.specs.declared.cells.Cell.{Cell}
use Rattle.oc_layout.specs.declared.cells.Space.{Space}
use Rattle.oc_pages.specs.declared.page.Page.{Page}
use Rattle.oc_pages.specs.Pages.{no_cell, is_empty, has_number, holds, slot_in, empty_page, place_of, first_of, with_cell, with_pointer, IsInRange, IsOther}
use Rattle.oc_pages.specs.Places.{no_page, page_in, chained, IsNamed, IsOrdered}
use Rattle.oc_pages.proofs.Chained.{chained_more, chained_map, chained_all, set_is_map, holder_once}
use Rattle.oc_pages.proofs.Ranges.{within_is}

-- ---- numbers of 32 bits

pub named_in_range : (kept : List Page) → All IsInRange kept → All IsNamed kept
named_in_range kept all k d lt number has some = omega (arith, (all k d lt).numbers number has some)

pub no_cells : (n k : ℕ) → get_or (replicate n no_cell) k no_cell ≡ no_cell
no_cells zero k = refl
no_cells (suc n) zero = refl
no_cells (suc n) (suc k) = no_cells n k

pub named_empty : (space : Space) (index at : ℕ) (link : Cell) → IsNamed (empty_page space index at link)
named_empty space index at link number has some =
    let none : is_empty (get_or (replicate 126 no_cell) (number - 126 * index - 1) no_cell) ≡ true = ap is_empty (no_cells 126 (number - 126 * index - 1)) in
    absurd (cc (none, some))

named_set : (p : Page) (number : ℕ) (cell : Cell) → IsNamed p → has_number p.index number ≡ true → number < 2 ^ 32 → IsNamed (record p { cells = set p.cells (slot_in p number) cell })
named_set p number cell named has few other has_other some = elim (cases_eq (slot_in p other) (slot_in p number)) [
  | inl same ↦
      let a = within_is p.index number has in
      let b = within_is p.index other has_other in
      let e : other ≡ number = omega (arith, same, a.above, b.above) in
      omega (arith, e, few)
  | inr apart ↦ named other has_other (ap is_empty (sym (get_or-set_other p.cells (slot_in p number) (slot_in p other) cell no_cell apart)) ∙ some)
]

-- ---- a page more

pub ordered_more : (first cell : Cell) (n : ℕ) (kept new : List Page) (p : Page) → IsOrdered first n kept → new ≡ kept ++ p ∷ [] → cell ≡ place_of p → IsNamed p → length p.cells ≡ 126 → IsOrdered cell n new
ordered_more first cell n kept new p is e here named size = record {
  within = omega (arith, is.within, ap length e, length-append kept (p ∷ []));
  first_is = here ∙ sym (ap (λ (l : List Page). first_of (chained n l)) e ∙ ap first_of (chained_more n kept p is.within));
  named = subst (λ (l : List Page). All IsNamed l) (sym e) (All-push IsNamed kept p is.named named);
  full = subst (λ (l : List Page). All (λ q. length q.cells ≡ 126) l) (sym e) (All-push (λ q. length q.cells ≡ 126) kept p is.full size);
}

pub pages_more : (first : Cell) (n : ℕ) (kept new : List Page) (p : Page) (space : Space) (index at : ℕ) → IsOrdered first n kept → new ≡ kept ++ p ∷ [] → p ≡ empty_page space index at first → chained n new ≡ empty_page space index at (first_of (chained n kept)) ∷ chained n kept
pages_more first n kept new p space index at is e p_is =
    ap (chained n) e ∙ chained_more n kept p is.within
    ∙ (λ i. (p_is ∙ ap (empty_page space index at) is.first_is) i ∷ chained n kept)

pub ordered_all : (root : Cell) (kept : List Page) → first_of kept ≡ root → All IsInRange kept → All (λ p. length p.cells ≡ 126) kept → IsOrdered root (length kept) kept
ordered_all root kept e all full = record {
  within = omega arith;
  first_is = sym (ap first_of (chained_all kept) ∙ e);
  named = named_in_range kept all;
  full = full;
}

-- ---- another cell for a number

pub with_other : (space : Space) (number : ℕ) (cell : Cell) (p : Page) → holds space number p ≡ false → with_cell space number cell p ≡ p
with_other space number cell p no_ = grind (arith, no_)

pub with_held : (space : Space) (number : ℕ) (cell : Cell) (p : Page) → holds space number p ≡ true → with_cell space number cell p ≡ record p { cells = set p.cells (slot_in p number) cell }
with_held space number cell p yes_ = grind (arith, yes_)

place_stays : (space : Space) (number : ℕ) (cell : Cell) (p : Page) → place_of (with_cell space number cell p) ≡ place_of p
place_stays space number cell p = elim (cases_Bool (holds space number p)) [
  | inl yes_ ↦ ap place_of (with_held space number cell p yes_)
  | inr no_ ↦ ap place_of (with_other space number cell p no_)
]

pub first_stays : (space : Space) (number : ℕ) (cell : Cell) (pages : List Page) → first_of (with_pointer space number cell pages) ≡ first_of pages
first_stays space number cell [] = refl
first_stays space number cell (p ∷ ps) = place_stays space number cell p

module _ (first : Cell) (n : ℕ) (kept new : List Page) (place slot : ℕ) (space : Space) (number : ℕ) (cell : Cell)
    (is : IsOrdered first n kept) (distinct : AllPairs IsOther kept) (lt : place < length kept) (here : holds space number (page_in kept place) ≡ true)
    (slot_is : slot ≡ slot_in (page_in kept place) number)
    (e : new ≡ set kept place (record (page_in kept place) { cells = set (page_in kept place).cells slot cell })) where
  changed : new ≡ map (with_cell space number cell) kept
  changed =
      e ∙ ap (λ (s : ℕ). set kept place (record (page_in kept place) { cells = set (page_in kept place).cells s cell })) slot_is
      ∙ ap (set kept place) (sym (with_held space number cell (page_in kept place) here))
      ∙ set_is_map (with_cell space number cell) kept place lt
      (λ k in_ apart. with_other space number cell (page_in kept k) (elim (cases_Bool (holds space number (page_in kept k))) [
        | inl yes_ ↦ absurd (apart (holder_once space number kept place distinct lt here k in_ yes_))
        | inr no_ ↦ no_
      ]))

  pub pages_set : chained n new ≡ with_pointer space number cell (chained n kept)
  pages_set = ap (chained n) changed ∙ chained_map (with_cell space number cell) n kept

  pub ordered_set : number < 2 ^ 32 → IsOrdered first n new
  ordered_set few = record {
    within = omega (arith, is.within, ap length e, length-set kept place (record (page_in kept place) { cells = set (page_in kept place).cells slot cell }));
    first_is = is.first_is ∙ sym (ap first_of pages_set ∙ first_stays space number cell (chained n kept));
    named = subst (λ (l : List Page). All IsNamed l) (sym e)
        (All-set IsNamed kept place (record (page_in kept place) { cells = set (page_in kept place).cells slot cell })
        (subst (λ (s : ℕ). IsNamed (record (page_in kept place) { cells = set (page_in kept place).cells s cell })) (sym slot_is)
        (named_set (page_in kept place) number cell (is.named place no_page lt) (grind (arith, here)) few)) is.named);
    full = subst (λ (l : List Page). All (λ q. length q.cells ≡ 126) l) (sym e)
        (All-set (λ q. length q.cells ≡ 126) kept place (record (page_in kept place) { cells = set (page_in kept place).cells slot cell })
        (length-set (page_in kept place).cells slot cell ∙ is.full place no_page lt) is.full);
  }
