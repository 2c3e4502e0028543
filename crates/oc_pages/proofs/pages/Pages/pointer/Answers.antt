use Rattle.std.proofs.Common.{◌≡◌, ◌∙◌, ℕ, get_or, sym, subst, rules, true, false, Some, None}
use Rattle.oc_pages.specs.declared.page.Page.{Page}
use Rattle.oc_pages.specs.Pages.{Paged, no_cell, is_empty, slot_in, cell_in, pointer_of}
use Rattle.oc_pages.specs.Places.{page_in}
use Rattle.oc_pages.proofs.Lookups.{holds_number, pointer_none, pointer_found, in_none, in_some}
use Rattle.oc_pages.proofs.pages.Pages.pointer.Goals as goal

pub returns-in_err-place : goal.returns-in_err-place
returns-in_err-place c =
    let is : c.from_residual.result ≡ None = search rules in
    is ∙ sym (subst (λ (v : Paged). pointer_of v.pages c.args.space c.args.number ≡ None) c.self.view_is (pointer_none c.self.inside.loaded c.self.inside.table.pages c.args.space c.args.number c.in_err-place.ensures.none))

-- the cell that was read is the number's
seen : (p q : Page) (slot number : ℕ) → p ≡ q → slot ≡ slot_in q number → get_or p.cells slot no_cell ≡ cell_in q number
seen p q slot number e s i = get_or (e i).cells (s i) no_cell

pub returns-then-is_empty : goal.returns-then-is_empty
returns-then-is_empty c =
    let kept = c.self.inside.table.pages in
    let q = page_in kept c.in_ok-place.place in
    let slot = c.slot_of.ensures.slot q (holds_number c.args.space c.args.number q c.in_ok-place.ensures.some) in
    let cell = seen c.page.result.now q c.slot_of.result c.args.number c.page.ensures slot in
    let none : is_empty (get_or c.page.result.now.cells c.slot_of.result no_cell) ≡ true = search rules in
    let found = pointer_found c.self.inside.loaded kept c.in_ok-place.place c.args.space c.args.number c.in_ok-place.ensures.distinct c.in_ok-place.ensures.within c.in_ok-place.ensures.some in
    sym (subst (λ (v : Paged). pointer_of v.pages c.args.space c.args.number ≡ None) c.self.view_is (found ∙ in_none _ _ cell none))

pub returns-else-is_empty : goal.returns-else-is_empty
returns-else-is_empty c =
    let kept = c.self.inside.table.pages in
    let q = page_in kept c.in_ok-place.place in
    let slot = c.slot_of.ensures.slot q (holds_number c.args.space c.args.number q c.in_ok-place.ensures.some) in
    let cell = seen c.page.result.now q c.slot_of.result c.args.number c.page.ensures slot in
    let some : is_empty (get_or c.page.result.now.cells c.slot_of.result no_cell) ≡ false = search rules in
    let found = pointer_found c.self.inside.loaded kept c.in_ok-place.place c.args.space c.args.number c.in_ok-place.ensures.distinct c.in_ok-place.ensures.within c.in_ok-place.ensures.some in
    sym (subst (λ (v : Paged). pointer_of v.pages c.args.space c.args.number ≡ Some (get_or c.page.result.now.cells c.slot_of.result no_cell)) c.self.view_is (found ∙ in_some _ _ cell some))
