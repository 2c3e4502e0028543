use Rattle.std.proofs.Common.{◌≡◌, ◌∙◌, ◌+◌, ◌*◌, sym, subst, rules, Some, None}
use Rattle.oc_pages.specs.Pages.{Paged, slot_in, target_of}
use Rattle.oc_pages.specs.Places.{page_in}
use Rattle.oc_pages.proofs.Lookups.{holds_number, target_none, target_found}
use Rattle.oc_pages.proofs.pages.Pages.target.Goals as goal

pub returns-in_err-place : goal.returns-in_err-place
returns-in_err-place c =
    let is : c.from_residual.result ≡ None = search rules in
    is ∙ sym (subst (λ (v : Paged). target_of v.unit v.pages c.args.space c.args.number ≡ None) c.self.view_is (target_none c.self.inside.unit c.self.inside.loaded c.self.inside.table.pages c.args.space c.args.number c.in_err-place.ensures.none))

pub returns : goal.returns
returns c =
    let kept = c.self.inside.table.pages in
    let q = page_in kept c.in_ok-place.place in
    let unit = c.self.inside.unit in
    let slot = c.slot_of.ensures.slot q (holds_number c.args.space c.args.number q c.in_ok-place.ensures.some) in
    let found = target_found c.self.inside.loaded kept c.in_ok-place.place c.args.space c.args.number c.in_ok-place.ensures.distinct c.in_ok-place.ensures.within c.in_ok-place.ensures.some unit in
    (λ i. Some ((c.page.ensures i).at * unit + 16 + 8 * slot i))
    ∙ sym (subst (λ (v : Paged). target_of v.unit v.pages c.args.space c.args.number ≡ Some (q.at * unit + 16 + 8 * slot_in q c.args.number)) c.self.view_is found)
