use Rattle.std.proofs.Common.{◌≡◌, ◌<◌, ◌∙◌, length, ap, rules}
use Rattle.std.proofs.lemmas.List.{get_or_default}
use Rattle.oc_pages.specs.declared.page.Page.{Page}
use Rattle.oc_pages.specs.Places.{page_in, no_page}
use Rattle.oc_pages.proofs.Tables.{indexed_set}
use Rattle.oc_pages.proofs.table.PageTable.set.Goals as goal

pub invariant_of-self : goal.invariant_of-self
invariant_of-self c =
    let lt : c.args.place < length c.self.inside.kept.items = search rules in
    let here : c.index_mut-page.result.now ≡ page_in c.self.inside.kept.items c.args.place = c.index_mut-page.ensures.value ∙ get_or_default c.self.inside.kept.items c.args.place c.index_mut-page.result.now no_page lt in
    indexed_set c.self.inside.kept.items c.self.inside.places c.args.place _ c.self.invariant lt (ap (λ (p : Page). p.space) here) (ap (λ (p : Page). p.index) here)
