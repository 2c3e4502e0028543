use Rattle.std.proofs.Common.{◌≡◌, ℕ, List, sym, subst, rules, Option, Some, None}
use Rattle.std.specs.Prelude.{MatchOption}
use Rattle.oc_pages.specs.declared.page.Page.{Page}
use Rattle.oc_pages.specs.Chains.{SpellsPage}
use Rattle.oc_pages.specs.Pages.{Paged, page_of}
use Rattle.oc_pages.specs.Places.{page_in}
use Rattle.oc_pages.proofs.Lookups.{page_none, page_found}
use Rattle.oc_pages.proofs.pages.Pages.page.Goals as goal

pub returns-in_err-place : goal.returns-in_err-place
returns-in_err-place c =
    let is : c.from_residual.result ≡ None = search rules in
    let pages = c.args.self.now.pages in
    let none : page_of pages c.args.space c.args.index ≡ None = subst (λ (v : Paged). page_of v.pages c.args.space c.args.index ≡ None) c.self.view_is (page_none c.self.inside.loaded c.self.inside.table.pages c.args.space c.args.index c.in_err-place.ensures.none) in
    subst (λ (o : Option (List ℕ)). MatchOption o (page_of pages c.args.space c.args.index ≡ None) (λ bytes. (page : Page) × (page_of pages c.args.space c.args.index ≡ Some page) × SpellsPage page bytes)) (sym is) none

pub returns : goal.returns
returns c =
    let kept = c.self.inside.table.pages in
    let q = page_in kept c.in_ok-place.place in
    let some = c.in_ok-place.ensures.some in (
      q,
      subst (λ (v : Paged). page_of v.pages c.args.space c.args.index ≡ Some q) c.self.view_is (page_found c.self.inside.loaded kept c.in_ok-place.place c.args.space c.args.index c.place.ensures.distinct some.0 some.1),
      subst (λ (p : Page). SpellsPage p c.write_page.result) c.page.ensures c.write_page.ensures,
    )
