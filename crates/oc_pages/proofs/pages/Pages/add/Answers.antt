use Rattle.std.proofs.Common.{◌≡◌, ◌∷◌, length, sym, ap, subst, false, None}
use Rattle.std.proofs.lemmas.List.{length-replicate}
use Rattle.std.specs.Prelude.{All}
use Rattle.oc_pages.specs.declared.page.Page.{Page}
use Rattle.oc_pages.specs.Pages.{Paged, no_cell, is_page, page_of, place_of, first_of, empty_page}
use Rattle.oc_pages.specs.Places.{chained, IsNamed}
use Rattle.oc_pages.proofs.Chained.{distinct_chained}
use Rattle.oc_pages.proofs.Changes.{named_empty, ordered_more, pages_more}
use Rattle.oc_pages.proofs.Lookups.{none_kept_there}
use Rattle.oc_pages.proofs.pages.Pages.add.Goals as goal

pub push-requires-clause-other : goal.push-requires-clause-other
push-requires-clause-other c =
    let none = subst (λ (v : Paged). page_of v.pages c.args.space c.args.index ≡ None) (sym c.self.view_is) c.requires.no_page in
    subst (λ (p : Page). All (λ q. is_page p.space p.index q ≡ false) c.self.inside.table.pages) (sym c.empty_page.ensures) (none_kept_there c.self.inside.loaded c.self.inside.table.pages c.args.space c.args.index none)

pub invariant_of-self : goal.invariant_of-self
invariant_of-self c =
    ordered_more c.self.inside.first (record { at = c.args.at; len = 1024 }) c.self.inside.loaded c.self.inside.table.pages c.push.new.self.pages c.empty_page.result c.self.invariant c.push.ensures.pages
    (sym (ap place_of c.empty_page.ensures)) (subst IsNamed (sym c.empty_page.ensures) (named_empty c.args.space c.args.index c.args.at c.self.inside.first))
    (subst (λ (p : Page). length p.cells ≡ 126) (sym c.empty_page.ensures) (length-replicate 126 no_cell))

pub returns-clause-pages : goal.returns-clause-pages
returns-clause-pages c =
    subst (λ (v : Paged). chained c.self.inside.loaded c.push.new.self.pages ≡ empty_page c.args.space c.args.index c.args.at (first_of v.pages) ∷ v.pages) c.self.view_is
    (pages_more c.self.inside.first c.self.inside.loaded c.self.inside.table.pages c.push.new.self.pages c.empty_page.result c.args.space c.args.index c.args.at c.self.invariant c.push.ensures.pages c.empty_page.ensures)

pub returns-clause-distinct : goal.returns-clause-distinct
returns-clause-distinct c = distinct_chained c.self.inside.loaded c.push.new.self.pages c.push.ensures.distinct
