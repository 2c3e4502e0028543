use Rattle.std.proofs.Common.{◌≡◌, ◌<◌, ◌^◌, ap, subst, is_some, Option, None, rules}
use Rattle.std.specs.Prelude.{IsSome}
use Rattle.oc_pages.specs.declared.page.Page.{Page}
use Rattle.oc_pages.specs.Pages.{Paged, page_holding, with_pointer}
use Rattle.oc_pages.specs.Places.{page_in, chained}
use Rattle.oc_pages.proofs.Chained.{distinct_chained}
use Rattle.oc_pages.proofs.Changes.{pages_set, ordered_set}
use Rattle.oc_pages.proofs.Lookups.{holds_number, holder_none}
use Rattle.oc_pages.proofs.pages.Pages.set.Goals as goal

pub invariant_of-self : goal.invariant_of-self
invariant_of-self c =
    let kept = c.self.inside.table.pages in
    let q = page_in kept c.in-Some.place in
    let slot = c.slot_of.ensures.slot q (holds_number c.args.space c.args.number q c.in-Some.ensures.some) in
    let few : c.args.number < 2 ^ 32 = search rules in
    ordered_set c.self.inside.first c.self.inside.loaded kept c.set.new.self.pages c.in-Some.place c.slot_of.result c.args.space c.args.number c.args.cell
    c.self.invariant c.in-Some.ensures.distinct c.in-Some.ensures.within c.in-Some.ensures.some slot c.set.ensures.pages few

pub returns-in-Some-clause-pages : goal.returns-in-Some-clause-pages
returns-in-Some-clause-pages c =
    let kept = c.self.inside.table.pages in
    let q = page_in kept c.in-Some.place in
    let slot = c.slot_of.ensures.slot q (holds_number c.args.space c.args.number q c.in-Some.ensures.some) in
    subst (λ (v : Paged). chained c.self.inside.loaded c.set.new.self.pages ≡ with_pointer c.args.space c.args.number c.args.cell v.pages) c.self.view_is
    (pages_set c.self.inside.first c.self.inside.loaded kept c.set.new.self.pages c.in-Some.place c.slot_of.result c.args.space c.args.number c.args.cell
    c.self.invariant c.in-Some.ensures.distinct c.in-Some.ensures.within c.in-Some.ensures.some slot c.set.ensures.pages)

pub returns-in-Some-clause-distinct : goal.returns-in-Some-clause-distinct
returns-in-Some-clause-distinct c = distinct_chained c.self.inside.loaded c.set.new.self.pages c.set.ensures.distinct

-- a page holds the number
there : (o : Option Page) → o ≡ None → IsSome o → ⊥
there o none some = let no_way : is_some o ≡ is_some {T = Page} None = ap is_some none in absurd (cc (no_way, some))

pub returns-in_default-clause-pages : goal.returns-in_default-clause-pages
returns-in_default-clause-pages c =
    absurd (there (page_holding c.args.self.now.pages c.args.space c.args.number)
    (subst (λ (v : Paged). page_holding v.pages c.args.space c.args.number ≡ None) c.self.view_is (holder_none c.self.inside.loaded c.self.inside.table.pages c.args.space c.args.number c.in_default.ensures.none)) c.requires)

pub returns-in_default-clause-distinct : goal.returns-in_default-clause-distinct
returns-in_default-clause-distinct c =
    absurd (there (page_holding c.args.self.now.pages c.args.space c.args.number)
    (subst (λ (v : Paged). page_holding v.pages c.args.space c.args.number ≡ None) c.self.view_is (holder_none c.self.inside.loaded c.self.inside.table.pages c.args.space c.args.number c.in_default.ensures.none)) c.requires)
