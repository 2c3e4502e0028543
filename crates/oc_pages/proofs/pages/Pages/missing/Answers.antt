use Rattle.std.proofs.Common.{◌≡◌, ◌∙◌, ◌+◌, ◌<◌, ◌++◌, [], ◌∷◌, ℕ, List, length, get_or, take, sym, ap, subst, rules, true, false, is_none, Vec, Global, Option, None, Some, IfNone, IfSome}
use Rattle.std.specs.Prelude.{◌↔◌, Contains, All}
use Rattle.std.proofs.lemmas.List.{take_all}
use Rattle.oc_pages.specs.Order.{AreAscending}
use Rattle.oc_pages.specs.Pages.{Paged, has_number, is_page, IsMissing}
use Rattle.oc_pages.specs.Places.{chained, page_in}
use Rattle.oc_pages.proofs.Listings.{missing_push, missing_skip, missing_all, ascending_are}
use Rattle.oc_pages.proofs.Lookups.{page_none, page_found}
use Rattle.oc_pages.proofs.pages.Pages.missing.Goals as goal
use Rattle.oc_pages.proofs.pages.Pages.missing.Goals.{then-is_none+in_ok-push, else-is_none}

-- what an answer says
at_none : (o : Option ℕ) (P : Type 0) → is_none o ≡ true → IfNone o P → P
at_none None P e holds = holds
at_none (Some x) P e holds = absurd (cc e)

at_some : (o : Option ℕ) (Q : ℕ → Type 0) → is_none o ≡ false → IfSome o Q → (x : ℕ) × Q x
at_some None Q e holds = absurd (cc e)
at_some (Some x) Q e holds = (x, holds)

pub loop-number-preserved : goal.loop-number-preserved
loop-number-preserved c =
    let kept = c.self.inside.table.pages in
    let n = c.self.inside.loaded in
    let pages = chained n kept in
    let numbers = c.args.numbers.now in
    let k = c.loop-number.number-index in
    let index = c.index_of-index.result in
    let has : has_number index (get_or numbers k 0) ≡ true = search rules in
    elim c.if-is_none.branch [
      | then-is_none+in_ok-push w ↦
          let none : is_none c.place.result ≡ true = search rules in
          let all = at_none c.place.result (All (λ p. is_page c.args.space index p ≡ false) kept) none c.place.ensures.none in
          let items : w.push.new.self.items ≡ c.loop-number.indexes.items ++ index ∷ [] = search rules in
          subst (λ (l : List ℕ). (i : ℕ) → Contains l i ↔ IsMissing pages c.args.space (take (k + 1) numbers) i) (sym (ap (λ (v : Vec ℕ Global). v.items) w.indexes-is ∙ items))
          (missing_push pages c.args.space numbers c.loop-number.indexes.items k index c.loop-number-test.true has (page_none n kept c.args.space index all) c.loop-number.invariant)
      | else-is_none w ↦
          let some : is_none c.place.result ≡ false = search rules in
          let there = at_some c.place.result (λ place. (place < length kept) × (is_page c.args.space index (page_in kept place) ≡ true)) some c.place.ensures.some in
          let found = page_found n kept there.0 c.args.space index c.place.ensures.distinct there.1.0 there.1.1 in
          subst (λ (l : List ℕ). (i : ℕ) → Contains l i ↔ IsMissing pages c.args.space (take (k + 1) numbers) i) (sym (ap (λ (v : Vec ℕ Global). v.items) w.indexes-is))
          (missing_skip pages c.args.space numbers c.loop-number.indexes.items k index c.loop-number-test.true has (λ none. cc (none, found)) c.loop-number.invariant)
    ]

pub returns : goal.returns
returns c =
    let pages = chained c.self.inside.loaded c.self.inside.table.pages in
    let numbers = c.args.numbers.now in
    let all = missing_all pages c.args.space numbers c.loop-number.indexes.items c.loop-number.number-index (take_all c.loop-number.number-index numbers c.loop-number-test.false) c.loop-number.invariant in
    subst (λ (v : Paged). AreAscending (IsMissing v.pages c.args.space numbers) c.in_ok-once.once.items) c.self.view_is
    (ascending_are (Contains c.loop-number.indexes.items) (IsMissing pages c.args.space numbers) c.in_ok-once.once.items all c.in_ok-once.ensures)
