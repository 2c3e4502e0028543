use Rattle.std.proofs.Common.{◌≡◌, ℕ, length, subst, arith}
use Rattle.std.specs.Prelude.{◌↔◌, ◌⊎◌, Contains, IsSome}
use Rattle.oc_pages.specs.declared.page.Page.{Page}
use Rattle.oc_pages.specs.Order.{AreAscending}
use Rattle.oc_pages.specs.Pages.{Paged, pointer_of, IsPointed}
use Rattle.oc_pages.proofs.Listings.{IsAmong, among_more, pointers_are, ascending_are}
use Rattle.oc_pages.proofs.pages.Pages.numbers.Goals as goal

pub loop-place-preserved : goal.loop-place-preserved
loop-place-preserved c =
    among_more c.args.space c.self.inside.table.pages c.loop-place.place c.loop-place.numbers.items c.put_numbers.new.numbers.items c.loop-place.invariant
    (subst (λ (p : Page). (number : ℕ) → Contains c.put_numbers.new.numbers.items number ↔ (Contains c.loop-place.numbers.items number ⊎ IsPointed c.args.space number p)) c.page.ensures c.in_ok-put_numbers.ensures)

pub returns : goal.returns
returns c =
    let kept = c.self.inside.table.pages in
    let end : c.loop-place.place ≡ length kept = omega (arith, c.loop-place.auto.place-end, c.loop-place-test.false, c.len-place-end.ensures.len) in
    let among = subst (λ (k : ℕ). (number : ℕ) → Contains c.loop-place.numbers.items number ↔ IsAmong c.args.space kept k number) end c.loop-place.invariant in
    let there = ascending_are (Contains c.loop-place.numbers.items) (IsAmong c.args.space kept (length kept)) c.in_ok-once.once.items among c.in_ok-once.ensures in
    subst (λ (v : Paged). AreAscending (λ n. IsSome (pointer_of v.pages c.args.space n)) c.in_ok-once.once.items) c.self.view_is
    (ascending_are (IsAmong c.args.space kept (length kept)) _ c.in_ok-once.once.items (λ n. pointers_are c.args.space c.self.inside.loaded kept n c.len-place-end.ensures.distinct) there)
