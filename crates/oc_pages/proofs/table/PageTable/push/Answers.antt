use Rattle.std.proofs.Common.{◌≡◌, ◌≤◌, ◌-◌, ◌++◌, [], ◌∷◌, List, refl, rules, true, is_ok, min, length, sym, ap, subst, arith, ◌∙◌, Some}
use Rattle.std.specs.Prelude.{All, false}
use Rattle.std.specs.Vec.{vec_len, vec_capacity}
use Rattle.oc_pages.specs.declared.page.Page.{Page}
use Rattle.oc_pages.specs.Pages.{is_page}
use Rattle.oc_pages.specs.Places.{Kept, IsIndexed, spare_in}
use Rattle.oc_pages.proofs.Tables.{indexed_more, distinct_kept}
use Rattle.oc_pages.proofs.table.PageTable.push.Goals as goal

-- there is room in both, and the page is kept
indexed : (c : goal.After-push-room) → IsIndexed c.push-room.new.self.items c.put.new.self
indexed c =
    let kept = c.self.inside.kept in
    let spare : 1 ≤ min (vec_capacity kept - vec_len kept) (spare_in c.self.inside.places) = subst (λ (v : Kept). 1 ≤ v.spare) (sym c.self.view_is) c.requires.spare in
    let done : is_ok c.push-room.result ≡ true = c.push-room.ensures.succeeds (omega (arith, spare)) in
    let items : c.push-room.new.self.items ≡ kept.items ++ c.args.page ∷ [] = rw c.push-room.ensures.items (rw done refl) in
    let counted : c.len.result ≡ length kept.items = search rules in
    let other = subst (λ (v : Kept). All (λ p. is_page c.args.page.space c.args.page.index p ≡ false) v.pages) (sym c.self.view_is) c.requires.other in
    subst (λ (l : List Page). IsIndexed l c.put.new.self) (sym items)
    (indexed_more kept.items c.self.inside.places c.put.new.self c.args.page c.self.invariant other (c.put.ensures.here ∙ ap Some counted) c.put.ensures.others)

pub invariant_of-self : goal.invariant_of-self
invariant_of-self c = indexed c

pub returns-clause-distinct : goal.returns-clause-distinct
returns-clause-distinct c = distinct_kept c.push-room.new.self.items c.put.new.self (indexed c)
