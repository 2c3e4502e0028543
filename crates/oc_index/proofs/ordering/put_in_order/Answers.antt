use Rattle.std.proofs.Common.{◌≡◌, ◌∙◌, ap, sym, subst, true, false, take, drop, take-append-drop}
use Rattle.std.specs.Ordering.{is_lt, nat_cmp}
use Rattle.oc_chunks.specs.Ascending.{Each}
use Rattle.oc_index.specs.Indexed.{id_cmp, AreInOrder}
use Rattle.oc_model.specs.Lists.{placed}
use Rattle.oc_index.proofs.Ordered.{order_placed, placed_at}
use Rattle.oc_index.proofs.ordering.put_in_order.Goals as goal

put_is : (c : goal.In_ok-insert) → c.insert.new.self.items ≡ placed id_cmp c.args.field c.args.fields.now.items
put_is c =
    let fs = c.args.fields.now.items in
    let at = c.place_for-at.result in
    let x = c.args.field in
    let low = subst (λ l. Each (λ f. is_lt (nat_cmp f.id x.id) ≡ true) (take at l)) c.deref.ensures.value c.place_for-at.ensures.low in
    let high = subst (λ l. Each (λ f. is_lt (nat_cmp f.id x.id) ≡ false) (drop at l)) c.deref.ensures.value c.place_for-at.ensures.high in
    c.in_ok-insert.ensures.items ∙ sym (ap (placed id_cmp x) (sym (take-append-drop at fs)) ∙ placed_at x (take at fs) (drop at fs) low high)

pub returns-clause-ok : goal.returns-clause-ok
returns-clause-ok c = put_is c

pub returns-clause-order : goal.returns-clause-order
returns-clause-order c = subst AreInOrder (sym (put_is c)) (order_placed c.args.field c.args.fields.now.items c.requires)
