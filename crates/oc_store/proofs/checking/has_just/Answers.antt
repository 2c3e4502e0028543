use Rattle.std.proofs.Common.{◌≡◌, ◌<◌, ◌∙◌, ap, sym, subst, map}
use Rattle.std.specs.Cmp.Lexicographic.{same_text, nat_list_eq_equiv}
use Rattle.std.proofs.lemmas.Bool.{OnTrue_from, OnTrue_at, OnFalse_from, OnFalse_at, false≢true}
use Rattle.oc_model.specs.Maps.{same}
use Rattle.oc_chunks.specs.Ascending.{Each}
use Rattle.oc_chunks.specs.Chunks.{joined}
use Rattle.oc_index.specs.declared.items.ExtentItem.{ExtentItem}
use Rattle.oc_slots.specs.Stores.{committed_place}
use Rattle.oc_store.specs.Stands.{object_slot}
use Rattle.oc_store.proofs.JustThese.{below_just, just_below, just_listed, listed_just}
use Rattle.oc_store.proofs.checking.has_just.Goals as goal

pub returns-then-not-are_same-clause-no : goal.returns-then-not-are_same-clause-no
returns-then-not-are_same-clause-no c just =
    let es = joined c.args.extents.now.chunks in
    let e = listed_just (λ n. committed_place c.args.slots.now (object_slot n)) c.in_ok-numbers.numbers.items c.in_ok-numbers.ensures es c.in_ok-listed.ensures.ascending just.listed in
    let equal : c.deref.result.now ≡ c.deref-2.result.now = c.deref.ensures.value ∙ c.in_ok-listed.ensures.numbers ∙ e ∙ sym c.deref-2.ensures.value in
    false≢true (sym c.if-not-are_same.true ∙ c.are_same.ensures ∙ ap (λ l. same c.deref.result.now l) (sym equal) ∙ nat_list_eq_equiv.refl c.deref.result.now)

pub returns-clause-yes : goal.returns-clause-yes
returns-clause-yes c =
    let es = joined c.args.extents.now.chunks in
    let equal : c.deref.result.now ≡ c.deref-2.result.now = same_text c.deref.result.now c.deref-2.result.now (sym c.if-not-are_same.false ∙ c.are_same.ensures) in
    let listed : map (λ (e : ExtentItem). e.number) es ≡ c.in_ok-numbers.numbers.items = sym c.in_ok-listed.ensures.numbers ∙ sym c.deref.ensures.value ∙ equal ∙ c.deref-2.ensures.value in
    OnTrue_from c.are_below.result _ (λ it. record {
      listed = just_listed (λ n. committed_place c.args.slots.now (object_slot n)) c.in_ok-numbers.numbers.items c.in_ok-numbers.ensures es listed;
      below = just_below (λ n. committed_place c.args.slots.now (object_slot n)) c.in_ok-numbers.numbers.items c.in_ok-numbers.ensures es c.args.next
          (subst (Each (λ n. n < c.args.next)) c.deref-3.ensures.value (OnTrue_at it c.are_below.ensures.yes));
    })

pub returns-clause-no : goal.returns-clause-no
returns-clause-no c =
    let es = joined c.args.extents.now.chunks in
    OnFalse_from c.are_below.result _ (λ off just.
    OnFalse_at off c.are_below.ensures.no (subst (Each (λ n. n < c.args.next)) (sym c.deref-3.ensures.value)
    (below_just (λ n. committed_place c.args.slots.now (object_slot n)) c.in_ok-numbers.numbers.items c.in_ok-numbers.ensures es c.args.next just.below)))
