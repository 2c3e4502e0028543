use Rattle.std.proofs.Common.{◌≡◌, ◌∙◌, ◌∷◌, ◌++◌, [], ap, sym, subst, ℕ, List, get_or, map, append-nil}
use Rattle.std.specs.Prelude.{Contains}
use Rattle.oc_catalog.specs.Catalogs.{segments_of}
use Rattle.oc_lists.specs.Keeping.{list_numbers}
use Rattle.oc_lists.specs.Lists.{lists_then}
use Rattle.oc_pages.specs.Order.{AreAscending}
use Rattle.oc_store.specs.Last.{system_change}
use Rattle.oc_store.specs.Numbering.{AreRising}
use Rattle.oc_store.proofs.JustThese.{in_order}
use Rattle.oc_store.proofs.LastFacts.{all_kept, gone_changes, gone_step}
use Rattle.oc_store.proofs.last.put_gone.Goals as goal

pub put_if_gone-requires : goal.put_if_gone-requires
put_if_gone-requires c = subst AreRising (sym c.deref-in-loop-number.ensures.value) (in_order c.in_ok-kept.kept.items c.in_ok-kept.ensures.ascend)

pub loop-number-preserved : goal.loop-number-preserved
loop-number-preserved c =
    let segs = segments_of c.args.entries.now in
    let kept = c.in_ok-kept.kept.items in
    let ms = c.deref-number-items.result.now in
    let i = c.loop-number.number-index in
    let asc : AreAscending (Contains segs) kept = subst (λ (ns : List ℕ). AreAscending (Contains ns) kept) c.in_ok-numbers.ensures c.in_ok-kept.ensures in
    let grown : c.put_if_gone.new.changes.items ≡ c.loop-number.changes.items ++ gone_changes kept (get_or ms i 0 ∷ []) = c.in_ok-put_if_gone.ensures ∙ ap (λ k. c.loop-number.changes.items ++ gone_changes k (get_or ms i 0 ∷ [])) c.deref-in-loop-number.ensures.value in
    gone_step kept segs ms i asc c.loop-number-test.true c.loop-number.changes.items c.put_if_gone.new.changes.items (c.args.changes.now.items ++ gone_changes segs (list_numbers (lists_then c.args.lists.now))) grown c.loop-number.invariant

pub loop-number-init : goal.loop-number-init
loop-number-init c = ap (λ k. c.args.changes.now.items ++ gone_changes (segments_of c.args.entries.now) k) (c.deref-number-items.ensures.value ∙ c.in_ok-marked.ensures)

pub returns-then-stand_in_order : goal.returns-then-stand_in_order
returns-then-stand_in_order c =
    let segs : c.deref-2.result.now ≡ segments_of c.args.entries.now = c.deref-2.ensures.value ∙ c.in_ok-numbers.ensures in
    let marked : c.deref.result.now ≡ list_numbers (lists_then c.args.lists.now) = c.deref.ensures.value ∙ c.in_ok-marked.ensures in
    sym (append-nil c.args.changes.now.items)
    ∙ ap (λ l. c.args.changes.now.items ++ map system_change l) (sym (all_kept c.deref-2.result.now c.deref.result.now c.if-stand_in_order.ensures))
    ∙ (λ i. c.args.changes.now.items ++ gone_changes (segs i) (marked i))
