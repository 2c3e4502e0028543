-- One name more, from behind.
use Rattle.std.proofs.Common.{◌≡◌, sym, ap, subst, ◌∙◌, drop, map, true, false}
use Rattle.std.specs.List.{list_any}
use Rattle.std.specs.HashSet.{contains_by}
use Rattle.std.proofs.lemmas.Bool.{not-true, not-false}
use Rattle.oc_model.specs.Maps.{same}
use Rattle.oc_run.proofs.ListLemmas.{twice, once, seen_turn}
use Rattle.oc_run.proofs.list_store.declared.has_distinct_names.Goals as goal

pub returns-then-not-branch : goal.returns-then-not-branch
returns-then-not-branch c =
    let ds = c.args.decls.now in
    let i = c.loop-place.place in
    let d = c.index-decls-place.result in
    let k = c.as_slice.result in
    let name = c.as_slice.ensures ∙ ap (λ x. x.name) (sym c.index-decls-place.is) in
    let there = not-false (contains_by (λ y. same k.now y.now) c.loop-place.later) (sym c.in_ok-insert.ensures.added ∙ c.if-not-branch.true) in
    sym (twice ds i d c.loop-place-test.true c.loop-place.auto.place c.index-decls-place.is
    (subst (λ w. list_any (same w) (map (λ x. x.name) (drop i ds)) ≡ true) name (sym (c.loop-place.invariant.seen k.now) ∙ there)))

pub loop-place-preserved : goal.loop-place-preserved
loop-place-preserved c =
    let ds = c.args.decls.now in
    let i = c.loop-place.place in
    let d = c.index-decls-place.result in
    let k = c.as_slice.result in
    let name = c.as_slice.ensures ∙ ap (λ x. x.name) (sym c.index-decls-place.is) in
    let free = not-true (contains_by (λ y. same k.now y.now) c.loop-place.later) (sym c.in_ok-insert.ensures.added ∙ c.if-not-branch.false) in
    record {
      distinct = once ds i d c.loop-place-test.true c.loop-place.auto.place c.index-decls-place.is
          (subst (λ w. list_any (same w) (map (λ x. x.name) (drop i ds)) ≡ false) name (sym (c.loop-place.invariant.seen k.now) ∙ free)) c.loop-place.invariant.distinct;
      seen = λ q. seen_turn c.loop-place.later c.insert.new.self k ds i d c.loop-place-test.true c.loop-place.auto.place c.index-decls-place.is name c.in_ok-insert.ensures.updates q (c.loop-place.invariant.seen q);
    }
