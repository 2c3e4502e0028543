-- One name more, from behind.
use Rattle.std.proofs.Common.{refl, sym, ap, ◌∙◌, ◌||◌, ◌-◌, nat_cmp}
use Rattle.std.specs.BTreeSet.{contains_by}
use Rattle.std.specs.Cmp.Lexicographic.{slice_cmp}
use Rattle.std.proofs.lemmas.Bool.{not-true, not-false}
use Rattle.oc_model.specs.Maps.{same}
use Rattle.oc_model.specs.SchemaSteps.{names_of}
use Rattle.oc_schema.proofs.FromBehind.{turn, not_distinct, map-drop, name_in}
use Rattle.oc_refactor.proofs.names.are_distinct.Goals as goal

pub returns-then-not-branch : goal.returns-then-not-branch
returns-then-not-branch c =
    let ds = c.args.declared.now in
    let i = c.loop-place.place in
    let d = c.index-declared-place.result in
    let k = c.as_slice.result in
    let there = not-false (contains_by (λ y. slice_cmp nat_cmp k.now y.now) c.loop-place.later) (sym c.in_ok-insert.ensures.added ∙ c.if-not-branch.true) in
    let among = sym (c.loop-place.invariant.seen k.now) ∙ there in
    sym (not_distinct (names_of ds) (i - 1)
    (rw (map-drop (λ d. d.name) ds (i - 1), turn ds i d c.loop-place-test.true c.loop-place.auto.place c.index-declared-place.is, ← c.as_slice.ensures, among) refl))

pub loop-place-preserved : goal.loop-place-preserved
loop-place-preserved c =
    let ds = c.args.declared.now in
    let i = c.loop-place.place in
    let d = c.index-declared-place.result in
    let k = c.as_slice.result in
    let more = turn ds i d c.loop-place-test.true c.loop-place.auto.place c.index-declared-place.is in
    let free = not-true (contains_by (λ y. slice_cmp nat_cmp k.now y.now) c.loop-place.later) (sym c.in_ok-insert.ensures.added ∙ c.if-not-branch.false) in
    let others = sym (c.loop-place.invariant.seen k.now) ∙ free in
    record {
      distinct = rw (more, ← c.as_slice.ensures, others) c.loop-place.invariant.distinct;
      seen = λ q. rw (more, ← c.as_slice.ensures) (name_in c.loop-place.later c.insert.new.self k c.in_ok-insert.ensures.updates q ∙ ap (λ b. same q k.now || b) (c.loop-place.invariant.seen q));
    }
