-- One name more, from behind.
use Rattle.std.proofs.Common.{refl, sym, ap, ◌∙◌, ◌||◌, ◌-◌, nat_cmp, map}
use Rattle.std.specs.BTreeSet.{contains_by}
use Rattle.std.specs.Cmp.Lexicographic.{slice_cmp}
use Rattle.std.proofs.lemmas.Bool.{not-true, not-false}
use Rattle.oc_model.specs.Maps.{same}
use Rattle.oc_schema.proofs.FromBehind.{turn, not_distinct, map-drop, name_in}
use Rattle.oc_schema.proofs.distinct.have_distinct_names.Goals as goal

pub returns-then-not-branch : goal.returns-then-not-branch
returns-then-not-branch c =
    let fs = c.args.fields.now in
    let i = c.loop-place.place in
    let f = c.index-fields-place.result in
    let k = c.as_slice.result in
    let there = not-false (contains_by (λ y. slice_cmp nat_cmp k.now y.now) c.loop-place.later) (sym c.in_ok-insert.ensures.added ∙ c.if-not-branch.true) in
    let among = sym (c.loop-place.invariant.seen k.now) ∙ there in
    sym (not_distinct (map (λ f. f.now.name) fs) (i - 1)
    (rw (map-drop (λ f. f.now.name) fs (i - 1), turn fs i f c.loop-place-test.true c.loop-place.auto.place c.index-fields-place.is, ← c.as_slice.ensures, among) refl))

pub loop-place-preserved : goal.loop-place-preserved
loop-place-preserved c =
    let fs = c.args.fields.now in
    let i = c.loop-place.place in
    let f = c.index-fields-place.result in
    let k = c.as_slice.result in
    let more = turn fs i f c.loop-place-test.true c.loop-place.auto.place c.index-fields-place.is in
    let free = not-true (contains_by (λ y. slice_cmp nat_cmp k.now y.now) c.loop-place.later) (sym c.in_ok-insert.ensures.added ∙ c.if-not-branch.false) in
    let others = sym (c.loop-place.invariant.seen k.now) ∙ free in
    record {
      distinct = rw (more, ← c.as_slice.ensures, others) c.loop-place.invariant.distinct;
      seen = λ q. rw (more, ← c.as_slice.ensures) (name_in c.loop-place.later c.insert.new.self k c.in_ok-insert.ensures.updates q ∙ ap (λ b. same q k.now || b) (c.loop-place.invariant.seen q));
    }
