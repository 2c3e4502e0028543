use Rattle.std.proofs.Common.{◌≡◌, ◌∙◌, ◌+◌, ap, map, not, length, ℕ, nat_lt, ◌&&◌, ◌==◌, rules}
use Rattle.oc_model.specs.declared.value.Base.{Base}
use Rattle.oc_model.specs.declared.schema.FieldDef.{FieldDef}
use Rattle.oc_model.specs.Maps.{is_in}
use Rattle.oc_lists.specs.Following.{has_one_of}
use Rattle.oc_lists.proofs.Reindexed.{classes_all, classes_first, classes_more, left_there}
use Rattle.oc_lists.specs.Refiling.{indexed_in}
use Rattle.oc_lists.proofs.indexing.classes_with.Goals as goal

pub loop-place-init : goal.loop-place-init
loop-place-init c = λ k. ap (λ ns. is_in ns k) c.new-classes.ensures.items ∙ classes_first (map (λ (e : ℕ × Base). e.0) c.args.started.now) c.args.schema.now k

pub loop-place-preserved : goal.loop-place-preserved
loop-place-preserved c =
    let ids = map (λ (e : ℕ × Base). e.0) c.args.started.now in
    let s = c.args.schema.now in
    let class = c.loop-place.place + 1 in
    let empty : c.is_empty.result ≡ (length c.in_ok-fields.fields.items == 0) = search rules in
    let has : not c.is_empty.result ≡ has_one_of ids s class = ap not empty ∙ left_there (λ (f : _). f.now) c.in_ok-fields.fields.items (λ (f : FieldDef). is_in ids f.id) (indexed_in s class) c.in_ok-fields.ensures in
    classes_more ids s c.loop-place.classes.items class (not c.is_empty.result) has c.loop-place.invariant c.push_if.new.classes.items c.in_ok-push_if.ensures

pub returns : goal.returns
returns c = λ k. c.loop-place.invariant k ∙ ap (λ n. nat_lt k (n + 1) && has_one_of (map (λ (e : ℕ × Base). e.0) c.args.started.now) c.args.schema.now k) whole ∙ classes_all (map (λ (e : ℕ × Base). e.0) c.args.started.now) c.args.schema.now c.keeps_rules.ensures k
  where
    whole : c.loop-place.place ≡ length c.args.schema.now.classes
    whole = search rules
