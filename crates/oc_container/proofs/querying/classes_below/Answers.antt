use Rattle.std.proofs.Common.{◌≡◌, ap, ◌∙◌, ◌+◌, ◌<◌, ◌&&◌, nat_lt, length, arith, rules}
use Rattle.oc_model.specs.Maps.{is_in}
use Rattle.oc_model.specs.Schemas.{is_sub}
use Rattle.oc_schema.proofs.Ancestry.{sub_none}
use Rattle.oc_container.proofs.Below.{all_so_far, is_there, none_so_far, so_far_more}
use Rattle.oc_container.proofs.querying.classes_below.Goals as goal

pub loop-place-init : goal.loop-place-init
loop-place-init c = λ k.
    ap (λ ns. is_in ns k) c.new-classes.ensures.items ∙ none_so_far (λ n. is_sub c.args.schema.now n c.args.class) (sub_none c.args.schema.now c.args.class) k

pub is_sub-requires-clause-below : goal.is_sub-requires-clause-below
is_sub-requires-clause-below c =
    let lt : c.loop-place.place < length c.args.schema.now.classes = omega arith in
    is_there c.args.schema.now c.loop-place.place lt

pub loop-place-preserved : goal.loop-place-preserved
loop-place-preserved c =
    so_far_more (λ n. is_sub c.args.schema.now n c.args.class) c.loop-place.classes.items _ (c.loop-place.place + 1) c.is_sub.result c.is_sub.ensures c.in_ok-push_if.ensures c.loop-place.invariant

pub returns : goal.returns
returns c =
    let whole : c.loop-place.place ≡ length c.args.schema.now.classes = search rules in
    all_so_far c.args.schema.now c.args.class c.loop-place.classes.items c.keeps_rules.ensures c.requires
    (λ k. c.loop-place.invariant k ∙ ap (λ n. nat_lt k (n + 1) && is_sub c.args.schema.now k c.args.class) whole)
