-- One given value more.
use Rattle.std.proofs.Common.{sym, ◌∙◌}
use Rattle.oc_run.proofs.Slots.{given_long, given_more}
use Rattle.oc_run.proofs.list_store.slots.entries_given.Goals as goal

pub loop-given-preserved : goal.loop-given-preserved
loop-given-preserved c =
    let fs = c.args.fields.now in
    let e = sym c.in_ok-more.ensures ∙ c.in-Ok.is in
    record {
      long = given_long fs c.loop-given.slots c.in-Ok.more c.given-item.result e ∙ c.loop-given.invariant.long;
      rest = given_more fs c.loop-given.slots c.in-Ok.more c.args.givens.now c.loop-given.given-index c.given-item.result _ e c.loop-given-test.true c.given-item.is c.loop-given.invariant.rest;
    }
