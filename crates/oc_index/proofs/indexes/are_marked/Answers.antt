use Rattle.oc_index.proofs.AsThen.{each_more_of, then_more}
use Rattle.oc_index.proofs.indexes.are_marked.Goals as goal

pub loop-field-preserved : goal.loop-field-preserved
loop-field-preserved c =
    let fs = c.args.fields.now in
    let i = c.loop-field.field-index in
    let f = c.field-item.result in
    record {
      then = then_more fs i f c.loop-field-test.true c.field-item.is c.loop-field.invariant.then c.if-not-is_as_then.ensures.then;
      each = each_more_of fs i f c.loop-field-test.true c.field-item.is c.loop-field.invariant.each c.if-not-is_as_then.ensures.chunks;
    }
