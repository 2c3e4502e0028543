use Rattle.std.proofs.Common.{arith}
use Rattle.oc_index.proofs.Committed.{AreWritten, written_step, written_all}
use Rattle.oc_index.proofs.committing.write_in.Goals as goal

pub loop-at-preserved : goal.loop-at-preserved
loop-at-preserved c =
    let inv = c.loop-at.invariant in
    let w : AreWritten c.args.numbers.now c.args.fields.now.items c.loop-at.fields.items c.loop-at.spare.now c.loop-at.at = record { long = inv.long; rest = inv.rest; ids = inv.ids; fields = inv.fields } in
    let s = written_step c.args.numbers.now c.args.fields.now.items c.loop-at.fields.items c.loop-at.spare.now c.loop-at.at w (omega arith) c.index_mut.result.now c.write_one-spare.new.field c.index_mut.ensures.value c.write_one-spare.ensures.id c.write_one-spare.ensures.now c.write_one-spare.result.now c.write_one-spare.ensures.rest in
    record { long = s.long; rest = s.rest; ids = s.ids; fields = s.fields }

pub returns-clause-fields : goal.returns-clause-fields
returns-clause-fields c =
    let inv = c.loop-at.invariant in
    written_all c.args.numbers.now c.args.fields.now.items c.loop-at.fields.items c.loop-at.spare.now c.loop-at.at (record { long = inv.long; rest = inv.rest; ids = inv.ids; fields = inv.fields }) (omega arith)
