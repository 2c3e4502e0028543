use Rattle.std.proofs.Common.{◌∙◌, arith}
use Rattle.oc_index.specs.Indexed.{undone_field}
use Rattle.oc_index.proofs.Slots.{map_step}
use Rattle.oc_index.proofs.indexes.undo_in.Goals as goal

pub loop-at-preserved : goal.loop-at-preserved
loop-at-preserved c = map_step undone_field c.args.fields.now.items c.loop-at.fields.items c.loop-at.at c.index_mut.result.now c.undo_one.new.field c.loop-at.invariant (omega (arith, c.loop-at-test.true, c.len-at-end.ensures ∙ c.args.fields.now.ok.0)) c.index_mut.ensures.value c.undo_one.ensures
