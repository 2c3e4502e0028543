use Rattle.std.proofs.Common.{◌∙◌, ap, refl, flat_map, arith}
use Rattle.oc_index.specs.Indexed.{ended, ids_of, now_of, then_of}
use Rattle.oc_index.proofs.Slots.{map_step, map_all, all_ended, ended_then}
use Rattle.oc_index.proofs.Ordered.{map_ids}
use Rattle.oc_index.proofs.indexes.end_in.Goals as goal

pub loop-at-preserved : goal.loop-at-preserved
loop-at-preserved c = map_step (ended c.args.id) c.args.fields.now.items c.loop-at.fields.items c.loop-at.at c.index_mut.result.now c.end_one.new.field c.loop-at.invariant (omega (arith, c.loop-at-test.true, c.len-at-end.ensures ∙ c.args.fields.now.ok.0)) c.index_mut.ensures.value c.end_one.ensures

pub returns-clause-fields : goal.returns-clause-fields
returns-clause-fields c = ap (flat_map now_of) (map_all (ended c.args.id) c.args.fields.now.items c.loop-at.fields.items c.loop-at.at c.loop-at.invariant (omega (arith, c.loop-at-test.false, c.len-at-end.ensures ∙ c.args.fields.now.ok.0))) ∙ all_ended c.args.id c.args.fields.now.items

pub returns-clause-marked : goal.returns-clause-marked
returns-clause-marked c = ap (flat_map then_of) (map_all (ended c.args.id) c.args.fields.now.items c.loop-at.fields.items c.loop-at.at c.loop-at.invariant (omega (arith, c.loop-at-test.false, c.len-at-end.ensures ∙ c.args.fields.now.ok.0))) ∙ ended_then c.args.id c.args.fields.now.items

pub returns-clause-ids : goal.returns-clause-ids
returns-clause-ids c = ap ids_of (map_all (ended c.args.id) c.args.fields.now.items c.loop-at.fields.items c.loop-at.at c.loop-at.invariant (omega (arith, c.loop-at-test.false, c.len-at-end.ensures ∙ c.args.fields.now.ok.0))) ∙ map_ids (ended c.args.id) (λ f. refl) c.args.fields.now.items
