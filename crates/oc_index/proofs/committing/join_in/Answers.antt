use Rattle.std.proofs.Common.{◌+◌, arith}
use Rattle.oc_index.proofs.FieldsJoined.{AreJoined, joined_all, joined_step, none_step}
use Rattle.oc_index.proofs.committing.join_in.Goals as goal

pub returns-in_err-join_one-clause-fields : goal.returns-in_err-join_one-clause-fields
returns-in_err-join_one-clause-fields c =
    let inv = c.loop-at.invariant in
    let init = c.args.fields.now.items in
    let fs = c.loop-at.fields.items in
    let so_far : AreJoined init fs c.loop-at.at = record { long = inv.long; rest = inv.rest; ids = inv.ids; marked = inv.marked; fields = inv.fields } in
    let s = joined_step init fs c.loop-at.at so_far (omega arith) c.index_mut.result.now c.join_one.new.field c.index_mut.ensures.value c.join_one.ensures.id c.join_one.ensures.then c.join_one.ensures.now in
    joined_all init _ (c.loop-at.at + 1) s

pub returns-in_err-join_one-clause-marked : goal.returns-in_err-join_one-clause-marked
returns-in_err-join_one-clause-marked c =
    let inv = c.loop-at.invariant in
    let init = c.args.fields.now.items in
    let fs = c.loop-at.fields.items in
    let so_far : AreJoined init fs c.loop-at.at = record { long = inv.long; rest = inv.rest; ids = inv.ids; marked = inv.marked; fields = inv.fields } in
    let s = joined_step init fs c.loop-at.at so_far (omega arith) c.index_mut.result.now c.join_one.new.field c.index_mut.ensures.value c.join_one.ensures.id c.join_one.ensures.then c.join_one.ensures.now in
    s.marked

pub returns-in_err-join_one-clause-ids : goal.returns-in_err-join_one-clause-ids
returns-in_err-join_one-clause-ids c =
    let inv = c.loop-at.invariant in
    let init = c.args.fields.now.items in
    let fs = c.loop-at.fields.items in
    let so_far : AreJoined init fs c.loop-at.at = record { long = inv.long; rest = inv.rest; ids = inv.ids; marked = inv.marked; fields = inv.fields } in
    let s = joined_step init fs c.loop-at.at so_far (omega arith) c.index_mut.result.now c.join_one.new.field c.index_mut.ensures.value c.join_one.ensures.id c.join_one.ensures.then c.join_one.ensures.now in
    s.ids

pub loop-at-preserved : goal.loop-at-preserved
loop-at-preserved c =
    let inv = c.loop-at.invariant in
    let init = c.args.fields.now.items in
    let fs = c.loop-at.fields.items in
    let so_far : AreJoined init fs c.loop-at.at = record { long = inv.long; rest = inv.rest; ids = inv.ids; marked = inv.marked; fields = inv.fields } in
    let s = joined_step init fs c.loop-at.at so_far (omega arith) c.index_mut.result.now c.join_one.new.field c.index_mut.ensures.value c.join_one.ensures.id c.join_one.ensures.then c.join_one.ensures.now in
    let none = none_step init fs c.loop-at.at so_far (omega arith) c.index_mut.result.now c.join_one.new.field c.index_mut.ensures.value inv.none c.in_ok-join_one.ensures.none in
    record { long = s.long; rest = s.rest; ids = s.ids; marked = s.marked; fields = s.fields; none = none }
