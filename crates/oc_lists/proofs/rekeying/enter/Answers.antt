use Rattle.std.proofs.Common.{refl, None, not, ◌==◌}
use Rattle.oc_index.specs.Indexed.{Enters}
use Rattle.oc_lists.specs.Refiling.{with_key}
use Rattle.oc_lists.proofs.FieldWise.{some_field}
use Rattle.oc_lists.proofs.Moved.{moved_self}
use Rattle.oc_lists.proofs.Refiled.{enters_entries, enters_moved, same_stays}
use Rattle.oc_lists.proofs.Staying.{entered_others, stay_self}
use Rattle.oc_lists.proofs.rekeying.enter.Goals as goal

pub add-requires : goal.add-requires
add-requires c = some_field c.args.id c.args.indexes.now.fields c.requires.there

pub returns-in_err-add-clause-moved : goal.returns-in_err-add-clause-moved
returns-in_err-add-clause-moved c = enters_moved c.args.id c.args.indexes.now c.add.new.self c.requires.apart c.add.result c.in-Some.key c.args.number c.add.ensures.extents c.add.ensures.marked c.add.ensures.fields c.add.ensures.err

pub returns-in_ok-add-clause-moved : goal.returns-in_ok-add-clause-moved
returns-in_ok-add-clause-moved c = enters_moved c.args.id c.args.indexes.now c.add.new.self c.requires.apart c.add.result c.in-Some.key c.args.number c.add.ensures.extents c.add.ensures.marked c.add.ensures.fields c.add.ensures.err

pub returns-in_ok-add-clause-entries : goal.returns-in_ok-add-clause-entries
returns-in_ok-add-clause-entries c = rw c.in-Some.is (enters_entries c.args.id c.args.indexes.now c.add.new.self c.requires.apart c.in-Some.key c.args.number c.in_ok-add.ensures.fields)

pub returns-in_default-clause-moved : goal.returns-in_default-clause-moved
returns-in_default-clause-moved c = moved_self c.args.indexes.now

pub returns-in_default-clause-entries : goal.returns-in_default-clause-entries
returns-in_default-clause-entries c = rw c.in_default.is (same_stays c.args.id (with_key c.args.number None) (λ es. refl) c.args.indexes.now)

pub returns-in_err-add-clause-others : goal.returns-in_err-add-clause-others
returns-in_err-add-clause-others c = entered_others c.add.result c.args.id (Enters c.in-Some.key c.args.number) c.args.indexes.now c.add.new.self c.requires.apart c.add.ensures.fields c.add.ensures.err

pub returns-in_ok-add-clause-others : goal.returns-in_ok-add-clause-others
returns-in_ok-add-clause-others c = entered_others c.add.result c.args.id (Enters c.in-Some.key c.args.number) c.args.indexes.now c.add.new.self c.requires.apart c.add.ensures.fields c.add.ensures.err

pub returns-in_default-clause-others : goal.returns-in_default-clause-others
returns-in_default-clause-others c = stay_self (λ n. not (c.args.id == n)) c.args.indexes.now
