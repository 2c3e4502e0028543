use Rattle.std.proofs.Common.{refl, None, not, ◌==◌}
use Rattle.oc_index.specs.Indexed.{Leaves}
use Rattle.oc_lists.specs.Refiling.{without_key}
use Rattle.oc_lists.proofs.FieldWise.{some_field}
use Rattle.oc_lists.proofs.Moved.{moved_self}
use Rattle.oc_lists.proofs.Refiled.{leaves_entries, leaves_moved, same_stays}
use Rattle.oc_lists.proofs.Staying.{others_stay, stay_self}
use Rattle.oc_lists.proofs.rekeying.leave.Goals as goal

pub remove-requires : goal.remove-requires
remove-requires c = some_field c.args.id c.args.indexes.now.fields c.requires.there

pub returns-in-Some-clause-moved : goal.returns-in-Some-clause-moved
returns-in-Some-clause-moved c = leaves_moved c.args.id c.args.indexes.now c.remove.new.self c.requires.apart c.in-Some.key c.args.number c.remove.ensures.extents c.remove.ensures.marked c.remove.ensures.fields

pub returns-in-Some-clause-entries : goal.returns-in-Some-clause-entries
returns-in-Some-clause-entries c = rw c.in-Some.is (leaves_entries c.args.id c.args.indexes.now c.remove.new.self c.requires.apart c.in-Some.key c.args.number c.remove.ensures.fields)

pub returns-in_default-clause-moved : goal.returns-in_default-clause-moved
returns-in_default-clause-moved c = moved_self c.args.indexes.now

pub returns-in_default-clause-entries : goal.returns-in_default-clause-entries
returns-in_default-clause-entries c = rw c.in_default.is (same_stays c.args.id (without_key c.args.number None) (λ es. refl) c.args.indexes.now)

pub returns-in-Some-clause-others : goal.returns-in-Some-clause-others
returns-in-Some-clause-others c = others_stay c.args.id (Leaves c.in-Some.key c.args.number) c.args.indexes.now c.remove.new.self c.requires.apart c.remove.ensures.fields

pub returns-in_default-clause-others : goal.returns-in_default-clause-others
returns-in_default-clause-others c = stay_self (λ n. not (c.args.id == n)) c.args.indexes.now
