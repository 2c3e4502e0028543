use Rattle.oc_lists.specs.Staying.{is_off}
use Rattle.oc_lists.proofs.Moved.{moved_self}
use Rattle.oc_lists.proofs.Refiled.{under_keys}
use Rattle.oc_lists.proofs.Staying.{stay_self, stay_under}
use Rattle.oc_lists.proofs.rekeying.rekey_field.Goals as goal

pub returns-in_err-before-clause-moved : goal.returns-in_err-before-clause-moved
returns-in_err-before-clause-moved c = moved_self c.args.indexes.now

pub returns-in_err-after-clause-moved : goal.returns-in_err-after-clause-moved
returns-in_err-after-clause-moved c = moved_self c.args.indexes.now

pub returns-clause-entries : goal.returns-clause-entries
returns-clause-entries c = under_keys c.replace.result c.args.field.now.id c.args.number _ _ _ _ c.args.indexes.now c.replace.new.indexes c.in_ok-before.ensures c.in_ok-after.ensures c.replace.ensures.entries

pub returns-in_err-before-clause-stays : goal.returns-in_err-before-clause-stays
returns-in_err-before-clause-stays c = stay_self (λ id. is_off id c.args.old.now c.args.new.now c.args.field.now) c.args.indexes.now

pub returns-in_err-after-clause-stays : goal.returns-in_err-after-clause-stays
returns-in_err-after-clause-stays c = stay_self (λ id. is_off id c.args.old.now c.args.new.now c.args.field.now) c.args.indexes.now

pub returns-clause-stays : goal.returns-clause-stays
returns-clause-stays c = stay_under c.args.field.now.id _ _ _ _ c.args.indexes.now c.replace.new.indexes c.in_ok-before.ensures c.in_ok-after.ensures c.replace.ensures.stays
