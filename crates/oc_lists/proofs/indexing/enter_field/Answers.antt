use Rattle.std.proofs.Common.{◌≡◌, Some, OnOk, subst}
use Rattle.oc_lists.specs.Refiling.{at_field, with_key, Refiles}
use Rattle.oc_lists.proofs.Moved.{moved_self}
use Rattle.oc_lists.proofs.indexing.enter_field.Goals as goal

pub returns-in_err-key-clause-moved : goal.returns-in_err-key-clause-moved
returns-in_err-key-clause-moved c = moved_self c.args.indexes.now

pub returns-clause-entries : goal.returns-clause-entries
returns-clause-entries c = subst (λ k. OnOk c.enter.result (Refiles (at_field c.args.field.now.id (with_key c.args.number (Some k))) c.args.indexes.now c.enter.new.indexes)) c.in_ok-key.ensures c.enter.ensures.entries
