use Rattle.std.proofs.Common.{◌∙◌, ◌==◌, ◌||◌, not, sym, subst, IsTrue}
use Rattle.oc_model.specs.Maps.{is_in}
use Rattle.oc_model.specs.SchemaRules.{are_apart}
use Rattle.oc_lists.specs.Refiling.{is_kept, rekeyed, with_key, without_key}
use Rattle.oc_lists.proofs.Moved.{moved_ids, moved_self, moved_then}
use Rattle.oc_lists.proofs.Refiled.{kept_stays, not_kept, same_stays, then_changes}
use Rattle.oc_lists.proofs.Staying.{both_stay, stay_self}
use Rattle.oc_lists.proofs.rekeying.replace.Goals as goal

pub returns-then-is_same-clause-moved : goal.returns-then-is_same-clause-moved
returns-then-is_same-clause-moved c = moved_self c.args.indexes.now

pub returns-then-is_same-clause-entries : goal.returns-then-is_same-clause-entries
returns-then-is_same-clause-entries c =
    same_stays c.args.id (rekeyed c.args.number c.args.before.now c.args.after) (kept_stays c.args.number c.args.before.now c.args.after (sym c.is_same.ensures ∙ c.if-is_same.true)) c.args.indexes.now

pub enter-requires-clause-apart : goal.enter-requires-clause-apart
enter-requires-clause-apart c = subst (λ ns. IsTrue (are_apart ns)) (sym (moved_ids c.args.indexes.now c.leave.new.indexes c.leave.ensures.moved)) c.requires.apart

pub enter-requires-clause-there : goal.enter-requires-clause-there
enter-requires-clause-there c = subst (λ ns. IsTrue (is_in ns c.args.id)) (sym (moved_ids c.args.indexes.now c.leave.new.indexes c.leave.ensures.moved)) c.requires.there

pub returns-in_err-enter-clause-moved : goal.returns-in_err-enter-clause-moved
returns-in_err-enter-clause-moved c = moved_then c.args.indexes.now c.leave.new.indexes c.enter.new.indexes c.leave.ensures.moved c.enter.ensures.moved

pub returns-clause-moved : goal.returns-clause-moved
returns-clause-moved c = moved_then c.args.indexes.now c.leave.new.indexes c.enter.new.indexes c.leave.ensures.moved c.enter.ensures.moved

pub returns-clause-entries : goal.returns-clause-entries
returns-clause-entries c =
    then_changes c.args.id (without_key c.args.number c.args.before.now) (with_key c.args.number c.args.after) (rekeyed c.args.number c.args.before.now c.args.after)
    (not_kept c.args.number c.args.before.now c.args.after (sym c.is_same.ensures ∙ c.if-is_same.false)) c.args.indexes.now c.leave.new.indexes c.enter.new.indexes c.leave.ensures.entries c.in_ok-enter.ensures.entries

pub returns-then-is_same-clause-stays : goal.returns-then-is_same-clause-stays
returns-then-is_same-clause-stays c = stay_self (λ n. not (c.args.id == n) || is_kept c.args.before.now c.args.after) c.args.indexes.now

pub returns-in_err-enter-clause-stays : goal.returns-in_err-enter-clause-stays
returns-in_err-enter-clause-stays c =
    both_stay c.args.id (is_kept c.args.before.now c.args.after) c.args.indexes.now c.leave.new.indexes c.enter.new.indexes (sym c.is_same.ensures ∙ c.if-is_same.false) c.leave.ensures.others c.enter.ensures.others

pub returns-clause-stays : goal.returns-clause-stays
returns-clause-stays c =
    both_stay c.args.id (is_kept c.args.before.now c.args.after) c.args.indexes.now c.leave.new.indexes c.enter.new.indexes (sym c.is_same.ensures ∙ c.if-is_same.false) c.leave.ensures.others c.enter.ensures.others
