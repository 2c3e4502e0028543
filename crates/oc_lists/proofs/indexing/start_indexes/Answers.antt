use Rattle.std.proofs.Common.{◌≡◌, ap, sym, subst}
use Rattle.oc_model.specs.Schemas.{Schema}
use Rattle.oc_model.specs.Stores.{Store}
use Rattle.oc_index.specs.Indexed.{StoreLists}
use Rattle.oc_lists.specs.Following.{newly_indexed, with_started, with_these, MayFollow}
use Rattle.oc_lists.specs.Lists.{HasIndexes}
use Rattle.oc_lists.proofs.Entering.{entering_begins}
use Rattle.oc_lists.proofs.Started.{indexes_started, kept_started, lists_started, numbered_started}
use Rattle.oc_lists.proofs.indexing.start_indexes.Goals as goal

pub returns-clause-has : goal.returns-clause-has
returns-clause-has c may h = indexes_started c.args.indexes.now c.restart.new.indexes c.args.old.now c.args.new.now c.restart.ensures.extents c.in_ok-restart.ensures.fields c.keeps_rules.ensures may h

pub returns-clause-kept : goal.returns-clause-kept
returns-clause-kept c h = kept_started c.args.indexes.now c.restart.new.indexes c.args.old.now c.args.new.now c.restart.ensures.extents c.in_ok-restart.ensures.fields c.restart.ensures.marked h

pub returns-clause-numbered : goal.returns-clause-numbered
returns-clause-numbered c has_slot h = numbered_started c.args.indexes.now c.restart.new.indexes c.args.old.now c.args.new.now c.restart.ensures.extents c.in_ok-restart.ensures.fields has_slot h

pub returns-clause-lists : goal.returns-clause-lists
returns-clause-lists c may h = lists_started c.args.indexes.now c.restart.new.indexes c.args.old.now c.args.new.now c.restart.ensures.extents c.in_ok-restart.ensures.fields c.keeps_rules.ensures may h

pub returns-clause-begins : goal.returns-clause-begins
returns-clause-begins c s is keeps may has lists =
    entering_begins c.args.indexes.now c.restart.new.indexes s c.args.new.now keeps (subst (λ (o : Schema). MayFollow o c.args.new.now) (sym is) may) (subst (λ (o : Schema). HasIndexes o c.args.indexes.now) (sym is) has) lists c.restart.ensures.extents
    (subst (λ (o : Schema). c.restart.new.indexes.fields ≡ with_started (newly_indexed o c.args.new.now) (with_these c.args.new.now c.args.indexes.now.fields)) (sym is) c.in_ok-restart.ensures.fields)
