-- No class of the lists has a parent.
use Rattle.oc_run.proofs.ListLemmas.{earlier_parents}
use Rattle.oc_run.proofs.list_store.ListStore.has_room.Goals as goal

pub returns-then-decls-le-FIELD_LIMIT-clause-earlier : goal.returns-then-decls-le-FIELD_LIMIT-clause-earlier
returns-then-decls-le-FIELD_LIMIT-clause-earlier c = earlier_parents c.args.self.now _ _ _ c.self.view_is c.self.invariant.flat

pub returns-else-decls-le-FIELD_LIMIT-clause-earlier : goal.returns-else-decls-le-FIELD_LIMIT-clause-earlier
returns-else-decls-le-FIELD_LIMIT-clause-earlier c = earlier_parents c.args.self.now _ _ _ c.self.view_is c.self.invariant.flat
