use Rattle.std.proofs.Common.{◌≡◌, ◌∙◌, ap, sym, subst, cond, None, Some}
use Rattle.oc_model.specs.Maps.{at}
use Rattle.oc_slots.specs.Stores.{session}
use Rattle.oc_lists.specs.Following.{records_of, AreEntering}
use Rattle.oc_lists.proofs.Reindexed.{record_at, record_more, record_none, records_sorted}
use Rattle.oc_store.specs.Stands.{object_slot}
use Rattle.oc_store.proofs.Fetched.{read_spells}
use Rattle.oc_store.proofs.OneStore.{one_object}
use Rattle.oc_store.proofs.reindexing.enter_object.Goals as goal

pub returns-in_default-clause-entered : goal.returns-in_default-clause-entered
returns-in_default-clause-entered g c told s are keeps spells done off entering =
    let n = c.args.number in
    let slot = session c.args.slots.now (g.H.Host.disk c.args.host.now) (object_slot n) in
    let none : at s.records n ≡ None = sym (one_object slot c.in_ok-rec.field-0 (at s.records n) (read_spells c.args.old.now c.class_of-class.result slot c.in_ok-rec.field-0 (c.in_ok-rec.ensures.read told)) spells) ∙ c.in_default.is in
    subst (AreEntering c.args.indexes.now s c.args.new.now) (sym (record_none done n s.records keeps.by_number none)) entering

pub returns-clause-entered : goal.returns-clause-entered
returns-clause-entered g c told s are keeps spells done off entering =
    let n = c.args.number in
    let slot = session c.args.slots.now (g.H.Host.disk c.args.host.now) (object_slot n) in
    let found : at s.records n ≡ Some c.in-Some.rec = sym (one_object slot c.in_ok-rec.field-0 (at s.records n) (read_spells c.args.old.now c.class_of-class.result slot c.in_ok-rec.field-0 (c.in_ok-rec.ensures.read told)) spells) ∙ c.in-Some.is in
    subst (AreEntering c.enter_record.new.indexes s c.args.new.now) (sym (record_more done n s.records keeps.by_number c.in-Some.rec found))
    (c.in_ok-enter_record.ensures.goes_on s (records_of done s.records) are (records_sorted done s.records keeps.by_number) (record_at done s.records n ∙ ap (λ b. cond b (at s.records n) None) off) entering)
