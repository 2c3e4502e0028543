-- What is made by the lists is what the definition makes.
use Rattle.std.proofs.Common.{sym, ap, ◌∙◌, Ok, Err}
use Rattle.oc_model.specs.Schemas.{class_named}
use Rattle.oc_machine.specs.Outcomes.{settled}
use Rattle.oc_run.specs.ListStore.{entries_given}
use Rattle.oc_run.proofs.Making.{make_of, given_is_kept, class_is_distinct}
use Rattle.oc_run.proofs.list_store.ListStore.make.Goals as goal

pub entries_given-requires : goal.entries_given-requires
entries_given-requires c = rw c.as_slice-2.ensures (class_is_distinct c.args.self.now.session.schema.classes c.in-Some.number c.in-Some.class.now c.in-Some.ensures.flat c.in-Some.ensures.class)

pub store-requires : goal.store-requires
store-requires c =
    let gs = c.args.givens.now in
    given_is_kept c.args.self.now.session.schema.classes c.in-Some.number c.in-Some.class.now gs c.in-Ok.entries c.in-Some.ensures.class
    (ap (λ fs. entries_given fs gs) (sym c.as_slice-2.ensures) ∙ sym c.in_ok-entries.ensures ∙ c.in-Ok.is)

pub returns-in-Ok : goal.returns-in-Ok
returns-in-Ok c =
    let m = c.args.self.now in
    let gs = c.args.givens.now in
    let found = c.in-Some.ensures in
    let e = make_of m c.args.class.now gs c.in-Some.number c.in-Some.class.now (Ok c.in-Ok.entries) found.flat c.requires found.settings found.free
    (ap (class_named m.session.schema) (sym c.as_slice.ensures) ∙ found.number) found.class
    (ap (λ fs. entries_given fs gs) (sym c.as_slice-2.ensures) ∙ sym c.in_ok-entries.ensures ∙ c.in-Ok.is) in
    rw e c.store.ensures

pub returns-in-Err : goal.returns-in-Err
returns-in-Err c =
    let m = c.args.self.now in
    let gs = c.args.givens.now in
    let found = c.in-Some.ensures in
    let e = make_of m c.args.class.now gs c.in-Some.number c.in-Some.class.now (Err c.in-Err.word) found.flat c.requires found.settings found.free
    (ap (class_named m.session.schema) (sym c.as_slice.ensures) ∙ found.number) found.class
    (ap (λ fs. entries_given fs gs) (sym c.as_slice-2.ensures) ∙ sym c.in_ok-entries.ensures ∙ c.in-Err.is) in
    sym (ap (settled m) e)
