-- What the lists show is what the definition shows.
use Rattle.std.proofs.Common.{sym, ap, ◌∙◌, length}
use Rattle.oc_model.specs.declared.answer.Answer.TheVariants as answer
use Rattle.oc_model.specs.Schemas.{class_named}
use Rattle.oc_machine.specs.Outcomes.{settled}
use Rattle.oc_run.specs.ListStore.{lines_from}
use Rattle.oc_run.proofs.Asking.{query_by}
use Rattle.oc_run.proofs.list_store.ListStore.query.Goals as goal

pub returns : goal.returns
returns c =
    let m = c.args.self.now in
    let s = c.self.inside in
    let number = c.in-Some.number in
    let class = c.in-Some.class.now in
    let lines = c.in_ok-lines.ensures ∙ ap (λ rs. lines_from (length rs) class number 1 rs) c.deref.ensures.value in
    let e = query_by m s.classes.items s.next_field s.records.items c.args.class.now number class c.self.view_is c.self.invariant.flat c.self.invariant.kept
    (ap (class_named m.session.schema) (sym c.as_slice.ensures) ∙ c.in-Some.ensures.number) c.in-Some.ensures.class in
    ap (λ ls. (m, answer.Found ls)) lines ∙ sym (ap (settled m) e)
