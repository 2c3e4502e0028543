use Rattle.std.proofs.Common.{◌≡◌, ◌∙◌, ap, rules, sym, subst, Err, is_some, true}
use Rattle.std.specs.List.{All}
use Rattle.oc_machine.specs.Memory.{handles_in}
use Rattle.oc_model.specs.Maps.{at}
use Rattle.oc_store.specs.Numbering.{AreRising}
use Rattle.oc_container.specs.Faults.{fault_of}
use Rattle.oc_container.proofs.PlannedWalks.{all_live, damaged_by, planned}
use Rattle.oc_container.proofs.Reached.{handles_rise, of_handles}
use Rattle.oc_container.proofs.planning.reached_by_store.Goals as goal

pub returns-in_err-nodes-clause-asked : goal.returns-in_err-nodes-clause-asked
returns-in_err-nodes-clause-asked g c =
    let w = c.planned.ensures.asked in
    let f = c.in_err-nodes.field-0.0 in
    let told : c.from_residual.result ≡ Err (fault_of f) = search rules in
    (w.0, w.1, w.2, λ space n is. w.3 space n (c.in_err-nodes.was ∙ ap Err (damaged_by f space n (sym told ∙ is))))

pub returns-clause-handles : goal.returns-clause-handles
returns-clause-handles g c = λ tells m shows memory names.
    c.in_ok-handles.ensures
    ∙ ap handles_in (c.deref.ensures.value ∙ planned g.H.Host.tells c.args.live.now c.args.store.now (g.H.Host.disk c.args.host.now) m tells shows memory names c.args.handle c.args.depth _ c.requires.live c.requires.small (c.in_ok-nodes.ensures.best tells))

pub returns-clause-live : goal.returns-clause-live
returns-clause-live g c =
    subst (All (λ h. is_some (at c.args.live.now.live h) ≡ true)) (sym (c.in_ok-handles.ensures ∙ ap handles_in c.deref.ensures.value))
    (of_handles (λ h. is_some (at c.args.live.now.live h) ≡ true) _ (all_live c.args.live.now c.args.store.now _ c.in_ok-nodes.ensures.nodes))

pub returns-clause-rising : goal.returns-clause-rising
returns-clause-rising g c = subst AreRising (sym (c.in_ok-handles.ensures ∙ ap handles_in c.deref.ensures.value)) (handles_rise c.in_ok-nodes.nodes.items c.in_ok-nodes.ensures.order)
