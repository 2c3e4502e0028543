use Rattle.std.proofs.Common.{◌≡◌, ◌∙◌, List, sym, subst}
use Rattle.oc_layout.specs.declared.cells.CellWrite.{CellWrite}
use Rattle.oc_layout.specs.declared.cells.Header.{Header}
use Rattle.oc_host.specs.Disk.{LeavesOnly}
use Rattle.oc_log.specs.Log.{with_log, put_cells}
use Rattle.oc_log.specs.States.{IsOpened}
use Rattle.oc_log.specs.Stops.{HasAll, NoneOrAll}
use Rattle.oc_log.proofs.FourCalls.{run_opened, run_applied, run_closed}
use Rattle.oc_log.proofs.whole.put_in.Goals as goal

pub apply-requires : goal.apply-requires
apply-requires g c told =
    let same = c.in_ok-opened.ensures.same in
    let e = g.H.Host.disk c.open_gate.new.host in
    subst (λ (x : Header). IsOpened x c.in_ok-opened.opened.cells.writes.items e) (sym same.0) (subst (λ (x : List CellWrite). IsOpened c.in_ok-prepared.prepared.header x e) (sym same.1) (c.in_ok-opened.ensures.ok told))

pub returns-in_err-opened-clause-any_moment : goal.returns-in_err-opened-clause-any_moment
returns-in_err-opened-clause-any_moment g c told =
    let d = g.H.Host.disk c.args.host.now in
    let h = with_log c.args.header.now c.args.place in
    let ws = c.args.draft.writes in
    let may = c.requires.may told in
    let sound = g.met.H.Host.sound c.args.host.now told in
    let e = g.H.Host.disk c.prepare.new.host in
    let e_sound = g.met.H.Host.sound c.prepare.new.host told in
    let e_is = c.in_ok-prepared.ensures.bytes told in
    let e_same = c.in_ok-prepared.ensures.same in
    let e_synced = (c.in_ok-prepared.ensures.ok told).synced in
    let prepares = c.prepare.ensures.any_moment told in
    let f = g.H.Host.disk c.open_gate.new.host in
    let opens = subst (λ (x : Header). LeavesOnly e f (NoneOrAll x ws e)) e_same.0 (subst (λ (x : List CellWrite). LeavesOnly e f (NoneOrAll c.in_ok-prepared.prepared.header x e)) e_same.1 (c.open_gate.ensures.any_moment told)) in
    run_opened h ws d c.requires.len sound may e e_is e_synced e_sound prepares f opens

pub returns-in_err-applied-clause-any_moment : goal.returns-in_err-applied-clause-any_moment
returns-in_err-applied-clause-any_moment g c told =
    let d = g.H.Host.disk c.args.host.now in
    let h = with_log c.args.header.now c.args.place in
    let ws = c.args.draft.writes in
    let may = c.requires.may told in
    let sound = g.met.H.Host.sound c.args.host.now told in
    let e = g.H.Host.disk c.prepare.new.host in
    let e_sound = g.met.H.Host.sound c.prepare.new.host told in
    let e_is = c.in_ok-prepared.ensures.bytes told in
    let e_same = c.in_ok-prepared.ensures.same in
    let e_synced = (c.in_ok-prepared.ensures.ok told).synced in
    let prepares = c.prepare.ensures.any_moment told in
    let f = g.H.Host.disk c.open_gate.new.host in
    let opens = subst (λ (x : Header). LeavesOnly e f (NoneOrAll x ws e)) e_same.0 (subst (λ (x : List CellWrite). LeavesOnly e f (NoneOrAll c.in_ok-prepared.prepared.header x e)) e_same.1 (c.open_gate.ensures.any_moment told)) in
    let f_sound = g.met.H.Host.sound c.open_gate.new.host told in
    let f_is = c.in_ok-opened.ensures.bytes told in
    let f_same = c.in_ok-opened.ensures.same in
    let header_is = f_same.0 ∙ e_same.0 in
    let cells_is = f_same.1 ∙ e_same.1 in
    let k = g.H.Host.disk c.apply.new.host in
    let applies = subst (λ (x : Header). LeavesOnly f k (HasAll x ws f)) header_is (subst (λ (x : List CellWrite). LeavesOnly f k (HasAll c.in_ok-opened.opened.header x f)) cells_is (c.apply.ensures.any_moment told)) in
    run_applied h ws d c.requires.len sound may e e_is e_synced e_sound prepares f f_is f_sound opens k applies

pub returns-in_err-close_gate-clause-any_moment : goal.returns-in_err-close_gate-clause-any_moment
returns-in_err-close_gate-clause-any_moment g c told =
    let d = g.H.Host.disk c.args.host.now in
    let h = with_log c.args.header.now c.args.place in
    let ws = c.args.draft.writes in
    let may = c.requires.may told in
    let sound = g.met.H.Host.sound c.args.host.now told in
    let e = g.H.Host.disk c.prepare.new.host in
    let e_sound = g.met.H.Host.sound c.prepare.new.host told in
    let e_is = c.in_ok-prepared.ensures.bytes told in
    let e_same = c.in_ok-prepared.ensures.same in
    let e_synced = (c.in_ok-prepared.ensures.ok told).synced in
    let prepares = c.prepare.ensures.any_moment told in
    let f = g.H.Host.disk c.open_gate.new.host in
    let opens = subst (λ (x : Header). LeavesOnly e f (NoneOrAll x ws e)) e_same.0 (subst (λ (x : List CellWrite). LeavesOnly e f (NoneOrAll c.in_ok-prepared.prepared.header x e)) e_same.1 (c.open_gate.ensures.any_moment told)) in
    let f_sound = g.met.H.Host.sound c.open_gate.new.host told in
    let f_is = c.in_ok-opened.ensures.bytes told in
    let f_same = c.in_ok-opened.ensures.same in
    let header_is = f_same.0 ∙ e_same.0 in
    let cells_is = f_same.1 ∙ e_same.1 in
    let k = g.H.Host.disk c.apply.new.host in
    let applies = subst (λ (x : Header). LeavesOnly f k (HasAll x ws f)) header_is (subst (λ (x : List CellWrite). LeavesOnly f k (HasAll c.in_ok-opened.opened.header x f)) cells_is (c.apply.ensures.any_moment told)) in
    let k_sound = g.met.H.Host.sound c.apply.new.host told in
    let k_same = c.in_ok-applied.ensures.same in
    let k_is = subst (λ (x : List CellWrite). k.bytes ≡ put_cells x f.bytes) cells_is (c.in_ok-applied.ensures.bytes told) in
    let z = g.H.Host.disk c.close_gate.new.host in
    let closes = subst (λ (x : Header). LeavesOnly k z (HasAll x ws k)) (k_same.0 ∙ header_is) (subst (λ (x : List CellWrite). LeavesOnly k z (HasAll c.in_ok-applied.applied.header x k)) (k_same.1 ∙ cells_is) (c.close_gate.ensures.any_moment told)) in
    run_closed h ws d c.requires.len sound may e e_is e_synced e_sound prepares f f_is f_sound opens k k_is k_sound applies z closes

pub returns-clause-any_moment : goal.returns-clause-any_moment
returns-clause-any_moment g c told =
    let d = g.H.Host.disk c.args.host.now in
    let h = with_log c.args.header.now c.args.place in
    let ws = c.args.draft.writes in
    let may = c.requires.may told in
    let sound = g.met.H.Host.sound c.args.host.now told in
    let e = g.H.Host.disk c.prepare.new.host in
    let e_sound = g.met.H.Host.sound c.prepare.new.host told in
    let e_is = c.in_ok-prepared.ensures.bytes told in
    let e_same = c.in_ok-prepared.ensures.same in
    let e_synced = (c.in_ok-prepared.ensures.ok told).synced in
    let prepares = c.prepare.ensures.any_moment told in
    let f = g.H.Host.disk c.open_gate.new.host in
    let opens = subst (λ (x : Header). LeavesOnly e f (NoneOrAll x ws e)) e_same.0 (subst (λ (x : List CellWrite). LeavesOnly e f (NoneOrAll c.in_ok-prepared.prepared.header x e)) e_same.1 (c.open_gate.ensures.any_moment told)) in
    let f_sound = g.met.H.Host.sound c.open_gate.new.host told in
    let f_is = c.in_ok-opened.ensures.bytes told in
    let f_same = c.in_ok-opened.ensures.same in
    let header_is = f_same.0 ∙ e_same.0 in
    let cells_is = f_same.1 ∙ e_same.1 in
    let k = g.H.Host.disk c.apply.new.host in
    let applies = subst (λ (x : Header). LeavesOnly f k (HasAll x ws f)) header_is (subst (λ (x : List CellWrite). LeavesOnly f k (HasAll c.in_ok-opened.opened.header x f)) cells_is (c.apply.ensures.any_moment told)) in
    let k_sound = g.met.H.Host.sound c.apply.new.host told in
    let k_same = c.in_ok-applied.ensures.same in
    let k_is = subst (λ (x : List CellWrite). k.bytes ≡ put_cells x f.bytes) cells_is (c.in_ok-applied.ensures.bytes told) in
    let z = g.H.Host.disk c.close_gate.new.host in
    let closes = subst (λ (x : Header). LeavesOnly k z (HasAll x ws k)) (k_same.0 ∙ header_is) (subst (λ (x : List CellWrite). LeavesOnly k z (HasAll c.in_ok-applied.applied.header x k)) (k_same.1 ∙ cells_is) (c.close_gate.ensures.any_moment told)) in
    run_closed h ws d c.requires.len sound may e e_is e_synced e_sound prepares f f_is f_sound opens k k_is k_sound applies z closes
