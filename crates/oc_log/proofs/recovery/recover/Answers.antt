use Rattle.std.proofs.Common.{◌∙◌, ◌+◌, ◌≤◌, List, length, ap, subst, arith}
use Rattle.oc_layout.specs.declared.cells.CellWrite.{CellWrite}
use Rattle.oc_layout.specs.declared.cells.Header.{Header}
use Rattle.oc_host.specs.Disk.{LeavesOnly}
use Rattle.oc_log.specs.Log.{log_at}
use Rattle.oc_log.specs.Stops.{HasAll}
use Rattle.oc_log.proofs.Redo.{applies, closes}
use Rattle.oc_log.proofs.recovery.recover.Goals as goal

pub returns-in_err-applied-clause-any_moment : goal.returns-in_err-applied-clause-any_moment
returns-in_err-applied-clause-any_moment g c told =
    let d = g.H.Host.disk c.args.host.now in
    let h = c.args.header.now in
    let ws = c.in_ok-opened.opened.cells.writes.items in
    let e = g.H.Host.disk c.open_log.new.host in
    let f = g.H.Host.disk c.apply.new.host in
    let looks = c.open_log.ensures.looks told in
    let opened = c.in_ok-opened.ensures.ok told in
    let inside : log_at h + h.log.len ≤ length d.bytes = omega (arith, opened.has.inside, ap length looks.bytes) in
    let run = subst (λ (x : Header). LeavesOnly e f (HasAll x ws e)) c.in_ok-opened.ensures.same (c.apply.ensures.any_moment told) in
    applies h ws d e (c.requires told) (c.in_ok-opened.ensures.is_open told) looks inside f run

pub returns-in_err-close_gate-clause-any_moment : goal.returns-in_err-close_gate-clause-any_moment
returns-in_err-close_gate-clause-any_moment g c told =
    let d = g.H.Host.disk c.args.host.now in
    let h = c.args.header.now in
    let ws = c.in_ok-opened.opened.cells.writes.items in
    let e = g.H.Host.disk c.open_log.new.host in
    let f = g.H.Host.disk c.apply.new.host in
    let looks = c.open_log.ensures.looks told in
    let opened = c.in_ok-opened.ensures.ok told in
    let inside : log_at h + h.log.len ≤ length d.bytes = omega (arith, opened.has.inside, ap length looks.bytes) in
    let run = subst (λ (x : Header). LeavesOnly e f (HasAll x ws e)) c.in_ok-opened.ensures.same (c.apply.ensures.any_moment told) in
    let k = g.H.Host.disk c.close_gate.new.host in
    let same = c.in_ok-applied.ensures.same in
    let sound = g.met.H.Host.sound c.apply.new.host told in
    let rest = subst (λ (x : Header). LeavesOnly f k (HasAll x ws f)) (same.0 ∙ c.in_ok-opened.ensures.same) (subst (λ (x : List CellWrite). LeavesOnly f k (HasAll c.in_ok-applied.applied.header x f)) same.1 (c.close_gate.ensures.any_moment told)) in
    closes h ws d e (c.requires told) (c.in_ok-opened.ensures.is_open told) looks inside f k run sound (c.in_ok-applied.ensures.bytes told) rest

pub returns-clause-any_moment : goal.returns-clause-any_moment
returns-clause-any_moment g c told =
    let d = g.H.Host.disk c.args.host.now in
    let h = c.args.header.now in
    let ws = c.in_ok-opened.opened.cells.writes.items in
    let e = g.H.Host.disk c.open_log.new.host in
    let f = g.H.Host.disk c.apply.new.host in
    let looks = c.open_log.ensures.looks told in
    let opened = c.in_ok-opened.ensures.ok told in
    let inside : log_at h + h.log.len ≤ length d.bytes = omega (arith, opened.has.inside, ap length looks.bytes) in
    let run = subst (λ (x : Header). LeavesOnly e f (HasAll x ws e)) c.in_ok-opened.ensures.same (c.apply.ensures.any_moment told) in
    let k = g.H.Host.disk c.close_gate.new.host in
    let same = c.in_ok-applied.ensures.same in
    let sound = g.met.H.Host.sound c.apply.new.host told in
    let rest = subst (λ (x : Header). LeavesOnly f k (HasAll x ws f)) (same.0 ∙ c.in_ok-opened.ensures.same) (subst (λ (x : List CellWrite). LeavesOnly f k (HasAll c.in_ok-applied.applied.header x f)) same.1 (c.close_gate.ensures.any_moment told)) in
    closes h ws d e (c.requires told) (c.in_ok-opened.ensures.is_open told) looks inside f k run sound (c.in_ok-applied.ensures.bytes told) rest
