use Rattle.std.proofs.Common.{List, subst}
use Rattle.oc_layout.specs.declared.cells.CellWrite.{CellWrite}
use Rattle.oc_host.specs.Disk.{LeavesOnly}
use Rattle.oc_log.specs.Runs.{Touched, IsPut}
use Rattle.oc_log.proofs.Puts.{put_moments, put_syncs, applied}
use Rattle.oc_log.proofs.applying.apply.Goals as goal

pub returns-in_err-put_all-clause-any_moment : goal.returns-in_err-put_all-clause-any_moment
returns-in_err-put_all-clause-any_moment g c told =
    let d = g.H.Host.disk c.args.host.now in
    let e = g.H.Host.disk c.put_all.new.host in
    let so_far = subst (λ (l : List CellWrite). LeavesOnly d e (Touched l d)) c.deref.ensures.value (c.put_all.ensures.any_moment told) in
    put_moments c.args.from.header c.args.from.cells.writes.items d (c.requires told) e so_far

pub returns-in_err-sync-clause-any_moment : goal.returns-in_err-sync-clause-any_moment
returns-in_err-sync-clause-any_moment g c told =
    let d = g.H.Host.disk c.args.host.now in
    let e = g.H.Host.disk c.put_all.new.host in
    let so_far = subst (λ (l : List CellWrite). LeavesOnly d e (Touched l d)) c.deref.ensures.value (c.put_all.ensures.any_moment told) in
    let is = subst (λ (l : List CellWrite). IsPut l d e) c.deref.ensures.value (c.in_ok-put_all.ensures.ok told) in
    put_syncs c.args.from.header c.args.from.cells.writes.items d (c.requires told) c.sync.result e (g.H.Host.disk c.sync.new.self) is so_far (c.sync.ensures.disk told)

pub returns-clause-ok : goal.returns-clause-ok
returns-clause-ok g c told =
    let d = g.H.Host.disk c.args.host.now in
    let e = g.H.Host.disk c.put_all.new.host in
    let is = subst (λ (l : List CellWrite). IsPut l d e) c.deref.ensures.value (c.in_ok-put_all.ensures.ok told) in
    applied c.args.from.header c.args.from.cells.writes.items d (c.requires told) e (g.H.Host.disk c.sync.new.self) is (c.in_ok-sync.ensures.disk told)

pub returns-clause-any_moment : goal.returns-clause-any_moment
returns-clause-any_moment g c told =
    let d = g.H.Host.disk c.args.host.now in
    let e = g.H.Host.disk c.put_all.new.host in
    let so_far = subst (λ (l : List CellWrite). LeavesOnly d e (Touched l d)) c.deref.ensures.value (c.put_all.ensures.any_moment told) in
    let is = subst (λ (l : List CellWrite). IsPut l d e) c.deref.ensures.value (c.in_ok-put_all.ensures.ok told) in
    put_syncs c.args.from.header c.args.from.cells.writes.items d (c.requires told) c.sync.result e (g.H.Host.disk c.sync.new.self) is so_far (c.sync.ensures.disk told)
