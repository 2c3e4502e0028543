use Rattle.oc_log.specs.Stops.{HasAll}
use Rattle.oc_log.proofs.Gates.{gate_writes, gate_syncs, closing}
use Rattle.oc_log.proofs.gate.close_gate.Goals as goal

pub returns-in_err-write_at-clause-any_moment : goal.returns-in_err-write_at-clause-any_moment
returns-in_err-write_at-clause-any_moment g c told =
    let p = c.requires told in
    let d = g.H.Host.disk c.args.host.now in
    gate_writes d p.synced p.has.long 0 (HasAll c.args.from.header c.args.from.cells.writes.items d) (closing c.args.from.header c.args.from.cells.writes.items d p) c.write_at.result (g.H.Host.disk c.write_at.new.self) (c.write_at.ensures.disk told)

pub returns-in_err-sync-clause-any_moment : goal.returns-in_err-sync-clause-any_moment
returns-in_err-sync-clause-any_moment g c told =
    let p = c.requires told in
    let d = g.H.Host.disk c.args.host.now in
    let P = HasAll c.args.from.header c.args.from.cells.writes.items d in
    let here = closing c.args.from.header c.args.from.cells.writes.items d p in
    let e = g.H.Host.disk c.write_at.new.self in
    gate_syncs d p.synced p.has.long 0 P here c.sync.result e (g.H.Host.disk c.sync.new.self) (c.in_ok-write_at.ensures.disk told)
    (gate_writes d p.synced p.has.long 0 P here c.write_at.result e (c.write_at.ensures.disk told)) (c.sync.ensures.disk told)

pub returns-clause-any_moment : goal.returns-clause-any_moment
returns-clause-any_moment g c told =
    let p = c.requires told in
    let d = g.H.Host.disk c.args.host.now in
    let P = HasAll c.args.from.header c.args.from.cells.writes.items d in
    let here = closing c.args.from.header c.args.from.cells.writes.items d p in
    let e = g.H.Host.disk c.write_at.new.self in
    gate_syncs d p.synced p.has.long 0 P here c.sync.result e (g.H.Host.disk c.sync.new.self) (c.in_ok-write_at.ensures.disk told)
    (gate_writes d p.synced p.has.long 0 P here c.write_at.result e (c.write_at.ensures.disk told)) (c.sync.ensures.disk told)
