use Rattle.oc_log.specs.Stops.{NoneOrAll}
use Rattle.oc_log.proofs.Gates.{gate_writes, gate_syncs, both_is, opened, opening}
use Rattle.oc_log.proofs.gate.open_gate.Goals as goal

pub returns-in_err-write_at-clause-any_moment : goal.returns-in_err-write_at-clause-any_moment
returns-in_err-write_at-clause-any_moment g c told =
    let p = c.requires told in
    let d = g.H.Host.disk c.args.host.now in
    gate_writes d p.synced p.has.long 1 (NoneOrAll c.args.from.header c.args.from.cells.writes.items d) (opening c.args.from.header c.args.from.cells.writes.items d p) c.write_at.result (g.H.Host.disk c.write_at.new.self) (c.write_at.ensures.disk told)

pub returns-in_err-sync-clause-any_moment : goal.returns-in_err-sync-clause-any_moment
returns-in_err-sync-clause-any_moment g c told =
    let p = c.requires told in
    let d = g.H.Host.disk c.args.host.now in
    let P = NoneOrAll c.args.from.header c.args.from.cells.writes.items d in
    let here = opening c.args.from.header c.args.from.cells.writes.items d p in
    let e = g.H.Host.disk c.write_at.new.self in
    gate_syncs d p.synced p.has.long 1 P here c.sync.result e (g.H.Host.disk c.sync.new.self) (c.in_ok-write_at.ensures.disk told)
    (gate_writes d p.synced p.has.long 1 P here c.write_at.result e (c.write_at.ensures.disk told)) (c.sync.ensures.disk told)

pub returns-clause-ok : goal.returns-clause-ok
returns-clause-ok g c told =
    opened c.args.from.header c.args.from.cells.writes.items (g.H.Host.disk c.args.host.now) (c.requires told) (g.H.Host.disk c.sync.new.self)
    (both_is (g.H.Host.disk c.args.host.now) (g.H.Host.disk c.write_at.new.self) (g.H.Host.disk c.sync.new.self) 1 (c.in_ok-write_at.ensures.disk told) (c.in_ok-sync.ensures.disk told))

pub returns-clause-any_moment : goal.returns-clause-any_moment
returns-clause-any_moment g c told =
    let p = c.requires told in
    let d = g.H.Host.disk c.args.host.now in
    let P = NoneOrAll c.args.from.header c.args.from.cells.writes.items d in
    let here = opening c.args.from.header c.args.from.cells.writes.items d p in
    let e = g.H.Host.disk c.write_at.new.self in
    gate_syncs d p.synced p.has.long 1 P here c.sync.result e (g.H.Host.disk c.sync.new.self) (c.in_ok-write_at.ensures.disk told)
    (gate_writes d p.synced p.has.long 1 P here c.write_at.result e (c.write_at.ensures.disk told)) (c.sync.ensures.disk told)
