use Rattle.std.proofs.Common.{◌≡◌, ◌∙◌, length, refl, sym, ap, subst, Ok}
use Rattle.oc_layout.specs.Layout.{is_wide, cell_bytes, log_bytes}
use Rattle.oc_layout.proofs.Spelled.{length-log}
use Rattle.oc_host.specs.Disk.{AfterWrite, AfterSync, Disk, wrote, synced_now}
use Rattle.oc_log.specs.States.{IsPrepared}
use Rattle.oc_log.proofs.Prepares.{log_write_is, log_writes, cell_writes, log_syncs, staged_is, prepared}
use Rattle.oc_log.proofs.preparing.stage.Goals as goal

pub returns-in_err-write_at-clause-any_moment : goal.returns-in_err-write_at-clause-any_moment
returns-in_err-write_at-clause-any_moment g c told =
    let d = g.H.Host.disk c.args.host.now in
    let h = c.args.prepared.now.header in
    let ws = c.args.prepared.now.cells.writes.items in
    let log = log_bytes (is_wide h) ws in
    let log_len : length log ≡ h.log.len = length-log (is_wide h) ws ∙ sym c.requires.len in
    let may = c.requires.may told in
    let sound = g.met.H.Host.sound c.args.host.now told in
    let e = g.H.Host.disk c.write_at.new.self in
    let after = log_write_is h ws d may log c.unit.result c.padding_of-most.result c.in_ok-len.len c.saturating_sub.result c.min-padding.result c.args.log.now c.split_at.result.1.now
    (g.H.Host.disk c.len.new.self) c.write_at.result e c.unit.ensures c.padding_of-most.ensures (c.in_ok-len.ensures.len told) c.saturating_sub.ensures c.min-padding.ensures c.requires.log c.split_at.ensures.back
    (c.in_ok-len.ensures.disk told) (c.write_at.ensures.disk told) in
    log_writes h ws d sound may log (cell_bytes h.log) log_len refl c.write_at.result e after

pub returns-in_err-write_at-2-clause-any_moment : goal.returns-in_err-write_at-2-clause-any_moment
returns-in_err-write_at-2-clause-any_moment g c told =
    let d = g.H.Host.disk c.args.host.now in
    let h = c.args.prepared.now.header in
    let ws = c.args.prepared.now.cells.writes.items in
    let log = log_bytes (is_wide h) ws in
    let log_len : length log ≡ h.log.len = length-log (is_wide h) ws ∙ sym c.requires.len in
    let may = c.requires.may told in
    let sound = g.met.H.Host.sound c.args.host.now told in
    let e = g.H.Host.disk c.write_at.new.self in
    let first = log_write_is h ws d may log c.unit.result c.padding_of-most.result c.in_ok-len.len c.saturating_sub.result c.min-padding.result c.args.log.now c.split_at.result.1.now
    (g.H.Host.disk c.len.new.self) (Ok tt) e c.unit.ensures c.padding_of-most.ensures (c.in_ok-len.ensures.len told) c.saturating_sub.ensures c.min-padding.ensures c.requires.log c.split_at.ensures.back
    (c.in_ok-len.ensures.disk told) (c.in_ok-write_at.ensures.disk told) in
    let cell = c.write_cell.result in
    let cell_len = ap length c.write_cell.ensures in
    let f = g.H.Host.disk c.write_at-2.new.self in
    cell_writes h ws d sound may log cell log_len cell_len c.write_at-2.result f (subst (λ (x : Disk). AfterWrite 32 cell c.write_at-2.result x f) first (c.write_at-2.ensures.disk told))

pub returns-in_err-sync-clause-any_moment : goal.returns-in_err-sync-clause-any_moment
returns-in_err-sync-clause-any_moment g c told =
    let d = g.H.Host.disk c.args.host.now in
    let h = c.args.prepared.now.header in
    let ws = c.args.prepared.now.cells.writes.items in
    let log = log_bytes (is_wide h) ws in
    let log_len : length log ≡ h.log.len = length-log (is_wide h) ws ∙ sym c.requires.len in
    let may = c.requires.may told in
    let sound = g.met.H.Host.sound c.args.host.now told in
    let e = g.H.Host.disk c.write_at.new.self in
    let first = log_write_is h ws d may log c.unit.result c.padding_of-most.result c.in_ok-len.len c.saturating_sub.result c.min-padding.result c.args.log.now c.split_at.result.1.now
    (g.H.Host.disk c.len.new.self) (Ok tt) e c.unit.ensures c.padding_of-most.ensures (c.in_ok-len.ensures.len told) c.saturating_sub.ensures c.min-padding.ensures c.requires.log c.split_at.ensures.back
    (c.in_ok-len.ensures.disk told) (c.in_ok-write_at.ensures.disk told) in
    let cell = c.write_cell.result in
    let cell_len = ap length c.write_cell.ensures in
    let f = g.H.Host.disk c.write_at-2.new.self in
    let k = g.H.Host.disk c.sync.new.self in
    let second = c.in_ok-write_at-2.ensures.disk told ∙ ap (λ (x : Disk). wrote 32 cell x) first in
    log_syncs h ws d sound may log cell log_len cell_len c.sync.result k (subst (λ (x : Disk). AfterSync c.sync.result x k) second (c.sync.ensures.disk told))

pub returns-clause-any_moment : goal.returns-clause-any_moment
returns-clause-any_moment g c told =
    let d = g.H.Host.disk c.args.host.now in
    let h = c.args.prepared.now.header in
    let ws = c.args.prepared.now.cells.writes.items in
    let log = log_bytes (is_wide h) ws in
    let log_len : length log ≡ h.log.len = length-log (is_wide h) ws ∙ sym c.requires.len in
    let may = c.requires.may told in
    let sound = g.met.H.Host.sound c.args.host.now told in
    let e = g.H.Host.disk c.write_at.new.self in
    let first = log_write_is h ws d may log c.unit.result c.padding_of-most.result c.in_ok-len.len c.saturating_sub.result c.min-padding.result c.args.log.now c.split_at.result.1.now
    (g.H.Host.disk c.len.new.self) (Ok tt) e c.unit.ensures c.padding_of-most.ensures (c.in_ok-len.ensures.len told) c.saturating_sub.ensures c.min-padding.ensures c.requires.log c.split_at.ensures.back
    (c.in_ok-len.ensures.disk told) (c.in_ok-write_at.ensures.disk told) in
    let cell = c.write_cell.result in
    let cell_len = ap length c.write_cell.ensures in
    let f = g.H.Host.disk c.write_at-2.new.self in
    let k = g.H.Host.disk c.sync.new.self in
    let second = c.in_ok-write_at-2.ensures.disk told ∙ ap (λ (x : Disk). wrote 32 cell x) first in
    log_syncs h ws d sound may log cell log_len cell_len c.sync.result k (subst (λ (x : Disk). AfterSync c.sync.result x k) second (c.sync.ensures.disk told))

pub returns-clause-ok : goal.returns-clause-ok
returns-clause-ok g c told =
    let d = g.H.Host.disk c.args.host.now in
    let h = c.args.prepared.now.header in
    let ws = c.args.prepared.now.cells.writes.items in
    let log = log_bytes (is_wide h) ws in
    let log_len : length log ≡ h.log.len = length-log (is_wide h) ws ∙ sym c.requires.len in
    let may = c.requires.may told in
    let sound = g.met.H.Host.sound c.args.host.now told in
    let e = g.H.Host.disk c.write_at.new.self in
    let first = log_write_is h ws d may log c.unit.result c.padding_of-most.result c.in_ok-len.len c.saturating_sub.result c.min-padding.result c.args.log.now c.split_at.result.1.now
    (g.H.Host.disk c.len.new.self) (Ok tt) e c.unit.ensures c.padding_of-most.ensures (c.in_ok-len.ensures.len told) c.saturating_sub.ensures c.min-padding.ensures c.requires.log c.split_at.ensures.back
    (c.in_ok-len.ensures.disk told) (c.in_ok-write_at.ensures.disk told) in
    let cell = c.write_cell.result in
    let cell_len = ap length c.write_cell.ensures in
    let f = g.H.Host.disk c.write_at-2.new.self in
    let k = g.H.Host.disk c.sync.new.self in
    let second = c.in_ok-write_at-2.ensures.disk told ∙ ap (λ (x : Disk). wrote 32 cell x) first in
    let synced = c.in_ok-sync.ensures.disk told ∙ ap synced_now second in
    subst (λ (x : Disk). IsPrepared h ws x) (sym synced) (prepared h ws d sound may log cell log_len cell_len refl c.write_cell.ensures c.requires.is_log c.requires.fits)

pub returns-clause-bytes : goal.returns-clause-bytes
returns-clause-bytes g c told =
    let d = g.H.Host.disk c.args.host.now in
    let h = c.args.prepared.now.header in
    let ws = c.args.prepared.now.cells.writes.items in
    let log = log_bytes (is_wide h) ws in
    let log_len : length log ≡ h.log.len = length-log (is_wide h) ws ∙ sym c.requires.len in
    let may = c.requires.may told in
    let sound = g.met.H.Host.sound c.args.host.now told in
    let e = g.H.Host.disk c.write_at.new.self in
    let first = log_write_is h ws d may log c.unit.result c.padding_of-most.result c.in_ok-len.len c.saturating_sub.result c.min-padding.result c.args.log.now c.split_at.result.1.now
    (g.H.Host.disk c.len.new.self) (Ok tt) e c.unit.ensures c.padding_of-most.ensures (c.in_ok-len.ensures.len told) c.saturating_sub.ensures c.min-padding.ensures c.requires.log c.split_at.ensures.back
    (c.in_ok-len.ensures.disk told) (c.in_ok-write_at.ensures.disk told) in
    let cell = c.write_cell.result in
    let cell_len = ap length c.write_cell.ensures in
    let f = g.H.Host.disk c.write_at-2.new.self in
    let k = g.H.Host.disk c.sync.new.self in
    let second = c.in_ok-write_at-2.ensures.disk told ∙ ap (λ (x : Disk). wrote 32 cell x) first in
    ap (λ (x : Disk). x.bytes) (c.in_ok-sync.ensures.disk told ∙ ap synced_now second) ∙ staged_is h ws d sound may log cell log_len cell_len refl c.write_cell.ensures
