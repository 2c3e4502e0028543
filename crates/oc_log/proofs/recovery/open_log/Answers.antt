use Rattle.std.proofs.Common.{◌≡◌, ◌∙◌, ℕ, ◌+◌, ◌*◌, ◌≤◌, Some, None, length, sym, ap, arith, Ok}
use Rattle.oc_layout.specs.Layout.{is_wide, read_writes}
use Rattle.oc_host.specs.Disk.{Disk, Looks}
use Rattle.oc_host.proofs.Moments.{looks_first, looks_more, looks_then}
use Rattle.oc_log.specs.Log.{slice, log_at, open_writes}
use Rattle.oc_log.proofs.Redo.{open_none, open_is, opened_again}
use Rattle.oc_log.proofs.recovery.open_log.Goals as goal

pub returns-then-at-header-clause-no_log : goal.returns-then-at-header-clause-no_log
returns-then-at-header-clause-no_log g c is told =
    let d = g.H.Host.disk c.args.host.now in
    let h = c.args.header.now in
    let may = c.requires.may told in
    let at : h.log.at * c.unit.result ≡ log_at h = ap (λ (u : ℕ). h.log.at * u) c.unit.ensures in
    open_none h d.bytes may.cell (omega (arith, c.if-at-header.true, c.in_ok-len.ensures.len told, at))

pub returns-in_default-clause-no_log : goal.returns-in_default-clause-no_log
returns-in_default-clause-no_log g c is told =
    let d = g.H.Host.disk c.args.host.now in
    let h = c.args.header.now in
    let may = c.requires.may told in
    let at : h.log.at * c.unit.result ≡ log_at h = ap (λ (u : ℕ). h.log.at * u) c.unit.ensures in
    let inside : log_at h + h.log.len ≤ length d.bytes = omega (arith, c.if-at-header.false, c.in_ok-len.ensures.len told, at) in
    let same : (g.H.Host.disk c.len.new.self).bytes ≡ d.bytes = ap (λ (x : Disk). x.bytes) (c.in_ok-len.ensures.disk told) in
    let log : c.deref.result.now ≡ slice (log_at h) h.log.len d.bytes = c.deref.ensures.value ∙ c.in_ok-log.ensures.ok told ∙ (λ i. slice (at i) h.log.len (same i)) in
    let none : read_writes (is_wide h) (slice (log_at h) h.log.len d.bytes) ≡ None = (λ i. read_writes (sym c.is_wide.ensures i) (sym log i)) ∙ rw c.in_default.is at c.in_ok-writes.ensures.read in
    open_is h d.bytes may.cell (may.gate ∙ c.requires.gate) inside None none

pub returns-clause-ok : goal.returns-clause-ok
returns-clause-ok g c told =
    let d = g.H.Host.disk c.args.host.now in
    let h = c.args.header.now in
    let may = c.requires.may told in
    let at : h.log.at * c.unit.result ≡ log_at h = ap (λ (u : ℕ). h.log.at * u) c.unit.ensures in
    let inside : log_at h + h.log.len ≤ length d.bytes = omega (arith, c.if-at-header.false, c.in_ok-len.ensures.len told, at) in
    let same : (g.H.Host.disk c.len.new.self).bytes ≡ d.bytes = ap (λ (x : Disk). x.bytes) (c.in_ok-len.ensures.disk told) in
    let log : c.deref.result.now ≡ slice (log_at h) h.log.len d.bytes = c.deref.ensures.value ∙ c.in_ok-log.ensures.ok told ∙ (λ i. slice (at i) h.log.len (same i)) in
    let ws = c.in_ok-of.field-0.writes.items in
    let is_log : read_writes (is_wide h) (slice (log_at h) h.log.len d.bytes) ≡ Some ws = (λ i. read_writes (sym c.is_wide.ensures i) (sym log i)) ∙ rw c.in-Some.is at c.in_ok-writes.ensures.read ∙ ap Some (sym c.in_ok-of.ensures) in
    let is_open : open_writes h d.bytes ≡ Some ws = open_is h d.bytes may.cell (may.gate ∙ c.requires.gate) inside (Some ws) is_log in
    let e = g.H.Host.disk c.read_bytes.new.host in
    let first = looks_more {T = ℕ} d d (Ok c.in_ok-len.len) (g.H.Host.disk c.len.new.self) (looks_first d) (c.in_ok-len.ensures.disk told) in
    let looks : Looks d e = looks_then d (g.H.Host.disk c.len.new.self) e first (c.read_bytes.ensures.looks told) in
    opened_again h ws d e may is_open looks c.requires.gate inside is_log

pub returns-clause-is_open : goal.returns-clause-is_open
returns-clause-is_open g c told =
    let d = g.H.Host.disk c.args.host.now in
    let h = c.args.header.now in
    let may = c.requires.may told in
    let at : h.log.at * c.unit.result ≡ log_at h = ap (λ (u : ℕ). h.log.at * u) c.unit.ensures in
    let inside : log_at h + h.log.len ≤ length d.bytes = omega (arith, c.if-at-header.false, c.in_ok-len.ensures.len told, at) in
    let same : (g.H.Host.disk c.len.new.self).bytes ≡ d.bytes = ap (λ (x : Disk). x.bytes) (c.in_ok-len.ensures.disk told) in
    let log : c.deref.result.now ≡ slice (log_at h) h.log.len d.bytes = c.deref.ensures.value ∙ c.in_ok-log.ensures.ok told ∙ (λ i. slice (at i) h.log.len (same i)) in
    let ws = c.in_ok-of.field-0.writes.items in
    let is_log : read_writes (is_wide h) (slice (log_at h) h.log.len d.bytes) ≡ Some ws = (λ i. read_writes (sym c.is_wide.ensures i) (sym log i)) ∙ rw c.in-Some.is at c.in_ok-writes.ensures.read ∙ ap Some (sym c.in_ok-of.ensures) in
    let is_open : open_writes h d.bytes ≡ Some ws = open_is h d.bytes may.cell (may.gate ∙ c.requires.gate) inside (Some ws) is_log in
    is_open
