use Rattle.std.proofs.Common.{◌≡◌, ◌∙◌, ap, subst, refl}
use Rattle.oc_host.specs.Disk.{AfterWrite, wrote}
use Rattle.oc_layout.specs.declared.cells.Header.{Header}
use Rattle.oc_layout.specs.Headers.{header_bytes}
use Rattle.oc_slots.specs.Attaching.{made_header}
use Rattle.oc_slots.proofs.Made.{made_agrees, write_runs, sync_runs, made_bytes, made_gate}
use Rattle.oc_slots.proofs.making.make.Goals as goal

pub empty_store-requires-clause-closed : goal.empty_store-requires-clause-closed
empty_store-requires-clause-closed g c = ap (λ (x : Header). x.gate) c.header_of-header.ensures ∙ made_gate c.args.making.now

pub returns-clause-agrees : goal.returns-clause-agrees
returns-clause-agrees g c told =
    let d = g.H.Host.disk c.args.host.now in
    let e = g.H.Host.disk c.write_at.new.self in
    let f = g.H.Host.disk c.sync.new.self in
    let m = c.args.making.now in
    let bytes : c.write_header.result ≡ header_bytes (made_header m) = c.write_header.ensures ∙ ap header_bytes c.header_of-header.ensures in
    let is_e : e ≡ wrote 0 (header_bytes (made_header m)) d = c.in_ok-write_at.ensures.disk told ∙ ap (λ b. wrote 0 b d) bytes in
    let file = made_bytes d (c.requires.synced told) (c.requires.short told) (header_bytes (made_header m)) refl e f is_e (c.in_ok-sync.ensures.disk told) in
    let store = c.empty_store.ensures in
    made_agrees m c.requires.making c.empty_store.result f (store.header ∙ c.header_of-header.ensures) store.pages store.len store.objects store.system store.kept file.0 file.1 (g.met.H.Host.sound c.sync.new.self told)

pub returns-clause-any_moment : goal.returns-clause-any_moment
returns-clause-any_moment g c told =
    let d = g.H.Host.disk c.args.host.now in
    let e = g.H.Host.disk c.write_at.new.self in
    let f = g.H.Host.disk c.sync.new.self in
    let m = c.args.making.now in
    let bytes : c.write_header.result ≡ header_bytes (made_header m) = c.write_header.ensures ∙ ap header_bytes c.header_of-header.ensures in
    let is_e : e ≡ wrote 0 (header_bytes (made_header m)) d = c.in_ok-write_at.ensures.disk told ∙ ap (λ b. wrote 0 b d) bytes in
    sync_runs d (c.requires.synced told) (c.requires.short told) (header_bytes (made_header m)) refl c.sync.result e f is_e (c.sync.ensures.disk told)

pub returns-in_err-write_at-clause-any_moment : goal.returns-in_err-write_at-clause-any_moment
returns-in_err-write_at-clause-any_moment g c told =
    let d = g.H.Host.disk c.args.host.now in
    let e = g.H.Host.disk c.write_at.new.self in
    let m = c.args.making.now in
    let bytes : c.write_header.result ≡ header_bytes (made_header m) = c.write_header.ensures ∙ ap header_bytes c.header_of-header.ensures in
    write_runs d (c.requires.synced told) (c.requires.short told) (header_bytes (made_header m)) refl c.write_at.result e (subst (λ b. AfterWrite 0 b c.write_at.result d e) bytes (c.write_at.ensures.disk told))

pub returns-in_err-sync-clause-any_moment : goal.returns-in_err-sync-clause-any_moment
returns-in_err-sync-clause-any_moment g c told =
    let d = g.H.Host.disk c.args.host.now in
    let e = g.H.Host.disk c.write_at.new.self in
    let f = g.H.Host.disk c.sync.new.self in
    let m = c.args.making.now in
    let bytes : c.write_header.result ≡ header_bytes (made_header m) = c.write_header.ensures ∙ ap header_bytes c.header_of-header.ensures in
    let is_e : e ≡ wrote 0 (header_bytes (made_header m)) d = c.in_ok-write_at.ensures.disk told ∙ ap (λ b. wrote 0 b d) bytes in
    sync_runs d (c.requires.synced told) (c.requires.short told) (header_bytes (made_header m)) refl c.sync.result e f is_e (c.sync.ensures.disk told)
