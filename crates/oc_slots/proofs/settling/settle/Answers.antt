use Rattle.std.proofs.Common.{◌≡◌, ◌∙◌, [], ◌∷◌, List, Some, None, length, sym, ap, subst, rules}
use Rattle.std.specs.Prelude.{IsErrOf}
use Rattle.oc_host.specs.Disk.{over}
use Rattle.oc_host.proofs.Moments.{weaken}
use Rattle.oc_layout.specs.declared.cells.CellWrite.{CellWrite}
use Rattle.oc_log.specs.Log.{put_cells}
use Rattle.oc_log.specs.Stops.{Recovers}
use Rattle.oc_log.specs.declared.fault.LogFault.TheVariants as log_fault
use Rattle.oc_slots.specs.Attaching.{StillGives}
use Rattle.oc_slots.specs.Forms.{HasForm}
use Rattle.oc_slots.specs.Held.{map_of}
use Rattle.oc_slots.proofs.Recovering.{closed_form, closed_gate, may_recover, open_log, opened_form, opened_gate, opened_map, still_gives, rest_agrees, rest_map, settled_is, size_after}
use Rattle.oc_slots.proofs.Attached.{found_shut, found_open}
use Rattle.oc_slots.proofs.settling.settle.Goals as goal

pub returns-then-judged-ne-OPEN-clause-agrees : goal.returns-then-judged-ne-OPEN-clause-agrees
returns-then-judged-ne-OPEN-clause-agrees g c told =
    let d = g.H.Host.disk c.args.host.now in
    let h = c.args.judged.header in
    let s = c.args.judged.store in
    let is = c.requires.judged told in
    rest_agrees s d (closed_form h is.0 s d.bytes is.1 c.if-judged-ne-OPEN.true) (closed_gate h is.0 s d.bytes is.1 c.if-judged-ne-OPEN.true) is.1.len is.1.objects is.1.system c.requires.kept (c.requires.synced told) (g.met.H.Host.sound c.args.host.now told)

pub returns-then-judged-ne-OPEN-clause-gives : goal.returns-then-judged-ne-OPEN-clause-gives
returns-then-judged-ne-OPEN-clause-gives g c told =
    let d = g.H.Host.disk c.args.host.now in
    let h = c.args.judged.header in
    let s = c.args.judged.store in
    let is = c.requires.judged told in
    rest_map s d.bytes (closed_form h is.0 s d.bytes is.1 c.if-judged-ne-OPEN.true)

pub returns-then-judged-ne-OPEN-clause-form : goal.returns-then-judged-ne-OPEN-clause-form
returns-then-judged-ne-OPEN-clause-form g c told h ws pages form =
    let d = g.H.Host.disk c.args.host.now in
    let is = c.requires.judged told in
    found_shut c.args.judged.header h is.0 ws pages c.args.judged.store d.bytes is.1 form c.if-judged-ne-OPEN.true

pub recover-requires : goal.recover-requires
recover-requires g c told =
    let d = g.H.Host.disk c.args.host.now in
    let is = c.requires.judged told in
    may_recover c.args.judged.header is.0 c.args.judged.store d.bytes is.1 c.if-judged-ne-OPEN.false d (λ i. d.bytes) (c.requires.synced told)

pub returns-in-Ok-clause-agrees : goal.returns-in-Ok-clause-agrees
returns-in-Ok-clause-agrees g c told =
    let d = g.H.Host.disk c.args.host.now in
    let e = g.H.Host.disk c.recover.new.host in
    let h = c.args.judged.header in
    let s = c.args.judged.store in
    let is = c.requires.judged told in
    let gate = c.if-judged-ne-OPEN.false in
    let bytes : e.bytes ≡ over 64 (0 ∷ []) (put_cells is.0 d.bytes) = c.in-Ok.ensures.bytes (c.in-Ok.ensures.was_open gate) told ∙ ap (over 64 (0 ∷ [])) (settled_is h is.0 s d.bytes is.1 gate) in
    rest_agrees s e (subst (HasForm s.header [] s.pages) (sym bytes) (opened_form h is.0 s d.bytes is.1 gate)) (opened_gate h is.0 s d.bytes is.1 gate)
    (is.1.len ∙ sym (ap length bytes ∙ size_after h is.0 s d.bytes is.1 gate)) is.1.objects is.1.system c.requires.kept (c.in-Ok.ensures.synced told) (g.met.H.Host.sound c.recover.new.host told)

pub returns-in-Ok-clause-gives : goal.returns-in-Ok-clause-gives
returns-in-Ok-clause-gives g c told m gives id =
    let d = g.H.Host.disk c.args.host.now in
    let e = g.H.Host.disk c.recover.new.host in
    let h = c.args.judged.header in
    let s = c.args.judged.store in
    let is = c.requires.judged told in
    let gate = c.if-judged-ne-OPEN.false in
    let bytes : e.bytes ≡ over 64 (0 ∷ []) (put_cells is.0 d.bytes) = c.in-Ok.ensures.bytes (c.in-Ok.ensures.was_open gate) told ∙ ap (over 64 (0 ∷ [])) (settled_is h is.0 s d.bytes is.1 gate) in
    ap (λ b. map_of s.header s.pages b id) bytes ∙ opened_map h is.0 s d.bytes is.1 gate m gives id

pub returns-in-Ok-clause-form : goal.returns-in-Ok-clause-form
returns-in-Ok-clause-form g c told h ws pages form =
    let d = g.H.Host.disk c.args.host.now in
    let e = g.H.Host.disk c.recover.new.host in
    let is = c.requires.judged told in
    let gate = c.if-judged-ne-OPEN.false in
    let bytes : e.bytes ≡ over 64 (0 ∷ []) (put_cells is.0 d.bytes) = c.in-Ok.ensures.bytes (c.in-Ok.ensures.was_open gate) told ∙ ap (over 64 (0 ∷ [])) (settled_is c.args.judged.header is.0 c.args.judged.store d.bytes is.1 gate) in
    found_open c.args.judged.header h is.0 ws pages c.args.judged.store d.bytes is.1 form gate e.bytes bytes

pub returns-in-Ok-clause-any_moment : goal.returns-in-Ok-clause-any_moment
returns-in-Ok-clause-any_moment g c told =
    let d = g.H.Host.disk c.args.host.now in
    let h = c.args.judged.header in
    let is = c.requires.judged told in
    weaken d (g.H.Host.disk c.recover.new.host) (StillGives d) (Recovers h d) (c.recover.ensures.any_moment told)
    (λ image said r. still_gives h is.0 c.args.judged.store d.bytes is.1 c.if-judged-ne-OPEN.false d image said (λ i. d.bytes) r)

pub returns-in-Err-Host-clause-any_moment : goal.returns-in-Err-Host-clause-any_moment
returns-in-Err-Host-clause-any_moment g c told =
    let d = g.H.Host.disk c.args.host.now in
    let h = c.args.judged.header in
    let is = c.requires.judged told in
    weaken d (g.H.Host.disk c.recover.new.host) (StillGives d) (Recovers h d) (c.recover.ensures.any_moment told)
    (λ image said r. still_gives h is.0 c.args.judged.store d.bytes is.1 c.if-judged-ne-OPEN.false d image said (λ i. d.bytes) r)

pub returns-in-Err-Memory-clause-any_moment : goal.returns-in-Err-Memory-clause-any_moment
returns-in-Err-Memory-clause-any_moment g c told =
    let d = g.H.Host.disk c.args.host.now in
    let h = c.args.judged.header in
    let is = c.requires.judged told in
    weaken d (g.H.Host.disk c.recover.new.host) (StillGives d) (Recovers h d) (c.recover.ensures.any_moment told)
    (λ image said r. still_gives h is.0 c.args.judged.store d.bytes is.1 c.if-judged-ne-OPEN.false d image said (λ i. d.bytes) r)

pub returns-clause-any_moment : goal.returns-clause-any_moment
returns-clause-any_moment g c told =
    let d = g.H.Host.disk c.args.host.now in
    let h = c.args.judged.header in
    let is = c.requires.judged told in
    weaken d (g.H.Host.disk c.recover.new.host) (StillGives d) (Recovers h d) (c.recover.ensures.any_moment told)
    (λ image said r. still_gives h is.0 c.args.judged.store d.bytes is.1 c.if-judged-ne-OPEN.false d image said (λ i. d.bytes) r)

pub returns-clause-not_container : goal.returns-clause-not_container
returns-clause-not_container g c err told =
    let d = g.H.Host.disk c.args.host.now in
    let h = c.args.judged.header in
    let is = c.requires.judged told in
    let no : IsErrOf c.recover.result log_fault.NotALog = search rules in
    clash is.0 (sym (open_log h is.0 c.args.judged.store d.bytes is.1 c.if-judged-ne-OPEN.false) ∙ c.recover.ensures.no_log no told)
  where
    clash : (ws : List CellWrite) → Some ws ≡ None → ⊥
    clash ws e = cc
