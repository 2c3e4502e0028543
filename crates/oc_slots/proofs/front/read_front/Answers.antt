use Rattle.std.proofs.Common.{◌≡◌, ◌∙◌, ◌≤◌, length, sym, subst, rules}
use Rattle.std.specs.Prelude.{IsErrOf, All}
use Rattle.oc_layout.specs.Layout.{unit_of, room_of, blocks}
use Rattle.oc_host.proofs.Moments.{looks_then}
use Rattle.oc_slots.specs.declared.attach_fault.AttachFault.TheVariants as attach_fault
use Rattle.oc_slots.specs.Attaching.{ReadsLog, SuitsTarget}
use Rattle.oc_slots.proofs.Fronts.{one_header, one_log}
use Rattle.oc_slots.proofs.front.read_front.Goals as goal

pub returns-in_err-writes-clause-not_container : goal.returns-in_err-writes-clause-not_container
returns-in_err-writes-clause-not_container g c is told h ws front =
    let d = g.H.Host.disk c.args.host.now in
    let err : IsErrOf c.read_open_log.result attach_fault.NotAContainer = search rules in
    let header = one_header d.bytes h c.in_ok-header.header front.header (c.in_ok-header.ensures.begins told) in
    c.read_open_log.ensures.not_container err told ws (subst (λ b. ReadsLog c.in_ok-header.header b ws) (sym (c.read_start.ensures.looks told).bytes) (subst (λ x. ReadsLog x d.bytes ws) header front.log))

pub returns-then-not-suit-clause-not_container : goal.returns-then-not-suit-clause-not_container
returns-then-not-suit-clause-not_container g c is told h ws front =
    let d = g.H.Host.disk c.args.host.now in
    let header = one_header d.bytes h c.in_ok-header.header front.header (c.in_ok-header.ensures.begins told) in
    let log = subst (λ b. ReadsLog c.in_ok-header.header b c.in_ok-writes.writes.items) (c.read_start.ensures.looks told).bytes (c.in_ok-writes.ensures.ok told) in
    let writes : ws ≡ c.deref.result.now = one_log c.in_ok-header.header d.bytes ws c.in_ok-writes.writes.items (subst (λ x. ReadsLog x d.bytes ws) header front.log) log ∙ sym c.deref.ensures.value in
    let suit = subst (λ l. All (SuitsTarget c.in_ok-header.header c.args.len) l) writes (subst (λ n. All (SuitsTarget c.in_ok-header.header n) ws) (sym (c.requires told)) (subst (λ x. All (SuitsTarget x (length d.bytes)) ws) header front.suit)) in
    let bad = c.suit.ensures.no c.if-not-suit.true in
    bad.4 (subst (SuitsTarget c.in_ok-header.header c.args.len) bad.3 (suit bad.0 bad.1 bad.2))

pub returns-then-not-suit-clause-looks : goal.returns-then-not-suit-clause-looks
returns-then-not-suit-clause-looks g c told =
    looks_then (g.H.Host.disk c.args.host.now) (g.H.Host.disk c.read_start.new.host) (g.H.Host.disk c.read_open_log.new.host) (c.read_start.ensures.looks told) (c.read_open_log.ensures.looks told)

pub returns-clause-ok : goal.returns-clause-ok
returns-clause-ok g c told =
    let d = g.H.Host.disk c.args.host.now in
    record {
      header = c.in_ok-header.ensures.begins told;
      room = subst (λ n. blocks (unit_of c.in_ok-header.header) n ≤ room_of c.in_ok-header.header) (c.requires told) c.in_ok-header.ensures.room;
      log = subst (λ b. ReadsLog c.in_ok-header.header b c.in_ok-writes.writes.items) (c.read_start.ensures.looks told).bytes (c.in_ok-writes.ensures.ok told);
      suit = subst (λ l. All (SuitsTarget c.in_ok-header.header (length d.bytes)) l) c.deref.ensures.value (subst (λ n. All (SuitsTarget c.in_ok-header.header n) c.deref.result.now) (c.requires told) (c.suit.ensures.yes (search (rules, c.if-not-suit.false))));
    }

pub returns-clause-looks : goal.returns-clause-looks
returns-clause-looks g c told =
    looks_then (g.H.Host.disk c.args.host.now) (g.H.Host.disk c.read_start.new.host) (g.H.Host.disk c.read_open_log.new.host) (c.read_start.ensures.looks told) (c.read_open_log.ensures.looks told)
