use Rattle.std.proofs.Common.{◌∙◌, ap, sym, subst, None, Some, rules}
use Rattle.oc_slots.specs.declared.slot.Side.TheVariants.{Session}
use Rattle.oc_slots.specs.Stores.{session}
use Rattle.oc_store.specs.Filed.{class_on, IsRead}
use Rattle.oc_store.specs.Stands.{object_slot}
use Rattle.oc_container.proofs.Found.{line_is}
use Rattle.oc_container.proofs.querying.object_line.Goals as goal

pub returns-in_default-clause-line : goal.returns-in_default-clause-line
returns-in_default-clause-line g c = λ told t s shows.
    line_is c.args.store.now (g.H.Host.disk c.args.host.now) t s shows c.args.number None (sym c.in_default.is ∙ c.in_ok-rec.ensures.record told t s shows)

pub returns-clause-line : goal.returns-clause-line
returns-clause-line g c = λ told t s shows.
    ap Some c.in_ok-line.ensures
    ∙ line_is c.fetch.new.self (g.H.Host.disk c.fetch.new.host) t s (c.fetch.ensures.shows told t s shows) c.args.number (Some c.in-Some.rec) (sym c.in-Some.is ∙ c.in_ok-rec.ensures.record told t s shows)

pub returns-in_err-rec-clause-damaged : goal.returns-in_err-rec-clause-damaged
returns-in_err-rec-clause-damaged g c = λ space n is.
    let v = c.args.store.now in
    let d = c.fetch.ensures.damaged space n (search rules) in
    (d.0, d.1, λ told found read. d.2 told found (subst (λ k. IsRead (v.session).schema (class_on Session v k) (session v.slots (g.H.Host.disk c.args.host.now) (object_slot k)) found) d.1 read))
