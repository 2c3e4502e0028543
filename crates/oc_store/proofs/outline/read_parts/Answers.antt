use Rattle.std.proofs.Common.{◌≡◌, ◌⊎◌, ◌∙◌, Some, ap, sym, subst, arith, rules}
use Rattle.std.specs.Prelude.{IsSomeAnd}
use Rattle.oc_host.proofs.Moments.{looks_then}
use Rattle.oc_catalog.specs.Catalogs.{IsNext, SpellsCatalog}
use Rattle.oc_slots.specs.Held.{map_of}
use Rattle.oc_slots.specs.declared.slot.Side.TheVariants.{Committed}
use Rattle.oc_slots.specs.Stores.{length_on}
use Rattle.oc_store.specs.Listed.{is_there}
use Rattle.oc_store.specs.Lists.{system_slot}
use Rattle.oc_store.specs.Outlines.{HasDamagedSegment, HasNoCatalog}
use Rattle.oc_store.proofs.Gathered.{bare_lists, bare_numbered, bare_small, bare_written, first_is_next}
use Rattle.oc_store.proofs.outline.read_parts.Goals as goal

pub returns-in-Some-clause-damaged : goal.returns-in-Some-clause-damaged
returns-in-Some-clause-damaged g c space n is =
    let s = c.args.slots.now in
    let r = c.read_catalogued.ensures.damaged space n is in (
      r.0,
      λ told.
          subst (λ b. ((n ≡ 1) × HasNoCatalog (map_of s.header s.pages b)) ⊎ HasDamagedSegment (map_of s.header s.pages b) n) (c.in_ok-found.ensures.looks told).bytes (r.1 told),
    )

pub returns-in-Some-clause-looks : goal.returns-in-Some-clause-looks
returns-in-Some-clause-looks g c told = looks_then _ _ _ (c.in_ok-found.ensures.looks told) (c.read_catalogued.ensures.looks told)

pub returns-in-Some-clause-taken_alone : goal.returns-in-Some-clause-taken_alone
returns-in-Some-clause-taken_alone g c told none =
    let s = c.args.slots.now in
    let bytes : map_of s.header s.pages (g.H.Host.disk c.args.host.now).bytes (system_slot 1) ≡ Some c.in-Some.bytes.items = search rules in
    let there : map_of s.header s.pages (g.H.Host.disk c.args.host.now).bytes (system_slot 1) ≡ Some c.deref.result.now = bytes ∙ ap Some (sym c.deref.ensures.value) in
    let nothing = c.read_catalogued.ensures.taken_alone (λ d spelled. none d (subst (λ o. IsSomeAnd o (SpellsCatalog d)) (sym there) spelled)) in
    let one : length_on Committed s c.system_slot.result ≡ length_on Committed s (system_slot 1) = ap (length_on Committed s) c.system_slot.ensures in
    omega (arith, nothing, one, c.in_ok-found.ensures.taken)

pub returns-in-None-clause-next : goal.returns-in-None-clause-next
returns-in-None-clause-next g c = subst IsNext (sym c.bare.ensures.next) (first_is_next c.header.result c.header.ensures.in_range)

pub returns-in-None-clause-lists : goal.returns-in-None-clause-lists
returns-in-None-clause-lists g c = bare_lists c.bare.result.indexes c.bare.ensures.extents.0 c.bare.ensures.fields.0 c.bare.result.schema c.bare.ensures.schema

pub returns-in-None-clause-numbered : goal.returns-in-None-clause-numbered
returns-in-None-clause-numbered g c = bare_numbered c.bare.result.indexes c.bare.ensures.extents.0 c.bare.ensures.fields.0 (is_there c.args.slots.now)

pub returns-in-None-clause-small : goal.returns-in-None-clause-small
returns-in-None-clause-small g c = bare_small c.bare.result.indexes c.bare.ensures.extents.0 c.bare.ensures.fields.0

pub returns-in-None-clause-written : goal.returns-in-None-clause-written
returns-in-None-clause-written g c = bare_written c.bare.result.indexes c.bare.ensures.extents.0 c.bare.ensures.fields.0
