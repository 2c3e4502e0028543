use Rattle.std.proofs.Common.{◌≡◌, ◌<◌, ◌∙◌, sym, arith}
use Rattle.oc_layout.specs.declared.cells.Space.TheVariants.{System}
use Rattle.oc_segments.specs.Segments.{SpellsSegment}
use Rattle.oc_store.specs.declared.fault.ReadFault.TheVariants as read_fault
use Rattle.oc_store.proofs.Outlined.{same_damage}
use Rattle.oc_store.proofs.SmallNumbers.{no_segment}
use Rattle.oc_store.proofs.segments.read_entries.Goals as goal

pub returns-then-number-gt-LAST_NUMBER-clause-damaged : goal.returns-then-number-gt-LAST_NUMBER-clause-damaged
returns-then-number-gt-LAST_NUMBER-clause-damaged g c space n is =
    let same : c.damaged.result ≡ read_fault.Damaged space n = cc in
    let both = same_damage System space c.args.number n (sym c.damaged.ensures ∙ same) in
    let high : 2147483646 < c.args.number = omega arith in (
      sym both.0,
      sym both.1,
      λ told entries. no_segment c.args.slots.now (g.H.Host.disk c.args.host.now) (c.requires.agrees told) c.args.number high (SpellsSegment g.E.Entry.order (g.E.Item.stands c.args.base) (g.E.Item.spell c.args.base) entries),
    )
