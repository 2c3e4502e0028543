use Rattle.std.proofs.Common.{◌∙◌, sym, arith}
use Rattle.oc_chunks.proofs.Wide.{light}
use Rattle.oc_chunks.proofs.cutting.has_room.Goals as goal

pub returns-then-are_light : goal.returns-then-are_light
returns-then-are_light g c = c.if-are_light.true ∙ sym (light g.E.Entry.bytes c.args.widest g.E.Entry.MOST c.args.entry.now c.args.entries.now c.requires.wide (omega (arith, c.if-entries-MOST.false, c.MOST.ensures)) c.if-are_light.ensures)
