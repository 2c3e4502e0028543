use Rattle.std.proofs.Common.{◌∙◌}
use Rattle.oc_chunks.proofs.Swapping.{cut_over_is}
use Rattle.oc_chunks.proofs.putting.cut_over.Goals as goal

pub returns : goal.returns
returns g c = cut_over_is g.E.Entry.bytes g.E.Entry.MOST c.args.at c.args.entry c.args.part.now c.in_ok-items.items.items c.new-made.result.items c.cut.new.out.items c.requires.some c.requires.there c.requires.within (c.in_ok-items.ensures ∙ c.entries.ensures) c.new-made.ensures.items c.in_ok-cut.ensures
